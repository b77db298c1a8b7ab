-- What a posting did to a chained ledger's records tells its book. A proof, which stands here since a ghost member cites it.
use Rattle.std.specs.Prelude.{◌≡◌, ℕ, ◌<◌, List, length}
use Rattle.std.proofs.Common.{arith, ap, ap₂, ◌∙◌}
use Rattle.std.proofs.Math.Path.{fun_ext}
use Rattle.std.proofs.lemmas.List.{length-set}
use Rattle.ledger.specs.declared.posting.Entry.{Entry}
use Rattle.ledger.specs.declared.posting.Posting.{Posting}
use Rattle.ledger.specs.Book.{with_line}
use Rattle.ledger.proofs.Rowed.{same_book}
use Rattle.chained.specs.declared.cell.Cell.{Cell}
use Rattle.chained.specs.declared.chained.ChainedLedger.{ChainedLedger}
use Rattle.chained.specs.Chain.{number_at, amount_at, places, total}
use Rattle.chained.specs.Lines.{fen_of, chained_book, line_in, Wrote}
use Rattle.chained.specs.Stepping.{counts_step, sums_step}

pub wrote_tells : (l : ChainedLedger) (p : Posting) (m : ChainedLedger) → Wrote l p m → chained_book m ≡ with_line (chained_book l) p
wrote_tells l p m w =
    let t = l.table.now in
    let used = l.links.used in
    let b = chained_book l in
    let line : Cell Entry = line_in t used p in
    let space : l.links.used < length l.table.now = let s = w.space in omega arith in
    let long : length m.table.now ≡ length l.table.now = ap length w.cell ∙ length-set t used line in
    let more = w.more in
    let before = l.room in
    let after = m.room in
    same_book w.numbers
    (fun_ext (λ k. m.counted k ∙ ap₂ (λ (v : List (Cell Entry)) (u : ℕ). length (places (number_at v) k u)) w.cell more ∙ counts_step t used line space b.count l.counted k))
    (fun_ext (λ k. m.summed k ∙ ap₂ (λ (v : List (Cell Entry)) (u : ℕ). total (amount_at fen_of v) (places (number_at v) k u)) w.cell more ∙ sums_step t used line space fen_of b.sum l.summed k))
    (omega arith)
