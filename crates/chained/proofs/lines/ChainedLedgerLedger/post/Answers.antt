use Rattle.std.proofs.Common.{◌≡◌, ◌-◌, ◌<◌, length, set, sym, ap, ◌∙◌, arith}
use Rattle.std.proofs.lemmas.Grind.{common_steps}
use Rattle.std.proofs.lemmas.List.{length-set}
use Rattle.ledger.specs.declared.posting.Entry.{Entry}
use Rattle.ledger.specs.Book.{Book, with_line}
use Rattle.ledger.specs.Held.{book_of}
use Rattle.ledger.proofs.Granting.{granted}
use Rattle.chained.specs.declared.cell.Cell.{Cell}
use Rattle.chained.specs.Lines.{fen_of, chained_book, line_in}
use Rattle.chained.specs.Linked.{Linked}
use Rattle.chained.specs.Stepping.{counts_step, sums_step}
use Rattle.chained.proofs.Whole.{heads_more, nexts_more}
use Rattle.chained.proofs.lines.ChainedLedgerLedger.post.Goals as goal

pub invariant_of-self : goal.invariant_of-self
invariant_of-self c =
    let l = c.args.self.now in
    let p = c.args.posting in
    let t = l.table.now in
    let k = l.links in
    let old = chained_book l in
    let line : Cell Entry = line_in t k.used p in
    let head = l.headed p.number in
    let cell : set t c.unwrap-place.result.0 c.unwrap-place.result.1 ≡ set t k.used line = grind (arith, common_steps) in
    let moved : Linked p.number k c.link.new.self = grind (arith, common_steps) in
    let book : book_of c.post.new.self ≡ with_line old p = grind (arith, common_steps) in
    let may = granted 200 old p (sym c.in_ok-check_post.ensures) in
    let low = may.low in
    let high = may.high in
    let some : 0 < l.balances.free = may.some in
    let sized = k.sized in
    let before = l.room in
    let fits : l.links.used < length l.table.now = omega arith in
    let free : (book_of c.post.new.self).free ≡ l.balances.free - 1 = ap (λ (x : Book). x.free) book in
    let long : length (set t k.used line) ≡ length l.table.now = length-set t k.used line in
    rw (cell, moved.headed, moved.more) (record {
      room = omega arith;
      headed = heads_more t k.used line fits k.heads low (omega arith) l.headed;
      nexts = nexts_more t k.used line fits k.heads (sym head) l.headed l.nexts;
      counted = λ m. ap (λ (x : Book). x.count m) book ∙ sym (counts_step t k.used line fits old.count l.counted m);
      summed = λ m. ap (λ (x : Book). x.sum m) book ∙ sym (sums_step t k.used line fits fen_of old.sum l.summed m);
    })
