use Rattle.std.proofs.Common.{◌≡◌, ℕ, ◌+◌, ℤ, sym, ap, ◌∙◌, arith}
use Rattle.std.proofs.lemmas.Grind.{common_steps}
use Rattle.ledger.specs.Held.{book_of}
use Rattle.ledger.specs.Book.{Book, with_number}
use Rattle.chained.specs.Lines.{chained_book}
use Rattle.chained.proofs.Keeping.{enrol_same}
use Rattle.chained.proofs.lines.ChainedLedgerLedger.enrol.Goals as goal

pub invariant_of-self : goal.invariant_of-self
invariant_of-self c =
    let l = c.args.self.now in
    let n = c.args.number in
    let b = book_of c.enrol.new.self in
    let book : book_of c.enrol.new.self ≡ with_number (chained_book l) n = grind (arith, common_steps) in
    let same = enrol_same l n b (sym c.in_ok-check_enrol.ensures) book in
    record {
      room = ap (λ (x : Book). l.links.used + x.free) book ∙ l.room;
      headed = l.headed;
      nexts = l.nexts;
      counted = λ m. ap (λ (f : ℕ → ℕ). f m) same.0 ∙ l.counted m;
      summed = λ m. ap (λ (f : ℕ → ℤ). f m) same.1 ∙ l.summed m;
    }
