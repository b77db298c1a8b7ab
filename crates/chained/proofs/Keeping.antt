-- What an enrolment in a chained ledger keeps. Assumes nothing.
use Rattle.std.proofs.Common.{◌≡◌, ℕ, ◌≤◌, ℤ, pos, nat_abs, Ok, ap, ◌∙◌, arith}
use Rattle.std.proofs.lemmas.Int.{ints}
use Rattle.ledger.specs.Book.{Book, enrol_answer, with_number}
use Rattle.ledger.specs.Lawful.{lawful_book}
use Rattle.ledger.proofs.Changed.{at_same}
use Rattle.ledger.proofs.Granting.{starts}
use Rattle.chained.specs.declared.chained.ChainedLedger.{ChainedLedger}
use Rattle.chained.specs.Lines.{chained_book}

zero_sum : (s : ℤ) → nat_abs s ≤ 0 → s ≡ pos 0
zero_sum s h = omega (arith, ints)

-- a number that is enrolled anew has no lines, so counts and sums stay
pub enrol_same : (l : ChainedLedger) (n : ℕ) (b : Book) → enrol_answer 200 (chained_book l) n ≡ Ok tt → b ≡ with_number (chained_book l) n → (b.count ≡ (chained_book l).count) × (b.sum ≡ (chained_book l).sum)
enrol_same l n b asked e =
    let old = chained_book l in
    let law = lawful_book l.balances in
    let none = law.vacant n (starts 200 old n asked).2 in
    let bound = law.sums n in
    let nil : nat_abs ((chained_book l).sum n) ≤ 0 = omega arith in
    (ap (λ (x : Book). x.count) e ∙ at_same old.count n 0 none, ap (λ (x : Book). x.sum) e ∙ at_same old.sum n (pos 0) (zero_sum (old.sum n) nil))
