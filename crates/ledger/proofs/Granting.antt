-- What an answer of a ledger says of what it was asked. Assumes nothing.
use Rattle.std.proofs.Common.{◌≡◌, ℕ, ◌<◌, ◌≤◌, true, false, Ok, unsigned_abs, ap, ◌∙◌, arith}
use Rattle.std.proofs.lemmas.Bool.Decides.{nat_tests}
use Rattle.ledger.specs.declared.posting.Posting.{Posting}
use Rattle.ledger.specs.Book.{Book, amount, amount_limit, answer_about, enrol_answer, post_answer, with_line}
use Rattle.ledger.specs.Postings.{both_answer}

-- what a granted posting says
pub record Granted (top : ℕ) (b : Book) (p : Posting) : Type 0 where
  pub low : 0 < p.number
  pub high : p.number ≤ top
  pub there : b.enrolled p.number ≡ true
  pub small : unsigned_abs (amount p) ≤ amount_limit
  pub some : 0 < b.free

pub granted : (top : ℕ) (b : Book) (p : Posting) → post_answer top b p ≡ Ok tt → Granted top b p
granted top b p h = record { low = grind (arith, nat_tests); high = grind (arith, nat_tests); there = grind arith; small = grind (arith, nat_tests); some = grind (arith, nat_tests) }

-- a number that can be enrolled
pub starts : (top : ℕ) (b : Book) (n : ℕ) → enrol_answer top b n ≡ Ok tt → (0 < n) × (n ≤ top) × (b.enrolled n ≡ false)
starts top b n h = (grind (arith, nat_tests), grind (arith, nat_tests), grind (arith, nat_tests))

-- where two lines can be posted, the first can
pub first_granted : (top : ℕ) (b : Book) (p q : Posting) → Ok tt ≡ both_answer top b p q → post_answer top b p ≡ Ok tt
first_granted top b p q h = grind (arith, nat_tests)

-- where two lines can be posted and the first is, so can the second
pub second_granted : (top : ℕ) (b m : Book) (p q : Posting) → Ok tt ≡ both_answer top b p q → m ≡ with_line b p → post_answer top m q ≡ Ok tt
second_granted top b m p q h e = ap (λ (x : Book). post_answer top x q) e ∙ grind (arith, nat_tests)

-- where one question about a number is answered, so is any other
pub answered_too : {A B : Type 0} (top : ℕ) (b : Book) (n : ℕ) (x y : A) (f : B) → Ok x ≡ answer_about top b n y → Ok f ≡ answer_about top b n f
answered_too top b n x y f h = grind arith
