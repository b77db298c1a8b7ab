-- Numbers enrolled and lines posted one after the other, in any ledger.
use Rattle.std.specs.Prelude.{◌≡◌, ℕ, not, ◌&&◌, List, [], ◌∷◌, Ok, Err, nat_lt}
use Rattle.fault.specs.Refusals.{first}
use Rattle.ledger.specs.declared.refusal.LedgerFault.TheVariants.{Number, Amount, Full}
use Rattle.ledger.specs.declared.posting.Posting.{Posting}
use Rattle.ledger.specs.Book.{Book, Answer, known, payable, with_number, with_line}

-- what can be done to a ledger: a number is enrolled, or a line is posted
pub data Step : Type 0 where
  enrols : ℕ → Step
  posts : Posting → Step

-- these steps were done to a ledger, one after the other, and nothing else; wrote says of a posting, and kept of an
-- enrolment, what it did to the ledger's records
abbrev pub Recorded : {L : Type 0} → (L → Posting → L → Type 0) → (L → ℕ → L → Type 0) → L → List Step → L → Type 0
Recorded wrote kept before [] after = after ≡ before
Recorded {L = L} wrote kept before (enrols n ∷ steps) after = (between : L) × kept before n between × Recorded wrote kept between steps after
Recorded {L = L} wrote kept before (posts p ∷ steps) after = (between : L) × wrote before p between × Recorded wrote kept between steps after

-- the book after some steps
abbrev pub book_after : Book → List Step → Book
book_after b [] = b
book_after b (enrols n ∷ steps) = book_after (with_number b n) steps
book_after b (posts p ∷ steps) = book_after (with_line b p) steps

-- the steps of a call: those that it is to do where it is granted, and none where it is refused
abbrev pub steps_of : Answer → List Step → List Step
steps_of (Ok _) steps = steps
steps_of (Err _) steps = []

-- what posting two lines or none answers: both are asked for before either is written
abbrev pub both_answer : ℕ → Book → Posting → Posting → Answer
both_answer top b p q =
    first ((not (known top b p.number && known top b q.number), Number) ∷ (not (payable p && payable q), Amount) ∷ (nat_lt b.free 2, Full) ∷ [])
