-- Steps done to a ledger one after the other. Assumes nothing.
use Rattle.std.proofs.Common.{◌≡◌, ℕ, List, [], ◌∷◌, Ok, Err, refl, ap, ◌∙◌}
use Rattle.ledger.specs.declared.posting.Posting.{Posting}
use Rattle.ledger.specs.Book.{Answer, Book, did, with_number, with_line}
use Rattle.ledger.specs.Lawful.{impossible}
use Rattle.ledger.specs.Postings.{Step, enrols, posts, steps_of, Recorded, book_after}

-- the records tell the book
pub recorded_book : {L : Type 0} (wrote : L → Posting → L → Type 0) (kept : L → ℕ → L → Type 0) (book : L → Book) → ((l : L) (p : Posting) (m : L) → wrote l p m → book m ≡ with_line (book l) p) → ((l : L) (n : ℕ) (m : L) → kept l n m → book m ≡ with_number (book l) n) → (l m : L) (steps : List Step) → Recorded wrote kept l steps m → book m ≡ book_after (book l) steps
recorded_book wrote kept book tells keeps l m [] a = ap book a
recorded_book wrote kept book tells keeps l m (enrols n ∷ steps) a =
    recorded_book wrote kept book tells keeps a.0 m steps a.2 ∙ ap (λ (b : Book). book_after b steps) (keeps l n a.0 a.1)
recorded_book wrote kept book tells keeps l m (posts p ∷ steps) a =
    recorded_book wrote kept book tells keeps a.0 m steps a.2 ∙ ap (λ (b : Book). book_after b steps) (tells l p a.0 a.1)

-- two granted postings, one after the other
pub wrote_both : {L : Type 0} (wrote : L → Posting → L → Type 0) (kept : L → ℕ → L → Type 0) (l m n : L) (p q : Posting) (r : Answer) → r ≡ Ok tt → wrote l p m → did r (wrote m q n) (n ≡ m) → Recorded wrote kept l (steps_of r (posts p ∷ posts q ∷ [])) n
wrote_both wrote kept l m n p q (Ok _) e a b = (m, a, (n, b, refl))
wrote_both wrote kept l m n p q (Err f) e a b = impossible (cc)
