-- What a write to one row does to the book that the rows mean. Assumes nothing.
use Rattle.std.proofs.Common.{◌≡◌, ℕ, ◌+◌, ◌-◌, Bool, true, List, length, set, ℤ, ◌+ℤ◌, is_some, Some, None, Option, sym, refl, ap, ◌∙◌, arith}
use Rattle.std.proofs.Math.Path.{fun_ext}
use Rattle.std.proofs.lemmas.Grind.{common_steps}
use Rattle.ledger.specs.declared.balance.Balance.{Balance}
use Rattle.ledger.specs.declared.posting.Posting.{Posting}
use Rattle.ledger.specs.Book.{Book, at, amount, known, with_line}
use Rattle.ledger.specs.Rows.{count_of, sum_of, row, meant, place, grown}
use Rattle.ledger.proofs.Changed.{at_same}

abbrev Rows : Type 0
Rows = List (Option Balance)

-- a number with no place among the rows
pub unplaced_row : (rows : Rows) (n N : ℕ) → length rows ≡ N → place n N ≡ None → None ≡ row rows n
unplaced_row rows n N l e = grind (arith, common_steps)

-- an enrolled number is known
pub enrolled_known : (rows : Rows) (N free n : ℕ) → length rows ≡ N → is_some (row rows n) ≡ known N (meant rows free) n
enrolled_known rows N free n l = grind (arith, common_steps)

part_set : {B : Type 0} (f : Option Balance → B) (rows : Rows) (n i : ℕ) (y : Option Balance) → place n (length rows) ≡ Some i → (λ k. f (row (set rows i y) k)) ≡ at (λ k. f (row rows k)) n (f y)
part_set f rows n i y h = fun_ext (λ k. grind (arith, common_steps))

pub same_book : {e e' : ℕ → Bool} {c c' : ℕ → ℕ} {s s' : ℕ → ℤ} {f f' : ℕ} → e ≡ e' → c ≡ c' → s ≡ s' → f ≡ f' → ◌≡◌ {A = Book} (record { enrolled = e; count = c; sum = s; free = f }) (record { enrolled = e'; count = c'; sum = s'; free = f' })
same_book p q r t = λ i. record { enrolled = p i; count = q i; sum = r i; free = t i }

-- the book after a write to the row of n
pub meant_set : (rows : Rows) (n i : ℕ) (y : Option Balance) (free : ℕ) → place n (length rows) ≡ Some i → meant (set rows i y) free ≡ record { enrolled = at (meant rows free).enrolled n (is_some y); count = at (meant rows free).count n (count_of y); sum = at (meant rows free).sum n (sum_of y); free = free }
meant_set rows n i y free h = same_book (part_set is_some rows n i y h) (part_set count_of rows n i y h) (part_set sum_of rows n i y h) refl

-- the book after a posting
pub line_set : (rows : Rows) (p : Posting) (i : ℕ) (old new : Balance) (free : ℕ) → Some old ≡ row rows p.number → new ≡ grown old (amount p) → place p.number (length rows) ≡ Some i → meant (set rows i (Some new)) (free - 1) ≡ with_line (meant rows free) p
line_set rows p i old new free e g h =
    meant_set rows p.number i (Some new) (free - 1) h
    ∙ same_book
    (at_same (λ k. is_some (row rows k)) p.number true (sym (ap is_some e)))
    (ap (λ (x : Balance). at (λ k. count_of (row rows k)) p.number x.count) g ∙ ap (λ r. at (λ k. count_of (row rows k)) p.number (count_of r + 1)) e)
    (ap (λ (x : Balance). at (λ k. sum_of (row rows k)) p.number x.sum.fen) g ∙ ap (λ r. at (λ k. sum_of (row rows k)) p.number (sum_of r +ℤ amount p)) e)
    refl
