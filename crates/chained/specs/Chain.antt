-- Chains of records of any kind through a table of cells. The record at place j, counted from 0, has the index j + 1;
-- index 0 ends a chain.
use Rattle.std.specs.Prelude.{◌≡◌, ℕ, zero, suc, ◌<◌, cond, List, [], ◌∷◌, map, length, ℤ, pos, ◌+ℤ◌, ◌==◌, slice_index, slice_index_or}
use Rattle.std.specs.List.{AllByRecursion}
use Rattle.ledger.specs.Book.{indexed}
use Rattle.chained.specs.declared.cell.Cell.{Cell}

-- what a table has at a place, read field by field
abbrev pub number_at : {R : Type 0} → List (Cell R) → ℕ → ℕ
number_at t j = slice_index (map (λ c. c.number) t) j

abbrev pub next_at : {R : Type 0} → List (Cell R) → ℕ → ℕ
next_at t j = slice_index (map (λ c. c.next) t) j

abbrev pub amount_at : {R : Type 0} → (R → ℤ) → List (Cell R) → ℕ → ℤ
amount_at amount t j = slice_index_or (map (λ c. amount c.item) t) j (pos 0)

-- the places of n's records among the first b, newest first; number tells whose record stands at a place
unfoldable pub places : (ℕ → ℕ) → ℕ → ℕ → List ℕ
places number n zero = []
places number n (suc b) = cond (number b == n) (b ∷ places number n b) (places number n b)

-- the index of the newest of some places; 0 where there is none
abbrev pub newest : List ℕ → ℕ
newest [] = 0
newest (j ∷ js) = suc j

-- what the records at some places come to
abbrev pub total : (ℕ → ℤ) → List ℕ → ℤ
total amount [] = pos 0
total amount (j ∷ js) = total amount js +ℤ amount j

-- walked by next from an index until index 0, a chain has the records at exactly these places, in this order
pub data Walk (next : ℕ → ℕ) : ℕ → List ℕ → Type 0 where
  ended : Walk next 0 []
  met : {j : ℕ} {js : List ℕ} → Walk next (next j) js → Walk next (suc j) (j ∷ js)

-- each place is below the one before it in the list, and the first is below b
abbrev pub Falling : ℕ → List ℕ → Type 0
Falling b [] = Unit {0}
Falling b (j ∷ js) = (j < b) × Falling j js

-- the index of a number's newest record among the first used; 0 where it has none
abbrev pub newest_of : {R : Type 0} → List (Cell R) → ℕ → ℕ → ℕ
newest_of t used n = newest (places (number_at t) n used)

-- each number has as many records as count tells of it, and they come to what sum tells of it
abbrev pub Counts : {R : Type 0} → (ℕ → ℕ) → List (Cell R) → ℕ → Type 0
Counts count t used = (n : ℕ) → count n ≡ length (places (number_at t) n used)

abbrev pub Sums : {R : Type 0} → (R → ℤ) → (ℕ → ℤ) → List (Cell R) → ℕ → Type 0
Sums amount sum t used = (n : ℕ) → sum n ≡ total (amount_at amount t) (places (number_at t) n used)

-- walked by next from an index, the chain of n has exactly n's records among the first used: all of them are n's, newest
-- first, count of them, and they come to sum
pub record ChainOf {R : Type 0} (amount : R → ℤ) (t : List (Cell R)) (used n index count : ℕ) (sum : ℤ) : Type 0 where
  pub walk : Walk (next_at t) index (places (number_at t) n used)
  pub own : AllByRecursion (λ j. number_at t j ≡ n) (places (number_at t) n used)
  pub order : Falling used (places (number_at t) n used)
  pub many : length (places (number_at t) n used) ≡ count
  pub comes : total (amount_at amount t) (places (number_at t) n used) ≡ sum

-- where a number's chain begins, by a list of each number's newest index
abbrev pub head : List ℕ → ℕ → ℕ
head heads n = indexed heads 0 n

-- the chain of each number begins at its newest record among the first used
abbrev pub Heads : List ℕ → (ℕ → ℕ) → ℕ → Type 0
Heads heads number used = (n : ℕ) → head heads n ≡ newest (places number n used)

-- each of the first used records leads to its number's record before it
abbrev pub Nexts : (ℕ → ℕ) → (ℕ → ℕ) → ℕ → Type 0
Nexts number next used = (j : ℕ) → j < used → next j ≡ newest (places number (number j) j)
