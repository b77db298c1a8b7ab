-- What putting a record into a table's chains answers and does.
use Rattle.std.specs.Prelude.{◌≡◌, ℕ, ◌+◌, ◌-◌, min, Bool, cond, ◌&&◌, List, Some, None, Option, nat_lt, slice_set, slice_get}
use Rattle.ledger.specs.Book.{within}
use Rattle.chained.specs.declared.cell.Cell.{Cell}
use Rattle.chained.specs.declared.links.Links.{Links}
use Rattle.chained.specs.Chain.{head}

-- the greatest index of a record
abbrev pub greatest_index : ℕ
greatest_index = 65535

-- how many of a table's cells can be used: all, or 65,535 if that is less
abbrev pub room : ℕ → ℕ
room cells = min cells greatest_index

-- the cell of a new record: it leads to its number's record before it
abbrev pub cell_of : {R : Type 0} → Links → ℕ → R → Cell R
cell_of l n item = record { number = n; next = head l.heads n; item = item }

-- the first unused place, and the cell; none where the number is not 1 to 200 or every cell is used
abbrev pub next_cell : {R : Type 0} → Links → ℕ → R → ℕ → Option (ℕ × Cell R)
next_cell l n item cells = cond (within 200 n && nat_lt l.used (room cells)) (Some (l.used, cell_of l n item)) None

-- a number from 1 to 200, while fewer than 65,535 places are used
abbrev pub may_link : Links → ℕ → Bool
may_link l n = within 200 n && nat_lt l.used greatest_index

-- one place more is used, and the number's chain begins there; the other chains begin where they did
pub record Linked (n : ℕ) (l l' : Links) : Type 0 where
  pub more : l'.used ≡ l.used + 1
  pub headed : l'.heads ≡ slice_set l.heads (n - 1) (l.used + 1)

-- the cell at an index from 1 to the number of records
abbrev pub cell_at : {R : Type 0} → Links → List (Cell R) → ℕ → Option (Cell R)
cell_at l t i = cond (within l.used i) (slice_get t (i - 1)) None
