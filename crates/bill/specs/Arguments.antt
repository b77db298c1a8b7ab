-- What the arguments of a command line give.
use Rattle.std.specs.Prelude.{◌≡◌, ℕ, ◌-◌, ◌<◌, ◌≤◌, List, [], length, Some, None, Ok, Err, Option, Result, ◌≢◌, slice_index_or}
use Rattle.std.specs.Str.Parse.{IsNumeral, digits_value, without_leading_plus}
use Rattle.sheet.specs.Rows.{kwh_of, row_limit}
use Rattle.sheet.specs.declared.quantity.Kwh.{Kwh as Quantity}
use Rattle.bill.specs.declared.household.ArgumentFault.{ArgumentFault}
use Rattle.bill.specs.declared.household.ArgumentFault.TheVariants.{Count, Kwh, Month}
use Rattle.bill.specs.declared.household.Household.{Household}

-- an argument that writes a whole number within limits: decimal digits, before which a plus may stand
pub record Writes (least most : ℕ) (argument : List ℕ) (n : ℕ) : Type 0 where
  pub digits : IsNumeral 10 (without_leading_plus argument)
  pub is : n ≡ digits_value 10 (without_leading_plus argument)
  pub low : least ≤ n
  pub high : n ≤ most

-- the number that an argument writes, or none where it writes none within the limits
abbrev pub Read : (least most : ℕ) → (argument : List ℕ) → Option ℕ → Type 0
Read least most argument (Some n) = Writes least most argument n
Read least most argument None = (n : ℕ) → Writes least most argument n → ⊥

-- the first n arguments write the kWh of as many months
abbrev pub Months : (arguments : List (List ℕ)) → ℕ → List Quantity → Type 0
Months arguments n kwh = (k : ℕ) → k < n → Writes 0 row_limit (slice_index_or arguments k []) (slice_index_or kwh k (kwh_of 0)).kwh

abbrev pub SomeMonths : (arguments : List (List ℕ)) → ℕ → Type 0
SomeMonths arguments n = (k : ℕ) → k < n → (x : ℕ) × Writes 0 row_limit (slice_index_or arguments k []) x

-- a thirteenth argument writes the month from which the household is multi-person
abbrev pub Mark : (arguments : List (List ℕ)) → Option ℕ → Type 0
Mark arguments None = length arguments ≡ 12
Mark arguments (Some m) = (length arguments ≡ 13) × Writes 1 12 (slice_index_or arguments 12 []) m

-- why arguments are refused: the first thing that is wrong with them
abbrev pub Fault : (arguments : List (List ℕ)) → ArgumentFault → Type 0
Fault arguments (Count n) = (n ≡ length arguments) × (n ≢ 12) × (n ≢ 13)
Fault arguments (Kwh m) = (1 ≤ m) × (m ≤ 12) × (12 ≤ length arguments) × (length arguments ≤ 13) × SomeMonths arguments (m - 1) × Read 0 row_limit (slice_index_or arguments (m - 1) []) None
Fault arguments Month = (length arguments ≡ 13) × SomeMonths arguments 12 × Read 1 12 (slice_index_or arguments 12 []) None

abbrev pub Parsed : (arguments : List (List ℕ)) → Result Household ArgumentFault → Type 0
Parsed arguments (Ok h) = Months arguments 12 h.kwh × Mark arguments h.multi_from
Parsed arguments (Err e) = Fault arguments e
