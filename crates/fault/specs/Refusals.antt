-- The refusals of a call, in the order in which they are checked.
use Rattle.std.specs.Prelude.{ℕ, Bool, cond, List, [], ◌∷◌, Some, None, Option, Ok, Err, Result}
use Rattle.fault.specs.declared.Code.{Code}

-- the fault of the first condition that holds; granted where none does
abbrev pub first : {F : Type 0} → List (Bool × F) → Result (Unit {0}) F
first [] = Ok tt
first (row ∷ rows) = cond row.0 (Err row.1) (first rows)

-- the number of the refusal that a reply is; none where the call was granted
abbrev pub refused : {T F : Type 0} → (F → Code) → Result T F → Option ℕ
refused code (Ok _) = None
refused code (Err fault) = Some (code fault).number
