-- What an answer tells.
use Rattle.std.proofs.Common.{◌≡◌, ℕ, ◌≤◌, List, Ok, arith}
use Rattle.std.proofs.lemmas.Bool.Decides.{nat_tests}
use Rattle.sheet.specs.declared.quantity.Units.{Units}
use Rattle.sheet.specs.declared.row.Row.{Row}
use Rattle.tariff.specs.Faults.{answer, units_of}
use Rattle.tariff.specs.Rate.{Rate}

pub answered : (u : Units) (r : Rate) (rows : List Row) → r.dearest ≤ 100000 → Ok u ≡ answer r rows → u.units ≡ r.charge rows
answered u r rows low e = grind (arith, nat_tests)

pub answers : (n : ℕ) (r : Rate) (rows : List Row) → r.dearest ≤ 100000 → n ≡ r.charge rows → Ok (units_of n) ≡ answer r rows
answers n r rows low e = grind (arith, nat_tests)
