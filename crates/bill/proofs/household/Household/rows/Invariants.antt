use Rattle.std.proofs.Common.{◌≡◌, ◌+◌, drop}
use Rattle.bill.specs.Years.{bought_from, rows_of}
use Rattle.bill.proofs.household.Household.rows.Given as goal

abbrev pub invariant-loop-i : goal.invariant-loop-i
invariant-loop-i l = bought_from (l.i + 1) (drop l.i l.self.kwh) l.rows ≡ rows_of l.self
