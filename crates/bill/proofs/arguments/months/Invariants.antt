use Rattle.std.proofs.Common.{◌≡◌, map, length, string_bytes}
use Rattle.bill.specs.Arguments.{Months}
use Rattle.bill.proofs.arguments.months.Given as goal

abbrev pub invariant-loop-i : goal.invariant-loop-i
invariant-loop-i l = Months (map string_bytes l.year) l.i l.kwh × (length l.kwh ≡ 12)
