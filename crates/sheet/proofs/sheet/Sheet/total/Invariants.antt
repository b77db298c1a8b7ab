use Rattle.std.proofs.Common.{◌≡◌, ◌+◌, drop}
use Rattle.sheet.specs.Sums.{total, sum_from, row_kwh}
use Rattle.sheet.proofs.sheet.Sheet.total.Given as goal

abbrev pub invariant-loop-row : goal.invariant-loop-row
invariant-loop-row l = l.sum + sum_from row_kwh (l.row-index + 1) (drop l.row-index l.rows) ≡ total l.rows
