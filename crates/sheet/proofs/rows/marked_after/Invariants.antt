use Rattle.std.proofs.Common.{cond, leb}
use Rattle.sheet.specs.Rows.{marked}
use Rattle.sheet.proofs.Changing.{Changed}
use Rattle.sheet.proofs.rows.marked_after.Given as goal

abbrev pub invariant-loop-i : goal.invariant-loop-i
invariant-loop-i l = Changed (λ k r. cond (leb k l.month) r (marked l.marking r)) l.i l.old l.row-items
