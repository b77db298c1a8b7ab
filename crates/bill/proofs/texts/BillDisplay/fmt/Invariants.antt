use Rattle.std.proofs.Common.{◌≡◌, ◌++◌}
use Rattle.std.specs.Fmt.{IsPlainFormatter, HasWritten}
use Rattle.bill.specs.Lines.{lines}
use Rattle.bill.specs.Texts.{page}
use Rattle.bill.specs.Walks.{to_come}
use Rattle.bill.proofs.texts.BillDisplay.fmt.Given as goal

abbrev pub invariant-loop-line : goal.invariant-loop-line
invariant-loop-line g l = record {
  can_next : (goal.iterator-loop-line g).can_next l.line-iterator;
  is_finite : (goal.iterator-loop-line g).is_finite l.line-iterator;
  lines : l.yielded ++ to_come l.line-iterator ≡ lines l.self.sheet.rows;
  text : IsPlainFormatter {W = g.row.W.Denot} l.initial.f → HasWritten {W = g.row.W.Denot} g.W.Write.write_str_gives l.initial.f (page l.yielded) l.f;
}
