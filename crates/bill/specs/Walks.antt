-- A walk over the lines of a bill.
use Rattle.std.specs.Prelude.{List, slice_range}
use Rattle.bill.specs.Lines.{lines}
use Rattle.bill.specs.declared.lines.Line.{Line}
use Rattle.bill.specs.declared.walk.Lines.{Lines}

-- the lines that are still to come
abbrev pub to_come : Lines → List Line
to_come w = slice_range (lines w.bill.now.sheet.rows) w.places.start w.places.end
