use Rattle.std.proofs.Common.{◌≡◌, ◌+◌, drop}
use Rattle.sheet.specs.Sums.{sum_from, row_counted, row_multi, row_peak, row_heating, row_other, counted_months, multi_months, timed_peak, timed_heating, timed_other}
use Rattle.sheet.proofs.sheet.Sheet.six_sums.Given as goal

abbrev pub invariant-loop-row : goal.invariant-loop-row
invariant-loop-row l =
    let rows = l.self.rows in
    (l.counted + sum_from row_counted (l.row-index + 1) (drop l.row-index rows) ≡ counted_months rows)
    × (l.multi + sum_from row_multi (l.row-index + 1) (drop l.row-index rows) ≡ multi_months rows)

abbrev pub invariant-loop-i : goal.invariant-loop-i
invariant-loop-i l =
    let rows = l.self.rows in
    (l.counted ≡ counted_months rows)
    × (l.multi ≡ multi_months rows)
    × (l.peak + sum_from row_peak (l.i + 1) (drop l.i rows) ≡ timed_peak rows)
    × (l.heating + sum_from row_heating (l.i + 1) (drop l.i rows) ≡ timed_heating rows)
    × (l.other + sum_from row_other (l.i + 1) (drop l.i rows) ≡ timed_other rows)
