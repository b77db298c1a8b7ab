-- The lines of a bill.
use Rattle.std.specs.Prelude.{ℕ, List, [], ◌∷◌, ◌++◌, pos}
use Rattle.sheet.specs.Money.{rounded}
use Rattle.sheet.specs.Rows.{kwh, kwh_of, numbered}
use Rattle.sheet.specs.Sums.{total}
use Rattle.sheet.specs.declared.row.Row.{Row}
use Rattle.tariff.specs.Faults.{units_of}
use Rattle.bill.specs.Shandong.{shares, cost}
use Rattle.bill.specs.declared.lines.Line.{Line}
use Rattle.bill.specs.declared.lines.Line.TheVariants.{Month, Total, Tier, Sum}

abbrev pub month_line : ℕ → Row → Line
month_line m r = Month m (kwh_of (kwh r)) r.multi

-- what all tiers cost, and that in whole fen
abbrev pub sum_line : List Row → Line
sum_line rows = Sum (units_of (cost rows)) (record { fen = pos (rounded (cost rows)) })

-- each tier, and the sum
abbrev pub end_lines : List Row → List Line
end_lines rows = numbered Tier 1 (shares rows) ++ (sum_line rows ∷ [])

-- each month, what the year used, each tier, and the sum
abbrev pub lines : List Row → List Line
lines rows = numbered month_line 1 rows ++ (Total (kwh_of (total rows)) ∷ end_lines rows)
