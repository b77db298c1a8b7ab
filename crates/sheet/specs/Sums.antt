-- The sums over the rows of a year.
use Rattle.std.specs.Prelude.{ℕ, ◌+◌, Bool, cond, not, ◌&&◌, ◌||◌, List, [], ◌∷◌, ◌==◌, nat_le}
use Rattle.sheet.specs.Rows.{kwh, kwh_of}
use Rattle.sheet.specs.declared.row.Row.{Row}
use Rattle.sheet.specs.declared.sums.SixSums.{SixSums}

-- the heating months are 12, 1, 2, 3 and 4
abbrev pub heating : (month : ℕ) → Bool
heating m = m == 12 || (nat_le 1 m && nat_le m 4)

-- the sum of f over rows of which the first is of this month
unfoldable pub sum_from : (ℕ → Row → ℕ) → ℕ → List Row → ℕ
sum_from f month [] = 0
sum_from f month (r ∷ rs) = f month r + sum_from f (month + 1) rs

-- ---- what one row adds to each sum

abbrev pub row_kwh : ℕ → Row → ℕ
row_kwh month r = kwh r

abbrev pub row_counted : ℕ → Row → ℕ
row_counted month r = cond r.counted 1 0

abbrev pub row_multi : ℕ → Row → ℕ
row_multi month r = cond (r.counted && r.multi) 1 0

abbrev pub row_peak : ℕ → Row → ℕ
row_peak month r = cond r.timed r.peak.kwh 0

abbrev pub row_heating : ℕ → Row → ℕ
row_heating month r = cond (r.timed && heating month) r.valley.kwh 0

abbrev pub row_other : ℕ → Row → ℕ
row_other month r = cond (r.timed && not (heating month)) r.valley.kwh 0

-- ---- the six sums, of rows from January on

-- all kWh
abbrev pub total : List Row → ℕ
total rows = sum_from row_kwh 1 rows

abbrev pub counted_months : List Row → ℕ
counted_months rows = sum_from row_counted 1 rows

-- the multi-person months among the counted ones
abbrev pub multi_months : List Row → ℕ
multi_months rows = sum_from row_multi 1 rows

-- of the rows marked time of use: peak kWh, valley kWh in heating months, valley kWh in other months
abbrev pub timed_peak : List Row → ℕ
timed_peak rows = sum_from row_peak 1 rows

abbrev pub timed_heating : List Row → ℕ
timed_heating rows = sum_from row_heating 1 rows

abbrev pub timed_other : List Row → ℕ
timed_other rows = sum_from row_other 1 rows

abbrev pub six_sums : List Row → SixSums
six_sums rows = record {
  counted = counted_months rows;
  multi = multi_months rows;
  total = kwh_of (total rows);
  peak = kwh_of (timed_peak rows);
  heating = kwh_of (timed_heating rows);
  other = kwh_of (timed_other rows);
}
