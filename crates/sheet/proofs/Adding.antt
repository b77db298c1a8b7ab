-- What the sums over the rows of a year keep to.
use Rattle.std.proofs.Common.{◌≡◌, ℕ, ◌+◌, ◌*◌, ◌<◌, ◌≤◌, true, List, [], ◌∷◌, length, get_or, drop, arith}
use Rattle.std.proofs.lemmas.List.{at_drop_more, at_drop_all}
use Rattle.sheet.specs.Sums.{sum_from, row_kwh, row_counted, row_multi, row_peak, row_heating, row_other, total, counted_months, multi_months, timed_peak, timed_heating, timed_other}
use Rattle.sheet.specs.Rows.{none, all_fit, Proper}
use Rattle.sheet.proofs.Fitting.{fits_at}
use Rattle.sheet.specs.declared.row.Row.{Row}
use Rattle.sheet.specs.declared.sheet.Sheet.{Sheet}

-- the rows of a sheet are proper
pub proper_of : (s : Sheet) → Proper s.rows
proper_of s = record { twelve = s.twelve; small = s.small }

-- one step of a loop over the rows: the row at i is of month i + 1
pub sum_more : (f : ℕ → Row → ℕ) (rs : List Row) (i : ℕ) → i < length rs → sum_from f (i + 1) (drop i rs) ≡ f (i + 1) (get_or rs i none) + sum_from f (i + 1 + 1) (drop (i + 1) rs)
unfolding sum_from
sum_more f rs i h = at_drop_more (sum_from f (i + 1)) rs i none h

pub sum_end : (f : ℕ → Row → ℕ) (rs : List Row) (i : ℕ) → length rs ≤ i → sum_from f (i + 1) (drop i rs) ≡ 0
unfolding sum_from
sum_end f rs i h = at_drop_all (sum_from f (i + 1)) rs i h

pub ruleset sums = (sum_more, sum_end, fits_at)

-- at most 999,999 a row
sum_small : (month : ℕ) (rs : List Row) → all_fit rs ≡ true → sum_from row_kwh month rs ≤ length rs * 999999
unfolding sum_from
sum_small month [] h = omega arith
sum_small month (r ∷ rs) h = grind (arith, sum_small (month + 1) rs)

pub total_small : (rs : List Row) → Proper rs → total rs ≤ 11999988
total_small rs p = omega (arith, sum_small 1 rs p.small)

-- what time of use prices is part of the total
sum_parts : (month : ℕ) (rs : List Row) → sum_from row_peak month rs + sum_from row_heating month rs + sum_from row_other month rs ≤ sum_from row_kwh month rs
unfolding sum_from
sum_parts month [] = omega arith
sum_parts month (r ∷ rs) = grind (arith, sum_parts (month + 1) rs)

pub timed_in_total : (rs : List Row) → timed_peak rs + timed_heating rs + timed_other rs ≤ total rs
timed_in_total rs = sum_parts 1 rs

pub timed_small : (rs : List Row) → Proper rs → timed_peak rs + timed_heating rs + timed_other rs ≤ 11999988
timed_small rs p = omega (arith, timed_in_total rs, total_small rs p)

-- at most a month a row, and no multi-person month that is not counted
sum_months : (month : ℕ) (rs : List Row) → (sum_from row_multi month rs ≤ sum_from row_counted month rs) × (sum_from row_counted month rs ≤ length rs)
unfolding sum_from
sum_months month [] = (omega arith, omega arith)
sum_months month (r ∷ rs) = let rest = sum_months (month + 1) rs in (grind arith, grind arith)

pub multi_among_counted : (rs : List Row) → multi_months rs ≤ counted_months rs
multi_among_counted rs = (sum_months 1 rs).0

pub counted_small : (rs : List Row) → Proper rs → counted_months rs ≤ 12
counted_small rs p = omega (arith, (sum_months 1 rs).1, p.twelve)
