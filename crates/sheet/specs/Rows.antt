-- The rows of a year: what they hold, and what is done to them.
use Rattle.std.specs.Prelude.{◌≡◌, ℕ, ◌+◌, ◌-◌, Bool, true, false, cond, ◌&&◌, List, [], ◌∷◌, map, length, Some, None, Option, nat_le, slice_index_or, slice_set, option_map}
use Rattle.std.specs.List.{list_all}
use Rattle.sheet.specs.declared.quantity.Kwh.{Kwh}
use Rattle.sheet.specs.declared.row.Booking.{Booking}
use Rattle.sheet.specs.declared.row.Booking.TheVariants.{Reading, Purchase}
use Rattle.sheet.specs.declared.row.Marking.{Marking}
use Rattle.sheet.specs.declared.row.Marking.TheVariants.{Uncount, MultiPerson, TimeOfUse, NoTimeOfUse}
use Rattle.sheet.specs.declared.row.Row.{Row}
use Rattle.sheet.specs.declared.row.YearMarks.{YearMarks}

abbrev pub kwh_of : ℕ → Kwh
kwh_of n = record { kwh = n }

-- all the kWh of a row
abbrev pub kwh : Row → ℕ
kwh r = r.peak.kwh + r.valley.kwh + r.bought.kwh

-- a row with these marks and no kWh
abbrev pub blank : (counted multi timed : Bool) → Row
blank c m t = record { counted = c; multi = m; timed = t; peak = kwh_of 0; valley = kwh_of 0; bought = kwh_of 0 }

-- what stands for a month without a row
abbrev pub none : Row
none = blank false false false

-- the most kWh of a row
abbrev pub row_limit : ℕ
row_limit = 999999

abbrev pub fits : Row → Bool
fits r = nat_le (kwh r) row_limit

abbrev pub all_fit : List Row → Bool
all_fit rows = list_all fits rows

-- rows if each is within its limit
abbrev pub all_fitting : List Row → Option (List Row)
all_fitting rows = cond (all_fit rows) (Some rows) None

-- twelve rows, each within its limit
pub record Proper (rows : List Row) : Type 0 where
  pub twelve : length rows ≡ 12
  pub small : all_fit rows ≡ true

-- ---- kWh booked into a month's row

abbrev pub booked : Booking → Row → Row
booked (Reading p v) r = record { counted = r.counted; multi = r.multi; timed = r.timed; peak = kwh_of (r.peak.kwh + p.kwh); valley = kwh_of (r.valley.kwh + v.kwh); bought = r.bought }
booked (Purchase b) r = record { counted = r.counted; multi = r.multi; timed = r.timed; peak = r.peak; valley = r.valley; bought = kwh_of (r.bought.kwh + b.kwh) }

abbrev pub booked_kwh : Booking → ℕ
booked_kwh (Reading p v) = p.kwh + v.kwh
booked_kwh (Purchase b) = b.kwh

-- a row if it is within its limit
abbrev pub fitting : Row → Option Row
fitting r = cond (fits r) (Some r) None

abbrev pub is_month : ℕ → Bool
is_month m = nat_le 1 m && nat_le m 12

-- the row of month m
abbrev pub row_of : ℕ → List Row → Row
row_of m rows = slice_index_or rows (m - 1) none

-- another row in the place of month m's
abbrev pub with_row : ℕ → List Row → Row → List Row
with_row m rows r = slice_set rows (m - 1) r

-- a booking into the row of month m, if there is such a month and the row then fits
abbrev pub booked_in : ℕ → Booking → List Row → Option (List Row)
booked_in m b rows = cond (is_month m) (option_map (with_row m rows) (fitting (booked b (row_of m rows)))) None

-- ---- the rows after a month

abbrev pub marked : Marking → Row → Row
marked Uncount r = record { counted = false; multi = r.multi; timed = r.timed; peak = r.peak; valley = r.valley; bought = r.bought }
marked MultiPerson r = record { counted = r.counted; multi = true; timed = r.timed; peak = r.peak; valley = r.valley; bought = r.bought }
marked TimeOfUse r = record { counted = r.counted; multi = r.multi; timed = true; peak = r.peak; valley = r.valley; bought = r.bought }
marked NoTimeOfUse r = record { counted = r.counted; multi = r.multi; timed = false; peak = r.peak; valley = r.valley; bought = r.bought }

-- f of each element and its number, the first numbered n
unfoldable pub numbered : {X Y : Type 0} → (ℕ → X → Y) → (n : ℕ) → List X → List Y
numbered f n [] = []
numbered f n (x ∷ xs) = f n x ∷ numbered f (n + 1) xs

-- the rows after month m changed, the others as they were
abbrev pub after_month : ℕ → (Row → Row) → List Row → List Row
after_month m f rows = numbered (λ k r. cond (nat_le k m) r (f r)) 1 rows

-- ---- a blank year

abbrev pub months : List ℕ
months = 1 ∷ 2 ∷ 3 ∷ 4 ∷ 5 ∷ 6 ∷ 7 ∷ 8 ∷ 9 ∷ 10 ∷ 11 ∷ 12 ∷ []

-- counted and timed from a month on, multi-person up to a month
abbrev pub blank_row : YearMarks → ℕ → Row
blank_row y k = blank (nat_le y.counted_from k) (nat_le k y.multi_until) (nat_le y.timed_from k)

abbrev pub blank_year : YearMarks → List Row
blank_year y = map (blank_row y) months
