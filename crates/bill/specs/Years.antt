-- The rows of a household's year.
use Rattle.std.specs.Prelude.{ℕ, ◌+◌, ◌-◌, List, [], ◌∷◌, Some, None, Option, option_and_then}
use Rattle.sheet.specs.Rows.{booked_in, after_month, marked, blank_year}
use Rattle.sheet.specs.declared.quantity.Kwh.{Kwh}
use Rattle.sheet.specs.declared.row.Booking.TheVariants.{Purchase}
use Rattle.sheet.specs.declared.row.Marking.TheVariants.{MultiPerson}
use Rattle.sheet.specs.declared.row.Row.{Row}
use Rattle.bill.specs.declared.household.Household.{Household}

-- twelve counted months with no kWh and no other mark
abbrev pub ordinary_year : List Row
ordinary_year = blank_year (record { counted_from = 1; multi_until = 0; timed_from = 13 })

-- the rows from a month on marked multi-person, if there is such a month
abbrev pub marked_year : (from : Option ℕ) → List Row
marked_year (Some m) = after_month (m - 1) (marked MultiPerson) ordinary_year
marked_year None = ordinary_year

-- kWh bought in one month after the other, from a month on; none where a row would pass its limit
unfoldable pub bought_from : (month : ℕ) → List Kwh → List Row → Option (List Row)
bought_from m [] rows = Some rows
bought_from m (k ∷ ks) rows = option_and_then (bought_from (m + 1) ks) (booked_in m (Purchase k) rows)

abbrev pub rows_of : Household → Option (List Row)
rows_of h = bought_from 1 h.kwh (marked_year h.multi_from)
