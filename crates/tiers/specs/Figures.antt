-- Figures of a household's year in Shandong, worked out from the definitions.
use Rattle.std.specs.Prelude.{◌≡◌, ℕ, ◌+◌, List}
use Rattle.sheet.specs.Money.{rounded}
use Rattle.sheet.specs.Rows.{kwh_of, row_of, with_row, booked, after_month, marked, blank_year}
use Rattle.sheet.specs.declared.row.Booking.{Booking}
use Rattle.sheet.specs.declared.row.Booking.TheVariants.{Reading, Purchase}
use Rattle.sheet.specs.declared.row.Marking.TheVariants.{Uncount, MultiPerson}
use Rattle.sheet.specs.declared.row.Row.{Row}
use Rattle.tariff.specs.Layer.{layer_rate}
use Rattle.tariff.specs.Tiered.{limit, tier_rate}
use Rattle.tiers.specs.Published.{shandong_first, shandong_bands, shandong_last, shandong_changes}

-- ---- years with no kWh: counted from a month on, multi-person up to a month, time of use from a month on

abbrev year : (counted_from multi_until timed_from : ℕ) → List Row
year c m t = blank_year (record { counted_from = c; multi_until = m; timed_from = t })

abbrev pub ordinary_year : List Row
ordinary_year = year 1 0 13

abbrev pub multi_person_year : List Row
multi_person_year = year 1 12 13

abbrev pub from_march : List Row
from_march = year 3 0 13

abbrev pub timed_year : List Row
timed_year = year 1 0 1

-- ---- kWh in one month of it

abbrev in_month : ℕ → Booking → List Row → List Row
in_month m b rows = with_row m rows (booked b (row_of m rows))

abbrev pub buying : (kwh month : ℕ) → List Row → List Row
buying k m = in_month m (Purchase (kwh_of k))

abbrev pub reading : (peak valley month : ℕ) → List Row → List Row
reading p v m = in_month m (Reading (kwh_of p) (kwh_of v))

-- ---- what they come to

abbrev pub shandong_units : List Row → ℕ
shandong_units = (tier_rate shandong_bands shandong_last).charge

abbrev pub shandong_fen : List Row → ℕ
shandong_fen rows = rounded (shandong_units rows)

-- under time of use
abbrev pub shandong_timed_fen : List Row → ℕ
shandong_timed_fen rows = rounded ((layer_rate (tier_rate shandong_bands shandong_last) shandong_changes).charge rows)

pub record Figures : Type 0 where
  -- twelve ordinary months, at the limits of the first and the second tier and one past them
  pub first_limit_units : shandong_units (buying 2520 1 ordinary_year) ≡ 13781880
  pub first_limit : shandong_fen (buying 2520 1 ordinary_year) ≡ 137819
  pub past_first : shandong_fen (buying 2521 1 ordinary_year) ≡ 137878
  pub second_limit : shandong_fen (buying 4800 1 ordinary_year) ≡ 273912
  pub past_second : shandong_fen (buying 4801 1 ordinary_year) ≡ 273997
  -- multi-person all year
  pub large_household : shandong_fen (buying 3720 1 multi_person_year) ≡ 203447
  -- filed for in May, so marked from June on: how far the first tier then reaches
  pub filed_in_may : limit shandong_first (after_month 5 (marked MultiPerson) ordinary_year) ≡ 3220
  -- opened in March; settled in July, so that the rows after it no longer count
  pub opened_in_march : shandong_fen (buying 1100 3 from_march) ≡ 60159
  pub settled_in_july : shandong_fen (after_month 7 (marked Uncount) (buying 1100 3 from_march)) ≡ shandong_fen (buying 1100 3 from_march) + 250
  -- time of use all year: a heating month and another
  pub january : shandong_timed_fen (reading 100 200 1 timed_year) ≡ 12707
  pub june : shandong_timed_fen (reading 100 200 6 timed_year) ≡ 13307
