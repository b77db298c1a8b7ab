-- The kWh of a year, bought month by month.
use Rattle.std.proofs.Common.{◌≡◌, ℕ, ◌+◌, ◌-◌, ◌<◌, ◌≤◌, true, cond, List, [], ◌∷◌, length, get_or, drop, Some, None, Option, sym, refl, ap, ◌∙◌}
use Rattle.std.specs.Option.{option_and_then}
use Rattle.std.proofs.lemmas.List.{at_drop_more, at_drop_all}
use Rattle.sheet.specs.Rows.{kwh_of, all_fit, all_fitting, booked_in, marked}
use Rattle.sheet.specs.declared.quantity.Kwh.{Kwh}
use Rattle.sheet.specs.declared.row.Booking.TheVariants.{Purchase}
use Rattle.sheet.specs.declared.row.Marking.TheVariants.{MultiPerson}
use Rattle.sheet.specs.declared.row.Row.{Row}
use Rattle.sheet.proofs.Fitting.{marked_kwh, all_fit_after, all_fit_blank, all_fit_booked}
use Rattle.bill.specs.Years.{ordinary_year, marked_year, bought_from, rows_of}
use Rattle.bill.specs.declared.household.Household.{Household}

-- one month more, by what its booking answered
pub bought_more : (kwh : List Kwh) (i : ℕ) (rows : List Row) (o : Option (List Row)) → i < length kwh → o ≡ booked_in (i + 1) (Purchase (get_or kwh i (kwh_of 0))) rows
    → option_and_then (bought_from (i + 1 + 1) (drop (i + 1) kwh)) o ≡ bought_from (i + 1) (drop i kwh) rows
unfolding bought_from
bought_more kwh i rows o h e =
    ap (λ (x : Option (List Row)). option_and_then (bought_from (i + 1 + 1) (drop (i + 1) kwh)) x) e
    ∙ sym (at_drop_more (λ l. bought_from (i + 1) l rows) kwh i (kwh_of 0) h)

pub bought_end : (kwh : List Kwh) (i : ℕ) (rows : List Row) → length kwh ≤ i → bought_from (i + 1) (drop i kwh) rows ≡ Some rows
unfolding bought_from
bought_end kwh i rows h = at_drop_all (λ l. bought_from (i + 1) l rows) kwh i h

-- ---- the rows of a household's year are within their limits

-- what a booking answered, if the months after it stay within their limits
after_booking : (f : List Row → Option (List Row)) (m : ℕ) (k : Kwh) (rows : List Row) (o : Option (List Row)) → all_fit rows ≡ true → o ≡ booked_in m (Purchase k) rows
    → ((r : List Row) → all_fit r ≡ true → option_and_then all_fitting (f r) ≡ f r) → option_and_then all_fitting (option_and_then f o) ≡ option_and_then f o
after_booking f m k rows None h e rest = refl
after_booking f m k rows (Some r) h e rest = rest r (all_fit_booked m (Purchase k) rows r h e)

bought_fits : (m : ℕ) (ks : List Kwh) (rows : List Row) → all_fit rows ≡ true → option_and_then all_fitting (bought_from m ks rows) ≡ bought_from m ks rows
unfolding bought_from
bought_fits m [] rows h = ap (λ b. cond b (Some rows) None) h
bought_fits m (k ∷ ks) rows h = after_booking (bought_from (m + 1) ks) m k rows (booked_in m (Purchase k) rows) h refl (λ r l. bought_fits (m + 1) ks r l)

ordinary_fits : all_fit ordinary_year ≡ true
ordinary_fits = all_fit_blank (record { counted_from = 1; multi_until = 0; timed_from = 13 })

marked_fits : (from : Option ℕ) → all_fit (marked_year from) ≡ true
marked_fits (Some m) = all_fit_after (marked MultiPerson) (marked_kwh MultiPerson) (m - 1) ordinary_year ∙ ordinary_fits
marked_fits None = ordinary_fits

pub rows_fit : (h : Household) → option_and_then all_fitting (rows_of h) ≡ rows_of h
rows_fit h = bought_fits 1 h.kwh (marked_year h.multi_from) (marked_fits h.multi_from)
