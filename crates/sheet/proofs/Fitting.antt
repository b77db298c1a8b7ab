-- Rows within their limits, and what keeps them there.
use Rattle.std.proofs.Common.{◌≡◌, ℕ, zero, suc, ◌+◌, ◌-◌, ◌≤◌, true, cond, leb, List, [], ◌∷◌, get_or, set, Some, refl, arith}
use Rattle.sheet.specs.Rows.{kwh, none, fits, all_fit, row_of, booked, booked_in, marked, numbered, after_month, blank_year}
use Rattle.sheet.specs.declared.row.Booking.{Booking}
use Rattle.sheet.specs.declared.row.Marking.{Marking}
use Rattle.sheet.specs.declared.row.Marking.TheVariants.{Uncount, MultiPerson, TimeOfUse, NoTimeOfUse}
use Rattle.sheet.specs.declared.row.Row.{Row}
use Rattle.sheet.specs.declared.row.YearMarks.{YearMarks}

-- each row is within its limit
pub fits_at : (rs : List Row) (k : ℕ) → all_fit rs ≡ true → kwh (get_or rs k none) ≤ 999999
fits_at [] k h = omega arith
fits_at (r ∷ rs) zero h = grind arith
fits_at (r ∷ rs) (suc k) h = grind (arith, fits_at rs k)

-- a fitting row in the place of another
pub all_fit_set : (rs : List Row) (k : ℕ) (x : Row) → all_fit rs ≡ true → fits x ≡ true → all_fit (set rs k x) ≡ true
all_fit_set [] k x h p = h
all_fit_set (r ∷ rs) zero x h p = grind arith
all_fit_set (r ∷ rs) (suc k) x h p = grind (arith, all_fit_set rs k x)

-- rows whose kWh stay are within their limits as before
pub all_fit_rows : (f : ℕ → Row → Row) → ((k : ℕ) (r : Row) → kwh (f k r) ≡ kwh r) → (k : ℕ) (s : List Row) → all_fit (numbered f k s) ≡ all_fit s
unfolding numbered
all_fit_rows f e k [] = refl
all_fit_rows f e k (r ∷ s) = grind (arith, e k r, all_fit_rows f e (k + 1) s)

pub all_fit_after : (f : Row → Row) → ((r : Row) → kwh (f r) ≡ kwh r) → (m : ℕ) (s : List Row) → all_fit (after_month m f s) ≡ all_fit s
all_fit_after f e m s = all_fit_rows (λ k r. cond (leb k m) r (f r)) (λ k r. grind (arith, e r)) 1 s

-- ---- what is done to rows leaves them within their limits

pub marked_kwh : (g : Marking) (r : Row) → kwh (marked g r) ≡ kwh r
marked_kwh Uncount r = refl
marked_kwh MultiPerson r = refl
marked_kwh TimeOfUse r = refl
marked_kwh NoTimeOfUse r = refl

pub all_fit_blank : (y : YearMarks) → all_fit (blank_year y) ≡ true
all_fit_blank y = refl

-- a booking that is granted
pub all_fit_booked : (m : ℕ) (b : Booking) (rows rows' : List Row) → all_fit rows ≡ true → Some rows' ≡ booked_in m b rows → all_fit rows' ≡ true
all_fit_booked m b rows rows' h e = grind (arith, all_fit_set rows (m - 1) (booked b (row_of m rows)) h)
