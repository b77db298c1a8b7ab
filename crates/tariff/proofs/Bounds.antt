-- What a year comes to is small, and cuts take no more than is charged below.
use Rattle.std.proofs.Common.{◌≡◌, ℕ, ◌+◌, ◌*◌, ◌≤◌, Ok, ap, mul-le-mul, arith}
use Rattle.sheet.specs.Sums.{total, six_sums}
use Rattle.sheet.specs.declared.quantity.Units.{Units}
use Rattle.sheet.specs.declared.sheet.Sheet.{Sheet}
use Rattle.sheet.specs.declared.sums.SixSums.{SixSums}
use Rattle.sheet.proofs.Adding.{proper_of, timed_small, timed_in_total, total_small}
use Rattle.tariff.proofs.Answered.{answered}
use Rattle.tariff.specs.Faults.{answer}
use Rattle.tariff.specs.Rate.{Rate, Lawful}
use Rattle.tariff.specs.Layered.{cuts_le, raised_small}

pub total_small_of : (s : Sheet) → total s.rows ≤ 11999988
total_small_of s = total_small s.rows (proper_of s)

-- a price, a rise or a cut for a year's kWh
pub priced_small : (price kwh : ℕ) → price ≤ 20000 → kwh ≤ 11999988 → price * kwh ≤ 239999760000
priced_small price kwh h k = omega (arith, mul-le-mul h k)

-- the kWh that time of use prices
pub sums_small : (s : Sheet) (z : SixSums) → z ≡ six_sums s.rows → z.peak.kwh + z.heating.kwh + z.other.kwh ≤ 11999988
sums_small s z is = omega (arith, timed_small s.rows (proper_of s), ap (λ (x : SixSums). x.peak.kwh + x.heating.kwh + x.other.kwh) is)

pub cuts_small : (s : Sheet) (z : SixSums) (o h : ℕ) → z ≡ six_sums s.rows → o ≤ 20000 → h ≤ 20000 → o * z.other.kwh + h * z.heating.kwh ≤ 239999760000
cuts_small s z o h is oh hh = let small = sums_small s z is in cuts_le o h 20000 z.other.kwh z.heating.kwh 11999988 oh hh (omega arith)

pub raised_fits : (r : Rate) (s : Sheet) (z : SixSums) (u : Units) (rise : ℕ) → Lawful r → r.dearest + rise ≤ 100000 → Ok u ≡ answer r s.rows → z ≡ six_sums s.rows
    → u.units + rise * z.peak.kwh ≤ 1199998800000
raised_fits r s z u rise met low e is =
    let proper = proper_of s in
    let dear : r.dearest ≤ 100000 = omega arith in
    let parts = timed_in_total s.rows in
    let peak = ap (λ (x : SixSums). x.peak.kwh) is in
    let most : u.units ≤ r.dearest * total s.rows = omega (arith, answered u r s.rows dear e, met.most s.rows proper dear) in
    raised_small (total s.rows) r.dearest u.units rise z.peak.kwh (omega arith) (total_small s.rows proper) low most

pub cuts_within : (r : Rate) (s : Sheet) (z : SixSums) (u : Units) (o h more : ℕ) → Lawful r → r.dearest ≤ 100000 → Ok u ≡ answer r s.rows → z ≡ six_sums s.rows
    → o ≤ r.cheapest → h ≤ r.cheapest → o * z.other.kwh + h * z.heating.kwh ≤ u.units + more
cuts_within r s z u o h more met dear e is oh hh =
    let parts = timed_in_total s.rows in
    let timed = ap (λ (x : SixSums). x.heating.kwh + x.other.kwh) is in
    omega (
      arith,
      answered u r s.rows dear e,
      met.least s.rows (proper_of s),
      cuts_le o h r.cheapest z.other.kwh z.heating.kwh (total s.rows) oh hh (omega arith),
    )

pub ruleset bounds = (priced_small, total_small_of, sums_small, cuts_small, raised_fits)
