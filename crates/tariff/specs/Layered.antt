-- A flat price is lawful, and so is time of use over what is lawful. Proofs, which stand here since laws cite them.
use Rattle.std.specs.Prelude.{◌≡◌, ℕ, ◌+◌, ◌-◌, ◌*◌, ◌≤◌, min, max, true}
use Rattle.std.proofs.Common.{arith, add-mul, mul-add, mul-zero, mul-le-mul, mul-le-mul_left, mul-le-mul_right, ap, ◌∙◌}
use Rattle.std.proofs.lemmas.Bool.Decides.{nat_tests}
use Rattle.sheet.specs.Sums.{total, timed_peak, timed_heating, timed_other}
use Rattle.sheet.proofs.Adding.{timed_in_total}
use Rattle.tariff.specs.Flat.{flat_rate, is_price}
use Rattle.tariff.specs.Layer.{used, are_changes, layer_rate}
use Rattle.tariff.specs.Rate.{Rate, Lawful}
use Rattle.tariff.specs.declared.changes.Changes.{Changes}

-- two cuts, neither above m, for two parts of t kWh
pub cuts_le : (u v m a b t : ℕ) → u ≤ m → v ≤ m → a + b ≤ t → u * a + v * b ≤ m * t
cuts_le u v m a b t hu hv h = omega (arith, mul-le-mul_right a hu, mul-le-mul_right b hv, mul-add m a b, mul-le-mul_left m h)

pub floor_kept : (cheap charge more cuts m t : ℕ) → m ≤ cheap → cheap * t ≤ charge → cuts ≤ m * t → (cheap - m) * t ≤ charge + more - cuts
floor_kept cheap charge more cuts m t hm least hc =
    let split : cheap - m + m ≡ cheap = omega arith in
    omega (arith, add-mul (cheap - m) m t, ap (λ x. x * t) split)

pub ceiling_kept : (dear charge rise p cuts t : ℕ) → dear + rise ≤ 1000000 → charge ≤ dear * t → p ≤ t → charge + rise * p - cuts ≤ min (dear + rise) 1000000 * t
ceiling_kept dear charge rise p cuts t hd most hp =
    let is : min (dear + rise) 1000000 ≡ dear + rise = omega arith in
    omega (arith, add-mul dear rise t, mul-le-mul_left rise hp, ap (λ x. x * t) is)

pub nothing_kept : (rise p cuts : ℕ) → p ≡ 0 → 0 + rise * p - cuts ≡ 0
nothing_kept rise p cuts e = omega (arith, ap (λ x. rise * x) e)

-- a priced year stays small
pub raised_small : (tot dear charge rise p : ℕ) → p ≤ tot → tot ≤ 11999988 → dear + rise ≤ 100000 → charge ≤ dear * tot → charge + rise * p ≤ 1199998800000
raised_small tot dear charge rise p hp ht hd most =
    omega (arith, add-mul dear rise tot, mul-le-mul_left rise hp, mul-le-mul hd ht)

-- prices, rises and cuts within their limits
pub within_price : (price : ℕ) → 1 ≤ price → price ≤ 20000 → is_price price ≡ true
within_price price low high = grind (arith, nat_tests)

pub within_changes : (c : Changes) → c.rise.units ≤ 20000 → c.ordinary.units ≤ 20000 → c.heating.units ≤ 20000 → are_changes c ≡ true
within_changes c rise ordinary heating = grind (arith, nat_tests)

-- a flat price is lawful
pub flat_lawful : (price : ℕ) → price ≤ 20000 → Lawful (flat_rate price)
flat_lawful price high = record {
  ordered = omega arith;
  bounded = omega arith;
  nothing = λ s proper none. ap (λ x. price * x) none ∙ mul-zero price;
  least = λ s proper. omega arith;
  most = λ s proper low. omega arith;
}

-- and time of use over what is lawful
pub layer_lawful : (below : Rate) (c : Changes) → c.rise.units ≤ 20000 → Lawful below → Lawful (layer_rate below c)
layer_lawful below c high met =
    let u = c.rise.units in
    let o = used below c.ordinary.units in
    let h = used below c.heating.units in
    record {
      ordered = omega (arith, met.ordered, met.bounded);
      bounded = omega arith;
      nothing = λ s proper none.
          let parts = timed_in_total s in
          omega (arith, met.nothing s proper none, nothing_kept u (timed_peak s) 0 (omega arith));
      least = λ s proper.
          let parts = timed_in_total s in
          floor_kept below.cheapest _ (u * timed_peak s) _ (max o h) (total s) (omega arith) (met.least s proper)
          (cuts_le o h (max o h) (timed_other s) (timed_heating s) (total s) (omega arith) (omega arith) (omega arith));
      most = λ s proper low.
          let parts = timed_in_total s in
          ceiling_kept below.dearest _ u (timed_peak s) _ (total s) (omega arith) (met.most s proper (omega arith)) (omega arith);
    }
