-- On tiers or a flat price, bare or under layers, sheets alike in the six sums cost the same. Proofs, which stand here since laws cite them.
use Rattle.std.specs.Prelude.{◌≡◌, ℕ, ◌+◌, ◌-◌, ◌*◌, Bool, true, false, cond, ◌&&◌, List, [], ◌∷◌, refl}
use Rattle.std.proofs.Common.{mul-add, mul-one, mul-zero, arith, ap, ap₂}
use Rattle.sheet.specs.Sums.{sum_from, total, row_counted, row_multi, counted_months, multi_months, six_sums}
use Rattle.sheet.specs.declared.row.Row.{Row}
use Rattle.sheet.specs.declared.sums.SixSums.{SixSums}
use Rattle.tariff.specs.Flat.{flat_rate}
use Rattle.tariff.specs.Layer.{used, layer_rate}
use Rattle.tariff.specs.Plain.{Plain, flat, tiers, layer, Alike}
use Rattle.tariff.specs.Rate.{Rate}
use Rattle.tariff.specs.Tiered.{row_standard, limit, split_from, charges, tier_rate}
use Rattle.tariff.specs.declared.band.Band.{Band}
use Rattle.tariff.specs.declared.changes.Changes.{Changes}

one_row : (s m : ℕ) (counted multi : Bool) (l c k : ℕ) → l + s * k ≡ s * c + m * k
    → (cond counted (cond multi m s) 0 + l) + s * (cond (counted && multi) 1 0 + k)
    ≡ s * (cond counted 1 0 + c) + m * (cond (counted && multi) 1 0 + k)
one_row s m true true l c k h = simp (mul-add, mul-one) (omega arith)
one_row s m true false l c k h = simp (mul-add, mul-one, mul-zero) (omega arith)
one_row s m false multi l c k h = simp (mul-add, mul-zero) (omega arith)

-- a limit by the months that count: the ordinary standard for each, and for multi-person ones that much more
months_from : (b : Band) (k : ℕ) (rows : List Row)
    → sum_from (row_standard b) k rows + b.ordinary.kwh * sum_from row_multi k rows
    ≡ b.ordinary.kwh * sum_from row_counted k rows + b.multi.kwh * sum_from row_multi k rows
unfolding sum_from
months_from b k [] = simp mul-zero
months_from b k (r ∷ rows) = one_row b.ordinary.kwh b.multi.kwh r.counted r.multi _ _ _ (months_from b (k + 1) rows)

pub limit_by_months : (b : Band) (rows : List Row)
    → limit b rows + b.ordinary.kwh * multi_months rows ≡ b.ordinary.kwh * counted_months rows + b.multi.kwh * multi_months rows
limit_by_months b rows = months_from b 1 rows

same_limit : (b : Band) (x y : List Row) → six_sums x ≡ six_sums y → limit b x ≡ limit b y
same_limit b x y e =
    omega (
      arith,
      limit_by_months b x,
      limit_by_months b y,
      ap (λ z. b.ordinary.kwh * z.counted) e,
      ap (λ z. b.ordinary.kwh * z.multi) e,
      ap (λ z. b.multi.kwh * z.multi) e,
    )

same_total : (x y : List Row) → six_sums x ≡ six_sums y → total x ≡ total y
same_total x y e = ap (λ (z : SixSums). z.total.kwh) e

same_split : (bs : List Band) (last a b : ℕ) (x y : List Row) → six_sums x ≡ six_sums y → a ≡ b → split_from a bs last x ≡ split_from b bs last y
unfolding split_from
same_split [] last a b x y e h = let n = same_total x y e in cc
same_split (t ∷ ts) last a b x y e h =
    let n = same_total x y e in
    let l : limit t x ≡ limit t y = same_limit t x y e in
    let rest = same_split ts last (limit t x) (limit t y) x y e l in
    cc

pub flat_alike : (price : ℕ) → Alike (flat_rate price)
flat_alike price x y e = ap (λ (z : SixSums). price * z.total.kwh) e

pub tiers_alike : (bands : List Band) (last : ℕ) → Alike (tier_rate bands last)
tiers_alike bands last x y e = ap charges (same_split bands last 0 0 x y e refl)

pub layer_alike : (below : Rate) (c : Changes) → Alike below → Alike (layer_rate below c)
layer_alike below c h x y e =
    ap₂ (λ (n : ℕ) (z : SixSums). n + c.rise.units * z.peak.kwh - (used below c.ordinary.units * z.other.kwh + used below c.heating.units * z.heating.kwh)) (h x y e) e

pub plain_alike : {r : Rate} → Plain r → Alike r
plain_alike (flat price h) = flat_alike price
plain_alike (tiers bands last h) = tiers_alike bands last
plain_alike (layer below c h p) = layer_alike below c (plain_alike p)
