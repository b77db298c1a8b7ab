-- Splitting a year by a tier table, share by share.
use Rattle.std.proofs.Common.{◌≡◌, ℕ, ◌+◌, ◌-◌, ◌<◌, ◌≤◌, min, List, [], ◌∷◌, ◌++◌, length, get_or, drop, Some, None, sym, ap, ◌∙◌, subst, append_assoc, arith}
use Rattle.std.proofs.lemmas.List.{drop_more, at_drop_more, at_drop_all}
use Rattle.sheet.specs.declared.sums.SixSums.{SixSums}
use Rattle.sheet.specs.declared.sheet.Sheet.{Sheet}
use Rattle.sheet.proofs.Adding.{proper_of, total_small, counted_small, multi_among_counted}
use Rattle.tiers.specs.declared.table.Tiers.{Tiers}
use Rattle.tiers.specs.Tables.{bands_of}
use Rattle.sheet.specs.Sums.{total, six_sums}
use Rattle.sheet.specs.declared.row.Row.{Row}
use Rattle.sheet.specs.Rows.{kwh_of}
use Rattle.tiers.specs.Tabled.{table_whole}
use Rattle.tariff.specs.Tiered.{limit, share, split_from, split}
use Rattle.tariff.specs.declared.band.Band.{Band}
use Rattle.tariff.specs.declared.band.Share.{Share}
use Rattle.tiers.specs.Climbing.{Climbs, table_climbs, limit_is}
use Rattle.tiers.proofs.Testing.{no_band}

-- what the six sums of a sheet keep to
pub months_few : (s : Sheet) (z : SixSums) → z ≡ six_sums s.rows → z.counted ≤ 12
months_few s z e = let counted = ap (λ (x : SixSums). x.counted) e in omega (arith, counted_small s.rows (proper_of s))

pub multi_among : (s : Sheet) (z : SixSums) → z ≡ six_sums s.rows → z.multi ≤ z.counted
multi_among s z e =
    let counted = ap (λ (x : SixSums). x.counted) e in
    let multi = ap (λ (x : SixSums). x.multi) e in
    omega (arith, multi_among_counted s.rows)

pub whole_small : (s : Sheet) (z : SixSums) → z ≡ six_sums s.rows → z.total.kwh ≤ 11999988
whole_small s z e = let whole = ap (λ (x : SixSums). x.total.kwh) e in omega (arith, total_small s.rows (proper_of s))

-- `done` are the shares of the first i tiers, and those of the others follow from `before`
pub record Splits (rows : List Row) (bands : List Band) (last before i : ℕ) (done : List Share) : Type 0 where
  pub so_far : done ++ split_from before (drop i bands) last rows ≡ split bands last rows
  pub climbs : Climbs rows before (drop i bands)

-- no share yet: of any tiers that climb, and of those of a table
pub none_shares : (rows : List Row) (bands : List Band) (last : ℕ) (done : List Share) → done ≡ [] → Climbs rows 0 bands → Splits rows bands last 0 0 done
none_shares rows bands last done none c = record { so_far = ap (λ l. l ++ split bands last rows) none; climbs = c }

pub none_split : (t : Tiers) (rows : List Row) (bands : List Band) (done : List Share) → bands ≡ bands_of t → done ≡ [] → Splits rows bands t.last.units 0 0 done
none_split t rows bands done is none = none_shares rows bands t.last.units done none (subst (λ l. Climbs rows 0 l) (sym is) (table_climbs rows (bands_of t) t.last.units t.kept))

-- the tier at i
pub climbs_at : (rows : List Row) (bands : List Band) (before i : ℕ) → i < length bands → Climbs rows before (drop i bands)
    → Climbs rows before (get_or bands i no_band ∷ drop (i + 1) bands)
climbs_at rows bands before i within c = subst (λ l. Climbs rows before l) (drop_more bands i no_band within) c

-- it reaches as far as the one before it
pub reaches : (rows : List Row) (bands : List Band) (last before i reach : ℕ) (done : List Share) → Splits rows bands last before i done
    → i < length bands → reach ≡ limit (get_or bands i no_band) rows → before ≤ reach
reaches rows bands last before i reach done inv within is = omega (arith, (climbs_at rows bands before i within inv.climbs).0)

-- one tier more
pub split_more : (rows : List Row) (bands : List Band) (last before reach takes i : ℕ) (done more : List Share) (s : Share)
    → i < length bands → reach ≡ limit (get_or bands i no_band) rows → takes ≡ min (total rows) reach - min (total rows) before
    → s ≡ share (get_or bands i no_band).price.units (Some (kwh_of reach)) takes → more ≡ done ++ s ∷ []
    → Splits rows bands last before i done → Splits rows bands last reach (i + 1) more
unfolding split_from
split_more rows bands last before reach takes i done more s within is took priced pushed inv =
    let rest = split_from reach (drop (i + 1) bands) last rows in
    let next = at_drop_more (λ l. split_from before l last rows) bands i no_band within in
    let named : s ∷ rest ≡ split_from before (drop i bands) last rows = rw (next, ← is, ← took) (cc) in
    record {
      so_far = ap (λ l. l ++ rest) pushed ∙ append_assoc done (s ∷ []) rest ∙ ap (λ l. done ++ l) named ∙ inv.so_far;
      climbs = subst (λ n. Climbs rows n (drop (i + 1) bands)) (sym is) (climbs_at rows bands before i within inv.climbs).4;
    }

-- the last tier
pub split_last : (rows : List Row) (bands : List Band) (last before i : ℕ) (done : List Share) (s : Share)
    → length bands ≤ i → s ≡ share last None (total rows - min (total rows) before)
    → Splits rows bands last before i done → done ++ s ∷ [] ≡ split bands last rows
unfolding split_from
split_last rows bands last before i done s end priced inv =
    let tail = at_drop_all (λ l. split_from before l last rows) bands i end in
    let so_far = inv.so_far in
    cc

pub ruleset splits = (months_few, multi_among, whole_small, reaches, split_last, limit_is, table_whole)
