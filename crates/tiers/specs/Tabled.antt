-- The laws of a tier table: what its shares cost together. Proofs, which stand here since laws cite them.
use Rattle.std.specs.Prelude.{◌≡◌, ℕ, ◌+◌, ◌-◌, ◌*◌, ◌≤◌, min, true, List, [], ◌∷◌}
use Rattle.std.proofs.Common.{arith, mul-add, mul_comm, mul-le-mul, mul-le-mul_left, mul-le-mul_right, ap}
use Rattle.std.proofs.lemmas.List.Sums.{sum_by-cons}
use Rattle.sheet.specs.Rows.{Proper}
use Rattle.sheet.specs.Sums.{total}
use Rattle.sheet.specs.declared.row.Row.{Row}
use Rattle.sheet.proofs.Adding.{total_small}
use Rattle.tariff.specs.Rate.{Lawful}
use Rattle.tariff.specs.Tiered.{limit, split_from, split, kwhs, charges, first_price, tier_rate}
use Rattle.tariff.specs.declared.band.Band.{Band}
use Rattle.tariff.specs.declared.band.Share.{Share}
use Rattle.tariff.specs.Table.{rises, lowest, lawful_table}
use Rattle.tiers.specs.Climbing.{Climbs, step, last_dearest, first_cheapest, table_rises, table_climbs, table_prices}

-- the tiers take all kWh past the limit before them
whole_from : (rows : List Row) (before : ℕ) (bs : List Band) (last : ℕ) → Climbs rows before bs
    → kwhs (split_from before bs last rows) + min (total rows) before ≡ total rows
unfolding split_from
whole_from rows before [] last c = omega arith
whole_from rows before (b ∷ bs) last c = omega (arith, whole_from rows (limit b rows) bs last c.4, c.0, sum_by-cons {X = Share})

-- the tiers cost at least q for every kWh past the limit before them, where q is at most the first of their prices
least_from : (rows : List Row) (before q : ℕ) (a : Band) (bs : List Band) (last : ℕ) → rises a bs last ≡ true → q ≤ first_price bs last
    → q * (total rows - min (total rows) before) ≤ charges (split_from before bs last rows)
unfolding split_from
least_from rows before q a [] last h low =
    let left = total rows - min (total rows) before in
    omega (arith, mul-le-mul_right left low, mul_comm last left)
least_from rows before q a (b ∷ bs) last h low =
    let s = step a b bs last h in
    let all = total rows in
    let reach = min all (limit b rows) in
    let here = reach - min all before in
    let left = all - reach in
    let parts : all - min all before ≤ here + left = omega arith in
    let next : q ≤ first_price bs last = omega (arith, (first_cheapest b bs last s.rest).0) in
    omega (
      arith,
      sum_by-cons {X = Share},
      least_from rows (limit b rows) q b bs last s.rest next,
      mul-le-mul_left here low,
      mul_comm q here,
      mul-add q here left,
      mul-le-mul_left q parts,
    )

-- they cost at most the last price for each of those kWh
most_from : (rows : List Row) (before : ℕ) (a : Band) (bs : List Band) (last : ℕ) → rises a bs last ≡ true → Climbs rows before bs
    → charges (split_from before bs last rows) ≤ last * (total rows - min (total rows) before)
unfolding split_from
most_from rows before a [] last h c = omega (arith, mul_comm last (total rows - min (total rows) before))
most_from rows before a (b ∷ bs) last h c =
    let s = step a b bs last h in
    let all = total rows in
    let reach = min all (limit b rows) in
    let here = reach - min all before in
    let left = all - reach in
    let parts : here + left ≡ all - min all before = omega (arith, c.0) in
    omega (
      arith,
      sum_by-cons {X = Share},
      most_from rows (limit b rows) b bs last s.rest c.4,
      mul-le-mul_left here (last_dearest b bs last s.rest).0,
      mul_comm last here,
      mul-add last here left,
      ap (λ x. last * x) parts,
    )

pub table_whole : (rows : List Row) (bs : List Band) (last : ℕ) → lawful_table bs last ≡ true → kwhs (split bs last rows) ≡ total rows
table_whole rows bs last h = omega (arith, whole_from rows 0 bs last (table_climbs rows bs last h))

whole : (rows : List Row) → total rows - min (total rows) 0 ≡ total rows
whole rows = omega arith

pub table_most : (rows : List Row) (bs : List Band) (last : ℕ) → lawful_table bs last ≡ true → charges (split bs last rows) ≤ last * total rows
table_most rows bs last h =
    omega (arith, most_from rows 0 lowest bs last (table_rises bs last h) (table_climbs rows bs last h), ap (λ x. last * x) (whole rows))

pub table_least : (rows : List Row) (bs : List Band) (last : ℕ) → lawful_table bs last ≡ true → first_price bs last * total rows ≤ charges (split bs last rows)
table_least rows bs last h =
    omega (arith, least_from rows 0 (first_price bs last) lowest bs last (table_rises bs last h) (omega arith), ap (λ x. first_price bs last * x) (whole rows))

pub table_small : (rows : List Row) (bs : List Band) (last : ℕ) → Proper rows → lawful_table bs last ≡ true → charges (split bs last rows) ≤ 239999760000
table_small rows bs last p h = omega (arith, table_most rows bs last h, mul-le-mul (table_prices bs last h).1 (total_small rows p))

pub table_lawful : (bs : List Band) (last : ℕ) → lawful_table bs last ≡ true → Lawful (tier_rate bs last)
table_lawful bs last h = record {
  ordered = (table_prices bs last h).0;
  bounded = omega (arith, (table_prices bs last h).1);
  nothing = λ s p none. omega (arith, table_most s bs last h, ap (λ x. last * x) none);
  least = λ s p. table_least s bs last h;
  most = λ s p low. table_most s bs last h;
}
