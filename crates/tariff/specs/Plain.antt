-- Tiers or a flat price, bare or under time-of-use layers.
use Rattle.std.specs.Prelude.{◌≡◌, ℕ, true, List}
use Rattle.sheet.specs.Sums.{six_sums}
use Rattle.sheet.specs.declared.row.Row.{Row}
use Rattle.tariff.specs.Flat.{is_price, flat_rate}
use Rattle.tariff.specs.Layer.{are_changes, layer_rate}
use Rattle.tariff.specs.Rate.{Rate}
use Rattle.tariff.specs.Table.{lawful_table}
use Rattle.tariff.specs.Tiered.{tier_rate}
use Rattle.tariff.specs.declared.band.Band.{Band}
use Rattle.tariff.specs.declared.changes.Changes.{Changes}

-- each with values that keep the rules
pub data Plain : Rate → Type 0 where
  flat : (price : ℕ) → is_price price ≡ true → Plain (flat_rate price)
  tiers : (bands : List Band) (last : ℕ) → lawful_table bands last ≡ true → Plain (tier_rate bands last)
  layer : (below : Rate) (changes : Changes) → are_changes changes ≡ true → Plain below → Plain (layer_rate below changes)

-- sheets alike in the six sums cost the same
abbrev pub Alike : Rate → Type 0
Alike r = (x y : List Row) → six_sums x ≡ six_sums y → r.charge x ≡ r.charge y
