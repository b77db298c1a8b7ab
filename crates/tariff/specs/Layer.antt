-- What time of use makes of the tariff below it.
use Rattle.std.specs.Prelude.{ℕ, ◌+◌, ◌-◌, ◌*◌, min, max, Bool, ◌&&◌, nat_le}
use Rattle.sheet.specs.Sums.{timed_peak, timed_heating, timed_other}
use Rattle.tariff.specs.Flat.{price_limit}
use Rattle.tariff.specs.Rate.{Rate, dearest_limit}
use Rattle.tariff.specs.declared.changes.Changes.{Changes}

-- the rise and both cuts keep the limit of prices, and may be 0
abbrev pub are_changes : Changes → Bool
are_changes c = nat_le c.rise.units price_limit && nat_le c.ordinary.units price_limit && nat_le c.heating.units price_limit

-- a cut takes no more than the cheapest price below
abbrev pub used : Rate → (cut : ℕ) → ℕ
used below cut = min cut below.cheapest

-- cheapest: that below less the larger used cut; dearest: that below and the rise, or 1,000,000 if that is less;
-- charge: that below, and the rise for each peak kWh less the used cut for each valley kWh, of the marked rows
-- (on twelve proper rows the cuts never exceed what they are taken from, since the charge below is lawful)
abbrev pub layer_rate : (below : Rate) → Changes → Rate
layer_rate b c = record {
  cheapest = b.cheapest - max (used b c.ordinary.units) (used b c.heating.units);
  dearest = min (b.dearest + c.rise.units) dearest_limit;
  charge = λ rows.
      b.charge rows + c.rise.units * timed_peak rows
      - (used b c.ordinary.units * timed_other rows + used b c.heating.units * timed_heating rows);
}
