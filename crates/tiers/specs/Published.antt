-- The values of the published tariffs, in units of 0.0001 yuan and kWh a month.
use Rattle.std.specs.Prelude.{ℕ, List, [], ◌∷◌}
use Rattle.tariff.specs.Values.{band, changes}
use Rattle.tariff.specs.declared.band.Band.{Band}
use Rattle.tariff.specs.declared.changes.Changes.{Changes}

-- Shandong's tiers but the last, and the last price
abbrev pub shandong_first : Band
shandong_first = band 5469 210 310

abbrev pub shandong_bands : List Band
shandong_bands = shandong_first ∷ band 5969 400 400 ∷ []

abbrev pub shandong_last : ℕ
shandong_last = 8469

-- Shandong's time of use
abbrev pub shandong_changes : Changes
shandong_changes = changes 300 1700 2000

-- the flat price of shared meters
abbrev pub shared : ℕ
shared = 5550

-- the time of use of chargers
abbrev pub charger_changes : Changes
charger_changes = changes 1700 1700 1700
