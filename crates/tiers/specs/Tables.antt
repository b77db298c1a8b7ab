-- What a tier table holds and means.
use Rattle.std.specs.Prelude.{List, take}
use Rattle.tariff.specs.Rate.{Rate}
use Rattle.tariff.specs.Tiered.{tier_rate}
use Rattle.tariff.specs.declared.band.Band.{Band}
use Rattle.tiers.specs.declared.table.Tiers.{Tiers}

-- its tiers but the last
abbrev pub bands_of : Tiers → List Band
bands_of t = take t.count t.bands

abbrev pub rate_of : Tiers → Rate
rate_of t = tier_rate (bands_of t) t.last.units
