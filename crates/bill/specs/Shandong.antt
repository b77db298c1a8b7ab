-- What a year comes to by Shandong's tiers.
use Rattle.std.specs.Prelude.{ℕ, List}
use Rattle.sheet.specs.declared.row.Row.{Row}
use Rattle.tariff.specs.Tiered.{split, tier_rate}
use Rattle.tariff.specs.declared.band.Share.{Share}
use Rattle.tiers.specs.Published.{shandong_bands, shandong_last}

-- what each tier takes
abbrev pub shares : List Row → List Share
shares rows = split shandong_bands shandong_last rows

-- what the year costs, in units of 0.0001 yuan
abbrev pub cost : List Row → ℕ
cost rows = (tier_rate shandong_bands shandong_last).charge rows
