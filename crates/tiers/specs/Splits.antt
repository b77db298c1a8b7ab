-- What a split holds.
use Rattle.std.specs.Prelude.{List, take}
use Rattle.tariff.specs.declared.band.Share.{Share}
use Rattle.tiers.specs.declared.shares.Split.{Split}

-- the share of each tier in use
abbrev pub shares_of : Split → List Share
shares_of s = take s.count s.shares
