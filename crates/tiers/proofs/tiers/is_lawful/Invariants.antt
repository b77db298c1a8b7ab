use Rattle.std.proofs.Common.{◌≡◌, drop}
use Rattle.tariff.specs.Table.{rises, lowest}
use Rattle.tiers.proofs.tiers.is_lawful.Given as goal

abbrev pub invariant-loop-band : goal.invariant-loop-band
invariant-loop-band l = rises l.before (drop l.band-index l.bands) l.last.units ≡ rises lowest l.bands l.last.units
