use Rattle.std.proofs.Common.{◌≡◌}
use Rattle.tiers.specs.Splits.{shares_of}
use Rattle.tiers.proofs.Splitting.{Splits}
use Rattle.tiers.proofs.table.Tiers.split.Given as goal

abbrev pub invariant-loop-band : goal.invariant-loop-band
invariant-loop-band l = record {
  splits : Splits l.sheet.rows l.band-items l.self.last.units l.before l.band-index (shares_of l.split);
  count : l.split.count ≡ l.band-index;
}
