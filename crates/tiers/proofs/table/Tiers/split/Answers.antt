use Rattle.std.proofs.Common.{get_or, ap, arith}
use Rattle.sheet.specs.declared.sums.SixSums.{SixSums}
use Rattle.tiers.specs.Climbing.{table_prices, limit_is}
use Rattle.tiers.specs.Tables.{bands_of}
use Rattle.tiers.proofs.Splitting.{none_split, split_more}
use Rattle.tiers.proofs.Testing.{no_band}
use Rattle.tiers.proofs.table.Tiers.split.Goals as goal

pub loop-band-init : goal.loop-band-init
loop-band-init c = record {
  splits = none_split c.args.self.now c.args.sheet.now.rows _ _ c.bands-band-items.ensures c.empty-split.ensures.shares;
  count = c.empty-split.ensures.count;
}

pub loop-band-preserved : goal.loop-band-preserved
loop-band-preserved c =
    let all = ap (λ (x : SixSums). x.total.kwh) c.six_sums-sums.ensures in
    let reach = limit_is (get_or c.bands-band-items.result.now c.loop-band.band-index no_band) c.args.sheet.now.rows _ _ c.six_sums-sums.ensures c.limit-reach.ensures in
    record {
      splits = split_more _ _ _ _ _ _ _ _ _ _ c.loop-band-test.true reach (omega arith) c.share.ensures c.push.ensures.shares c.loop-band.invariant.splits;
      count = omega arith;
    }

pub share-requires-2-clause-price : goal.share-requires-2-clause-price
share-requires-2-clause-price c = (table_prices (bands_of c.args.self.now) c.args.self.now.last.units c.args.self.now.kept).1
