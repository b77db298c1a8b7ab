use Rattle.std.proofs.Common.{rules}
use Rattle.tariff.proofs.Bounds.{cuts_within}
use Rattle.tariff.proofs.time_of_use.TimeOfUseTariff.charge.Goals as goal

pub overflow_sub-result : goal.overflow_sub-result
overflow_sub-result g c =
    cuts_within _ c.args.sheet.now _ _ _ _ _ (g.met.T.Tariff.lawful c.args.self.now.below) (search rules) c.in_ok-below.ensures c.six_sums-sums.ensures (search rules) (search rules)
