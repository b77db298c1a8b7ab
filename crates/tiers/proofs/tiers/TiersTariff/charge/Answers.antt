use Rattle.tiers.proofs.Charging.{charged}
use Rattle.tiers.proofs.tiers.TiersTariff.charge.Goals as goal

pub returns : goal.returns
returns c = charged c.args.self.now c.args.sheet.now c.charge.result _ c.split.ensures.shares c.charge.ensures
