use Rattle.std.proofs.Common.{Some, None, sym, ◌∙◌, arith}
use Rattle.bill.proofs.Bought.{bought_more, bought_end}
use Rattle.bill.proofs.household.Household.rows.Goals as goal

pub returns-in_err-rows : goal.returns-in_err-rows
returns-in_err-rows c =
    c.from_residual.ensures ∙ bought_more c.args.self.now.kwh c.loop-i.i c.loop-i.rows None (omega arith) c.in_err-rows.ensures ∙ c.loop-i.invariant

pub loop-i-preserved : goal.loop-i-preserved
loop-i-preserved c =
    bought_more c.args.self.now.kwh c.loop-i.i c.loop-i.rows (Some c.in_ok-rows.rows) (omega arith) c.in_ok-rows.ensures ∙ c.loop-i.invariant

pub returns : goal.returns
returns c = sym (bought_end c.args.self.now.kwh c.loop-i.i c.loop-i.rows (omega arith)) ∙ c.loop-i.invariant
