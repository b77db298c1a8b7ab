use Rattle.std.proofs.Common.{◌≡◌, IfSome, rules, ◌∙◌}
use Rattle.std.proofs.lemmas.Option.{IfSome_then}
use Rattle.bill.specs.Lines.{sum_line}
use Rattle.bill.proofs.Listed.{end_tier, end_rest}
use Rattle.bill.proofs.bill.Bill.tier_line.Goals as goal

pub returns-in-Some : goal.returns-in-Some
returns-in-Some c = end_tier c.args.self.now.sheet.rows _ c.args.k c.in-Some.share.now (c.shares-shares.ensures ∙ c.args.self.now.rated) c.in-Some.ensures.lookup.3.0 c.in-Some.ensures.lookup.1

pub returns : goal.returns
returns c =
    let sum : IfSome c.then.result (λ l. l ≡ sum_line c.args.self.now.sheet.rows) = IfSome_then c.then.result c.then.ensures.some (λ l h. search rules) in
    end_rest c.args.self.now.sheet.rows c.shares-shares.result.now c.args.k c.then.result (c.shares-shares.ensures ∙ c.args.self.now.rated) c.in_default.ensures.lookup.3 c.then.ensures.variant sum
