use Rattle.std.proofs.Common.{ap, ◌∙◌}
use Rattle.ledger.specs.Book.{Book}
use Rattle.chained.specs.Lines.{filled, fen_of}
use Rattle.chained.proofs.Filling.{cells_after, same_lent}
use Rattle.chained.proofs.Whole.{none_heads, none_counts, none_sums}
use Rattle.chained.proofs.chained.ChainedLedger.new.Goals as goal

pub invariant_of-result-clause-headed : goal.invariant_of-result-clause-headed
invariant_of-result-clause-headed c = none_heads _ _ _ 200 c.new.ensures.heads c.new.ensures.used

pub invariant_of-result-clause-counted : goal.invariant_of-result-clause-counted
invariant_of-result-clause-counted c = none_counts _ c.args.table.now _ c.new.ensures.used (ap (λ (b : Book). b.count) c.new-2.ensures)

pub invariant_of-result-clause-summed : goal.invariant_of-result-clause-summed
invariant_of-result-clause-summed c = none_sums fen_of _ c.args.table.now _ c.new.ensures.used (ap (λ (b : Book). b.sum) c.new-2.ensures)

pub returns-clause-lender : goal.returns-clause-lender
returns-clause-lender c = λ m steps a. (cells_after _ m steps a ∙ ap (λ u. filled c.args.table.now u steps) c.new.ensures.used, same_lent _ m steps a)
