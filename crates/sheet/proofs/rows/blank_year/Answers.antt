use Rattle.std.proofs.Common.{◌+◌, rules}
use Rattle.sheet.specs.Rows.{blank_row}
use Rattle.sheet.proofs.Changing.{made_by_index}
use Rattle.sheet.proofs.rows.blank_year.Goals as goal

pub returns : goal.returns
returns c = made_by_index _ _ (λ i. blank_row c.args.marks (i + 1)) (λ i y q k. search rules) _ _ c.from_fn.ensures.items
