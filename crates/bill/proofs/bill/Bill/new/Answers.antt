use Rattle.std.proofs.Common.{List, Option, ap, ◌∙◌}
use Rattle.std.specs.Option.{option_map, option_and_then}
use Rattle.sheet.specs.Rows.{all_fitting}
use Rattle.sheet.specs.declared.row.Row.{Row}
use Rattle.bill.specs.declared.bill.Bill.{Bill}
use Rattle.bill.proofs.Bought.{rows_fit}
use Rattle.bill.proofs.bill.Bill.new.Goals as goal

pub returns-in_err-sheet : goal.returns-in_err-sheet
returns-in_err-sheet c =
    ap (λ (o : Option Bill). option_map (λ (b : Bill). b.sheet.rows) o) c.from_residual-in_err-sheet.ensures
    ∙ c.in_err-sheet.ensures
    ∙ ap (λ (o : Option (List Row)). option_and_then all_fitting o) c.in_ok-rows.ensures
    ∙ rows_fit c.args.household.now
