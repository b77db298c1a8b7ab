use Rattle.std.proofs.Common.{List, get_or, ap, ◌∙◌}
use Rattle.sheet.specs.Rows.{none}
use Rattle.sheet.specs.declared.row.Row.{Row}
use Rattle.sheet.proofs.Fitting.{fits_at}
use Rattle.bill.proofs.bill.Bill.line.Goals as goal

pub used-requires : goal.used-requires
used-requires c =
    let sheet = c.args.self.now.sheet in
    let at = c.in-Some.ensures.lookup.3.1 none ∙ ap (λ (l : List Row). get_or l c.args.k none) c.rows.ensures in
    rw at (fits_at sheet.rows c.args.k sheet.small)
