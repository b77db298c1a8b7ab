use Rattle.std.proofs.Common.{Some, sym, ap, ◌∙◌}
use Rattle.ledger.specs.Rows.{place}
use Rattle.ledger.proofs.Rowed.{meant_set}
use Rattle.ledger.proofs.balances.Balances.start.Goals as goal

pub returns : goal.returns
returns g c =
    let t = c.args.self.now in
    let n = c.args.number in
    meant_set t.rows n c.unwrap-i.result (Some _) t.free (ap (place n) t.sized ∙ sym c.place.ensures ∙ c.unwrap-i.ensures)
