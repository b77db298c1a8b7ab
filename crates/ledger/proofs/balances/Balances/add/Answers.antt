use Rattle.std.proofs.Common.{sym, ap, ◌∙◌}
use Rattle.ledger.specs.Rows.{place}
use Rattle.ledger.proofs.Rowed.{line_set}
use Rattle.ledger.proofs.balances.Balances.add.Goals as goal

pub returns : goal.returns
returns g c =
    let t = c.args.self.now in
    let p = c.args.posting in
    let at_place = ap (place p.number) t.sized ∙ sym c.place.ensures ∙ c.unwrap-i.ensures in
    line_set t.rows p c.unwrap-i.result c.unwrap-old.result c.grown-new.result t.free (sym c.unwrap-old.ensures ∙ c.balance.ensures.row) c.grown-new.ensures at_place
