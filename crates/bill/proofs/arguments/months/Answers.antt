use Rattle.std.proofs.Common.{◌+◌, None, Some, string_bytes, ◌∙◌, arith, length-set}
use Rattle.std.proofs.lemmas.List.{length-map}
use Rattle.bill.specs.declared.household.ArgumentFault.TheVariants.{Kwh}
use Rattle.bill.proofs.Argued.{read_at, refused_or, months_more, month_fault}
use Rattle.bill.proofs.arguments.months.Goals as goal

pub returns-in_err-n : goal.returns-in_err-n
returns-in_err-n c =
    let e = c.in_err-n.ensures in
    let none = read_at string_bytes c.args.year.now c.loop-i.i c.index-year-i.result 0 999999 _ _ None (omega arith) c.deref.ensures e.ok_part c.number.ensures in
    rw (refused_or c.from_residual.result c.number.result c.in_err-n.field-0.0 (Kwh (c.loop-i.i + 1)) c.from_residual.ensures.1 e.value)
    (month_fault _ c.loop-i.i c.loop-i.kwh (length-map c.args.year.now string_bytes ∙ c.type_inv.year) (omega arith) c.loop-i.invariant.0 none)

pub loop-i-preserved : goal.loop-i-preserved
loop-i-preserved c =
    let read = read_at string_bytes c.args.year.now c.loop-i.i c.index-year-i.result 0 999999 _ _ (Some c.in_ok-n.n) (omega arith) c.deref.ensures c.in_ok-n.ensures.ok_part c.number.ensures in
    (months_more _ c.loop-i.i c.in_ok-n.n c.loop-i.kwh (omega (arith, c.loop-i.invariant.1)) read c.loop-i.invariant.0, length-set _ _ _ ∙ c.loop-i.invariant.1)
