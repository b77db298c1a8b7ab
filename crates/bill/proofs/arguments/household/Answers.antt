use Rattle.std.proofs.Common.{Some, None, string_bytes, ◌∙◌, arith}
use Rattle.bill.specs.declared.household.ArgumentFault.TheVariants.{Month}
use Rattle.bill.proofs.Argued.{refused_or, how_many, first_months, mark_read, some_months}
use Rattle.bill.proofs.arguments.household.Goals as goal

pub returns-in_err-month-in-Some-default-len1 : goal.returns-in_err-month-in-Some-default-len1
returns-in_err-month-in-Some-default-len1 c =
    let w = c.in-Some-default-len1 in
    let e = c.in_err-month-in-Some-default-len1.ensures in
    let months = first_months string_bytes _ _ _ w.ensures.cases c.in_ok-kwh-in-Some-default-len1.kwh c.in_ok-kwh-in-Some-default-len1.ensures in
    let none = mark_read string_bytes _ _ _ w.ensures.cases c.month-item.result _ _ None w.len_at_least c.month-item.is c.deref.ensures e.ok_part c.number.ensures in
    rw (refused_or _ c.number.result _ Month c.from_residual-in_err-month-in-Some-default-len1.ensures.1 e.value)
    (how_many string_bytes _ _ _ w.ensures.cases ∙ omega arith, some_months _ 12 12 _ (omega arith) months, none)

pub returns-in_ok-month-in-Some-default-len1 : goal.returns-in_ok-month-in-Some-default-len1
returns-in_ok-month-in-Some-default-len1 c =
    let w = c.in-Some-default-len1 in
    let e = c.in_ok-month-in-Some-default-len1 in
    let month = mark_read string_bytes _ _ _ w.ensures.cases c.month-item.result _ _ (Some e.month) w.len_at_least c.month-item.is c.deref.ensures e.ensures.ok_part c.number.ensures in
    (first_months string_bytes _ _ _ w.ensures.cases _ c.in_ok-kwh-in-Some-default-len1.ensures, (how_many string_bytes _ _ _ w.ensures.cases ∙ omega arith, month))

pub returns-in_ok-months-in-Some-default-empty : goal.returns-in_ok-months-in-Some-default-empty
returns-in_ok-months-in-Some-default-empty c =
    let w = c.in-Some-default-empty in
    (first_months string_bytes _ _ _ w.ensures.cases _ c.in_ok-months-in-Some-default-empty.ensures, how_many string_bytes _ _ _ w.ensures.cases ∙ omega arith)
