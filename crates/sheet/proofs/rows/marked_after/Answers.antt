use Rattle.std.proofs.Common.{ℕ, suc, ◌+◌, ◌<◌, length, Bool, cond, leb, get_or, sym, ap, ◌∙◌, subst, arith, le-leb}
use Rattle.std.proofs.lemmas.Bool.{lt-leb}
use Rattle.sheet.specs.Rows.{marked, none}
use Rattle.sheet.specs.declared.row.Row.{Row}
use Rattle.sheet.specs.declared.row.Marking.{Marking}
use Rattle.sheet.proofs.Changing.{Changed, unchanged, set_one, all_changed}
use Rattle.sheet.proofs.rows.marked_after.Goals as goal
use Rattle.sheet.proofs.rows.marked_after.Goals.{then-i-month, else-i-month}

-- what becomes of a row of month k
abbrev after : ℕ → Marking → ℕ → Row → Row
after m g k r = cond (leb k m) r (marked g r)

pub loop-i-init : goal.loop-i-init
loop-i-init c = unchanged (after c.args.month c.args.marking) _

pub loop-i-preserved : goal.loop-i-preserved
loop-i-preserved c =
    let f = after c.args.month c.args.marking in
    let old = c.args.old.now in
    let row = get_or old c.loop-i.i none in
    let chosen = λ (b : Bool). cond b row (marked c.args.marking row) in
    let here = c.loop-i.invariant.after c.loop-i.i (omega arith) in
    let room : c.loop-i.i < length old = omega (arith, c.told-old) in
    elim c.if-i-month.branch [
      | then-i-month w ↦
          let late = lt-leb (suc c.loop-i.i) c.args.month (omega (arith, w.if-i-month.true)) in
          let is = w.marked.ensures ∙ ap (marked c.args.marking) here ∙ sym (ap chosen late) in
          subst (Changed f (c.loop-i.i + 1) old) (sym w.row-items-is) (set_one f c.loop-i.i old _ _ room is c.loop-i.invariant)
      | else-i-month w ↦
          let early = le-leb (suc c.loop-i.i) c.args.month (omega (arith, w.if-i-month.false)) in
          let is = here ∙ sym (ap chosen early) in
          subst (Changed f (c.loop-i.i + 1) old) (sym w.row-items-is) (set_one f c.loop-i.i old _ _ room is c.loop-i.invariant)
    ]

pub returns : goal.returns
returns c = all_changed (after c.args.month c.args.marking) c.loop-i.i _ _ (omega (arith, c.told-old)) c.loop-i.invariant
