use Rattle.std.proofs.Common.{[], ◌∷◌, ◌++◌, sym, refl, ap, ◌∙◌, append_assoc}
use Rattle.std.proofs.Output.{writes_in_calls_nil, has_written_append, has_written_of_eq}
use Rattle.bill.specs.Walks.{to_come}
use Rattle.bill.proofs.Listed.{page_push}
use Rattle.bill.proofs.texts.BillDisplay.fmt.Goals as goal

pub loop-line-init : goal.loop-line-init
loop-line-init g c = record {
  can_next = tt;
  is_finite = tt;
  lines = ap to_come c.into_iter-line-iterator.ensures.into_iter_gives ∙ c.lines-line-items.ensures;
  text = λ plain. record { wrote = writes_in_calls_nil g.W.Write.write_str_gives _; plain = plain };
}

pub loop-line-preserved : goal.loop-line-preserved
loop-line-preserved g c =
    let took = g.W.Write.write_str_gives in
    let before = c.loop-line.yielded in
    let line = c.in-Some.line in
    record {
      can_next = tt;
      is_finite = tt;
      lines = append_assoc before (line ∷ []) (to_come c.next.new.self) ∙ ap (λ ls. before ++ ls) (sym c.in-Some.ensures.steps) ∙ c.loop-line.invariant.lines;
      text = λ plain.
          let so_far = c.loop-line.invariant.text plain in
          has_written_of_eq took _ _ _ _ (sym (page_push before line)) (has_written_append took _ _ _ _ _ so_far (c.in_ok-writeln.ensures.writes so_far.plain refl));
    }
