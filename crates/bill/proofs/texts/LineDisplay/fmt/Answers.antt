use Rattle.std.proofs.Common.{◌≡◌, ℕ, cond, List, ◌++◌, codes, decimal, sym, ap, ◌∙◌, rules}
use Rattle.std.proofs.Output.{has_written_of_eq}
use Rattle.bill.specs.Texts.{line}
use Rattle.bill.proofs.texts.LineDisplay.fmt.Goals as goal
use Rattle.bill.proofs.texts.LineDisplay.fmt.Goals.{then-multi, else-multi}

pub returns-after-multi-clause-writes : goal.returns-after-multi-clause-writes
returns-after-multi-clause-writes g c = λ plain ok.
    let note : codes " kWh" ++ c.if-multi.note.now ≡ cond c.in-Month.multi (codes " kWh, multi-person") (codes " kWh") = elim c.if-multi.branch [ then-multi w ↦ search rules | else-multi w ↦ search rules ] in
    has_written_of_eq g.W.Write.write_str_gives _ _ _ _ (ap (λ (t : List ℕ). codes "month " ++ (decimal c.in-Month.month ++ (codes ": " ++ (decimal c.in-Month.kwh.kwh ++ t)))) note ∙ ap line (sym c.in-Month.is)) (c.write.ensures.writes plain ok)

pub returns-in-Sum-clause-writes : goal.returns-in-Sum-clause-writes
returns-in-Sum-clause-writes g c = λ plain ok. has_written_of_eq g.W.Write.write_str_gives _ _ _ _ (ap line (sym c.in-Sum.is)) (c.write-in-Sum.ensures.writes plain ok)
