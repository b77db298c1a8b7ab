use Rattle.std.proofs.Common.{◌≡◌, length, Err, ap, ◌∙◌, arith}
use Rattle.std.proofs.lemmas.Grind.{common_steps}
use Rattle.ledger.specs.Book.{Book, after, blank, enrol_answer, with_number}
use Rattle.ledger.specs.Postings.{both_answer}
use Rattle.chained.specs.Linked.{room}
use Rattle.chained.proofs.lending.open_with_both.Goals as goal

pub returns-in_err-enrol-clause-answer : goal.returns-in_err-enrol-clause-answer
returns-in_err-enrol-clause-answer c =
    let fresh = blank (room (length c.args.table.now)) in
    let n = c.args.number in
    let asked = c.in_err-enrol.ensures.answer ∙ ap (λ (b : Book). enrol_answer 200 b n) c.new-ledger.ensures.book in
    let said : c.from_residual.result ≡ Err c.in_err-enrol.field-0.0 = grind (arith, common_steps) in
    said ∙ ap (λ a. after a (both_answer 200 (with_number fresh n) c.args.first c.args.second) a) asked

pub returns-clause-answer : goal.returns-clause-answer
returns-clause-answer c =
    let fresh = blank (room (length c.args.table.now)) in
    let n = c.args.number in
    let made = c.new-ledger.ensures.book in
    let granted = c.in_ok-enrol.ensures.answer ∙ ap (λ (b : Book). enrol_answer 200 b n) made in
    let book = c.in_ok-enrol.ensures.after ∙ ap (λ (b : Book). with_number b n) made in
    let both : Book → _ = λ b. both_answer 200 b c.args.first c.args.second in
    c.post_both.ensures.answer ∙ ap both book ∙ ap (λ a. after a (both (with_number fresh n)) a) granted
