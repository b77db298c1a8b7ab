use Rattle.std.proofs.Common.{◌≡◌, Ok, refl, ap, ◌∙◌}
use Rattle.ledger.specs.Book.{with_line}
use Rattle.ledger.proofs.Granting.{second_granted}
use Rattle.ledger.proofs.Writing.{recorded_book}
use Rattle.ledger.proofs.both.post_both.Goals as goal

pub returns-in_err-check_both-clause-runs : goal.returns-in_err-check_both-clause-runs
returns-in_err-check_both-clause-runs g c = let L = g.L.Ledger in recorded_book L.wrote L.kept L.book L.tells L.keeps

pub returns : goal.returns
returns g c =
    let L = g.L.Ledger in
    let p = c.args.first in
    let q = c.args.second in
    let asked = c.in_ok-check_both.ensures in
    let first = c.in_ok-post.ensures in
    let second = c.post-2.ensures in
    let b = L.book c.args.ledger.now in
    let ok : c.post-2.result ≡ Ok tt = second.answer ∙ second_granted L.top b _ p q asked first.after in
    record {
      answer = ok ∙ asked;
      after = rw ok ((rw ok at second.after) ∙ ap (λ m. with_line m q) {y = with_line b p} first.after);
      records = rw ok (_, first.records, (_, rw ok at second.records, refl));
      runs = recorded_book L.wrote L.kept L.book L.tells L.keeps;
    }
