-- Steps done to a chained ledger, and what its table holds after them. Assumes nothing.
use Rattle.std.proofs.Common.{◌≡◌, List, [], ◌∷◌, ◌∙◌}
use Rattle.ledger.specs.declared.posting.Entry.{Entry}
use Rattle.ledger.specs.Postings.{Step, enrols, posts, Recorded}
use Rattle.chained.specs.declared.cell.Cell.{Cell}
use Rattle.chained.specs.declared.chained.ChainedLedger.{ChainedLedger}
use Rattle.chained.specs.Lines.{filled, Wrote, Kept}

abbrev Table : Type 0
Table = List (Cell Entry)

-- the same table is lent all the while
pub same_lent : (l m : ChainedLedger) (steps : List Step) → Recorded Wrote Kept l steps m → m.table.ghost_name ≡ l.table.ghost_name
same_lent l m [] a = cc
same_lent l m (enrols n ∷ steps) a = let rest = same_lent a.0 m steps a.2 in let kept = a.1.table in cc
same_lent l m (posts p ∷ steps) a = same_lent a.0 m steps a.2 ∙ a.1.lent

-- and it holds the lines
pub cells_after : (l m : ChainedLedger) (steps : List Step) → Recorded Wrote Kept l steps m → m.table.now ≡ filled l.table.now l.links.used steps
cells_after l m [] a = cc
cells_after l m (enrols n ∷ steps) a = let rest = cells_after a.0 m steps a.2 in let table = a.1.table in let links = a.1.links in cc
cells_after l m (posts p ∷ steps) a = let rest = cells_after a.0 m steps a.2 in let cell = a.1.cell in let more = a.1.more in cc
