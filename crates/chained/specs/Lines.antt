-- The chained ledger: its book, what a posting and an enrolment do to its table, and what the table holds after them.
use Rattle.std.specs.Prelude.{◌≡◌, ℕ, ◌+◌, ◌<◌, List, [], ◌∷◌, length, ℤ, slice_set}
use Rattle.ledger.specs.declared.posting.Entry.{Entry}
use Rattle.ledger.specs.declared.posting.Posting.{Posting}
use Rattle.ledger.specs.Book.{Book, Answer, after, blank, enrol_answer, with_number}
use Rattle.ledger.specs.Held.{book_of}
use Rattle.ledger.specs.Postings.{Step, enrols, posts, both_answer}
use Rattle.chained.specs.declared.cell.Cell.{Cell}
use Rattle.chained.specs.declared.chained.ChainedLedger.{ChainedLedger}
use Rattle.chained.specs.Chain.{newest_of}
use Rattle.chained.specs.Linked.{room}

abbrev pub fen_of : Entry → ℤ
fen_of e = e.fen.fen

abbrev pub chained_book : ChainedLedger → Book
chained_book l = book_of l.balances

-- the line of a posting, in a table of which the first used cells hold lines: it leads to its number's line before it
abbrev pub line_in : List (Cell Entry) → ℕ → Posting → Cell Entry
line_in t used p = record { number = p.number; next = newest_of t used p.number; item = p.entry }

-- a granted posting sets the first unused cell to its line and keeps every other cell; the same table stays lent, and no
-- number is enrolled or struck off
pub record Wrote (l : ChainedLedger) (p : Posting) (m : ChainedLedger) : Type 0 where
  pub space : l.links.used < room (length l.table.now)
  pub cell : m.table.now ≡ slice_set l.table.now l.links.used (line_in l.table.now l.links.used p)
  pub more : m.links.used ≡ l.links.used + 1
  pub lent : m.table.ghost_name ≡ l.table.ghost_name
  pub numbers : (chained_book m).enrolled ≡ (chained_book l).enrolled

-- a granted enrolment leaves the table and its chains as they were
pub record Kept (l : ChainedLedger) (n : ℕ) (m : ChainedLedger) : Type 0 where
  pub table : m.table ≡ l.table
  pub links : m.links ≡ l.links
  pub book : chained_book m ≡ with_number (chained_book l) n

-- what a table, of which the first used cells hold lines, holds after some steps
abbrev pub filled : List (Cell Entry) → ℕ → List Step → List (Cell Entry)
filled t used [] = t
filled t used (enrols n ∷ steps) = filled t used steps
filled t used (posts p ∷ steps) = filled (slice_set t used (line_in t used p)) (used + 1) steps

-- what is answered where a new ledger over so many cells enrols a number and then posts two lines or none
abbrev pub opened_answer : ℕ → ℕ → Posting → Posting → Answer
opened_answer cells n p q =
    after (enrol_answer 200 (blank (room cells)) n) (both_answer 200 (with_number (blank (room cells)) n) p q) (enrol_answer 200 (blank (room cells)) n)
