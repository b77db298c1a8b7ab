-- The book that a row for each account number and a count of free lines mean.
use Rattle.std.specs.Prelude.{ℕ, ◌+◌, ◌-◌, cond, List, ℤ, pos, ◌+ℤ◌, is_some, Some, None, Option}
use Rattle.ledger.specs.Book.{Book, indexed, within}
use Rattle.ledger.specs.declared.balance.Balance.{Balance}

-- the count and the sum of a row: 0 where its number is not enrolled
abbrev pub count_of : Option Balance → ℕ
count_of None = 0
count_of (Some x) = x.count

abbrev pub sum_of : Option Balance → ℤ
sum_of None = pos 0
sum_of (Some x) = x.sum.fen

-- the row of a number: the first is that of 1
abbrev pub row : List (Option Balance) → ℕ → Option Balance
row rows n = indexed rows None n

-- a number is enrolled where it has a balance in its row
abbrev pub meant : List (Option Balance) → ℕ → Book
meant rows free = record { enrolled = λ n. is_some (row rows n); count = λ n. count_of (row rows n); sum = λ n. sum_of (row rows n); free = free }

-- the place of a number's row among so many
abbrev pub place : ℕ → ℕ → Option ℕ
place n many = cond (within many n) (Some (n - 1)) None

-- a balance with one line more
abbrev pub grown : Balance → ℤ → Balance
grown x fen = record { count = x.count + 1; sum = record { fen = x.sum.fen +ℤ fen } }
