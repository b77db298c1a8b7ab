-- The book of the ledgers that keep counts and sums.
use Rattle.std.specs.Prelude.{ℕ}
use Rattle.ledger.specs.Book.{Book}
use Rattle.ledger.specs.Rows.{meant}
use Rattle.ledger.specs.declared.balances.Balances.{Balances}
use Rattle.ledger.specs.declared.counting.CountingLedger.{CountingLedger}

abbrev pub book_of : {N : ℕ} → Balances N → Book
book_of x = meant x.rows x.free

abbrev pub counting_book : CountingLedger → Book
counting_book l = book_of l.balances
