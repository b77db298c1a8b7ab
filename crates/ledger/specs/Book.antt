-- What a ledger means, and what each of its calls answers and leaves.
use Rattle.std.specs.Prelude.{◌≡◌, ℕ, zero, suc, ◌+◌, ◌-◌, ◌*◌, ◌≤◌, Bool, true, false, cond, not, ◌&&◌, List, [], ◌∷◌, ℤ, pos, ◌+ℤ◌, Ok, Err, Result, ◌==◌, nat_le, nat_lt, slice_index_or, unsigned_abs}
use Rattle.fault.specs.Refusals.{first}
use Rattle.ledger.specs.declared.refusal.LedgerFault.{LedgerFault}
use Rattle.ledger.specs.declared.refusal.LedgerFault.TheVariants.{Number, Amount, Full}
use Rattle.ledger.specs.declared.posting.Posting.{Posting}

-- which account numbers are enrolled, the line count and fen sum of each, and how many lines are free
pub record Book : Type 0 where
  pub enrolled : ℕ → Bool
  pub count : ℕ → ℕ
  pub sum : ℕ → ℤ
  pub free : ℕ

-- the most lines that a ledger holds, those that are free included
abbrev pub line_limit : ℕ
line_limit = 100000

-- the largest amount of a line, in fen, either way
abbrev pub amount_limit : ℕ
amount_limit = 10000000000000

-- what stands at n in a list that is counted from 1; d where nothing does
abbrev pub indexed : {A : Type 0} → List A → A → ℕ → A
indexed xs d n = cond (nat_lt 0 n) (slice_index_or xs (n - 1) d) d

-- x at n, and elsewhere as f
abbrev pub at : {A : Type 0} → (ℕ → A) → ℕ → A → ℕ → A
at f n x k = cond (k == n) x (f k)

-- f 1 + … + f n
unfoldable pub upto : (ℕ → ℕ) → ℕ → ℕ
upto f zero = 0
upto f (suc n) = upto f n + f (suc n)

-- a number from 1 to the greatest that a ledger enrols
abbrev pub within : ℕ → ℕ → Bool
within top n = nat_lt 0 n && nat_le n top

-- a number that a call may name, enrolling aside: from 1 to the greatest, and enrolled
abbrev pub known : ℕ → Book → ℕ → Bool
known top b n = within top n && b.enrolled n

-- the fen of a posting
abbrev pub amount : Posting → ℤ
amount p = p.entry.fen.fen

-- a posting whose amount a line may hold
abbrev pub payable : Posting → Bool
payable p = nat_le (unsigned_abs (amount p)) amount_limit

-- granted, or refused for a reason
abbrev pub Answer : Type 0
Answer = Result (Unit {0}) LedgerFault

-- what enrolling a number answers
abbrev pub enrol_answer : ℕ → Book → ℕ → Answer
enrol_answer top b n = first ((not (within top n), Number) ∷ (b.enrolled n, Number) ∷ [])

-- what posting answers
abbrev pub post_answer : ℕ → Book → Posting → Answer
post_answer top b p =
    first ((not (known top b p.number), Number) ∷ (not (payable p), Amount) ∷ (b.free == 0, Full) ∷ [])

-- what a question about a number is answered: the fact that is asked for, where the number is known
abbrev pub answer_about : {A : Type 0} → ℕ → Book → ℕ → A → Result A LedgerFault
answer_about top b n fact = cond (known top b n) (Ok fact) (Err Number)

-- the book with a number enrolled: it has no lines yet
abbrev pub with_number : Book → ℕ → Book
with_number b n = record { enrolled = at b.enrolled n true; count = at b.count n 0; sum = at b.sum n (pos 0); free = b.free }

-- the book with one line more
abbrev pub with_line : Book → Posting → Book
with_line b p = record {
  enrolled = b.enrolled;
  count = at b.count p.number (b.count p.number + 1);
  sum = at b.sum p.number (b.sum p.number +ℤ amount p);
  free = b.free - 1;
}

-- what a granted call leaves, or a refused one
abbrev pub after : {A B : Type 0} → Result A LedgerFault → B → B → B
after (Ok _) granted refused = granted
after (Err _) granted refused = refused

-- what a granted call did, or a refused one
abbrev pub did : {A : Type 0} → Result A LedgerFault → Type 0 → Type 0 → Type 0
did (Ok _) granted refused = granted
did (Err _) granted refused = refused

-- no number is enrolled
abbrev pub blank : ℕ → Book
blank free = record { enrolled = λ _. false; count = λ _. 0; sum = λ _. pos 0; free = free }

-- what the book of every ledger keeps to
pub record Lawful (top : ℕ) (b : Book) : Type 0 where
  -- no more lines than the limit, those that are free included: each of them can be posted
  pub lines : upto b.count top + b.free ≤ line_limit
  -- no sum beyond its count times the largest amount
  pub sums : (n : ℕ) → unsigned_abs (b.sum n) ≤ b.count n * amount_limit
  -- an enrolled number is from 1 to the greatest
  pub numbers : (n : ℕ) → b.enrolled n ≡ true → within top n ≡ true
  -- a number that is not enrolled has no lines
  pub vacant : (n : ℕ) → b.enrolled n ≡ false → b.count n ≡ 0
