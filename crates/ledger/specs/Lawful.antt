-- Rows of balances keep to what every ledger's book keeps to. A proof, which stands here since a ghost member cites it.
use Rattle.std.specs.Prelude.{◌≡◌, ℕ, zero, suc, ◌-◌, ◌*◌, ◌<◌, ◌≤◌, true, false, ◌⊎◌, List, length, take, is_some, None, sum_by, Option, slice_index_or, unsigned_abs, refl}
use Rattle.std.proofs.Common.{arith, inl, inr, sym, ap, ◌∙◌}
use Rattle.std.proofs.lemmas.List.{take_all}
use Rattle.std.proofs.lemmas.List.Sums.{sum_by_more, sum_by-take-le}
use Rattle.std.proofs.lemmas.Grind.{common_steps}
use Rattle.std.proofs.lemmas.Bool.{cases_lt}
use Rattle.ledger.specs.declared.balance.Balance.{Balance}
use Rattle.ledger.specs.declared.balances.Balances.{Balances}
use Rattle.ledger.specs.Book.{upto, within, amount_limit, Lawful}
use Rattle.ledger.specs.Held.{book_of}
use Rattle.ledger.specs.Rows.{count_of, sum_of, row}

-- what one row keeps to
abbrev pub Bounded : Option Balance → Type 0
Bounded r = unsigned_abs (sum_of r) ≤ count_of r * amount_limit

-- how many lines the book counts up to a number
upto_rows : (rows : List (Option Balance)) (k : ℕ) → upto (λ n. count_of (row rows n)) k ≡ sum_by count_of (take k rows)
unfolding upto
upto_rows rows zero = refl
upto_rows rows (suc k) =
    let again = upto_rows rows k in
    elim (cases_lt k (length rows)) [ inl lt ↦ (let one = sum_by_more count_of rows k None lt in grind (arith, common_steps)) | inr ge ↦ grind (arith, common_steps, take_all) ]

row_bounded : (rows : List (Option Balance)) → ((k : ℕ) → Bounded (slice_index_or rows k None)) → (n : ℕ) → Bounded (row rows n)
row_bounded rows h n = let at = h (n - 1) in grind (arith, common_steps)

-- a number with no row of its own has no balance
pub row_outside : (rows : List (Option Balance)) (N n : ℕ) → length rows ≡ N → (n ≡ 0) ⊎ (N < n) → row rows n ≡ None
row_outside rows N n l (inl z) = grind (arith, common_steps)
row_outside rows N n l (inr far) = grind (arith, common_steps)

-- from what cannot be
pub impossible : {P : Type 0} → ◌≡◌ {A = ℕ} 0 1 → P
impossible z = let no : ⊥ = omega arith in absurd no

absent : {P : Type 0} (r : Option Balance) → r ≡ None → is_some r ≡ true → P
absent r e h = let t : true ≡ false = sym h ∙ ap is_some e in impossible (cc)

pub row_within : (rows : List (Option Balance)) (N n : ℕ) → length rows ≡ N → is_some (row rows n) ≡ true → within N n ≡ true
row_within rows N n l e = grind (arith, common_steps)

no_lines : (r : Option Balance) → is_some r ≡ false → count_of r ≡ 0
no_lines r e = grind arith

pub lawful_book : {N : ℕ} (x : Balances N) → Lawful N (book_of x)
lawful_book {N} x = record {
  lines = let room = x.room in omega (arith, upto_rows x.rows N, sum_by-take-le count_of x.rows N);
  sums = row_bounded x.rows x.bounded;
  numbers = λ n. row_within x.rows N n x.sized;
  vacant = λ n. no_lines (row x.rows n);
}
