-- The rows of a year made, or written, one after the other, each by its month.
use Rattle.std.proofs.lemmas.List.{ext_get_or}
use Rattle.std.proofs.Common.{◌≡◌, ◌≢◌, ℕ, zero, suc, ◌+◌, ◌<◌, ◌≤◌, List, [], ◌∷◌, map, length, get_or, set, subst, sym, refl, ap, ◌∙◌, arith, below_more, length-set, get_or-set_same, get_or-set_other}
use Rattle.std.proofs.lemmas.List.FromFn.{fill_by_all}
use Rattle.std.specs.List.{range_with_len}
use Rattle.std.specs.Array.{IsFromFnResult, IsFromFnResultFrom}
use Rattle.std.specs.Fn.{Called}
use denote.Param.Members.{Mut}
use Rattle.sheet.specs.Rows.{none, numbered}
use Rattle.sheet.specs.declared.row.Row.{Row}

module _ {F : Type 0} (g : Mut F (ℕ × Unit {0}) Row) (f : F) (h : ℕ → Row) (is : (i : ℕ) (y : Row) (q : F) → Called g f (i, tt) y q → (q ≡ f) × (y ≡ h i)) where
  made_at : (rows : List Row) (i n k j : ℕ) → IsFromFnResultFrom g f rows i n → k < n → i + k ≡ j → get_or rows j none ≡ h j
  made_at rows i zero k j made l e = absurd (omega arith)
  made_at rows i (suc n) zero j (q, y, at, call, rest) l e =
      let here : i ≡ j = omega arith in subst (λ j. get_or rows j none ≡ h j) here (at.1 none ∙ (is i y q call).1)
  made_at rows i (suc n) (suc k) j (q, y, at, call, rest) l e =
      made_at rows (i + 1) n k j (subst (λ p. IsFromFnResultFrom g p rows (i + 1) n) (is i y q call).0 rest) (omega arith) (omega arith)

  -- rows made by a closure that changes nothing
  pub made_by_index : (rows : List Row) (n : ℕ) → IsFromFnResult g f rows n → rows ≡ map h (range_with_len 0 n)
  made_by_index rows n made = fill_by_all h rows n none made.long (λ k l. made_at rows 0 n k k made.each l (omega arith))

rows_size : (f : ℕ → Row → Row) (k : ℕ) (s : List Row) → length (numbered f k s) ≡ length s
unfolding numbered
rows_size f k [] = refl
rows_size f k (r ∷ s) = ap suc (rows_size f (k + 1) s)

rows_at : (f : ℕ → Row → Row) (k : ℕ) (s : List Row) (i : ℕ) → i < length s → get_or (numbered f k s) i none ≡ f (k + i) (get_or s i none)
unfolding numbered
rows_at f k [] i h = absurd (omega arith)
rows_at f k (r ∷ s) zero h = grind arith
rows_at f k (r ∷ s) (suc i) h = grind (arith, rows_at f (k + 1) s i)

pub numbered_by_index : (f : ℕ → Row → Row) (s : List Row) (n : ℕ) → length s ≡ n → numbered f 1 s ≡ map (λ i. f (i + 1) (get_or s i none)) (range_with_len 0 n)
numbered_by_index f s n e = fill_by_all (λ i. f (i + 1) (get_or s i none)) (numbered f 1 s) n none (rows_size f 1 s ∙ e) (λ k l. rows_at f 1 s k (omega arith) ∙ ap (λ n. f n (get_or s k none)) (omega arith))

-- ---- rows written one after the other

-- the rows below i are f of their month and what they were in s; the others are as in s
pub record Changed (f : ℕ → Row → Row) (i : ℕ) (s t : List Row) : Type 0 where
  pub size : length t ≡ length s
  pub before : (k : ℕ) → k < i → get_or t k none ≡ f (suc k) (get_or s k none)
  pub after : (k : ℕ) → i ≤ k → get_or t k none ≡ get_or s k none

pub unchanged : (f : ℕ → Row → Row) (s : List Row) → Changed f 0 s s
unchanged f s = record { size = refl; before = λ k h. absurd (omega arith); after = λ k h. refl }

-- one row more, which stays as it is
pub kept_one : (f : ℕ → Row → Row) (i : ℕ) (s t : List Row) → f (suc i) (get_or s i none) ≡ get_or s i none → Changed f i s t → Changed f (i + 1) s t
kept_one f i s t same d = record {
  size = d.size;
  before = below_more _ i d.before (d.after i (omega arith) ∙ sym same);
  after = λ k l. d.after k (omega arith);
}

-- one row more, written
pub set_one : (f : ℕ → Row → Row) (i : ℕ) (s t : List Row) (v : Row) → i < length s → v ≡ f (suc i) (get_or s i none) → Changed f i s t → Changed f (i + 1) s (set t i v)
set_one f i s t v l is d = record {
  size = length-set t i _ ∙ d.size;
  before = below_more _ i
      (λ k b. let ne : k ≢ i = omega arith in get_or-set_other t i k _ none ne ∙ d.before k b)
      (get_or-set_same t i _ none (omega (arith, d.size)) ∙ is);
  after = λ k b. let ne : k ≢ i = omega arith in get_or-set_other t i k _ none ne ∙ d.after k (omega arith);
}

pub all_changed : (f : ℕ → Row → Row) (i : ℕ) (s t : List Row) → length s ≤ i → Changed f i s t → t ≡ numbered f 1 s
all_changed f i s t h d =
    ext_get_or none t (numbered f 1 s) (d.size ∙ sym (rows_size f 1 s))
    (λ k l. let j : k < length s = omega (arith, d.size) in
    d.before k (omega arith) ∙ ap (λ n. f n (get_or s k none)) (omega arith) ∙ sym (rows_at f 1 s k j))
