-- The chains stay linked with one record more, and each is whole. Assumes nothing.
use Rattle.std.proofs.Common.{◌≡◌, ℕ, zero, suc, ◌+◌, ◌-◌, ◌<◌, ◌≤◌, List, [], ◌∷◌, length, replicate, set, ℤ, pos, sym, ap, ◌∙◌, subst, inl, inr, add-one, arith}
use Rattle.std.proofs.Math.Path.{fun_ext}
use Rattle.std.specs.List.{AllByRecursion}
use Rattle.std.proofs.lemmas.Bool.{cases_eq, cases_lt, eq-eqb, ne_eqb}
use Rattle.ledger.specs.Book.{at}
use Rattle.ledger.proofs.Changed.{indexed_set, indexed_same}
use Rattle.chained.specs.declared.cell.Cell.{Cell}
use Rattle.chained.specs.Chain.{number_at, next_at, amount_at, total, places, newest, newest_of, head, Heads, Nexts, Counts, Sums, ChainOf, Falling, Walk, ended, met}
use Rattle.chained.specs.Stepping.{field_old, field_new, number_old, places_same, of_places_step}

module _ {R : Type 0} (t : List (Cell R)) (used : ℕ) (c : Cell R) (space : used < length t) where
  pub heads_more : (heads : List ℕ) → 0 < c.number → c.number - 1 < length heads → Heads heads (number_at t) used → Heads (set heads (c.number - 1) (used + 1)) (number_at (set t used c)) (used + 1)
  heads_more heads p h all m =
      indexed_set heads c.number (used + 1) 0 p h m
      ∙ ap (λ f. at f c.number (used + 1) m) (fun_ext all)
      ∙ ap (λ z. at (λ k. newest (places (number_at t) k used)) c.number z m) (add-one used)
      ∙ sym (of_places_step t used c space newest m)

  pub nexts_more : (heads : List ℕ) → c.next ≡ head heads c.number → Heads heads (number_at t) used → Nexts (number_at t) (next_at t) used → Nexts (number_at (set t used c)) (next_at (set t used c)) (used + 1)
  nexts_more heads e all old j l =
      let number = number_at (set t used c) in
      let next = next_at (set t used c) in
      let was = number_old t used c space in
      elim (cases_lt j used) [
        | inl lt ↦
            (let now = field_old t used c space (λ (x : Cell R). x.next) 0 j lt in
            let before = old j lt in
            let mine = was j lt in
            let same = places_same number (number_at t) (number j) j (λ i b. was i (omega arith)) in
            cc)
        | inr ge ↦
            (let here : j ≡ used = omega arith in
            let now = field_new t used c space (λ (x : Cell R). x.next) 0 in
            let mine = field_new t used c space (λ (x : Cell R). x.number) 0 in
            let first = all c.number in
            let same = places_same number (number_at t) c.number used was in
            cc)
      ]

-- by the records one after the other: each is n's, or it is not
places_each : (number : ℕ → ℕ) (n : ℕ) (P : ℕ → List ℕ → Type 0) → P 0 [] → ((b : ℕ) → number b ≡ n → P b (places number n b) → P (suc b) (b ∷ places number n b)) → ((b : ℕ) → P b (places number n b) → P (suc b) (places number n b)) → (b : ℕ) → P b (places number n b)
unfolding places
places_each number n P none mine other zero = none
places_each number n P none mine other (suc b) =
    let again = places_each number n P none mine other b in
    elim (cases_eq (number b) n) [ inl y ↦ rw (eq-eqb (number b) n y) (mine b y again) | inr o ↦ rw (ne_eqb (number b) n o) (other b again) ]

-- from the newest of n's records among the first b, the walk meets exactly those
pub walked : (number next : ℕ → ℕ) (used : ℕ) → Nexts number next used → (n b : ℕ) → b ≤ used → Walk next (newest (places number n b)) (places number n b)
walked number next used nexts n =
    places_each number n (λ b js. b ≤ used → Walk next (newest js) js) (λ l. ended) (λ b mine again l.
    let on : next b ≡ newest (places number n b) = nexts b (omega arith) ∙ ap (λ k. newest (places number k b)) mine in
    met (subst (λ i. Walk next i (places number n b)) (sym on) (again (omega arith)))) (λ b again l. again (omega arith))

-- all of them are n's
places_own : (number : ℕ → ℕ) (n b : ℕ) → AllByRecursion (λ j. number j ≡ n) (places number n b)
places_own number n = places_each number n (λ b js. AllByRecursion (λ j. number j ≡ n) js) tt (λ b mine again. (mine, again)) (λ b again. again)

-- newest first
falling_up : (js : List ℕ) (a b : ℕ) → a ≤ b → Falling a js → Falling b js
falling_up [] a b l f = tt
falling_up (j ∷ js) a b l f = let h = f.0 in (omega arith, f.1)

places_fall : (number : ℕ → ℕ) (n b : ℕ) → Falling b (places number n b)
places_fall number n = places_each number n Falling tt (λ b mine again. (omega arith, again)) (λ b again. falling_up (places number n b) b (suc b) (omega arith) again)

pub chain_from : {R : Type 0} (amount : R → ℤ) (count : ℕ → ℕ) (sum : ℕ → ℤ) (t : List (Cell R)) (used n index : ℕ) → Nexts (number_at t) (next_at t) used → index ≡ newest_of t used n → Counts count t used → Sums amount sum t used → ChainOf amount t used n index (count n) (sum n)
chain_from amount count sum t used n index nexts h counts sums = record {
  walk = subst (λ (i : ℕ). Walk (next_at t) i (places (number_at t) n used)) (sym h) (walked (number_at t) (next_at t) used nexts n used (omega arith));
  own = places_own (number_at t) n used;
  order = places_fall (number_at t) n used;
  many = sym (counts n);
  comes = sym (sums n);
}

-- with no record, any table will do
no_places : (number : ℕ → ℕ) (n used : ℕ) → used ≡ 0 → places number n used ≡ []
unfolding places
no_places number n used z = ap (places number n) z

pub none_heads : (heads : List ℕ) (number : ℕ → ℕ) (used k : ℕ) → heads ≡ replicate k 0 → used ≡ 0 → Heads heads number used
none_heads heads number used k e z n = ap (λ h. head h n) e ∙ indexed_same k n 0 ∙ sym (ap newest (no_places number n used z))

pub none_counts : {R : Type 0} (count : ℕ → ℕ) (t : List (Cell R)) (used : ℕ) → used ≡ 0 → count ≡ (λ _. 0) → Counts count t used
none_counts count t used z e n = ap (λ f. f n) e ∙ sym (ap length (no_places (number_at t) n used z))

pub none_sums : {R : Type 0} (amount : R → ℤ) (sum : ℕ → ℤ) (t : List (Cell R)) (used : ℕ) → used ≡ 0 → sum ≡ (λ _. pos 0) → Sums amount sum t used
none_sums amount sum t used z e n = ap (λ f. f n) e ∙ sym (ap (total (amount_at amount t)) (no_places (number_at t) n used z))
