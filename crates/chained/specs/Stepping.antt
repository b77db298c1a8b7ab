-- What one record more does to the chains of a table. Proofs, which stand here since a ghost member cites them.
use Rattle.std.specs.Prelude.{◌≡◌, ℕ, zero, suc, ◌+◌, ◌<◌, Bool, true, false, cond, List, ◌∷◌, map, length, get_or, ℤ, pos, ◌+ℤ◌, ◌==◌, slice_index_or, slice_set, refl}
use Rattle.std.proofs.Common.{arith, add-one, sym, ap₂, ◌∙◌}
use Rattle.std.proofs.Math.Path.{ap, fun_ext}
use Rattle.std.proofs.lemmas.List.{length-map, map-set, get_or-set_same, get_or-set_other}
use Rattle.std.proofs.lemmas.Bool.Decides.{nat_tests}
use Rattle.ledger.specs.Book.{at}
use Rattle.ledger.proofs.Changed.{at_map}
use Rattle.chained.specs.declared.cell.Cell.{Cell}
use Rattle.chained.specs.Chain.{number_at, amount_at, places, total, Counts, Sums}

-- the first b records decide
pub places_same : (f g : ℕ → ℕ) (n b : ℕ) → ((j : ℕ) → j < b → f j ≡ g j) → places f n b ≡ places g n b
unfolding places
places_same f g n zero h = refl
places_same f g n (suc b) h = ap₂ (λ x ys. cond (x == n) (b ∷ ys) ys) (h b (omega arith)) (places_same f g n b (λ j l. h j (omega arith)))

total_cond : (v : Bool) (f g : ℕ → ℤ) (j : ℕ) (xs : List ℕ) → f j ≡ g j → total f xs ≡ total g xs → total f (cond v (j ∷ xs) xs) ≡ total g (cond v (j ∷ xs) xs)
total_cond true f g j xs e h = ap₂ ◌+ℤ◌ h e
total_cond false f g j xs e h = h

total_same : (number : ℕ → ℕ) (f g : ℕ → ℤ) (n b : ℕ) → ((j : ℕ) → j < b → f j ≡ g j) → total f (places number n b) ≡ total g (places number n b)
unfolding places
total_same number f g n zero h = refl
total_same number f g n (suc b) h = total_cond (number b == n) f g b (places number n b) (h b (omega arith)) (total_same number f g n b (λ j l. h j (omega arith)))

-- a choice by number is a change at that number
step : {A : Type 0} (x n m : ℕ) (g f : ℕ → A) → x ≡ n → cond (x == m) (g m) (f m) ≡ at f n (g n) m
step x n m g f e = grind (arith, nat_tests)

module _ {R : Type 0} (t : List (Cell R)) (used : ℕ) (c : Cell R) (space : used < length t) where
  -- a field of a cell that was there, and of the new one
  pub field_old : {X : Type 0} (f : Cell R → X) (d : X) (j : ℕ) → j < used → slice_index_or (map f (slice_set t used c)) j d ≡ slice_index_or (map f t) j d
  field_old f d j l = ap (λ xs. get_or xs j d) (map-set f t used c) ∙ get_or-set_other (map f t) used j (f c) d (omega arith)

  pub field_new : {X : Type 0} (f : Cell R → X) (d : X) → slice_index_or (map f (slice_set t used c)) used d ≡ f c
  field_new f d = ap (λ xs. get_or xs used d) (map-set f t used c) ∙ get_or-set_same (map f t) used (f c) d (omega (arith, length-map t f))

  pub number_old : (j : ℕ) → j < used → number_at (slice_set t used c) j ≡ number_at t j
  number_old = field_old (λ (x : Cell R). x.number) 0

  -- the record is the newest of its number, and other numbers keep theirs
  places_step : (m : ℕ) → places (number_at (slice_set t used c)) m (used + 1) ≡ at (λ k. places (number_at t) k used) c.number (used ∷ places (number_at t) c.number used) m
  unfolding places
  places_step m =
      let new = number_at (slice_set t used c) in
      ap (places new m) (add-one used)
      ∙ step (new used) c.number m (λ k. used ∷ places new k used) (λ k. places new k used) (field_new (λ (x : Cell R). x.number) 0)
      ∙ ap (λ f. at f c.number (used ∷ f c.number) m) (fun_ext (λ k. places_same new (number_at t) k used number_old))

  -- so anything that is told by the places of a number
  pub of_places_step : {X : Type 0} (f : List ℕ → X) (m : ℕ) → f (places (number_at (slice_set t used c)) m (used + 1)) ≡ at (λ k. f (places (number_at t) k used)) c.number (f (used ∷ places (number_at t) c.number used)) m
  of_places_step f m = ap f (places_step m) ∙ at_map f (λ k. places (number_at t) k used) c.number (used ∷ places (number_at t) c.number used) m

  -- the counts and sums of each number with one record more
  pub counts_step : (count : ℕ → ℕ) → Counts count t used → (m : ℕ) → length (places (number_at (slice_set t used c)) m (used + 1)) ≡ at count c.number (count c.number + 1) m
  counts_step count all m =
      of_places_step length m
      ∙ ap (λ z. at (λ k. length (places (number_at t) k used)) c.number z m) (sym (add-one (length (places (number_at t) c.number used))))
      ∙ ap (λ f. at f c.number (f c.number + 1) m) (sym (fun_ext all))

  pub sums_step : (amount : R → ℤ) (sum : ℕ → ℤ) → Sums amount sum t used → (m : ℕ) → total (amount_at amount (slice_set t used c)) (places (number_at (slice_set t used c)) m (used + 1)) ≡ at sum c.number (sum c.number +ℤ amount c.item) m
  sums_step amount sum all m =
      let field : Cell R → ℤ = λ x. amount x.item in
      let new : ℕ → ℤ = λ k. total (amount_at amount (slice_set t used c)) (places (number_at t) k used) in
      let old : ℕ → ℤ = λ k. total (amount_at amount t) (places (number_at t) k used) in
      let same : new ≡ old = fun_ext (λ k. total_same (number_at t) (amount_at amount (slice_set t used c)) (amount_at amount t) k used (field_old field (pos 0))) in
      of_places_step (total (amount_at amount (slice_set t used c))) m
      ∙ ap (λ z. at new c.number (new c.number +ℤ z) m) (field_new field (pos 0))
      ∙ ap (λ f. at f c.number (f c.number +ℤ field c) m) (same ∙ sym (fun_ext all))
