-- A function changed at one number, and a list that holds what stands at each number from 1 on. Assumes nothing.
use Rattle.std.proofs.Common.{◌≡◌, ℕ, ◌-◌, ◌<◌, List, length, set, replicate, arith}
use Rattle.std.proofs.Math.Path.{fun_ext}
use Rattle.std.proofs.lemmas.Grind.{common_steps}
use Rattle.ledger.specs.Book.{at, indexed}

pub at_map : {A B : Type 0} (f : A → B) (g : ℕ → A) (n : ℕ) (x : A) (k : ℕ) → f (at g n x k) ≡ at (λ j. f (g j)) n (f x) k
at_map f g n x k = grind (arith, common_steps)

pub at_same : {A : Type 0} (f : ℕ → A) (n : ℕ) (x : A) → f n ≡ x → at f n x ≡ f
at_same f n x e = fun_ext (λ k. grind (arith, common_steps))

-- what stands in a list after a write at n
pub indexed_set : {A : Type 0} (xs : List A) (n : ℕ) (y d : A) → 0 < n → n - 1 < length xs → (k : ℕ) → indexed (set xs (n - 1) y) d k ≡ at (indexed xs d) n y k
indexed_set xs n y d p h k = grind (arith, common_steps)

-- in a list of nothing but d
pub indexed_same : {A : Type 0} (many n : ℕ) (d : A) → indexed (replicate many d) d n ≡ d
indexed_same many n d = grind (arith, common_steps)
