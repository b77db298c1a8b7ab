-- The arguments of a command line, one after the other.
use Rattle.std.proofs.Common.{◌≡◌, ℕ, ◌+◌, ◌-◌, ◌<◌, ◌≤◌, List, [], map, length, get_or, set, take, drop, None, Some, Ok, Err, Option, Result, sym, ap, ◌∙◌, subst, arith, get_or-set_other, get_or-set_same, below_more}
use Rattle.std.specs.Option.{ok_or}
use Rattle.std.specs.Result.{IsErrAnd}
use Rattle.std.proofs.lemmas.List.{get_or-map, get_or-take, get_or-drop, length-take, length-map, take-map}
use Rattle.sheet.specs.Rows.{kwh_of}
use Rattle.sheet.specs.declared.quantity.Kwh.{Kwh as Quantity}
use Rattle.bill.specs.Arguments.{Writes, Read, Months, SomeMonths, Fault, Parsed}
use Rattle.bill.specs.declared.household.ArgumentFault.{ArgumentFault}
use Rattle.bill.specs.declared.household.Household.{Household}
use Rattle.bill.specs.declared.household.ArgumentFault.TheVariants.{Count, Kwh, Month}

-- what was read of the bytes of an argument is read of its place
pub read_at : {X : Type 0} (f : X → List ℕ) (xs : List X) (k : ℕ) (x : X) (least most : ℕ) (bytes : List ℕ) (o p : Option ℕ) → k < length xs → bytes ≡ f (get_or xs k x) → o ≡ p → Read least most bytes o → Read least most (get_or (map f xs) k []) p
read_at f xs k x least most bytes o p h is same read = subst (λ q. Read least most (get_or (map f xs) k []) q) same (subst (λ w. Read least most w o) (is ∙ sym (get_or-map f xs k x [] h)) read)

-- what a `?` returns: the error as it was, or the one that stands for a number that is missing
pub refused : {T E : Type 0} (r : Result T E) (f : E) → IsErrAnd r (λ y. y ≡ f) → r ≡ Err f
refused (Ok x) f is = absurd is
refused (Err y) f is = ap (λ e. Err e) is

pub refused_or : {T E X : Type 0} (r : Result T E) (o : Option X) (f e : E) → IsErrAnd r (λ y. y ≡ f) → Err f ≡ ok_or o e → r ≡ Err e
refused_or r None f e is was = let same : f ≡ e = cc in refused r f is ∙ ap (λ x. Err x) same
refused_or r (Some x) f e is was = cc

-- one month more
pub months_more : (arguments : List (List ℕ)) (i n : ℕ) (kwh : List Quantity) → i < length kwh → Writes 0 999999 (get_or arguments i []) n → Months arguments i kwh → Months arguments (i + 1) (set kwh i (kwh_of n))
months_more arguments i n kwh room w m = below_more _ i
    (λ k h. rw (get_or-set_other kwh i k (kwh_of n) (kwh_of 0) (omega arith)) (m k h))
    (rw (get_or-set_same kwh i (kwh_of n) (kwh_of 0) room) w)

pub some_months : (arguments : List (List ℕ)) (n m : ℕ) (kwh : List Quantity) → m ≤ n → Months arguments n kwh → SomeMonths arguments m
some_months arguments n m kwh le h k l = ((get_or kwh k (kwh_of 0)).kwh, h k (omega arith))

-- the fault of month i + 1
pub month_fault : (arguments : List (List ℕ)) (i : ℕ) (kwh : List Quantity) → length arguments ≡ 12 → i < 12 → Months arguments i kwh → Read 0 999999 (get_or arguments i []) None → Fault arguments (Kwh (i + 1))
month_fault arguments i kwh size h before none =
    let back : i + 1 - 1 ≡ i = omega arith in
    rw back (omega arith, omega arith, omega arith, omega arith, some_months arguments i i kwh (omega arith) before, none)

-- ---- what the first twelve arguments give is what all of them give

module _ {X : Type 0} (f : X → List ℕ) (year rest all : List X) (parts : (year ≡ take 12 all) × (rest ≡ drop 12 all) × (length rest + 12 ≡ length all)) where
  same : (k : ℕ) → k < 12 → get_or (map f year) k [] ≡ get_or (map f all) k []
  same k h = rw (parts.0, ← take-map f 12 all) (get_or-take 12 (map f all) k [] h)

  pub how_many : length (map f all) ≡ length rest + 12
  how_many = grind (arith, length-map, parts.2)

  twelve : length (map f year) ≡ 12
  twelve = rw (parts.0, length-map) (omega (arith, length-take 12 all, parts.2))

  pub first_months : (kwh : List Quantity) → Months (map f year) 12 kwh → Months (map f all) 12 kwh
  first_months kwh m k h = rw (← same k h) (m k h)

  first_fault : (e : ArgumentFault) → length rest < 2 → Fault (map f year) e → Fault (map f all) e
  first_fault (Count n) few (a, b, c) = absurd (b (a ∙ twelve))
  first_fault Month few (a, b, c) = absurd (omega (arith, twelve))
  first_fault (Kwh m) few (a, b, c, d, before, none) =
      let months : SomeMonths (map f all) (m - 1) = λ k h. ((before k h).0, rw (← same k (omega arith)) (before k h).1) in
      (a, b, omega (arith, how_many), omega (arith, how_many), months, rw (← same (m - 1) (omega arith)) none)

  -- what a `?` returns of the error of the months
  pub passed_on : (r : Result Household ArgumentFault) (e : ArgumentFault) → length rest < 2 → IsErrAnd r (λ y. y ≡ e) → Fault (map f year) e → Parsed (map f all) r
  passed_on r e few is fault = rw (refused r e is) (first_fault e few fault)

  -- what was read of the argument after them
  pub mark_read : (x : X) (bytes : List ℕ) (o p : Option ℕ) → 1 ≤ length rest → x ≡ get_or rest 0 x → bytes ≡ f x → o ≡ p → Read 1 12 bytes o → Read 1 12 (get_or (map f all) 12 []) p
  mark_read x bytes o p room at is =
      let place : x ≡ get_or all 12 x = at ∙ ap (λ (l : List X). get_or l 0 x) parts.1 ∙ get_or-drop 12 all 0 x in
      read_at f all 12 x 1 12 bytes o p (omega (arith, parts.2)) (is ∙ ap f place)
