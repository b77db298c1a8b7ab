-- What a lawful tier table keeps to: prices and limits that never fall. Proofs, which stand here since laws cite them.
use Rattle.std.specs.Prelude.{◌≡◌, ℕ, ◌+◌, ◌-◌, ◌*◌, ◌≤◌, Bool, true, false, cond, List, [], ◌∷◌}
use Rattle.std.proofs.Common.{arith, add-mul, mul_comm, ap}
use Rattle.std.proofs.lemmas.Bool.Decides.{nat_tests}
use Rattle.sheet.specs.Sums.{sum_from, counted_months, multi_months, six_sums}
use Rattle.sheet.specs.declared.row.Row.{Row}
use Rattle.sheet.specs.declared.sums.SixSums.{SixSums}
use Rattle.sheet.proofs.Adding.{multi_among_counted}
use Rattle.tariff.specs.Tiered.{row_standard, limit, first_price}
use Rattle.tariff.specs.declared.band.Band.{Band}
use Rattle.tariff.specs.SameCharge.{limit_by_months}
use Rattle.tariff.specs.Table.{rises, lowest, lawful_table}

-- one tier of a rising table
pub record Step (a b : Band) (bs : List Band) (last : ℕ) : Type 0 where
  pub priced : b.price.units ≤ 20000
  pub ordinary : b.ordinary.kwh ≤ 10000
  pub multi : b.multi.kwh ≤ 10000
  pub dearer : a.price.units ≤ b.price.units
  pub further : a.ordinary.kwh ≤ b.ordinary.kwh
  pub wider : a.multi.kwh ≤ b.multi.kwh
  pub rest : rises b bs last ≡ true

pub step : (a b : Band) (bs : List Band) (last : ℕ) → rises a (b ∷ bs) last ≡ true → Step a b bs last
unfolding rises
step a b bs last h = grind (arith, nat_tests)

-- no price is above the last, and that is at most 20,000
pub last_dearest : (a : Band) (bs : List Band) (last : ℕ) → rises a bs last ≡ true → (a.price.units ≤ last) × (last ≤ 20000)
unfolding rises
last_dearest a [] last h = grind (arith, nat_tests)
last_dearest a (b ∷ bs) last h =
    let s = step a b bs last h in
    let r = last_dearest b bs last s.rest in
    (omega (arith, s.dearer, r.0), r.1)

pub first_cheapest : (a : Band) (bs : List Band) (last : ℕ) → rises a bs last ≡ true → (a.price.units ≤ first_price bs last) × (first_price bs last ≤ last)
first_cheapest a [] last h = ((last_dearest a [] last h).0, omega arith)
first_cheapest a (b ∷ bs) last h =
    let s = step a b bs last h in
    (s.dearer, (last_dearest b bs last s.rest).0)

-- larger standards reach further
standard_rises : (counted multi : Bool) (o m o' m' : ℕ) → o ≤ o' → m ≤ m' → cond counted (cond multi m o) 0 ≤ cond counted (cond multi m' o') 0
standard_rises true true o m o' m' h k = k
standard_rises true false o m o' m' h k = h
standard_rises false multi o m o' m' h k = omega arith

limit_rises : (a b : Band) (k : ℕ) (rows : List Row) → a.ordinary.kwh ≤ b.ordinary.kwh → a.multi.kwh ≤ b.multi.kwh → sum_from (row_standard a) k rows ≤ sum_from (row_standard b) k rows
unfolding sum_from
limit_rises a b k [] h j = omega arith
limit_rises a b k (r ∷ rows) h j =
    omega (arith, standard_rises r.counted r.multi a.ordinary.kwh a.multi.kwh b.ordinary.kwh b.multi.kwh h j, limit_rises a b (k + 1) rows h j)

-- each of these tiers reaches as far as the one before it, from `before` on, by small standards and at a small price
abbrev pub Climbs : List Row → (before : ℕ) → List Band → Type 0
Climbs rows before [] = Unit {0}
Climbs rows before (b ∷ bs) = (before ≤ limit b rows) × (b.ordinary.kwh ≤ 10000) × (b.multi.kwh ≤ 10000) × (b.price.units ≤ 20000) × Climbs rows (limit b rows) bs

climbs_from : (rows : List Row) (before : ℕ) (a : Band) (bs : List Band) (last : ℕ) → rises a bs last ≡ true → before ≤ limit a rows → Climbs rows before bs
climbs_from rows before a [] last h le = tt
climbs_from rows before a (b ∷ bs) last h le =
    let s = step a b bs last h in
    (omega (arith, limit_rises a b 1 rows s.further s.wider), s.ordinary, s.multi, s.priced, climbs_from rows (limit b rows) b bs last s.rest (omega arith))

-- of a whole table
pub table_rises : (bs : List Band) (last : ℕ) → lawful_table bs last ≡ true → rises lowest bs last ≡ true
table_rises bs last h = grind (arith, nat_tests)

pub table_climbs : (rows : List Row) (bs : List Band) (last : ℕ) → lawful_table bs last ≡ true → Climbs rows 0 bs
table_climbs rows bs last h = climbs_from rows 0 lowest bs last (table_rises bs last h) (omega arith)

pub table_prices : (bs : List Band) (last : ℕ) → lawful_table bs last ≡ true → (first_price bs last ≤ last) × (last ≤ 20000)
table_prices bs last h = ((first_cheapest lowest bs last (table_rises bs last h)).1, (last_dearest lowest bs last (table_rises bs last h)).1)

-- a limit by its months, ordinary and multi-person
pub limit_is : (b : Band) (rows : List Row) (s : SixSums) (r : ℕ) → s ≡ six_sums rows
    → r ≡ (s.counted - s.multi) * b.ordinary.kwh + s.multi * b.multi.kwh → r ≡ limit b rows
limit_is b rows s r is er =
    let o = b.ordinary.kwh in
    let w = b.multi.kwh in
    let c = s.counted in
    let m = s.multi in
    let ec : s.counted ≡ counted_months rows = ap (λ (z : SixSums). z.counted) is in
    let em : s.multi ≡ multi_months rows = ap (λ (z : SixSums). z.multi) is in
    let among : m ≤ c = omega (arith, multi_among_counted rows) in
    let whole : c - m + m ≡ c = omega arith in
    omega (
      arith,
      er,
      limit_by_months b rows,
      add-mul (c - m) m o,
      ap (λ k. k * o) whole,
      mul_comm c o,
      mul_comm m o,
      mul_comm m w,
      ap (λ k. o * k) ec,
      ap (λ k. o * k) em,
      ap (λ k. w * k) em,
    )
