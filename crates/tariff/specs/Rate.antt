-- What a tariff means, and what makes a meaning lawful.
use Rattle.std.specs.Prelude.{◌≡◌, ℕ, ◌*◌, ◌≤◌, List}
use Rattle.sheet.specs.Rows.{Proper}
use Rattle.sheet.specs.Sums.{total}
use Rattle.sheet.specs.declared.row.Row.{Row}

-- a cheapest price, a dearest price and a charge for every sheet, in units of 0.0001 yuan
pub record Rate : Type 0 where
  pub cheapest : ℕ
  pub dearest : ℕ
  pub charge : List Row → ℕ

-- the most that a dearest price may be, and the most at which a charge is answered
abbrev pub dearest_limit : ℕ
dearest_limit = 1000000

abbrev pub answer_limit : ℕ
answer_limit = 100000

-- the cheapest price is at most the dearest, and that at most 1,000,000; a total of 0 costs 0; no charge is below
-- the cheapest price for every kWh; where the dearest is at most 100,000, none is above the dearest for every kWh
pub record Lawful (r : Rate) : Type 0 where
  pub ordered : r.cheapest ≤ r.dearest
  pub bounded : r.dearest ≤ dearest_limit
  pub nothing : (s : List Row) → Proper s → total s ≡ 0 → r.charge s ≡ 0
  pub least : (s : List Row) → Proper s → r.cheapest * total s ≤ r.charge s
  pub most : (s : List Row) → Proper s → r.dearest ≤ answer_limit → r.charge s ≤ r.dearest * total s
