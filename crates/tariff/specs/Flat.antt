-- One price for every kWh.
use Rattle.std.specs.Prelude.{ℕ, ◌*◌, Bool, ◌&&◌, nat_le}
use Rattle.sheet.specs.Sums.{total}
use Rattle.tariff.specs.Rate.{Rate}

-- the most that a price, a rise or a cut may be
abbrev pub price_limit : ℕ
price_limit = 20000

-- the price of a tier or a flat price
abbrev pub is_price : ℕ → Bool
is_price p = nat_le 1 p && nat_le p price_limit

-- it is both the cheapest and the dearest
abbrev pub flat_rate : ℕ → Rate
flat_rate p = record { cheapest = p; dearest = p; charge = λ rows. p * total rows }
