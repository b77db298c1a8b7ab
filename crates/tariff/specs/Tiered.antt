-- What tiers mean: how far each reaches, what each takes of a year, and what that costs.
use Rattle.std.specs.Prelude.{ℕ, ◌-◌, ◌*◌, min, cond, List, [], ◌∷◌, Some, None, Option, sum_by}
use Rattle.sheet.specs.Rows.{kwh_of}
use Rattle.sheet.specs.Sums.{sum_from, total}
use Rattle.sheet.specs.declared.quantity.Kwh.{Kwh}
use Rattle.sheet.specs.declared.row.Row.{Row}
use Rattle.tariff.specs.Faults.{units_of}
use Rattle.tariff.specs.Rate.{Rate}
use Rattle.tariff.specs.declared.band.Band.{Band}
use Rattle.tariff.specs.declared.band.Share.{Share}

-- the standard of a counted row: the multi-person one where it is so marked, else the ordinary one
abbrev pub row_standard : Band → ℕ → Row → ℕ
row_standard b month r = cond r.counted (cond r.multi b.multi.kwh b.ordinary.kwh) 0

-- the kWh of the year up to which a tier reaches: its standards over the counted rows
abbrev pub limit : Band → List Row → ℕ
limit b rows = sum_from (row_standard b) 1 rows

abbrev pub share : (price : ℕ) → (limit : Option Kwh) → (kwh : ℕ) → Share
share p l k = record { price = units_of p; limit = l; kwh = kwh_of k; charge = units_of (k * p) }

-- what each tier takes, the last included: the kWh up to its limit but for those up to the limit before it,
-- and the last one the rest; `before` is the limit before the first of these tiers
unfoldable pub split_from : (before : ℕ) → List Band → (last : ℕ) → List Row → List Share
split_from before [] last rows = share last None (total rows - min (total rows) before) ∷ []
split_from before (b ∷ bs) last rows =
    share b.price.units (Some (kwh_of (limit b rows))) (min (total rows) (limit b rows) - min (total rows) before) ∷ split_from (limit b rows) bs last rows

-- of a whole table: the tiers but the last, and the last price
abbrev pub split : List Band → (last : ℕ) → List Row → List Share
split bands last rows = split_from 0 bands last rows

-- the kWh of all the shares
abbrev pub kwhs : List Share → ℕ
kwhs = sum_by (λ s. s.kwh.kwh)

-- what all the shares cost
abbrev pub charges : List Share → ℕ
charges = sum_by (λ s. s.charge.units)

abbrev pub first_price : List Band → (last : ℕ) → ℕ
first_price [] last = last
first_price (b ∷ bs) last = b.price.units

-- cheapest: the first price; dearest: the last; charge: that of all shares
abbrev pub tier_rate : List Band → (last : ℕ) → Rate
tier_rate bands last = record { cheapest = first_price bands last; dearest = last; charge = λ rows. charges (split bands last rows) }
