-- The rules of a tier table.
use Rattle.std.specs.Prelude.{ℕ, Bool, ◌&&◌, List, [], ◌∷◌, length, nat_le}
use Rattle.sheet.specs.Rows.{kwh_of}
use Rattle.tariff.specs.Faults.{units_of}
use Rattle.tariff.specs.Flat.{is_price}
use Rattle.tariff.specs.declared.band.Band.{Band}

-- a lawful price; standards of 1 to 10,000 kWh a month, the multi-person one at least the ordinary one
abbrev pub in_range : Band → Bool
in_range b = is_price b.price.units && nat_le 1 b.ordinary.kwh && nat_le b.ordinary.kwh b.multi.kwh && nat_le b.multi.kwh 10000

-- neither the price nor a standard falls from one tier to the next
abbrev pub not_below : (before : Band) → Band → Bool
not_below a b = nat_le a.price.units b.price.units && nat_le a.ordinary.kwh b.ordinary.kwh && nat_le a.multi.kwh b.multi.kwh

abbrev pub may_follow : (before : Band) → Band → Bool
may_follow a b = in_range b && not_below a b

-- the last tier has a price alone
abbrev pub may_end : (before : Band) → (last : ℕ) → Bool
may_end a last = is_price last && nat_le a.price.units last

-- each tier may follow the one before it
unfoldable pub rises : (before : Band) → List Band → (last : ℕ) → Bool
rises a [] last = may_end a last
rises a (b ∷ bs) last = may_follow a b && rises b bs last

-- no tier that is in range falls below this one
abbrev pub lowest : Band
lowest = record { price = units_of 1; ordinary = kwh_of 1; multi = kwh_of 1 }

-- one to six tiers that keep the rules: those but the last, and the last price
abbrev pub lawful_table : List Band → (last : ℕ) → Bool
lawful_table bands last = nat_le (length bands) 5 && rises lowest bands last
