-- The refusals of a tariff, and what it answers.
use Rattle.std.specs.Prelude.{ℕ, Bool, cond, List, Ok, Err, Result, nat_le}
use Rattle.fault.specs.declared.Code.{Code}
use Rattle.fault.specs.declared.Layer.TheVariants.{Tariff}
use Rattle.sheet.specs.declared.quantity.Units.{Units}
use Rattle.sheet.specs.declared.row.Row.{Row}
use Rattle.tariff.specs.Rate.{Rate, answer_limit}
use Rattle.tariff.specs.declared.refusal.TariffFault.{TariffFault}
use Rattle.tariff.specs.declared.refusal.TariffFault.TheVariants.{TooDear, Unlawful}

-- the number, layer and place of each
abbrev pub code : TariffFault → Code
code TooDear = record { number = 11; layer = Tariff; place = 0 }
code Unlawful = record { number = 16; layer = Tariff; place = 0 }

abbrev pub units_of : ℕ → Units
units_of n = record { units = n }

-- asked for a charge, a tariff refuses where its dearest price is above 100,000, and else answers the charge it means
abbrev pub answer : Rate → List Row → Result Units TariffFault
answer r rows = cond (nat_le r.dearest answer_limit) (Ok (units_of (r.charge rows))) (Err TooDear)

-- what is made of values that keep the rules, and the refusal of any others
abbrev pub lawful_or : {V : Type 0} → Bool → V → Result V TariffFault
lawful_or ok v = cond ok (Ok v) (Err Unlawful)

-- what a tariff that was made holds, or the refusal
abbrev pub granted : {T V : Type 0} → (T → V) → Result T TariffFault → Result V TariffFault
granted f (Ok t) = Ok (f t)
granted f (Err e) = Err e
