-- A tier and a time of use by their numbers: prices and cuts in units, standards in kWh a month.
use Rattle.std.specs.Prelude.{ℕ}
use Rattle.sheet.specs.Rows.{kwh_of}
use Rattle.tariff.specs.Faults.{units_of}
use Rattle.tariff.specs.declared.band.Band.{Band}
use Rattle.tariff.specs.declared.changes.Changes.{Changes}

abbrev pub band : (price ordinary multi : ℕ) → Band
band p o m = record { price = units_of p; ordinary = kwh_of o; multi = kwh_of m }

abbrev pub changes : (rise ordinary heating : ℕ) → Changes
changes u o h = record { rise = units_of u; ordinary = units_of o; heating = units_of h }
