-- What the shares of a year cost together.
use Rattle.std.proofs.Common.{◌≡◌, ◌≤◌, Ok, List, ap, ◌∙◌, arith}
use Rattle.sheet.specs.declared.sheet.Sheet.{Sheet}
use Rattle.sheet.proofs.Adding.{proper_of}
use Rattle.tiers.specs.declared.table.Tiers.{Tiers}
use Rattle.tiers.specs.Tables.{bands_of, rate_of}
use Rattle.sheet.specs.declared.quantity.Units.{Units}
use Rattle.tariff.specs.Faults.{answer}
use Rattle.tariff.proofs.Answered.{answers}
use Rattle.tiers.specs.Tabled.{table_small}
use Rattle.tariff.specs.Tiered.{split, charges}
use Rattle.tariff.specs.declared.band.Share.{Share}
use Rattle.tiers.specs.Climbing.{table_prices}

pub charges_small : (t : Tiers) (s : Sheet) (ss : List Share) → ss ≡ split (bands_of t) t.last.units s.rows → charges ss ≤ 239999760000
charges_small t s ss is = omega (arith, table_small s.rows (bands_of t) t.last.units (proper_of s) t.kept, ap charges is)

pub charged : (t : Tiers) (s : Sheet) (u : Units) (ss : List Share) → ss ≡ split (bands_of t) t.last.units s.rows → u.units ≡ charges ss → Ok u ≡ answer (rate_of t) s.rows
charged t s u ss is e =
    let low = table_prices (bands_of t) t.last.units t.kept in
    answers u.units (rate_of t) s.rows (omega (arith, low.1)) (e ∙ ap charges is)
