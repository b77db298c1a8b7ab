-- The test of a tier table, tier by tier.
use Rattle.std.proofs.Common.{arith, ◌≡◌, ℕ, ◌+◌, ◌<◌, ◌≤◌, Bool, ◌&&◌, List, length, get_or, drop}
use Rattle.std.proofs.lemmas.List.{at_drop_more, at_drop_all}
use Rattle.std.proofs.lemmas.Bool.Decides.{nat_tests}
use Rattle.sheet.specs.Rows.{kwh_of}
use Rattle.tariff.specs.Faults.{units_of}
use Rattle.tariff.specs.declared.band.Band.{Band}
use Rattle.tariff.specs.Table.{may_follow, may_end, rises, lowest, lawful_table}

-- what a read past the end of a table would give
abbrev pub no_band : Band
no_band = record { price = units_of 0; ordinary = kwh_of 0; multi = kwh_of 0 }

-- one turn of the test of a table
pub rises_more : (a : Band) (bands : List Band) (last i : ℕ) (t : Bool) → i < length bands → t ≡ may_follow a (get_or bands i no_band)
    → rises a (drop i bands) last ≡ (t && rises (get_or bands i no_band) (drop (i + 1) bands) last)
unfolding rises
rises_more a bands last i t within e =
    let more = at_drop_more (λ l. rises a l last) bands i no_band within in
    cc

pub rises_end : (a : Band) (bands : List Band) (last i : ℕ) → length bands ≤ i → rises a (drop i bands) last ≡ may_end a last
unfolding rises
rises_end a bands last i past = at_drop_all (λ l. rises a l last) bands i past

pub lawful_is : (bands : List Band) (last : ℕ) (t : Bool) → length bands ≤ 5 → t ≡ rises lowest bands last → t ≡ lawful_table bands last
lawful_is bands last t few e = grind (arith, nat_tests)

pub ruleset tests = (rises_more, rises_end, lawful_is)
