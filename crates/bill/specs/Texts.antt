-- How the lines of a bill, and what is wrong with arguments, are printed, as bytes.
use Rattle.std.specs.Prelude.{ℕ, ◌/◌, ◌%◌, cond, List, [], ◌∷◌, ◌++◌, ℤ, pos, negsuc, Some, None, codes, decimal, Option, unsigned_abs, flat_map}
use Rattle.sheet.specs.declared.quantity.Kwh.{Kwh as Quantity}
use Rattle.bill.specs.declared.household.ArgumentFault.{ArgumentFault}
use Rattle.bill.specs.declared.household.ArgumentFault.TheVariants.{Count, Kwh, Month}
use Rattle.bill.specs.declared.lines.Line.{Line}
use Rattle.bill.specs.declared.lines.Line.TheVariants.{Month as MonthLine, Total, Tier, Sum}

-- units of 0.0001 yuan, with four decimals
abbrev pub units_as_yuan : ℕ → List ℕ
units_as_yuan u = decimal (u / 10000) ++ (codes "." ++ (decimal (u / 1000 % 10) ++ (decimal (u / 100 % 10) ++ (decimal (u / 10 % 10) ++ decimal (u % 10)))))

abbrev pub sign : ℤ → List ℕ
sign (pos n) = []
sign (negsuc n) = codes "-"

-- fen as yuan, with two decimals
abbrev pub fen_as_yuan : ℤ → List ℕ
fen_as_yuan z = sign z ++ (decimal (unsigned_abs z / 100) ++ (codes "." ++ (decimal (unsigned_abs z / 10 % 10) ++ decimal (unsigned_abs z % 10))))

-- how far a tier reaches
abbrev pub reach : Option Quantity → List ℕ
reach (Some l) = codes "up to " ++ (decimal l.kwh ++ codes " kWh")
reach None = codes "the rest"

abbrev pub line : Line → List ℕ
line (MonthLine m k multi) = codes "month " ++ (decimal m ++ (codes ": " ++ (decimal k.kwh ++ cond multi (codes " kWh, multi-person") (codes " kWh"))))
line (Total k) = codes "year: " ++ (decimal k.kwh ++ codes " kWh")
line (Tier t s) = codes "tier " ++ (decimal t ++ (codes " (" ++ (reach s.limit ++ (codes "): " ++ (decimal s.kwh.kwh ++ (codes " kWh at " ++ (units_as_yuan s.price.units ++ (codes " yuan = " ++ (units_as_yuan s.charge.units ++ codes " yuan")))))))))
line (Sum c f) = codes "sum: " ++ (units_as_yuan c.units ++ (codes " yuan, to pay " ++ (fen_as_yuan f.fen ++ codes " yuan")))

-- each line with a newline after it
abbrev pub page : List Line → List ℕ
page ls = flat_map (λ l. line l ++ (10 ∷ [])) ls

-- what is wrong with arguments, and where
abbrev pub message : ArgumentFault → List ℕ
message (Count n) = codes "expected the kWh of 12 months, and perhaps a month: 12 or 13 arguments, not " ++ decimal n
message (Kwh m) = codes "argument " ++ (decimal m ++ (codes ": the kWh of month " ++ (decimal m ++ codes " must be a whole number from 0 to 999999")))
message Month = codes "argument 13: the month from which the household is multi-person must be a whole number from 1 to 12"
