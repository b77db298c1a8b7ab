-- The numbers of a ledger's refusals, and the letters of the causes of its lines.
use Rattle.std.specs.Prelude.{ℕ, codes, slice_index}
use Prim.Native.String.{String}
use Rattle.fault.specs.declared.Code.{Code}
use Rattle.fault.specs.declared.Layer.TheVariants.{Ledger}
use Rattle.ledger.specs.declared.refusal.LedgerFault.{LedgerFault}
use Rattle.ledger.specs.declared.refusal.LedgerFault.TheVariants.{Number, Amount, Full}
use Rattle.ledger.specs.declared.posting.Cause.{Cause}
use Rattle.ledger.specs.declared.posting.Cause.TheVariants.{Reading, Purchase, MultiPerson, TimeOfUse, Withdrawal, Payment, Settlement, Clearing}

-- the number, layer and place of each refusal
abbrev pub code : LedgerFault → Code
code Number = record { number = 12; layer = Ledger; place = 0 }
code Amount = record { number = 13; layer = Ledger; place = 0 }
code Full = record { number = 14; layer = Ledger; place = 0 }

-- the character of a text that has one
abbrev only : String → ℕ
only s = slice_index (codes s) 0

-- the letter of each cause
abbrev pub letter : Cause → ℕ
letter Reading = only "R"
letter Purchase = only "B"
letter MultiPerson = only "M"
letter TimeOfUse = only "U"
letter Withdrawal = only "W"
letter Payment = only "P"
letter Settlement = only "S"
letter Clearing = only "K"
