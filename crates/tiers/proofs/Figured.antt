-- Shandong's tiers are lawful, and come to the figures: by computing the definitions.
use Rattle.std.proofs.Common.{◌≡◌, true, refl}
use Rattle.sheet.specs.Rows.{numbered}
use Rattle.sheet.specs.Sums.{sum_from}
use Rattle.tariff.specs.Tiered.{split_from}
use Rattle.tariff.specs.Table.{lawful_table, rises}
use Rattle.tiers.specs.Figures.{Figures}
use Rattle.tiers.specs.Published.{shandong_bands, shandong_last}

pub shandong_lawful : lawful_table shandong_bands shandong_last ≡ true
unfolding rises
shandong_lawful = refl

pub figures : Figures
unfolding numbered sum_from split_from
figures = record {
  first_limit_units = refl;
  first_limit = refl;
  past_first = refl;
  second_limit = refl;
  past_second = refl;
  large_household = refl;
  filed_in_may = refl;
  opened_in_march = refl;
  settled_in_july = refl;
  january = refl;
  june = refl;
}
