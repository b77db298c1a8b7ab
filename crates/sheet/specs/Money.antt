-- Charges in units of 0.0001 yuan as whole fen of 100 units.
use Rattle.std.specs.Prelude.{ℕ, ◌+◌, ◌/◌}

-- to the nearest fen, a half up
abbrev pub rounded : ℕ → ℕ
rounded c = (c + 50) / 100
