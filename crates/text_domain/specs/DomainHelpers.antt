-- For the contract of `passed_by_eights` alone: bytes below 80.
-- Assumes nothing.
use Rattle.std.specs.Prelude.{ℕ, Bool, ltb}

abbrev pub is_low : ℕ → Bool
is_low b = ltb b 0x80
