-- What a machine takes: the limits of document 02, No. 1 ("numbers at most 63999 and strictly ascending, no zero in any body, bodies of 1 to 250
-- bytes"), and its BASIC memory. That a body holds no zero is `holds_zero` (crates/body/specs/Zero.antt).
-- Assumes nothing.
use Rattle.std.specs.Prelude.{ℕ, ◌+◌, Bool, ◌&&◌, ◌||◌, leb, ltb}
use Rattle.image_limits.specs.declared.Limits.{Limits}

-- the C64: its highest number, its longest body, and by its memory map the first and the last address of its BASIC memory
abbrev pub c64 : Limits
c64 = record { highest = 63999; longest = 250; first = 0x0801; last = 0x9FFF }

-- "numbers at most 63999"
abbrev pub is_too_high : Limits → ℕ → Bool
is_too_high m number = ltb m.highest number

-- "strictly ascending": behind a number the least is the next above it, and in front of all numbers it is 0
abbrev pub is_not_ascending : ℕ → ℕ → Bool
is_not_ascending least number = ltb number least

-- "bodies of 1 to 250 bytes"
abbrev pub is_bad_length : Limits → ℕ → Bool
is_bad_length m size = ltb size 1 || ltb m.longest size

-- an image of so many bytes: the two of its load address are not loaded, so its last byte stands at load + size - 3
abbrev pub in_basic_memory : Limits → ℕ → ℕ → Bool
in_basic_memory m load size = leb m.first load && leb (load + size) (m.last + 3)
