-- What stands in an image's bytes, before any line is known (document 01, "Reading and listing").
-- Assumes nothing.
use Rattle.std.specs.Prelude.{ℕ, suc, ◌+◌, ◌*◌, ◌-◌, true, false, List, [], ◌∷◌, get_or, drop, eqb}

-- the number in two bytes at an offset, low byte first
abbrev pub low_first_at : List ℕ → ℕ → ℕ
low_first_at s p = get_or s p 0 + 256 * get_or s (p + 1) 0

-- "load address plus offset less 2, never below 0" (document 02, No. 8): the address in memory of what stands at p, in full
abbrev pub address_at : List ℕ → ℕ → ℕ
address_at s p = low_first_at s 0 + p - 2

-- "target t is 2 plus link minus load address"; 0 where that is below 0, which is below p + 5 too
abbrev pub target_at : List ℕ → ℕ → ℕ
target_at s p = 2 + low_first_at s p - low_first_at s 0

-- how many bytes stand before the first 00, or all of them where there is none
unfoldable pub before_zero : List ℕ → ℕ
before_zero [] = 0
before_zero (b ∷ s) = elim (eqb b 0) [ true ↦ 0 | false ↦ suc (before_zero s) ]

-- "A body runs to the first 00, .. or to the image's end"
abbrev pub body_end : List ℕ → ℕ → ℕ
body_end s p = p + 4 + before_zero (drop (p + 4) s)
