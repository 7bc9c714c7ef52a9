-- A name and its count between braces. An escape has its count behind a `*`, as `SPACE*5` (document 01, "Escapes"); magazines print it in
-- front, as `5 SPACES`.
-- Assumes nothing.
use Rattle.std.specs.Prelude.{ℕ, ◌+◌, true, false, List, ltb, take, drop}
use Rattle.base_ascii.specs.Bytes.{is_digit}
use Rattle.base_ascii.specs.Search.{equals, front, before, past}
use Rattle.base_ascii.specs.Trim.{trim}

-- the digits in front, without the zeros in front of them
unfoldable pub digits_of : List ℕ → List ℕ
digits_of t = past (equals 48) (take (front is_digit t) t)

-- of a trimmed text: what stands behind the count in front, or before the first *
unfoldable pub name_within : List ℕ → List ℕ
name_within t = elim (ltb 0 (front is_digit t)) [ true ↦ trim (drop (front is_digit t) t) | false ↦ trim (take (before (equals 42) t) t) ]

-- of a trimmed text: the digits in front, or behind the first *
unfoldable pub count_within : List ℕ → List ℕ
count_within t = elim (ltb 0 (front is_digit t)) [ true ↦ digits_of t | false ↦ digits_of (trim (drop (before (equals 42) t + 1) t)) ]

unfoldable pub name_part : List ℕ → List ℕ
unfolding name_within
name_part inside = name_within (trim inside)

unfoldable pub count_part : List ℕ → List ℕ
unfolding count_within
count_part inside = count_within (trim inside)
