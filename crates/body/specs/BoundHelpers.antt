-- For helpers of crunching alone: whether an escape of a body can have a count.
-- Assumes nothing.
use Rattle.std.specs.Prelude.{ℕ, Bool, List, ltb, length, drop}
use Rattle.base_ascii.specs.Search.{equals, before}

-- a } stands behind a *
unfoldable pub may_repeat : List ℕ → Bool
may_repeat t = let rest = drop (before (equals 42) t) t in ltb (before (equals 0x7D) rest) (length rest)
