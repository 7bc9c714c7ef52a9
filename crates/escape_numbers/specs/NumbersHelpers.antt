-- For `may_end_in_count`, which spares the search for a `*`: where a count can stand at the end of a text.
-- Assumes nothing.
use Rattle.std.specs.Prelude.{ℕ, Bool, ◌||◌, List, [], ◌∷◌}
use Rattle.base_ascii.specs.Bytes.{is_digit, is_space}

-- the last byte of one and those that follow it
unfoldable pub last_from : ℕ → List ℕ → ℕ
last_from b [] = b
last_from b (c ∷ s) = last_from c s

-- the last byte of a text; 0 where it is empty
unfoldable pub last_of : List ℕ → ℕ
unfolding last_from
last_of [] = 0
last_of (b ∷ s) = last_from b s

-- a count can stand at the end of a text: its last byte is a digit or white space
unfoldable pub countable : List ℕ → Bool
unfolding last_of
countable t = is_digit (last_of t) || is_space (last_of t)
