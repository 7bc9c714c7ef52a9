-- For the contract of `keys::begins_key` alone: the bytes that the prefixes of a key begin with.
-- Assumes nothing.
use Rattle.std.specs.Prelude.{ℕ, Bool, false, ◌||◌, List, [], ◌∷◌, eqb}
use Rattle.base_ascii.specs.Bytes.{upper}

abbrev pub is_key_letter : ℕ → Bool
is_key_letter b = eqb b 0x43 || eqb b 0x53

-- the text begins with one, small or capital
unfoldable pub begins_key : List ℕ → Bool
unfolding upper
begins_key [] = false
begins_key (b ∷ s) = is_key_letter (upper b)
