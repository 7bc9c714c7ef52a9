-- For helpers alone: whether = follows each list in parentheses, found for a whole line at once and kept as bits.
-- Assumes nothing.
use Rattle.std.specs.Prelude.{ℕ, zero, suc, ◌*◌, ◌/◌, ◌%◌, ◌^◌, ◌≤◌, ◌<◌, ◌≡◌, Bool, false, List, [], ◌∷◌, eqb, length, get_or, drop}
use Rattle.base_ascii.specs.Search.{of_kind, starts_with, front, past}
use Rattle.base_ascii.specs.declared.search.Kind.{Kind}
use Rattle.guess_uses.specs.Ahead.{closing}

-- ---- bits, eight to a byte, the lowest first

unfoldable pub is_on : List ℕ → ℕ → Bool
is_on bits n = eqb (get_or bits (n / 8) 0 / 2 ^ (n % 8) % 2) 1

-- the same bits but for one
pub record Turned (bits : List ℕ) (n : ℕ) (on : Bool) (after : List ℕ) : Type 0 where
  pub size : length after ≡ length bits
  pub there : is_on after n ≡ on
  pub others : (m : ℕ) → (m ≡ n → ⊥) → is_on after m ≡ is_on bits m

-- the last of so many bits
unfoldable pub last_bit : List ℕ → ℕ → Bool
last_bit bits zero = false
last_bit bits (suc n) = is_on bits n

-- ---- marks

-- = follows, with blanks before it
unfoldable pub equals_ahead : Kind → List ℕ → Bool
unfolding starts_with front
equals_ahead blank t = starts_with 0x3D (past (of_kind blank) t)

-- what follows a list, so many lists being open within it
abbrev pub behind_open : ℕ → List ℕ → List ℕ
behind_open depth t = drop (closing depth t) t

-- the bit of each (, by the number of bytes behind it, says whether = follows its list
unfoldable pub Marked : Kind → List ℕ → List ℕ → Type 0
Marked space_kind marks [] = Unit {0}
Marked space_kind marks (b ∷ t) = (b ≡ 0x28 → is_on marks (length t) ≡ equals_ahead space_kind (behind_open 0 t)) × Marked space_kind marks t

-- marks of a text, or none at all
pub record MarksOf (blank : Kind) (t : List ℕ) (marks : List ℕ) : Type 0 where
  pub room : 0 < length marks → length t ≤ 8 * length marks
  pub right : 0 < length marks → Marked blank marks t
