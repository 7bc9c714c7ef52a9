-- Searches in bytes: which bytes are looked for, how many of them stand in front, where the last one stands, and what is left without
-- those at an end.
-- Assumes nothing.
use Rattle.std.specs.Prelude.{ℕ, suc, Bool, true, false, not, cond, ◌||◌, List, [], ◌∷◌, reverse, eqb, drop}
use Rattle.base_ascii.specs.Bytes.{between, is_digit}
use Rattle.base_ascii.specs.declared.search.Kind.{Kind}
use Rattle.base_ascii.specs.declared.search.Kind.TheVariants.{Is, Digit, Space, White, Blank, Mark}
use Rattle.std.specs.Prelude.{Option, Some, None}

-- ---- which bytes

-- the byte is x
abbrev pub equals : ℕ → ℕ → Bool
equals x b = eqb b x

-- a byte that does not pass the test
abbrev pub other : (ℕ → Bool) → ℕ → Bool
other p b = not (p b)

-- document 01, "Guessing the dialect": "white space 09 0A 0C 0D 20"
abbrev pub is_white : ℕ → Bool
is_white b = eqb b 0x20 || (between 0x09 0x0A b || between 0x0C 0x0D b)

-- white space of trimming and of the dialect guess alike, that ends no line
abbrev pub is_blank : ℕ → Bool
is_blank b = eqb b 0x20 || (eqb b 0x09 || eqb b 0x0C)

-- document 01, "Escapes": "the part before the first space, `-` or `_`"
abbrev pub is_mark : ℕ → Bool
is_mark b = eqb b 0x20 || (eqb b 0x2D || eqb b 0x5F)

abbrev pub of_kind : Kind → ℕ → Bool
of_kind (Is x) = equals x
of_kind Digit = is_digit
of_kind Space = equals 0x20
of_kind White = is_white
of_kind Blank = is_blank
of_kind Mark = is_mark

-- ---- from the front

-- the first byte is b
unfoldable pub starts_with : ℕ → List ℕ → Bool
starts_with b [] = false
starts_with b (c ∷ s) = eqb c b

-- how many bytes in front pass the test
unfoldable pub front : (ℕ → Bool) → List ℕ → ℕ
front p [] = 0
front p (b ∷ s) = elim (p b) [ true ↦ suc (front p s) | false ↦ 0 ]

-- how many bytes stand in front of the first that passes; all of them where none does
unfoldable pub before : (ℕ → Bool) → List ℕ → ℕ
unfolding front
before p s = front (other p) s

-- what is left without the bytes in front that pass
abbrev pub past : (ℕ → Bool) → List ℕ → List ℕ
past p s = drop (front p s) s

-- ---- from the end

-- where the last byte that passes the test stands
unfoldable pub last : (ℕ → Bool) → List ℕ → Option ℕ
last p [] = None
last p (b ∷ s) = elim (last p s) [ Some n ↦ Some (suc n) | None ↦ cond (p b) (Some 0) None ]

-- what is left without the bytes at the end that pass
unfoldable pub past_end : (ℕ → Bool) → List ℕ → List ℕ
unfolding front
past_end p s = reverse (past p (reverse s))
