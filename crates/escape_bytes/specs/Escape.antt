-- What stands between braces in a string (document 01, "Escapes"): a byte and how often it is repeated, or nothing known.
-- Assumes nothing.
use Rattle.std.specs.Prelude.{ℕ, zero, suc, List, [], ◌∷◌, take, drop}
use Rattle.base_ascii.specs.Trim.{trim}
use Rattle.base_ascii.specs.Search.{equals, last}
use Rattle.word_search.specs.Find.{Entry, name_in}
use Rattle.word_tables.specs.Escapes.{escape_names}
use Rattle.escape_numbers.specs.Numbers.{number_of, hex_of, count_of}
use Rattle.escape_bytes.specs.Keys.{known, key_escape}
use Rattle.escape_bytes.specs.declared.Escape.{Escape}
use Rattle.std.specs.Prelude.{Option, Some, None}

-- a name and its count, by a list of names: digits, $ and hex digits, one of the names, a key with one byte, in this order; an empty
-- name is unknown
unfoldable pub name_escape_in : List Entry → List ℕ → ℕ → Option Escape
name_escape_in es [] count = None
name_escape_in es (b ∷ s) count =
    elim (number_of 10 255 (b ∷ s)) [
      | Some v ↦ known v count
      | None ↦ elim (hex_of (b ∷ s)) [
        | Some v ↦ known v count
        | None ↦ elim (name_in es (b ∷ s)) [ Some m ↦ known m.token count | None ↦ key_escape (b ∷ s) count ]
      ]
    ]

unfoldable pub name_escape : List ℕ → ℕ → Option Escape
unfolding name_escape_in
name_escape name count = name_escape_in escape_names name count

-- a name, and how often its byte is repeated
pub record Counted : Type 0 where
  pub name : List ℕ
  pub count : ℕ

-- a text with a * at place n, and the number behind it: a count above 0 repeats the trimmed name before the *, else the whole is the name
unfoldable pub repeated : List ℕ → ℕ → Option ℕ → Counted
repeated t n (Some zero) = record { name = t; count = 1 }
repeated t n (Some (suc k)) = record { name = trim (take n t); count = suc k }
repeated t n None = record { name = t; count = 1 }

-- a text with a * at place n
unfoldable pub starred : List ℕ → ℕ → Counted
starred t n = repeated t n (count_of (trim (drop (suc n) t)))

-- a trimmed text as a name and its count: it is split at its last *
unfoldable pub counted_name : List ℕ → Counted
counted_name t = elim (last (equals 42) t) [ Some n ↦ starred t n | None ↦ record { name = t; count = 1 } ]

abbrev pub counted_escape : Counted → Option Escape
counted_escape c = name_escape c.name c.count

-- the inside of the braces
unfoldable pub escape_of : List ℕ → Option Escape
escape_of inside = counted_escape (counted_name (trim inside))

-- the same by another list of names
unfoldable pub escape_in : List Entry → List ℕ → Option Escape
escape_in es inside = name_escape_in es (counted_name (trim inside)).name (counted_name (trim inside)).count
