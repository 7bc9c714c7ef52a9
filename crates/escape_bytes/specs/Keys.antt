-- Escapes that name a key to be held, and one byte (document 01, "Escapes": "the part before the first space, `-` or `_`, if what
-- follows that mark is one byte after trimming").
-- Assumes nothing.
use Rattle.std.specs.Prelude.{ℕ, suc, ◌+◌, ◌-◌, ◌%◌, true, false, cond, List, [], ◌∷◌, take, drop, get_or}
use Rattle.base_ascii.specs.Bytes.{is_digit, is_letter, upper}
use Rattle.base_ascii.specs.Search.{is_mark, before}
use Rattle.base_ascii.specs.Trim.{trim}
use Rattle.word_search.specs.Find.{Name, meaning}
use Rattle.word_search.specs.Spelling.{◌means◌}
use Rattle.escape_bytes.specs.KeyCodes.{cbm_letters, ctrl_digits}
use Rattle.escape_bytes.specs.declared.Key.{Key}
use Rattle.escape_bytes.specs.declared.Key.TheVariants.{Control, Commodore, Shift}
use Rattle.escape_bytes.specs.declared.Escape.{Escape}
use Rattle.std.specs.Prelude.{Option, Some, None}

-- the prefixes, and the key that each names
unfoldable pub key_names : List (Name Key)
key_names =
    "ctrl" means Control ∷
    "cntrl" means Control ∷
    "control" means Control ∷
    "cm" means Commodore ∷
    "cbm" means Commodore ∷
    "sh" means Shift ∷
    "shift" means Shift ∷
    []

-- the control key: a digit by table, a letter its place from 1, any other byte its low five bits
unfoldable pub control_byte : ℕ → ℕ
control_byte b = cond (is_digit b) (get_or ctrl_digits (b - 48) 0) (cond (is_letter b) (upper b - 64) (b % 32))

-- a known escape: a byte, so often
abbrev pub known : ℕ → ℕ → Option Escape
known b count = Some (record { byte = b; count = count })

-- the byte that a key gives with another, so often
unfoldable pub key_with : Key → ℕ → ℕ → Option Escape
key_with Control b count = known (control_byte b) count
key_with Commodore b count = elim (is_letter b) [ true ↦ known (get_or cbm_letters (upper b - 65) 0) count | false ↦ None ]
key_with Shift b count = elim (is_letter b) [ true ↦ known (0xC0 + (upper b - 64)) count | false ↦ None ]

-- a prefix and what follows its mark: one byte, or nothing is known
unfoldable pub keyed : List ℕ → List ℕ → ℕ → Option Escape
keyed prefix [] count = None
keyed prefix (b ∷ []) count = elim (meaning key_names prefix) [ Some key ↦ key_with key b count | None ↦ None ]
keyed prefix (b ∷ c ∷ s) count = None

-- a name split at its first mark; a name without one has nothing behind it
unfoldable pub key_escape : List ℕ → ℕ → Option Escape
key_escape name count = keyed (take (before is_mark name) name) (trim (drop (suc (before is_mark name)) name)) count
