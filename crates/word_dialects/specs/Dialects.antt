-- The names of dialects (document 01, "What the build covers": "A word given as a dialect has at most 64 bytes, each below 0x80;
-- a longer word or another byte is 14. Trimmed and without regard to case, .."), and document 02, No. 5: "a fourth dialect", "14 no longer
-- covers the word `basic35`", "the default load address 0x1001".
-- Assumes nothing.
use Rattle.std.specs.Prelude.{ℕ, zero, suc, Bool, true, false, cond, ◌&&◌, List, [], ◌∷◌, leb, length}
use Rattle.std.specs.Prelude.{Option, None, Some}
use Rattle.base_ascii.specs.Bytes.{is_ascii}
use Rattle.base_ascii.specs.Trim.{trim}
use Rattle.word_search.specs.Find.{Name, meaning}
use Rattle.base_refusals.specs.Numbers.{unknown_dialect}
use Rattle.base_refusals.specs.Answer.{Answer, done, refused}
use Rattle.word_search.specs.Spelling.{◌means◌}
use Rattle.word_dialects.specs.declared.Dialect.{Dialect}
use Rattle.word_dialects.specs.declared.Dialect.TheVariants.{Auto, BasicV2, Tsb, Basic35}

-- the dialect of a number: there are four
unfoldable pub by_number : ℕ → Answer Dialect
by_number zero = done Auto
by_number (suc zero) = done BasicV2
by_number (suc (suc zero)) = done Tsb
by_number (suc (suc (suc zero))) = done Basic35
by_number (suc (suc (suc (suc n)))) = refused unknown_dialect

unfoldable pub dialect_names : List (Name Dialect)
dialect_names =
    "auto" means Auto ∷
    "basic2" means BasicV2 ∷
    "basicv2" means BasicV2 ∷
    "v2" means BasicV2 ∷
    "basic-v2" means BasicV2 ∷
    "tsb" means Tsb ∷
    "simons" means Tsb ∷
    "ext" means Tsb ∷
    "basic35" means Basic35 ∷
    []

-- a name that is none of these is unknown
abbrev pub dialect_found : Option Dialect → Answer Dialect
dialect_found (Some d) = done d
dialect_found None = refused unknown_dialect

-- the dialect that a word names
unfoldable pub named : List ℕ → Answer Dialect
unfolding dialect_names meaning trim
named w = cond (leb (length w) 64 && is_ascii w) (dialect_found (meaning dialect_names (trim w))) (refused unknown_dialect)

abbrev pub is_basic35 : Dialect → Bool
is_basic35 Auto = false
is_basic35 BasicV2 = false
is_basic35 Tsb = false
is_basic35 Basic35 = true

-- the load address of a dialect where no other is asked for
abbrev pub default_load : Dialect → ℕ
default_load d = cond (is_basic35 d) 0x1001 0x0801
