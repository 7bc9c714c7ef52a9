-- The escape names with the code each gives, in the order of source.rs (document 01, "Escapes"; the Rust decides the names and the codes,
-- but for one: document 02, No. 3).
-- Assumes nothing.
use Rattle.std.specs.Prelude.{ℕ, true, false, List, [], ◌∷◌}
use Rattle.word_search.specs.Compare.{same}
use Rattle.word_search.specs.Find.{Entry}
use Rattle.word_search.specs.Spelling.{bytes_of, ◌is◌}

-- the names with the codes of source.rs
unfoldable pub rust_names : List Entry
rust_names =
    "black" is 0x90 ∷
    "blk" is 0x90 ∷
    "white" is 0x05 ∷
    "wht" is 0x05 ∷
    "red" is 0x1C ∷
    "cyan" is 0x9F ∷
    "cyn" is 0x9F ∷
    "purple" is 0x9C ∷
    "pur" is 0x9C ∷
    "magenta" is 0x9C ∷
    "green" is 0x1E ∷
    "grn" is 0x1E ∷
    "blue" is 0x1F ∷
    "blu" is 0x1F ∷
    "yellow" is 0x9E ∷
    "yel" is 0x9E ∷
    "orange" is 0x81 ∷
    "orng" is 0x81 ∷
    "brown" is 0x95 ∷
    "pink" is 0x96 ∷
    "light red" is 0x96 ∷
    "lred" is 0x96 ∷
    "dark grey" is 0x97 ∷
    "dark gray" is 0x97 ∷
    "grey1" is 0x97 ∷
    "gray1" is 0x97 ∷
    "grey" is 0x98 ∷
    "gray" is 0x98 ∷
    "medium grey" is 0x98 ∷
    "medium gray" is 0x98 ∷
    "grey2" is 0x98 ∷
    "gray2" is 0x98 ∷
    "light green" is 0x99 ∷
    "lgrn" is 0x99 ∷
    "lgreen" is 0x99 ∷
    "light blue" is 0x9A ∷
    "lblu" is 0x9A ∷
    "lblue" is 0x9A ∷
    "light grey" is 0x9B ∷
    "light gray" is 0x9B ∷
    "lgrey" is 0x9B ∷
    "lgray" is 0x9B ∷
    "grey3" is 0x9B ∷
    "gray3" is 0x9B ∷
    "home" is 0x13 ∷
    "clear" is 0x93 ∷
    "clr" is 0x93 ∷
    "up" is 0x91 ∷
    "down" is 0x11 ∷
    "left" is 0x9D ∷
    "right" is 0x1D ∷
    "inst" is 0x94 ∷
    "insert" is 0x94 ∷
    "del" is 0x14 ∷
    "delete" is 0x14 ∷
    "return" is 0x0D ∷
    "cr" is 0x0D ∷
    "lf" is 0x0A ∷
    "esc" is 0x1B ∷
    "space" is 0x20 ∷
    "rvs on" is 0x12 ∷
    "rvson" is 0x12 ∷
    "rvon" is 0x12 ∷
    "reverse on" is 0x12 ∷
    "rvs off" is 0x92 ∷
    "rvsoff" is 0x92 ∷
    "rvof" is 0x92 ∷
    "reverse off" is 0x92 ∷
    "stop" is 0x03 ∷
    "run" is 0x83 ∷
    "f1" is 0x85 ∷
    "f2" is 0x89 ∷
    "f3" is 0x86 ∷
    "f4" is 0x8A ∷
    "f5" is 0x87 ∷
    "f6" is 0x8B ∷
    "f7" is 0x88 ∷
    "f8" is 0x8C ∷
    "pound" is 0x5C ∷
    "pi" is 0xFF ∷
    "arrow left" is 0x5F ∷
    "arrow up" is 0x5E ∷
    "sh asterisk" is 0xC0 ∷
    "sh *" is 0xC0 ∷
    "shift asterisk" is 0xC0 ∷
    "shift *" is 0xC0 ∷
    "sh +" is 0xDB ∷
    "sh -" is 0xDD ∷
    "sh /" is 0xDF ∷
    "sh @" is 0xBA ∷
    "sh pound" is 0xA9 ∷
    "sh space" is 0xA0 ∷
    "shift space" is 0xA0 ∷
    "sh cursor down" is 0x91 ∷
    "sh cursor up" is 0x11 ∷
    "sh cursor left" is 0x1D ∷
    "sh cursor right" is 0x9D ∷
    "sh up" is 0x91 ∷
    "sh down" is 0x11 ∷
    "sh left" is 0x1D ∷
    "sh right" is 0x9D ∷
    "sh home" is 0x53 ∷
    "sh return" is 0x8D ∷
    "cm +" is 0xA6 ∷
    "cm -" is 0xDC ∷
    "cm @" is 0xA4 ∷
    "cm asterisk" is 0xDF ∷
    "cm *" is 0xDF ∷
    "cm pound" is 0xA8 ∷
    "cm space" is 0xA0 ∷
    "cm up arrow" is 0xDE ∷
    "ct up arrow" is 0x1E ∷
    []

-- a list with another code for a name
unfoldable pub recoded : List ℕ → ℕ → List Entry → List Entry
unfolding same
recoded w t [] = []
recoded w t (e ∷ es) = record { word = e.word; token = elim (same w e.word) [ true ↦ t | false ↦ e.token ] } ∷ recoded w t es

-- the names with the code each gives: Shift and HOME send CLR, 93, and not the letter S (document 02, No. 3)
unfoldable pub escape_names : List Entry
unfolding recoded rust_names
escape_names = recoded (bytes_of "sh home") 0x93 rust_names
