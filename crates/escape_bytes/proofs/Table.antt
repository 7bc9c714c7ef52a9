-- The escapes of document 01, "Proved table", and others that are easy to get wrong, each by computation.
-- Assumes nothing.
use Prim.Native.String.{String}
use mathlib.Core.Path.{◌≡◌, refl}
use Rattle.base_ascii.specs.Bytes.{between, upper}
use Rattle.base_ascii.specs.Search.{before, last}
use Rattle.base_ascii.specs.Trim.{trim}
use Rattle.word_search.specs.Compare.{begins, alike}
use Rattle.word_search.specs.Find.{first_that, name_in, meaning}
use Rattle.word_search.specs.Spelling.{bytes_of}
use Rattle.word_tables.specs.Escapes.{escape_names}
use Rattle.escape_bytes.specs.KeyCodes.{cbm_letters, ctrl_digits}
use Rattle.escape_numbers.specs.Numbers.{digit_of, number_after, number_of, hex_of, unsigned, count_of}
use Rattle.escape_bytes.specs.Keys.{key_names, known, control_byte, key_with, keyed, key_escape}
use Rattle.escape_bytes.specs.Escape.{name_escape, repeated, starred, counted_name, escape_of}
use Rattle.escape_bytes.specs.declared.Escape.{Escape}
use Rattle.std.specs.Prelude.{Option, None}

infix 60 ◌gives◌
abbrev pub ◌gives◌ : String → Option Escape → Type 0
inside gives e = escape_of (bytes_of inside) ≡ e

pub escape-table :
    -- the cases of document 01, and the inside of a string's {0}
    ("sh *" gives known 0xC0 1)
    × ("space*0" gives None)
    × ("0" gives known 0x00 1)
    -- digits and hex digits go by their value, up to 255, and have no sign
    × ("34" gives known 0x22 1)
    × ("00000000255" gives known 0xFF 1)
    × ("256" gives None)
    × ("+5" gives None)
    × ("$0000ff" gives known 0xFF 1)
    × ("$100" gives None)
    × ("$" gives None)
    × (" " gives None)
    -- the last * counts, with a number above 0 that fits 64 bits behind it
    × ("Red* +3 " gives known 0x1C 3)
    × ("sh **2" gives known 0xC0 2)
    × ("sh *2" gives None)
    × ("*2" gives None)
    × ("red*2*2" gives None)
    × ("red*0" gives None)
    × ("red*+" gives None)
    × ("red*18446744073709551615" gives known 0x1C 18446744073709551615)
    × ("red*18446744073709551616" gives None)
    -- a key and one byte, split at the first mark; a name is compared whole
    × ("ctrl \"" gives known 0x02 1)
    × ("ctrl *" gives known 0x0A 1)
    × ("ctrl {" gives known 0x1B 1)
    × ("ctrl- a" gives known 0x01 1)
    × ("ctrl--" gives known 0x0D 1)
    × ("ctrl -a" gives None)
    × ("cntrl 9" gives known 0x12 1)
    × ("control 0" gives known 0x92 1)
    × ("CBM_A" gives known 0xB0 1)
    × ("shift_q" gives known 0xD1 1)
    × ("sh -" gives known 0xDD 1)
    × ("Sh Home*2" gives known 0x93 2)
    × ("shift home" gives None)
    × ("light red" gives known 0x96 1)
    × ("light_red" gives None)
    × ("re\"d" gives None)
    × ("foo{red" gives None)
unfolding escape_of counted_name starred repeated name_escape key_escape keyed key_with control_byte key_names count_of unsigned hex_of number_of number_after digit_of last before escape_names cbm_letters ctrl_digits name_in first_that meaning alike begins trim upper between
escape-table = (refl, refl, refl, refl, refl, refl, refl, refl, refl, refl, refl, refl, refl, refl, refl, refl, refl, refl, refl, refl, refl, refl, refl, refl, refl, refl, refl, refl, refl, refl, refl, refl, refl, refl, refl, refl, refl)
