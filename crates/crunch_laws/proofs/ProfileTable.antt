-- The table of the machine profile, by computation.
-- Assumes nothing.
use mathlib.Core.Path.{refl}
use Rattle.base_ascii.specs.Bytes.{between, upper}
use Rattle.base_ascii.specs.Search.{last}
use Rattle.base_ascii.specs.Trim.{trim}
use Rattle.word_search.specs.Find.{name_in, meaning}
use Rattle.word_tables.specs.Escapes.{escape_names}
use Rattle.escape_bytes.specs.KeyCodes.{cbm_letters, ctrl_digits}
use Rattle.word_tables.specs.Rom.{v2_words, operators}
use Rattle.word_tables.specs.Tsb.{tsb_words}
use Rattle.escape_numbers.specs.Numbers.{digit_of, number_after, number_of, hex_of, unsigned, count_of}
use Rattle.escape_bytes.specs.Keys.{key_names, control_byte, key_with, keyed, key_escape}
use Rattle.escape_bytes.specs.Escape.{name_escape, repeated, starred, counted_name}
use Rattle.crunch_rules.specs.Crunched.{crunched_lines}
use Rattle.crunch_laws.specs.ProfileTable.{ProfileTable}

pub profile_table : ProfileTable
unfolding crunched_lines v2_words operators tsb_words name_in meaning counted_name starred repeated name_escape key_escape keyed key_with control_byte key_names count_of unsigned hex_of number_of number_after digit_of escape_names cbm_letters ctrl_digits last trim upper between
profile_table = (refl, refl, refl, refl, refl, refl, refl, refl, refl, refl, refl, refl)
