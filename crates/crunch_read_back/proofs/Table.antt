-- The table of document 01, "Proved table (P) and run cases", and that of measured lines, by computation.
-- Assumes nothing.
use mathlib.Core.Path.{refl}
use Rattle.base_ascii.specs.Bytes.{between, upper}
use Rattle.base_ascii.specs.Search.{last}
use Rattle.base_ascii.specs.Trim.{trim}
use Rattle.word_search.specs.Find.{name_in, meaning}
use Rattle.word_tables.specs.Escapes.{escape_names}
use Rattle.escape_bytes.specs.KeyCodes.{cbm_letters, ctrl_digits}
use Rattle.word_tables.specs.Rom.{v2_words, operators}
use Rattle.word_tables.specs.Tsb.{tsb_words}
use Rattle.escape_numbers.specs.Numbers.{digit_of, number_after, number_of, hex_of, unsigned, count_of}
use Rattle.escape_bytes.specs.Keys.{key_names, control_byte, key_with, keyed, key_escape}
use Rattle.escape_bytes.specs.Escape.{name_escape, repeated, starred, counted_name}
use Rattle.image_readers.specs.Bodies.{bodies_from}
use Rattle.image_readers.specs.Lines.{overview}
use Rattle.image_readers.specs.Links.{link_step}
use Rattle.image_bytes.specs.ImageBytes.{before_zero}
use Rattle.image_readers.specs.Terminators.{terminator_step}
use Rattle.crunch_rules.specs.Crunched.{crunched}
use Rattle.crunch_rules.specs.Measured.{measured_lines, line_measured}
use Rattle.crunch_read_back.specs.MeasuredBack.{MeasuredTable}
use Rattle.crunch_read_back.specs.ProvedTable.{ProvedTable}

pub proved_table : ProvedTable
unfolding crunched overview bodies_from link_step terminator_step before_zero v2_words operators tsb_words name_in meaning counted_name starred repeated name_escape key_escape keyed key_with control_byte key_names count_of unsigned hex_of number_of number_after digit_of escape_names cbm_letters ctrl_digits last trim upper between
proved_table = (refl, refl, refl, refl, refl, refl, refl, refl, refl, refl, refl, refl, refl, refl, refl, refl, refl, refl, refl)

pub measured_table : MeasuredTable
unfolding measured_lines line_measured v2_words operators tsb_words trim upper between
measured_table = (refl, refl, refl)
