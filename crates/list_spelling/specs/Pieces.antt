-- How the units of a body are spelt (document 01, "Reading and listing": "Unquoted 64 and a next byte, even a quote, are a TSB word ..
-- or, if unknown, `{64}{XX}`; a last 64 is `{64}`. Unquoted 80 and above is from the 128 texts in tokens.rs"; document 02, No. 5).
-- Assumes nothing.
use Rattle.std.specs.Prelude.{ℕ, List, [], ◌∷◌, ◌++◌}
use Rattle.word_search.specs.Spelling.{bytes_of}
use Rattle.list_bytes.specs.ByteTexts.{byte_text, hex_byte, remark_text}
use Rattle.list_texts.specs.Texts.{text_of, text_of35}
use Rattle.word_tables.specs.Tsb.{tsb_text}
use Rattle.image_units.specs.declared.Unit.{Unit}
use Rattle.image_units.specs.declared.Unit.TheVariants.{Char, Token, Token35, Pair, Lone, Remarked}

-- 64 and a byte that is no TSB token
unfoldable pub unknown_pair : ℕ → List ℕ
unfolding hex_byte
unknown_pair b = bytes_of "{64}{" ++ (hex_byte b ++ bytes_of "}")

-- the TSB word, or both bytes as digits where there is none
abbrev pub or_unknown : ℕ → List ℕ → List ℕ
or_unknown b [] = unknown_pair b
or_unknown b (x ∷ word) = x ∷ word

-- 64 and the byte behind it
unfoldable pub pair_text : ℕ → List ℕ
unfolding tsb_text unknown_pair
pair_text b = or_unknown b (tsb_text b)

-- a unit
unfoldable pub unit_text : Unit → List ℕ
unfolding byte_text text_of text_of35 pair_text remark_text
unit_text (Char b) = byte_text b
unit_text (Token b) = text_of b
unit_text (Token35 b) = text_of35 b
unit_text (Pair b) = pair_text b
unit_text Lone = bytes_of "{64}"
unit_text (Remarked b) = remark_text b

-- units one behind the other
unfoldable pub spelt : List Unit → List ℕ
unfolding unit_text
spelt [] = []
spelt (u ∷ us) = unit_text u ++ spelt us
