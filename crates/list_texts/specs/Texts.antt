-- The texts of listing (document 01, "Reading and listing": "from the 128 texts in tokens.rs"; document 02, No. 5: "shows its words instead
-- of `{CC}` to `{FD}`").
-- Assumes nothing.
use Rattle.std.specs.Prelude.{ℕ, ◌-◌, cond, List, [], ◌++◌, eqb, ltb, get_or}
use Rattle.base_ascii.specs.Bytes.{between}
use Rattle.word_search.specs.Spelling.{bytes_of}
use Rattle.word_tables.specs.Rom.{rom_words}
use Rattle.word_tables.specs.Tsb.{tsb_words, with_token}
use Rattle.word_tables.specs.Basic35.{basic35_spellings}
use Rattle.list_bytes.specs.ByteTexts.{hex_byte}

-- the two digits of a byte in braces
unfoldable pub braced : ℕ → List ℕ
unfolding hex_byte
braced b = bytes_of "{" ++ (hex_byte b ++ bytes_of "}")

-- a byte of 80 or above outside quotes: the ROM's word, or its digits where the ROM has none, and pi
unfoldable pub token_text : ℕ → List ℕ
unfolding rom_words braced
token_text b =
    cond (ltb b 0xCC) (get_or rom_words (b - 0x80) [])
    (cond (eqb b 0xFF) (bytes_of "{PI}")
    (braced b))

-- the texts in one run: of a byte below 80 the TSB word behind 64, of a byte from 80 on its text outside quotes
unfoldable pub text_of : ℕ → List ℕ
unfolding with_token tsb_words token_text
text_of k = cond (ltb k 0x80) (with_token k tsb_words) (token_text k)

-- the same under BASIC 3.5: CC to FD are its words
unfoldable pub text_of35 : ℕ → List ℕ
unfolding text_of basic35_spellings between
text_of35 k = cond (between 0xCC 0xFD k) (get_or basic35_spellings (k - 0xCC) []) (text_of k)
