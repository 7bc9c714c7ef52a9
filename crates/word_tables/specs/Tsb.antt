-- The TSB words with the byte that follows 64, in the order of source.rs, and the TSB text of such a byte
-- (document 01: "Source document 000 is the Rust. It decides the TSB words"; "The test for a TSB word takes any bytes").
-- Assumes nothing.
use Rattle.std.specs.Prelude.{ℕ, zero, suc, Bool, true, false, cond, List, [], ◌∷◌, eqb}
use Rattle.word_search.specs.Compare.{member}
use Rattle.word_search.specs.Find.{Entry}
use Rattle.word_search.specs.Spelling.{bytes_of, ◌is◌}

unfoldable pub tsb_words : List Entry
tsb_words =
    "HI COL" is 0x0C ∷
    "LOW COL" is 0x76 ∷
    "MOB SET" is 0x1D ∷
    "MOBCOL" is 0x41 ∷
    "END PROC" is 0x34 ∷
    "END LOOP" is 0x36 ∷
    "ON KEY" is 0x37 ∷
    "ON ERROR" is 0x43 ∷
    "NO ERROR" is 0x44 ∷
    "HIRES" is 0x01 ∷
    "PLOT" is 0x02 ∷
    "LINE" is 0x03 ∷
    "BLOCK" is 0x04 ∷
    "FCHR" is 0x05 ∷
    "FCOL" is 0x06 ∷
    "FILL" is 0x07 ∷
    "REC" is 0x08 ∷
    "ROT" is 0x09 ∷
    "DRAW" is 0x0A ∷
    "CHAR" is 0x0B ∷
    "INV" is 0x0D ∷
    "FRAC" is 0x0E ∷
    "MOVE" is 0x0F ∷
    "PLACE" is 0x10 ∷
    "UPB" is 0x11 ∷
    "UPW" is 0x12 ∷
    "LEFTW" is 0x13 ∷
    "LEFTB" is 0x14 ∷
    "DOWNB" is 0x15 ∷
    "DOWNW" is 0x16 ∷
    "RIGHTB" is 0x17 ∷
    "RIGHTW" is 0x18 ∷
    "CIRCLE" is 0x42 ∷
    "DESIGN" is 0x62 ∷
    "PAINT" is 0x75 ∷
    "GRAPHICS" is 0x61 ∷
    "MULTI" is 0x19 ∷
    "MMOB" is 0x1B ∷
    "RLOCMOB" is 0x63 ∷
    "CMOB" is 0x64 ∷
    "MOB" is 0x68 ∷
    "DETECT" is 0x7B ∷
    "CHECK" is 0x7C ∷
    "COLOR" is 0x1A ∷
    "COLOUR" is 0x1A ∷
    "BCKGNDS" is 0x65 ∷
    "CLS" is 0x3C ∷
    "CSET" is 0x70 ∷
    "MAP" is 0x3E ∷
    "MEM" is 0x7A ∷
    "DISPLAY" is 0x7D ∷
    "TEXT" is 0x6F ∷
    "BFLASH" is 0x1C ∷
    "FLASH" is 0x1F ∷
    "MUSIC" is 0x1E ∷
    "PLAY" is 0x21 ∷
    "ENVELOPE" is 0x24 ∷
    "WAVE" is 0x26 ∷
    "SOUND" is 0x60 ∷
    "VOL" is 0x71 ∷
    "REPEAT" is 0x20 ∷
    "UNTIL" is 0x29 ∷
    "DO" is 0x22 ∷
    "LOOP" is 0x3A ∷
    "EXIT" is 0x35 ∷
    "PROC" is 0x31 ∷
    "EXEC" is 0x33 ∷
    "CALL" is 0x32 ∷
    "LOCAL" is 0x45 ∷
    "GLOBAL" is 0x2E ∷
    "CENTER" is 0x23 ∷
    "CENTRE" is 0x23 ∷
    "CGOTO" is 0x25 ∷
    "RCOMP" is 0x46 ∷
    "ELSE" is 0x47 ∷
    "DISABLE" is 0x38 ∷
    "RESUME" is 0x39 ∷
    "RETRACE" is 0x48 ∷
    "TRACE" is 0x49 ∷
    "PAUSE" is 0x66 ∷
    "DELAY" is 0x3B ∷
    "USE" is 0x2C ∷
    "RESET" is 0x30 ∷
    "SECURE" is 0x40 ∷
    "NRM" is 0x67 ∷
    "FETCH" is 0x27 ∷
    "DIR" is 0x4A ∷
    "PAGE" is 0x4B ∷
    "DUMP" is 0x4C ∷
    "FIND" is 0x4D ∷
    "OPTION" is 0x4E ∷
    "AUTO" is 0x4F ∷
    "OLD" is 0x50 ∷
    "RENUMBER" is 0x79 ∷
    "COPY" is 0x77 ∷
    "MERGE" is 0x78 ∷
    "DISK" is 0x72 ∷
    "HRDCPY" is 0x73 ∷
    "KEY" is 0x74 ∷
    "SCRSV" is 0x6D ∷
    "SCRLD" is 0x6E ∷
    "COLD" is 0x6C ∷
    "OFF" is 0x69 ∷
    "ERR" is 0x7E ∷
    "OUT" is 0x7F ∷
    "AT(" is 0x28 ∷
    "LIN" is 0x59 ∷
    "MOD" is 0x52 ∷
    "DIV" is 0x53 ∷
    "EXOR" is 0x5A ∷
    "JOY" is 0x51 ∷
    "INKEY" is 0x56 ∷
    "INSERT" is 0x5B ∷
    "INST" is 0x57 ∷
    "TEST" is 0x58 ∷
    "DUP" is 0x55 ∷
    "POT" is 0x5C ∷
    "PENX" is 0x5D ∷
    "PENY" is 0x5F ∷
    "ANGL" is 0x6A ∷
    "ARC" is 0x6B ∷
    "X!" is 0x3D ∷
    "D!" is 0x54 ∷
    []

-- the first word of a list that has a token, and nothing where none has
unfoldable pub with_token : ℕ → List Entry → List ℕ
with_token t [] = []
with_token t (e ∷ es) = elim (eqb t e.token) [ true ↦ e.word | false ↦ with_token t es ]

-- B1, B2 and B3 are read as 3E, 3D and 3C
unfoldable pub tsb_id : ℕ → ℕ
tsb_id b = cond (eqb b 0xB1) 0x3E (cond (eqb b 0xB2) 0x3D (cond (eqb b 0xB3) 0x3C b))

-- the TSB word of a byte that follows 64, and nothing where the byte is unknown. That this inverse of the list is the table of tokens.rs
-- is compared by running: the original lists every byte behind 64.
unfoldable pub tsb_text : ℕ → List ℕ
unfolding with_token tsb_id tsb_words
tsb_text b = with_token (tsb_id b) tsb_words

-- the TSB words of the bytes below n
unfoldable pub tsb_texts : ℕ → List (List ℕ)
unfolding tsb_text
tsb_texts zero = []
tsb_texts (suc n) = elim (tsb_text n) [ [] ↦ tsb_texts n | b ∷ w ↦ (b ∷ w) ∷ tsb_texts n ]

-- the test for a TSB word: the words that a byte gives, and COLOUR and CENTRE
unfoldable pub is_tsb_word : List ℕ → Bool
unfolding tsb_texts member
is_tsb_word w = member w (bytes_of "COLOUR" ∷ bytes_of "CENTRE" ∷ tsb_texts 0x100)
