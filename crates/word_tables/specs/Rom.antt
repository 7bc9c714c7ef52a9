-- The word table of the Commodore 64's BASIC V2 ROM at A09E, from which the V2 tokens come: a word's token is 80 plus its place
-- (document 01: "The word table of the Commodore 64's BASIC V2 ROM at 0xA09E, counted from 0x80, decides the V2 tokens 0x80 to 0xCB").
-- Assumes nothing.
use Rattle.std.specs.Prelude.{ℕ, suc, Bool, true, false, not, List, [], ◌∷◌, map, get_or}
use Rattle.base_ascii.specs.Bytes.{is_letter, between, upper}
use Rattle.word_search.specs.Find.{Entry}
use Rattle.word_search.specs.Spelling.{bytes_of}

-- the ROM's words in its order; the arrow-up key, 5E, is written ^
unfoldable pub rom_words : List (List ℕ)
rom_words =
    map bytes_of (
    "END" ∷ "FOR" ∷ "NEXT" ∷ "DATA" ∷ "INPUT#" ∷ "INPUT" ∷ "DIM" ∷ "READ" ∷
    "LET" ∷ "GOTO" ∷ "RUN" ∷ "IF" ∷ "RESTORE" ∷ "GOSUB" ∷ "RETURN" ∷ "REM" ∷
    "STOP" ∷ "ON" ∷ "WAIT" ∷ "LOAD" ∷ "SAVE" ∷ "VERIFY" ∷ "DEF" ∷ "POKE" ∷
    "PRINT#" ∷ "PRINT" ∷ "CONT" ∷ "LIST" ∷ "CLR" ∷ "CMD" ∷ "SYS" ∷ "OPEN" ∷
    "CLOSE" ∷ "GET" ∷ "NEW" ∷ "TAB(" ∷ "TO" ∷ "FN" ∷ "SPC(" ∷ "THEN" ∷
    "NOT" ∷ "STEP" ∷ "+" ∷ "-" ∷ "*" ∷ "/" ∷ "^" ∷ "AND" ∷
    "OR" ∷ ">" ∷ "=" ∷ "<" ∷ "SGN" ∷ "INT" ∷ "ABS" ∷ "USR" ∷
    "FRE" ∷ "POS" ∷ "SQR" ∷ "RND" ∷ "LOG" ∷ "EXP" ∷ "COS" ∷ "SIN" ∷
    "TAN" ∷ "ATN" ∷ "PEEK" ∷ "LEN" ∷ "STR$" ∷ "VAL" ∷ "ASC" ∷ "CHR$" ∷
    "LEFT$" ∷ "RIGHT$" ∷ "MID$" ∷ "GO" ∷ [])

-- each word with its place, counted from k, for a token
unfoldable pub counted : ℕ → List (List ℕ) → List Entry
counted k [] = []
counted k (w ∷ ws) = record { word = w; token = k } ∷ counted (suc k) ws

unfoldable pub keep : (Entry → Bool) → List Entry → List Entry
keep p [] = []
keep p (e ∷ es) = elim (p e) [ true ↦ e ∷ keep p es | false ↦ keep p es ]

-- an operator is the one kind of ROM word that begins with no letter
unfoldable pub is_word : Entry → Bool
unfolding between upper
is_word e = is_letter (get_or e.word 0 0)

-- the V2 words that crunching looks for, in the order of source.rs, which is the ROM's
unfoldable pub v2_words : List Entry
unfolding rom_words counted keep is_word
v2_words = keep is_word (counted 0x80 rom_words)

unfoldable pub operators : List Entry
unfolding rom_words counted keep is_word
operators = keep (λ e. not (is_word e)) (counted 0x80 rom_words)
