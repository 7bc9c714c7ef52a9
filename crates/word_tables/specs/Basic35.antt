-- The words of BASIC 3.5 (document 02, No. 5: "their BASIC as a fourth dialect, with tokens CC to FD from that machine's published manual").
-- facts/basic35-words.tsv has the same words as data.
-- Assumes nothing.
use Rattle.std.specs.Prelude.{ℕ, List, [], ◌∷◌, map}
use Rattle.word_search.specs.Find.{Entry}
use Rattle.word_search.specs.Spelling.{bytes_of}
use Rattle.word_tables.specs.Rom.{counted}

-- the words in the order of their tokens
unfoldable pub basic35_spellings : List (List ℕ)
basic35_spellings =
    map bytes_of (
    "RGR" ∷ "RCLR" ∷ "RLUM" ∷ "JOY" ∷ "RDOT" ∷ "DEC" ∷ "HEX$" ∷ "ERR$" ∷
    "INSTR" ∷ "ELSE" ∷ "RESUME" ∷ "TRAP" ∷ "TRON" ∷ "TROFF" ∷ "SOUND" ∷ "VOL" ∷
    "AUTO" ∷ "PUDEF" ∷ "GRAPHIC" ∷ "PAINT" ∷ "CHAR" ∷ "BOX" ∷ "CIRCLE" ∷ "GSHAPE" ∷
    "SSHAPE" ∷ "DRAW" ∷ "LOCATE" ∷ "COLOR" ∷ "SCNCLR" ∷ "SCALE" ∷ "HELP" ∷ "DO" ∷
    "LOOP" ∷ "EXIT" ∷ "DIRECTORY" ∷ "DSAVE" ∷ "DLOAD" ∷ "HEADER" ∷ "SCRATCH" ∷ "COLLECT" ∷
    "COPY" ∷ "RENAME" ∷ "BACKUP" ∷ "DELETE" ∷ "RENUMBER" ∷ "KEY" ∷ "MONITOR" ∷ "USING" ∷
    "UNTIL" ∷ "WHILE" ∷ [])

-- a word's token is CC plus its place
unfoldable pub basic35_words : List Entry
unfolding basic35_spellings counted
basic35_words = counted 0xCC basic35_spellings
