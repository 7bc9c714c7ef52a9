-- The sentences of the refusals, a line for each. facts/refusals.tsv has the same, beside numbers and names.
-- Assumes nothing.
use Rattle.std.specs.Prelude.{ℕ, List, [], ◌∷◌, ◌++◌}
use Prim.Native.String.{String}
use Rattle.word_search.specs.Spelling.{bytes_of}

infixr 60 ◌then◌
abbrev pub ◌then◌ : String → List ℕ → List ℕ
w then t = bytes_of w ++ (0x0A ∷ t)

-- a line for each refusal, in the order of the numbers; # stands for the next value that the refusal carries
unfoldable pub rows : List ℕ
rows =
    "text too long: # bytes or more" then
    "offset #: a byte that no text may hold" then
    "text line #: no line number" then
    "text line #: line number # is above 65535" then
    "the image would reach beyond address 65535" then
    "no room: # bytes are needed" then
    "image too long: # bytes or more" then
    "image too short: fewer than two bytes" then
    "the image ends within the link or the number of a line" then
    "offset #: the image ends where a link belongs" then
    "offset #: the link leads backward, or into its own line" then
    "offset #: the link leads beyond the end of the image" then
    "offset #: the link leads to a place where no line has ended" then
    "unknown dialect" then
    "text line #: the line number is above 63999" then
    "text line #: the line number is not above the one before" then
    "text line #: the line holds a zero byte, where the machine would end it" then
    "text line #: the line has no byte, or more than 250, once it is crunched" then
    "the limit of lines was reached before the line was found" then
    "not a disk image that can be worked on" then
    "a file name has 1 to 16 bytes, and none of them is A0" then
    "a file of this name is on the disk already" then
    "no file of this name is on the disk" then
    "the directory is full: 144 files" then
    "the disk is full" then
    "more than 1000 images" then
    "more than 8191 lines" then
    "a jump leads to a line number above 65535" then []

-- the second line, where the text is at hand
unfoldable pub placed_row : List ℕ
placed_row = "text line #, column #: a byte that no text may hold" then []
