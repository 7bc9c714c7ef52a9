-- What makes a program unfit for the master, and whether a program or a disk is fit, each in a line for a person (docs/DESK.md, "check"). What was read stands in
-- front.
-- Assumes nothing.
use Rattle.std.specs.Prelude.{ℕ, Bool, true, false, List, eqb, ltb}
use Rattle.word_search.specs.Spelling.{bytes_of}
use Rattle.say_put.specs.Rows.{row_text}
use Rattle.image_faults.specs.declared.Fault.{Fault}
use Rattle.image_faults.specs.declared.Fault.TheVariants.{OutsideMemory, NumberTooHigh, NotAscending, ZeroInBody, BodyLength, NoTarget, LinkChanges, LinksLeave, LinksEndless}

-- whether the target is above 65535
unfoldable pub target_row : Bool → List ℕ
target_row true = bytes_of ": line #: it jumps to a line number above 65535"
target_row false = bytes_of ": line #: it jumps to line #, which is not there"

unfoldable pub target_sentence : List ℕ → ℕ → ℕ → List ℕ
unfolding row_text target_row
target_sentence name n target = row_text name (target_row (ltb 65535 target)) n target 0

unfoldable pub fault_sentence : List ℕ → Fault → List ℕ
unfolding row_text target_sentence
fault_sentence name (OutsideMemory load size) = row_text name (bytes_of ": it loads at # and has # bytes, which do not fit into BASIC memory, 2049 to 40959") load size 0
fault_sentence name (NumberTooHigh n) = row_text name (bytes_of ": line #: its number is above 63999") n 0 0
fault_sentence name (NotAscending n) = row_text name (bytes_of ": line #: its number is not above the one before") n 0 0
fault_sentence name (ZeroInBody n address) = row_text name (bytes_of ": line #: it holds a zero at address #: the machine ends it there, and the two readers part") n address 0
fault_sentence name (BodyLength n size) = row_text name (bytes_of ": line #: it has # bytes, and not 1 to 250") n size 0
fault_sentence name (NoTarget n target) = target_sentence name n target
fault_sentence name (LinkChanges n link) = row_text name (bytes_of ": line #: the machine changes its link to # after loading") n link 0
fault_sentence name LinksLeave = row_text name (bytes_of ": the machine runs past the program's end when it sets the links after loading") 0 0 0
fault_sentence name LinksEndless = row_text name (bytes_of ": the machine never ends setting the links after loading") 0 0 0

-- the last line of a program: its load address, and how many lines it has
unfoldable pub program_row : Bool → Bool → List ℕ
program_row true true = bytes_of ": fit for the master: it loads at # and has # line, the same by both readers and for the machine"
program_row true false = bytes_of ": fit for the master: it loads at # and has # lines, the same by both readers and for the machine"
program_row false true = bytes_of ": not fit for the master; it loads at # and has # line"
program_row false false = bytes_of ": not fit for the master; it loads at # and has # lines"

unfoldable pub program_sentence : List ℕ → ℕ → ℕ → Bool → List ℕ
unfolding row_text program_row
program_sentence name load lines fit = row_text name (program_row fit (eqb lines 1)) load lines 0

-- the last line of a disk: how many files it has
unfoldable pub disk_row : Bool → Bool → List ℕ
disk_row true true = bytes_of ": fit for the master: # file"
disk_row true false = bytes_of ": fit for the master: # files"
disk_row false true = bytes_of ": not fit for the master; # file"
disk_row false false = bytes_of ": not fit for the master; # files"

unfoldable pub disk_sentence : List ℕ → ℕ → Bool → List ℕ
unfolding row_text disk_row
disk_sentence name files fit = row_text name (disk_row fit (eqb files 1)) files 0 0

-- the last line of what no reader, or no disk, could be made of
unfoldable pub refused_sentence : List ℕ → List ℕ
unfolding row_text
refused_sentence name = row_text name (bytes_of ": not fit for the master") 0 0 0
