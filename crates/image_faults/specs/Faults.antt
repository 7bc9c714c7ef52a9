-- The faults that make a program unfit for the master disk: by document 01's reader by links, the machine's limits (document 02, No. 1) and its
-- BASIC memory, the jumps of No. 13, and the machine's relinking.
-- Assumes nothing.
use Rattle.std.specs.Prelude.{ℕ, ◌+◌, Bool, true, false, cond, not, ◌&&◌, List, [], ◌∷◌, ◌++◌, map, ltb, length, drop}
use Rattle.base_refusals.specs.Answer.{Answer, done, refused, map_done}
use Rattle.image_limits.specs.Limits.{c64, is_too_high, is_not_ascending, is_bad_length, in_basic_memory}
use Rattle.image_readers.specs.declared.Line.{Line}
use Rattle.image_readers.specs.Bodies.{body_of}
use Rattle.image_bytes.specs.ImageBytes.{low_first_at, address_at, before_zero}
use Rattle.image_readers.specs.IndexLines.{index_line, has_line}
use Rattle.image_readers.specs.Lines.{lines_from, lines_of}
use Rattle.image_readers.specs.Links.{link_step}
use Rattle.image_jumps.specs.Jumps.{jumps_from, jumps_of, low}
use Rattle.image_relink.specs.Relinking.{Relinking, same, changed, leaves, endless, relinking}
use Rattle.image_faults.specs.declared.Fault.{Fault}
use Rattle.image_faults.specs.declared.Fault.TheVariants.{OutsideMemory, NumberTooHigh, NotAscending, ZeroInBody, BodyLength, NoTarget, LinkChanges, LinksLeave, LinksEndless}

-- a fault where a test holds
abbrev pub fault_if : Bool → Fault → List Fault
fault_if b f = cond b (f ∷ []) []

-- ---- the whole image

unfoldable pub memory_faults : List ℕ → List Fault
memory_faults s = fault_if (not (in_basic_memory c64 (low_first_at s 0) (length s))) (OutsideMemory (low_first_at s 0) (length s))

-- what the machine does to the links; the line's number stands behind its link
abbrev pub relink_fault : List ℕ → Answer Relinking → List Fault
relink_fault s (done same) = []
relink_fault s (done (changed p link)) = LinkChanges (low_first_at s (p + 2)) link ∷ []
relink_fault s (done leaves) = LinksLeave ∷ []
relink_fault s (done endless) = LinksEndless ∷ []
relink_fault s (refused n) = []

unfoldable pub relink_faults : List ℕ → List Fault
unfolding relinking
relink_faults s = relink_fault s (relinking s)

-- ---- a line

unfoldable pub number_faults : Line → List Fault
number_faults l = fault_if (is_too_high c64 l.number) (NumberTooHigh l.number)

-- the least number that the line may have is one more than that of the line before
unfoldable pub order_faults : ℕ → Line → List Fault
order_faults least l = fault_if (is_not_ascending least l.number) (NotAscending l.number)

-- where the first zero stands from a body's start on
abbrev pub first_zero : List ℕ → Line → ℕ
first_zero s l = l.from + before_zero (drop l.from s)

unfoldable pub zero_faults : List ℕ → Line → List Fault
unfolding before_zero
zero_faults s l = fault_if (ltb (first_zero s l) l.to) (ZeroInBody l.number (address_at s (first_zero s l)))

unfoldable pub length_faults : List ℕ → Line → List Fault
length_faults s l = fault_if (is_bad_length c64 (length (body_of s l))) (BodyLength l.number (length (body_of s l)))

-- the targets that a test does not pass
unfoldable pub unmet : (ℕ → Bool) → List ℕ → List ℕ
unmet has [] = []
unmet has (t ∷ ts) = elim (has t) [ true ↦ unmet has ts | false ↦ t ∷ unmet has ts ]

-- targets above 65535 are told as 65536
unfoldable pub jump_faults : (ℕ → Bool) → List ℕ → Line → List Fault
unfolding jumps_from unmet
jump_faults has s l = map (NoTarget l.number) (unmet has (map low (jumps_of (body_of s l))))

unfoldable pub line_faults : (ℕ → Bool) → List ℕ → ℕ → Line → List Fault
unfolding number_faults order_faults zero_faults length_faults jump_faults
line_faults has s least l = number_faults l ++ (order_faults least l ++ (zero_faults s l ++ (length_faults s l ++ jump_faults has s l)))

unfoldable pub lines_faults : (ℕ → Bool) → List ℕ → ℕ → List Line → List Fault
unfolding line_faults
lines_faults has s least [] = []
lines_faults has s least (l ∷ ls) = line_faults has s least l ++ lines_faults has s (l.number + 1) ls

-- ---- the program

-- a line has the number; none has one above 65535
unfoldable pub has_target : List Line → ℕ → Bool
unfolding has_line
has_target ls t = ltb t 65536 && has_line (map index_line ls) t

-- in the image's order
unfoldable pub faults_in : List ℕ → List Line → List Fault
unfolding memory_faults lines_faults has_target relink_faults
faults_in s ls = memory_faults s ++ (lines_faults (has_target ls) s 0 ls ++ relink_faults s)

-- the faults of an image, or the refusal of the reader by links; a program without faults is fit
unfoldable pub fitness : List ℕ → Answer (List Fault)
unfolding lines_from link_step faults_in
fitness s = map_done (faults_in s) (lines_of link_step s)
