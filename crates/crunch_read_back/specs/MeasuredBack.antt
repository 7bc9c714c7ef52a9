-- What is known of the lines that are measured of a text (document 02, No. 8).
-- Assumes nothing.
use Rattle.std.specs.Prelude.{ℕ, suc, ◌-◌, ◌≤◌, ◌≡◌, false, List, [], ◌∷◌, ◌++◌, map, length}
use Rattle.std.specs.Prelude.{None}
use Rattle.base_refusals.specs.Answer.{done}
use Rattle.word_search.specs.Spelling.{bytes_of}
use Rattle.word_dialects.specs.declared.Dialect.TheVariants.{Auto}
use Rattle.image_bytes.specs.ImageBytes.{address_at}
use Rattle.image_readers.specs.Lines.{lines_of}
use Rattle.image_readers.specs.Links.{link_step}
use Rattle.image_readers.specs.declared.Line.{Line}
use Rattle.image_layout.specs.Reads.{LinksLead}
use Rattle.crunch_rules.specs.Measured.{nonblank_lines, measured_lines, line_measured}
use Rattle.crunch_rules.specs.declared.MeasuredLine.{MeasuredLine}
use Rattle.crunch_rules.specs.declared.Options.{Options}

-- the first number is at least m, and each is above the one before
abbrev pub AscendFrom : ℕ → List ℕ → Type 0
AscendFrom m [] = Unit {0}
AscendFrom m (n ∷ ns) = (m ≤ n) × AscendFrom (suc n) ns

abbrev pub image_lines : List MeasuredLine → List Line
image_lines ms = map (λ m. m.line) ms

abbrev pub origins : List MeasuredLine → List ℕ
origins ms = map (λ m. m.origin) ms

-- the k-th line comes from the k-th text line that is not blank, and these ascend
pub record ComeFrom (text : List ℕ) (ms : List MeasuredLine) : Type 0 where
  pub nonblank : origins ms ≡ nonblank_lines text
  pub ascend : AscendFrom 1 (origins ms)

-- the measured lines are exactly those that the reader by links finds in the image, in order, and with all that a line tells; "each link
-- equals the next line's address, and the last equals the address of the end marker", which are the image's last two bytes
pub record MeasuredBack (ms : List MeasuredLine) (s : List ℕ) : Type 0 where
  pub read : lines_of link_step s ≡ done (image_lines ms)
  pub marker : link_step s (length s - 2) ≡ done None
  pub lead : LinksLead (image_lines ms) (address_at s (length s - 2))

-- an empty line, `10 A`, an empty line, `20`
abbrev pub two_of_four : List ℕ
two_of_four = 0x0A ∷ bytes_of "10 A" ++ 0x0A ∷ 0x0A ∷ bytes_of "20"

abbrev pub at0801 : Options
at0801 = record { load = 0x0801; dialect = Auto; profile = false; forms = false }

-- its lines come from the second and the fourth text line; there is no line at place 0, nor at place 3
abbrev pub MeasuredTable : Type 0
MeasuredTable =
    (measured_lines at0801 two_of_four
    ≡ done
    (record { line = record { address = 0x0801; link = 0x0807; number = 10; from = 6; to = 7; next = 8 }; origin = 2 }
    ∷ record { line = record { address = 0x0807; link = 0x080C; number = 20; from = 12; to = 12; next = 13 }; origin = 4 }
    ∷ []))
    × (line_measured at0801 0 two_of_four ≡ done None)
    × (line_measured at0801 3 two_of_four ≡ done None)
