-- What a reader reads of an image that was laid out (document 01, "Reading and listing"): all that its calls answer, in one record.
-- Assumes nothing.
use Rattle.std.specs.Prelude.{ℕ, suc, ◌+◌, ◌≡◌, cond, List, [], ◌∷◌, leb, length}
use Rattle.base_refusals.specs.Answer.{done}
use Rattle.image_readers.specs.declared.Line.{Line}
use Rattle.image_readers.specs.NumberedBody.{NumberedBody}
use Rattle.image_readers.specs.Lines.{Reader, lines_of, overview}
use Rattle.image_readers.specs.Bodies.{bodies_of}
use Rattle.base_steps.specs.Each.{Each}
use Rattle.image_layout.specs.Layout.{link_of}

-- the line at an address and an offset, with a link
abbrev pub placed_line : ℕ → ℕ → ℕ → NumberedBody → Line
placed_line address link p l =
    record {
      address = address;
      link = link;
      number = l.number;
      from = p + 4;
      to = p + 4 + length l.body;
      next = p + 5 + length l.body;
    }

-- lines one behind the other, the first at an address and at an offset
unfoldable pub lines_at : ℕ → ℕ → List NumberedBody → List Line
lines_at address p [] = []
lines_at address p (l ∷ ls) = placed_line address (link_of address l.body) p l ∷ lines_at (link_of address l.body) (p + 5 + length l.body) ls

-- a line's link and place, whatever its number
abbrev pub place_of : Line → Line
place_of l = record { address = l.address; link = l.link; number = 0; from = l.from; to = l.to; next = l.next }

-- "each link equals the next line's address, and the last equals the address of the end marker" (document 02, No. 8)
abbrev pub LinksLead : List Line → ℕ → Type 0
LinksLead [] ending = Unit {0}
LinksLead (l ∷ []) ending = l.link ≡ ending
LinksLead (l ∷ m ∷ ls) ending = (l.link ≡ m.address) × LinksLead (m ∷ ls) ending

-- an image is read as these lines: its load address and line count, each line's number and body, and each line's place and link
pub record ReadAs (step : Reader) (load : ℕ) (ls : List NumberedBody) (s : List ℕ) : Type 0 where
  pub checked : overview step s ≡ done (record { load = load; lines = length ls })
  pub bodies : bodies_of step s ≡ done ls
  pub places : lines_of step s ≡ done (lines_at load 2 ls)

-- "where no body holds a zero"
abbrev pub NoZero : List ℕ → Type 0
NoZero body = Each (λ b. b ≡ 0 → ⊥) body

abbrev pub NoZeros : List NumberedBody → Type 0
NoZeros ls = Each (λ l. NoZero l.body) ls

-- every link is the load address plus 5 at least: from here on no link's high byte is 0, which would be the end
abbrev pub least_load : ℕ
least_load = 0x00FB

-- how many of the lines laid out at an address the reader by links finds: all, or none where the first link's high byte is 0
unfoldable pub lines_found : ℕ → List NumberedBody → ℕ
lines_found load [] = 0
lines_found load (l ∷ ls) = cond (leb 0x0100 (link_of load l.body)) (suc (length ls)) 0
