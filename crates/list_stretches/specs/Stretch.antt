-- A line's listing in stretches (document 02, No. 10: "writing the listing out line by line and each long body in stretches"): what a room holds
-- of what is left of a line, in whole pieces. A piece is the number with its space, a unit's text, or the line's end; none is longer than
-- nine bytes, so a room of nine always holds one (proofs/Stretches.antt).
-- Assumes nothing.
use Rattle.std.specs.Prelude.{ℕ, zero, suc, ◌+◌, ◌-◌, Bool, true, false, cond, ◌&&◌, List, [], ◌∷◌, ◌++◌, leb, ltb, length, drop}
use Rattle.base_steps.specs.Again.{again}
use Rattle.image_readers.specs.NumberedBody.{NumberedBody}
use Rattle.image_units.specs.declared.Mode.{Mode}
use Rattle.image_units.specs.declared.Mode.TheVariants.{Plain}
use Rattle.image_units.specs.declared.Rules.{Rules}
use Rattle.image_units.specs.declared.Taken.{Taken}
use Rattle.image_units.specs.Units.{unit_at, units_from}
use Rattle.list_spelling.specs.Pieces.{unit_text, spelt}
use Rattle.list_lines.specs.LineHelpers.{head_listing, rest_listing}
use Rattle.list_stretches.specs.declared.Place.{Place}
use Rattle.list_stretches.specs.declared.Place.TheVariants.{Number, Body, Over}
use Rattle.list_stretches.specs.declared.Stretch.{Stretch}

-- the units in front of bytes whose texts a room holds: the text, how many bytes they take, and the mode behind them
pub record Run : Type 0 where
  pub text : List ℕ
  pub taken : ℕ
  pub mode : Mode

abbrev pub no_run : Mode → Run
no_run mode = record { text = []; taken = 0; mode = mode }

-- a unit in front of a run
abbrev pub unit_before : Taken → Run → Run
unit_before t r = record { text = unit_text t.unit ++ r.text; taken = t.used + r.taken; mode = r.mode }

abbrev pub run_on : Rules → (ℕ × Mode × List ℕ → Run) → ℕ → Mode → List ℕ → Run
run_on rules f room mode [] = no_run mode
run_on rules f room mode (b ∷ rest) =
    let t = unit_at rules mode b rest in
    let n = length (unit_text t.unit) in
    cond (leb n room) (unit_before t (f (room - n, t.mode, drop t.used (b ∷ rest)))) (no_run mode)

-- `run_more` and its like (proofs/Stretches.antt) are the equations without the count
unfoldable pub run_from : Rules → ℕ → Mode → List ℕ → Run
unfolding again unit_at unit_text
run_from rules room mode s = again (no_run Plain) (λ f x. run_on rules f x.0 x.1 x.2) (suc (length s)) (room, mode, s)

-- a stretch: its text, and the place behind it
pub record Stretched : Type 0 where
  pub text : List ℕ
  pub place : Place

-- the line's end behind a run, where the body is through and the room holds one byte more
abbrev pub ended : ℕ → ℕ → ℕ → Run → Stretched
ended size room at r =
    cond (leb size (at + r.taken) && ltb (length r.text) room)
    (record { text = r.text ++ (0x0A ∷ []); place = Over })
    (record { text = r.text; place = Body (at + r.taken) r.mode })

-- from a place of the body on
unfoldable pub body_stretch : Rules → List ℕ → ℕ → ℕ → Mode → Stretched
unfolding run_from
body_stretch rules body room at mode = ended (length body) room at (run_from rules room mode (drop at body))

-- the number in front of a stretch
abbrev pub number_before : ℕ → Stretched → Stretched
number_before n s = record { text = head_listing n ++ s.text; place = s.place }

-- what a room holds of a line from a place on
unfoldable pub stretch_of : Rules → List ℕ → ℕ → Place → Stretched
unfolding body_stretch head_listing
stretch_of rules body room (Number n) =
    let k = length (head_listing n) in
    cond (leb k room) (number_before n (body_stretch rules body (room - k) 0 Plain)) (record { text = []; place = Number n })
stretch_of rules body room (Body at mode) = body_stretch rules body room at mode
stretch_of rules body room Over = record { text = []; place = Over }

-- what a call answers of a stretch
abbrev pub stretch_answer : Stretched → Stretch
stretch_answer s = record { length = length s.text; place = s.place }

-- what is left to list of a line from a place on
unfoldable pub left_to_list : Rules → List ℕ → Place → List ℕ
unfolding head_listing rest_listing units_from spelt
left_to_list rules body (Number n) = head_listing n ++ rest_listing rules body
left_to_list rules body (Body at mode) = spelt (units_from rules mode (drop at body)) ++ (0x0A ∷ [])
left_to_list rules body Over = []

-- ---- one stretch after the other

-- from a place on a line is listed in these parts: stretches, each in a room of its own, until nothing is left
pub data InStretches (rules : Rules) (body : List ℕ) : Place → List (List ℕ) → Type 0 where
  over : InStretches rules body Over []
  more : {place : Place} {parts : List (List ℕ)} (room : ℕ) → InStretches rules body (stretch_of rules body room place).place parts
      → InStretches rules body place ((stretch_of rules body room place).text ∷ parts)

-- lines, one after the other, each in stretches
pub data LinesInStretches (rules : Rules) : List NumberedBody → List (List ℕ) → Type 0 where
  no_lines : LinesInStretches rules [] []
  line_more : {l : NumberedBody} {ls : List NumberedBody} {parts rest : List (List ℕ)} → InStretches rules l.body (Number l.number) parts
      → LinesInStretches rules ls rest → LinesInStretches rules (l ∷ ls) (parts ++ rest)

unfoldable pub joined_parts : List (List ℕ) → List ℕ
joined_parts [] = []
joined_parts (p ∷ ps) = p ++ joined_parts ps

-- how far a place is from the line's end
unfoldable pub place_left : List ℕ → Place → ℕ
place_left body (Number n) = length body + 2
place_left body (Body at mode) = length body - at + 1
place_left body Over = 0

-- ---- what a caller is given

abbrev pub is_over : Place → Bool
is_over (Number n) = false
is_over (Body at mode) = false
is_over Over = true

-- the stretches of calls one after the other, until the line is over: the k-th call has a room of `rooms k` bytes; so many calls at most
unfoldable pub stretches_from : Rules → List ℕ → (ℕ → ℕ) → ℕ → ℕ → Place → List (List ℕ)
unfolding stretch_of
stretches_from rules body rooms zero k place = []
stretches_from rules body rooms (suc most) k place =
    let s = stretch_of rules body (rooms k) place in
    cond (is_over place) [] (s.text ∷ stretches_from rules body rooms most (suc k) s.place)

-- the same of lines, from the j-th on. In rooms of nine bytes or more no line takes more calls than it is far from its end (`lines_given`,
-- proofs/Joining.antt)
unfoldable pub stretches_of : Rules → (ℕ → ℕ → ℕ) → ℕ → List NumberedBody → List (List ℕ)
unfolding stretches_from place_left
stretches_of rules rooms j [] = []
stretches_of rules rooms j (l ∷ ls) =
    let start = Number l.number in
    stretches_from rules l.body (rooms j) (place_left l.body start) 0 start ++ stretches_of rules rooms (suc j) ls
