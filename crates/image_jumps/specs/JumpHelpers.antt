-- What the contracts of the steps over a body say: what is left of its jumps at a place, targets cut.
-- Assumes nothing.
use Rattle.std.specs.Prelude.{ℕ, ◌+◌, ◌*◌, ◌-◌, ◌<◌, ◌≡◌, Bool, true, false, cond, List, [], ◌∷◌, ◌++◌, map, length, get_or, drop}
use Rattle.image_units.specs.declared.Mode.{Mode}
use Rattle.image_units.specs.declared.Mode.TheVariants.{Plain}
use Rattle.image_jumps.specs.declared.Cursor.{Cursor}
use Rattle.image_jumps.specs.declared.Jump.{Jump}
use Rattle.image_jumps.specs.declared.Moved.{Moved}
use Rattle.base_ascii.specs.Search.{equals, past}
use Rattle.image_jumps.specs.Jumps.{behind_to, jump_told, targets_from, opened_list, jumps_from, low}
use Rattle.std.specs.Prelude.{Option, Some, None}

abbrev pub low_part : Option ℕ → Option ℕ
low_part None = None
low_part (Some v) = Some (low v)

-- the rest of a list that bytes stand in, and the jumps behind it
abbrev pub left_from : Bool → Option ℕ → Mode → List ℕ → List ℕ
left_from true part mode s = targets_from part s ++ jumps_from mode s
left_from false part mode s = jumps_from mode s

-- the jumps that are left of a body at a place
unfoldable pub left_of : List ℕ → Cursor → List ℕ
unfolding targets_from jumps_from
left_of body c = map low (left_from c.listed c.part c.mode (drop c.at body))

-- how far a place is from a body's end; leaving a list counts
abbrev pub distance : List ℕ → Cursor → ℕ
distance body c = 2 * (length body - c.at) + cond c.listed 1 0

-- a step tells a target or none, and is nearer to the end
pub record Moves (body : List ℕ) (c : Cursor) (r : Moved) : Type 0 where
  pub same : left_of body c ≡ jump_told (low_part r.told) (left_of body r.cursor)
  pub nearer : distance body r.cursor < distance body c

-- a jump, and what is left behind it, nearer to the end
pub record JumpsTo (body : List ℕ) (c : Cursor) (target : ℕ) (d : Cursor) : Type 0 where
  pub same : left_of body c ≡ target ∷ left_of body d
  pub nearer : distance body d < distance body c

-- the next jump
abbrev pub NextIs : List ℕ → Cursor → Option Jump → Type 0
NextIs body c (Some j) = JumpsTo body c j.target j.cursor
NextIs body c None = left_of body c ≡ []

-- the byte at a place of plain text opens a list that begins at a place behind it, and no other jump stands between
pub record Begins (body : List ℕ) (i : ℕ) (mode : Mode) (from : ℕ) : Type 0 where
  pub plain : mode ≡ Plain
  pub behind : i < from
  pub gives : jumps_from Plain (drop i body) ≡ targets_from None (drop from body) ++ jumps_from Plain (drop from body)

abbrev pub Opens : List ℕ → ℕ → Mode → Option ℕ → Type 0
Opens body i mode (Some from) = Begins body i mode from
Opens body i mode None = targets_from None (opened_list mode (get_or body i 0) (drop (i + 1) body)) ≡ []

-- spaces and TO, and no jump between
pub record GoesTo (body : List ℕ) (i from : ℕ) : Type 0 where
  pub behind : i < from
  pub list : behind_to (past (equals 0x20) (drop i body)) ≡ drop from body
  pub none : jumps_from Plain (drop i body) ≡ jumps_from Plain (drop from body)

abbrev pub BehindGo : List ℕ → ℕ → Option ℕ → Type 0
BehindGo body i (Some from) = GoesTo body i from
BehindGo body i None = behind_to (past (equals 0x20) (drop i body)) ≡ []
