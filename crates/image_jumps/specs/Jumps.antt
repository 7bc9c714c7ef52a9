-- The jumps of a body (document 02, No. 13: "after GOTO, GOSUB, THEN and the pair GO, TO, a list of numbers split by commas. Only tokens
-- unquoted, outside remarks, DATA and 64 pairs count; spaces are skipped, even inside a number, an empty place gives no jump, and the
-- first other byte ends the list").
-- Assumes nothing.
use Rattle.std.specs.Prelude.{ℕ, suc, ◌+◌, ◌-◌, ◌*◌, min, true, false, cond, ◌||◌, List, [], ◌∷◌, ◌++◌, eqb, length, drop}
use Rattle.base_steps.specs.Again.{again}
use Rattle.base_ascii.specs.Bytes.{between, is_digit}
use Rattle.base_ascii.specs.Search.{equals, front, past}
use Rattle.image_units.specs.declared.Mode.{Mode}
use Rattle.image_units.specs.declared.Mode.TheVariants.{Plain, Quoted, Remark, Data, QuotedData}
use Rattle.image_units.specs.declared.Rules.{Rules}
use Rattle.image_units.specs.Units.{unit_at}
use Rattle.std.specs.Prelude.{Option, Some, None}

-- ---- a list of numbers

-- a part between commas, with one digit more
abbrev pub with_digit : Option ℕ → ℕ → Option ℕ
with_digit None d = Some d
with_digit (Some v) d = Some (v * 10 + d)

-- a part that is not empty is a jump to its value
abbrev pub jump_told : Option ℕ → List ℕ → List ℕ
jump_told None rest = rest
jump_told (Some v) rest = v ∷ rest

-- the targets of the list that bytes begin with, behind a part
unfoldable pub targets_from : Option ℕ → List ℕ → List ℕ
unfolding between
targets_from p [] = jump_told p []
targets_from p (b ∷ s) =
    elim (is_digit b) [
      | true ↦ targets_from (with_digit p (b - 48)) s
      | false ↦ elim (eqb b 0x20) [
        | true ↦ targets_from p s
        | false ↦ elim (eqb b 0x2C) [ true ↦ jump_told p (targets_from None s) | false ↦ jump_told p [] ]
      ]
    ]

-- ---- what opens a list

-- what stands behind TO
abbrev pub behind_to : List ℕ → List ℕ
behind_to [] = []
behind_to (b ∷ s) = cond (eqb b 0xA4) s []

-- what stands behind GOTO, GOSUB or THEN, or behind GO, spaces and TO; nothing behind another byte
unfoldable pub list_behind : ℕ → List ℕ → List ℕ
unfolding front
list_behind b rest =
    cond (eqb b 0x89 || (eqb b 0x8D || eqb b 0xA7)) rest
    (cond (eqb b 0xCB) (behind_to (past (equals 0x20) rest))
    [])

-- the list that a byte opens, and only where it is neither quoted nor in a remark or DATA
unfoldable pub opened_list : Mode → ℕ → List ℕ → List ℕ
unfolding list_behind
opened_list Plain b rest = list_behind b rest
opened_list Quoted b rest = []
opened_list Remark b rest = []
opened_list Data b rest = []
opened_list QuotedData b rest = []

-- ---- the jumps

-- 64 takes the next byte with it, a remark runs to the body's end, DATA to an unquoted colon
abbrev pub heeded : Rules
heeded = record { prefix = true; remarks = true; items = true; basic35 = false }

-- the targets of the list that the first unit opens, and what f gives behind that unit: the bytes of a list open none themselves
abbrev pub jumps_on : (Mode × List ℕ → List ℕ) → Mode → List ℕ → List ℕ
jumps_on f mode [] = []
jumps_on f mode (b ∷ rest) =
    let t = unit_at heeded mode b rest in
    targets_from None (opened_list mode b rest) ++ f (t.mode, drop t.used (b ∷ rest))

-- the jumps of bytes, from a mode on; `jumps_more` (proofs/Walking.antt) is the equation without the count
unfoldable pub jumps_from : Mode → List ℕ → List ℕ
unfolding again unit_at opened_list targets_from
jumps_from mode s = again [] (λ f x. jumps_on f x.0 x.1) (suc (length s)) (mode, s)

-- the jumps of a body, by their targets
abbrev pub jumps_of : List ℕ → List ℕ
jumps_of body = jumps_from Plain body

-- a target as it is told: cut at 65536, which no 16 bits hold, so that digits without end are read
abbrev pub low : ℕ → ℕ
low v = min v 65536
