-- A program's faults in numbers (crates/image_faults/specs/Faults.antt), and the place of the walk over them.
-- Assumes nothing.
use Rattle.std.specs.Prelude.{ℕ, zero, suc, ◌≡◌, Bool, not, cond, List, [], ◌∷◌, eqb}
use Rattle.image_units.specs.declared.Mode.{Mode}
use Rattle.image_units.specs.declared.Mode.TheVariants.{Plain, Quoted, Remark, Data, QuotedData}
use Rattle.image_jumps.specs.declared.Cursor.{Cursor}
use Rattle.image_faults.specs.declared.Fault.{Fault}
use Rattle.image_faults.specs.declared.Fault.TheVariants.{OutsideMemory, NumberTooHigh, NotAscending, ZeroInBody, BodyLength, NoTarget, LinkChanges, LinksLeave, LinksEndless}
use Rattle.image_fitness.specs.declared.Check.{Check}
use Rattle.image_fitness.specs.declared.Check.TheVariants.{Number, Order, Zero, Length, Jumps}
use Rattle.image_fitness.specs.declared.Stage.{Stage}
use Rattle.image_fitness.specs.declared.Stage.TheVariants.{Memory, Line, Relinking, Done}
use Rattle.image_fitness.specs.declared.Place.{Place}
use Rattle.image_fitness.specs.declared.Found.{Found}
use Rattle.image_fitness.specs.FaultHelpers.{faults_at}
use Rattle.library_numbers.specs.declared.faults.WalkNumbers.{WalkNumbers}
use Rattle.library_numbers.specs.declared.faults.FaultCode.{FaultCode}
use Rattle.std.specs.Prelude.{Option, Some, None}

-- ---- a place in numbers (`walk_back`, proofs/Walking.antt: they name the place that they were made from)

abbrev pub mode_number : Mode → ℕ
mode_number Plain = 0
mode_number Quoted = 1
mode_number Remark = 2
mode_number Data = 3
mode_number QuotedData = 4

abbrev pub worth_of : Option ℕ → ℕ
worth_of None = 0
worth_of (Some n) = 1

abbrev pub value_of : Option ℕ → ℕ
value_of None = 0
value_of (Some n) = n

abbrev pub plain_walk : ℕ → ℕ → ℕ → WalkNumbers
plain_walk stage offset least = record { stage = stage; mode = 0; listed = 0; begun = 0; at = 0; value = 0; offset = offset; least = least }

abbrev pub jumps_walk : Cursor → ℕ → ℕ → WalkNumbers
jumps_walk c offset least =
    record {
      stage = 5;
      mode = mode_number c.mode;
      listed = cond c.listed 1 0;
      begun = worth_of c.part;
      at = c.at;
      value = value_of c.part;
      offset = offset;
      least = least;
    }

abbrev pub check_walk : Check → ℕ → ℕ → WalkNumbers
check_walk Number = plain_walk 1
check_walk Order = plain_walk 2
check_walk Zero = plain_walk 3
check_walk Length = plain_walk 4
check_walk (Jumps c) = jumps_walk c

abbrev pub stage_walk : Stage → ℕ → ℕ → WalkNumbers
stage_walk Memory = plain_walk 0
stage_walk (Line c) = check_walk c
stage_walk Relinking = plain_walk 6
stage_walk Done = plain_walk 7

abbrev pub walk_numbers : Place → WalkNumbers
walk_numbers p = stage_walk p.stage p.offset p.least

-- ---- and back, whatever the numbers

unfoldable pub mode_of : ℕ → Mode
mode_of zero = Plain
mode_of (suc zero) = Quoted
mode_of (suc (suc zero)) = Remark
mode_of (suc (suc (suc zero))) = Data
mode_of (suc (suc (suc (suc zero)))) = QuotedData
mode_of (suc (suc (suc (suc (suc n))))) = Plain

abbrev pub part_of : Bool → ℕ → Option ℕ
part_of begun value = cond begun (Some value) None

abbrev pub cursor_of : WalkNumbers → Cursor
cursor_of x = record { at = x.at; mode = mode_of x.mode; listed = not (eqb x.listed 0); part = part_of (not (eqb x.begun 0)) x.value }

unfoldable pub stage_of : ℕ → WalkNumbers → Stage
unfolding mode_of
stage_of zero x = Memory
stage_of (suc zero) x = Line Number
stage_of (suc (suc zero)) x = Line Order
stage_of (suc (suc (suc zero))) x = Line Zero
stage_of (suc (suc (suc (suc zero)))) x = Line Length
stage_of (suc (suc (suc (suc (suc zero))))) x = Line (Jumps (cursor_of x))
stage_of (suc (suc (suc (suc (suc (suc zero)))))) x = Relinking
stage_of (suc (suc (suc (suc (suc (suc (suc n))))))) x = Done

abbrev pub walk_place : WalkNumbers → Place
walk_place x = record { stage = stage_of x.stage x; offset = x.offset; least = x.least }

-- ---- faults

-- a fault by its kind, with what it carries
abbrev pub fault_code : Fault → WalkNumbers → FaultCode
fault_code (OutsideMemory load length) x = record { kind = 1; first = load; second = length; place = x }
fault_code (NumberTooHigh number) x = record { kind = 2; first = number; second = 0; place = x }
fault_code (NotAscending number) x = record { kind = 3; first = number; second = 0; place = x }
fault_code (ZeroInBody number address) x = record { kind = 4; first = number; second = address; place = x }
fault_code (BodyLength number length) x = record { kind = 5; first = number; second = length; place = x }
fault_code (NoTarget number target) x = record { kind = 6; first = number; second = target; place = x }
fault_code (LinkChanges number link) x = record { kind = 7; first = number; second = link; place = x }
fault_code LinksLeave x = record { kind = 8; first = 0; second = 0; place = x }
fault_code LinksEndless x = record { kind = 9; first = 0; second = 0; place = x }

abbrev pub no_fault : FaultCode
no_fault = record { kind = 0; first = 0; second = 0; place = plain_walk 7 0 0 }

abbrev pub found_code : Option Found → FaultCode
found_code (Some m) = fault_code m.fault (walk_numbers m.place)
found_code None = no_fault

-- the first of the faults that are left, and a place at which the others are left; or none
abbrev pub FaultLeft : (ℕ → Bool) → List ℕ → List Fault → FaultCode → Type 0
FaultLeft has s [] r = r ≡ no_fault
FaultLeft has s (f ∷ fs) r = (r ≡ fault_code f r.place) × (faults_at has s (walk_place r.place) ≡ fs)
