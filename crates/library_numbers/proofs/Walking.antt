-- Faults and places of the walk in numbers.
-- Assumes nothing.
use Prim.Native.Nat.{ℕ, zero, suc}
use mathlib.Core.Path.{◌≡◌, refl, sym, ap, subst, ◌∙◌}
use mathlib.Core.Bool.{Bool, true, false, not, cond}
use mathlib.Core.List.{List}
use lib.Dec.{eqb}
use Rattle.image_units.specs.declared.Mode.{Mode}
use Rattle.image_units.specs.declared.Mode.TheVariants.{Plain, Quoted, Remark, Data, QuotedData}
use Rattle.image_jumps.specs.declared.Cursor.{Cursor}
use Rattle.image_faults.specs.declared.Fault.{Fault}
use Rattle.image_faults.specs.declared.Fault.TheVariants.{OutsideMemory, NumberTooHigh, NotAscending, ZeroInBody, BodyLength, NoTarget, LinkChanges, LinksLeave, LinksEndless}
use Rattle.image_fitness.specs.declared.Check.TheVariants.{Number, Order, Zero, Length, Jumps}
use Rattle.image_fitness.specs.declared.Stage.{Stage}
use Rattle.image_fitness.specs.declared.Stage.TheVariants.{Memory, Line, Relinking, Done}
use Rattle.image_fitness.specs.declared.Place.{Place}
use Rattle.image_fitness.specs.declared.Found.{Found}
use Rattle.image_fitness.specs.FaultHelpers.{faults_at, FaultIs}
use Rattle.library_numbers.specs.declared.faults.WalkNumbers.{WalkNumbers}
use Rattle.library_numbers.specs.declared.faults.FaultCode.{FaultCode}
use Rattle.library_numbers.specs.FaultNumbers.{mode_number, worth_of, value_of, plain_walk, jumps_walk, stage_walk, walk_numbers, mode_of, part_of, cursor_of, stage_of, walk_place, fault_code, found_code, FaultLeft}
use Rattle.std.specs.Prelude.{Option, Some, None}

-- ---- numbers name what they were made from

pub mode_back : (m : Mode) → mode_of (mode_number m) ≡ m
unfolding mode_of
mode_back Plain = refl
mode_back Quoted = refl
mode_back Remark = refl
mode_back Data = refl
mode_back QuotedData = refl

yes_back : (b : Bool) → not (eqb (cond b 1 0) 0) ≡ b
yes_back true = refl
yes_back false = refl

part_back : (p : Option ℕ) → part_of (not (eqb (worth_of p) 0)) (value_of p) ≡ p
part_back None = refl
part_back (Some n) = refl

cursor_back : (c : Cursor) (offset least : ℕ) → cursor_of (jumps_walk c offset least) ≡ c
cursor_back c offset least = rw (mode_back c.mode, yes_back c.listed, part_back c.part) refl

stage_back : (s : Stage) (offset least : ℕ) → stage_of (stage_walk s offset least).stage (stage_walk s offset least) ≡ s
unfolding stage_of
stage_back Memory offset least = refl
stage_back (Line Number) offset least = refl
stage_back (Line Order) offset least = refl
stage_back (Line Zero) offset least = refl
stage_back (Line Length) offset least = refl
stage_back (Line (Jumps c)) offset least = ap (λ (x : Cursor). Line (Jumps x)) (cursor_back c offset least)
stage_back Relinking offset least = refl
stage_back Done offset least = refl

offset_back : (s : Stage) (offset least : ℕ) → (stage_walk s offset least).offset ≡ offset
offset_back Memory offset least = refl
offset_back (Line Number) offset least = refl
offset_back (Line Order) offset least = refl
offset_back (Line Zero) offset least = refl
offset_back (Line Length) offset least = refl
offset_back (Line (Jumps c)) offset least = refl
offset_back Relinking offset least = refl
offset_back Done offset least = refl

least_back : (s : Stage) (offset least : ℕ) → (stage_walk s offset least).least ≡ least
least_back Memory offset least = refl
least_back (Line Number) offset least = refl
least_back (Line Order) offset least = refl
least_back (Line Zero) offset least = refl
least_back (Line Length) offset least = refl
least_back (Line (Jumps c)) offset least = refl
least_back Relinking offset least = refl
least_back Done offset least = refl

pub walk_back : (p : Place) → walk_place (walk_numbers p) ≡ p
walk_back p =
    ap (λ (x : Stage). record { stage = x; offset = (walk_numbers p).offset; least = (walk_numbers p).least }) (stage_back p.stage p.offset p.least)
    ∙ ap (λ (x : ℕ). record { stage = p.stage; offset = x; least = (walk_numbers p).least }) (offset_back p.stage p.offset p.least)
    ∙ ap (λ (x : ℕ). record { stage = p.stage; offset = p.offset; least = x }) (least_back p.stage p.offset p.least)

-- ---- from numbers

pub starts : {x : WalkNumbers} → x ≡ plain_walk 0 2 0 → walk_place x ≡ record { stage = Memory; offset = 2; least = 0 }
unfolding stage_of
starts e = ap walk_place e

pub mode_other : (n : ℕ) → (n ≡ 1 → ⊥) → (n ≡ 2 → ⊥) → (n ≡ 3 → ⊥) → (n ≡ 4 → ⊥) → Plain ≡ mode_of n
unfolding mode_of
mode_other zero a b c d = refl
mode_other (suc zero) a b c d = absurd (a refl)
mode_other (suc (suc zero)) a b c d = absurd (b refl)
mode_other (suc (suc (suc zero))) a b c d = absurd (c refl)
mode_other (suc (suc (suc (suc zero)))) a b c d = absurd (d refl)
mode_other (suc (suc (suc (suc (suc n))))) a b c d = refl

module _ (x : WalkNumbers) where
  pub stage_jumps : x.stage ≡ 5 → {c : Cursor} → c ≡ cursor_of x → Line (Jumps c) ≡ stage_of x.stage x
  unfolding stage_of
  stage_jumps e is = ap (λ (y : Cursor). Line (Jumps y)) is ∙ ap (λ (k : ℕ). stage_of k x) (sym e)

  pub stage_other : (n : ℕ) → (n ≡ 0 → ⊥) → (n ≡ 1 → ⊥) → (n ≡ 2 → ⊥) → (n ≡ 3 → ⊥) → (n ≡ 4 → ⊥) → (n ≡ 5 → ⊥) → (n ≡ 6 → ⊥) → Done ≡ stage_of n x
  unfolding stage_of
  stage_other zero a b c d e f g = absurd (a refl)
  stage_other (suc zero) a b c d e f g = absurd (b refl)
  stage_other (suc (suc zero)) a b c d e f g = absurd (c refl)
  stage_other (suc (suc (suc zero))) a b c d e f g = absurd (d refl)
  stage_other (suc (suc (suc (suc zero)))) a b c d e f g = absurd (e refl)
  stage_other (suc (suc (suc (suc (suc zero))))) a b c d e f g = absurd (f refl)
  stage_other (suc (suc (suc (suc (suc (suc zero)))))) a b c d e f g = absurd (g refl)
  stage_other (suc (suc (suc (suc (suc (suc (suc n))))))) a b c d e f g = refl

-- the place behind a fault
placed : (f : Fault) (x : WalkNumbers) → (fault_code f x).place ≡ x
placed (OutsideMemory load length) x = refl
placed (NumberTooHigh number) x = refl
placed (NotAscending number) x = refl
placed (ZeroInBody number address) x = refl
placed (BodyLength number length) x = refl
placed (NoTarget number target) x = refl
placed (LinkChanges number link) x = refl
placed LinksLeave x = refl
placed LinksEndless x = refl

-- the next fault
module _ (has : ℕ → Bool) (s : List ℕ) where
  left_of_lem : (p : Place) (r : Option Found) → FaultIs has s p r → FaultLeft has s (faults_at has s p) (found_code r)
  left_of_lem p (Some m) is =
      subst (λ (fs : List Fault). FaultLeft has s fs (fault_code m.fault (walk_numbers m.place))) (sym is)
      (ap (fault_code m.fault) (sym (placed m.fault (walk_numbers m.place))), ap (λ (y : WalkNumbers). faults_at has s (walk_place y)) (placed m.fault (walk_numbers m.place)) ∙ ap (faults_at has s) (walk_back m.place))
  left_of_lem p None is = subst (λ (fs : List Fault). FaultLeft has s fs (found_code None)) (sym is) refl

  pub tells_next : (x : WalkNumbers) {p : Place} → p ≡ walk_place x → (r : Option Found) → FaultIs has s p r → {c : FaultCode} → c ≡ found_code r → FaultLeft has s (faults_at has s (walk_place x)) c
  tells_next x {p} at r is code =
      subst (λ (y : FaultCode). FaultLeft has s (faults_at has s (walk_place x)) y) (sym code)
      (subst (λ (y : Place). FaultLeft has s (faults_at has s y) (found_code r)) at (left_of_lem p r is))
