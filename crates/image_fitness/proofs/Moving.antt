-- The walk from place to place: what is left at a place is what is told there, and what is left at the next.
-- Assumes nothing.
use Prim.Native.Nat.{ℕ, ◌+◌, ◌<◌}
use mathlib.Core.Path.{◌≡◌, refl, sym, ap, ◌∙◌, subst}
use mathlib.Core.Bool.{Bool, false}
use mathlib.Core.List.{List, [], ◌∷◌, ◌++◌, map, append_assoc, append-nil}
use native.Mathlib.Omega.{arith}
use Rattle.base_refusals.specs.declared.Refusal.{Refusal}
use Rattle.base_refusals.specs.Answer.{Answer, done, refused, answered}
use Rattle.image_readers.specs.declared.Line.{Line}
use Rattle.image_readers.specs.Bodies.{body_of}
use Rattle.image_readers.specs.Links.{link_step}
use Rattle.image_readers.proofs.ByLinks.{link_sound}
use Rattle.image_readers.proofs.Equations.{next_nearer}
use Rattle.base_refusals.proofs.Tight.{told_back}
use Rattle.image_readers.specs.Lined.{Lined, lined_from}
use Rattle.image_readers.proofs.Lined.{lined_line, lined_end, lined_refused}
use Rattle.image_units.specs.declared.Mode.TheVariants.{Plain}
use Rattle.image_jumps.specs.declared.Cursor.{Cursor}
use Rattle.image_jumps.specs.declared.Jump.{Jump}
use Rattle.image_jumps.specs.JumpHelpers.{left_of}
use Rattle.image_jumps.proofs.Stepping.{left_text}
use Rattle.image_faults.specs.declared.Fault.{Fault}
use Rattle.image_faults.specs.declared.Fault.TheVariants.{NoTarget}
use Rattle.image_fitness.specs.declared.Check.{Check}
use Rattle.image_fitness.specs.declared.Check.TheVariants.{Number, Order, Zero, Length, Jumps}
use Rattle.image_fitness.specs.declared.Stage.{Stage}
use Rattle.image_fitness.specs.declared.Stage.TheVariants.{Memory, Line as LineStage, Relinking, Done}
use Rattle.image_fitness.specs.declared.Place.{Place}
use Rattle.image_fitness.specs.declared.Moved.{Moved}
use Rattle.image_fitness.specs.declared.Moved.TheVariants.{Told as MovedTold, On, End}
use Rattle.image_fitness.specs.declared.Found.{Found}
use Rattle.image_faults.specs.Faults.{memory_faults, relink_faults, number_faults, order_faults, zero_faults, length_faults, unmet, jump_faults, line_faults, lines_faults}
use Rattle.image_marks.specs.Marks.{has_mark}
use Rattle.image_faults.specs.ToldHelpers.{told_fault, LineIs, UnmetIs}
use Rattle.image_fitness.specs.FaultHelpers.{rest_from, faults_by, check_faults, stage_faults, faults_at, place_ahead, moved_by, WalksOn, MovedIs, FaultIs}
use Rattle.std.specs.Prelude.{Option, Some, None, Result, Ok, Err}

-- ---- what is led on

module _ (told : Option Fault) (q : Place) where
  pub led_fault : {f : Fault} → told ≡ Some f → MovedTold (record { fault = f; place = q }) ≡ moved_by told q
  led_fault is = rw is

  pub led_on : told ≡ None → On q ≡ moved_by told q
  led_on is = rw is

abbrev pub place_in : Stage → ℕ → ℕ → Place
place_in stage p least = record { stage = stage; offset = p; least = least }

-- ---- what stands at an offset

module _ (has : ℕ → Bool) (s : List ℕ) (p : ℕ) where
  module _ (least : ℕ) where
    -- a Some's faults from the first check on, and those behind it, are those from the Some on
    pub rest_line : stage_faults has s (LineStage Number) p least ≡ rest_from has s least p
    unfolding stage_faults rest_from check_faults lines_faults
    rest_line = go (link_step s p) refl
      where
        on : {x : Lined} → lined_from link_step s p ≡ x → lines_faults has s least (lined_from link_step s p).lines ++ relink_faults s ≡ lines_faults has s least x.lines ++ relink_faults s
        on e = ap (λ (y : Lined). lines_faults has s least y.lines ++ relink_faults s) e

        go : (a : Answer (Option Line)) → link_step s p ≡ a
            → faults_by has s (check_faults has s least Number) a ≡ lines_faults has s least (lined_from link_step s p).lines ++ relink_faults s
        go (done (Some l)) e = sym (on (lined_line link_sound s p e) ∙ append_assoc (line_faults has s least l) _ _)
        go (done None) e = sym (on (lined_end link_sound s p e))
        go (refused n) e = sym (on (lined_refused link_sound s p e))

    module _ {l : Line} (is : LineIs s p l) where
      -- what is left at a check of a Some
      at_line : (c : Check) → stage_faults has s (LineStage c) p least ≡ check_faults has s least c l ++ rest_from has s (l.number + 1) l.next
      unfolding stage_faults
      at_line c = ap (faults_by has s (check_faults has s least c)) is

-- a fault is told, or not, and the walk goes on at a place that is nearer to the end
moves : (has : ℕ → Bool) (s : List ℕ) (x q : Place) {X : List Fault} (t : Option Fault) → faults_at has s x ≡ X ++ faults_at has s q → place_ahead s q < place_ahead s x
    → told_fault t ≡ X → MovedIs has s x (moved_by t q)
moves has s x q (Some f) same near e = same ∙ ap (λ (fs : List Fault). fs ++ faults_at has s q) (sym e)
moves has s x q None same near e = record { same = same ∙ ap (λ (fs : List Fault). fs ++ faults_at has s q) (sym e); nearer = near }

-- the same of a result and a place that are known to be these
moved : (has : ℕ → Bool) (s : List ℕ) (x : Place) {q z : Place} {X : List Fault} (t : Option Fault) {r : Moved} → r ≡ moved_by t z → z ≡ q → faults_at has s x ≡ X ++ faults_at has s q
    → place_ahead s q < place_ahead s x → told_fault t ≡ X → MovedIs has s x r
moved has s x {q} t is at same near e = subst (MovedIs has s x) (sym (is ∙ ap (moved_by t) at)) (moves has s x q t same near e)

-- ---- a line

module _ (marked s : List ℕ) (p least : ℕ) {l : Line} (here : LineIs s p l) where
  -- a check tells X, and leads to the next check
  leads : (c d : Check) (X : List Fault) → check_faults (has_mark marked) s least c l ≡ X ++ check_faults (has_mark marked) s least d l
      → stage_faults (has_mark marked) s (LineStage c) p least ≡ X ++ stage_faults (has_mark marked) s (LineStage d) p least
  leads c d X e =
      at_line (has_mark marked) s p least here c ∙ ap (λ (fs : List Fault). fs ++ rest_from (has_mark marked) s (l.number + 1) l.next) e ∙ append_assoc X (check_faults (has_mark marked) s least d l) (rest_from (has_mark marked) s (l.number + 1) l.next)
      ∙ ap (λ (fs : List Fault). X ++ fs) (sym (at_line (has_mark marked) s p least here d))

  module _ (t : Option Fault) {q : Place} (r : Moved) {check : Check} where
    pub in_number : check ≡ Number → told_fault t ≡ number_faults l → q ≡ place_in (LineStage Order) p least → r ≡ moved_by t q
        → MovedIs (has_mark marked) s (place_in (LineStage check) p least) r
    unfolding check_faults line_faults
    in_number is e at f = rw is (moved (has_mark marked) s (place_in (LineStage Number) p least) t f at (leads Number Order (number_faults l) refl) (omega arith) e)

    pub in_order : check ≡ Order → told_fault t ≡ order_faults least l → q ≡ place_in (LineStage Zero) p least → r ≡ moved_by t q
        → MovedIs (has_mark marked) s (place_in (LineStage check) p least) r
    unfolding check_faults
    in_order is e at f = rw is (moved (has_mark marked) s (place_in (LineStage Order) p least) t f at (leads Order Zero (order_faults least l) refl) (omega arith) e)

    pub in_zero : check ≡ Zero → told_fault t ≡ zero_faults s l → q ≡ place_in (LineStage Length) p least → r ≡ moved_by t q
        → MovedIs (has_mark marked) s (place_in (LineStage check) p least) r
    unfolding check_faults
    in_zero is e at f = rw is (moved (has_mark marked) s (place_in (LineStage Zero) p least) t f at (leads Zero Length (zero_faults s l) refl) (omega arith) e)

    pub in_length : check ≡ Length → {c : Cursor} → c ≡ record { at = 0; mode = Plain; listed = false; part = None } → told_fault t ≡ length_faults s l
        → q ≡ place_in (LineStage (Jumps c)) p least → r ≡ moved_by t q → MovedIs (has_mark marked) s (place_in (LineStage check) p least) r
    unfolding check_faults jump_faults
    in_length is {c} first e at f =
        rw is (moved (has_mark marked) s (place_in (LineStage Length) p least) t f at
        (leads Length (Jumps c) (length_faults s l)
        (ap (λ (ts : List ℕ). length_faults s l ++ map (NoTarget l.number) (unmet (has_mark marked) ts))
        (sym (ap (left_of (body_of s l)) first ∙ left_text (body_of s l) (record { at = 0; mode = Plain; listed = false; part = None }) refl)))) (omega arith) e)

  pub in_jumps : (r : Moved) {check : Check} {c : Cursor} → check ≡ Jumps c → MovedIs (has_mark marked) s (place_in (LineStage (Jumps c)) p least) r → MovedIs (has_mark marked) s (place_in (LineStage check) p least) r
  in_jumps r is m = rw is m

  module _ (c : Cursor) {n : Option Jump} (u : UnmetIs (has_mark marked) (body_of s l) c n) where
    pub jumps_told : {j : Jump} {q : Place} → n ≡ Some j → q ≡ place_in (LineStage (Jumps j.cursor)) p least
        → MovedIs (has_mark marked) s (place_in (LineStage (Jumps c)) p least) (MovedTold (record { fault = NoTarget l.number j.target; place = q }))
    unfolding check_faults
    jumps_told {j} is at =
        let w : unmet (has_mark marked) (left_of (body_of s l) c) ≡ j.target ∷ unmet (has_mark marked) (left_of (body_of s l) j.cursor) = subst (UnmetIs (has_mark marked) (body_of s l) c) is u in
        rw at (leads (Jumps c) (Jumps j.cursor) (NoTarget l.number j.target ∷ []) (ap (map (NoTarget l.number)) w))

    pub jumps_on_lem : {q : Place} {k : ℕ} → n ≡ None → k ≡ l.number → q ≡ place_in (LineStage Number) l.next (k + 1)
        → MovedIs (has_mark marked) s (place_in (LineStage (Jumps c)) p least) (On q)
    unfolding check_faults
    jumps_on_lem is number at =
        let w : unmet (has_mark marked) (left_of (body_of s l) c) ≡ [] = subst (UnmetIs (has_mark marked) (body_of s l) c) is u in
        rw (at, number) (record {
          same =
              at_line (has_mark marked) s p least here (Jumps c) ∙ ap (λ (ts : List ℕ). map (NoTarget l.number) ts ++ rest_from (has_mark marked) s (l.number + 1) l.next) w
              ∙ sym (rest_line (has_mark marked) s l.next (l.number + 1));
          nearer = omega (arith, next_nearer link_sound s p here);
        })

-- ---- what a step at an offset says

module _ (s : List ℕ) (p : ℕ) {r : Result (Option Line) Refusal} (e : answered r ≡ link_step s p) where
  pub line_found : {l : Line} → r ≡ Ok (Some l) → LineIs s p l
  line_found is = told_back is e

  module _ (marked : List ℕ) (check : Check) (least : ℕ) {q : Place} (at : q ≡ place_in Relinking p least) where
    behind : {x : Result (Option Line) Refusal} → r ≡ x → {a : Answer (Option Line)} → link_step s p ≡ a → faults_by (has_mark marked) s (check_faults (has_mark marked) s least check) a ≡ relink_faults s
        → MovedIs (has_mark marked) s (place_in (LineStage check) p least) (On q)
    unfolding stage_faults
    behind _ is f = rw at (record { same = ap (faults_by (has_mark marked) s (check_faults (has_mark marked) s least check)) is ∙ f; nearer = near check })
      where
        near : (c : Check) → place_ahead s (place_in Relinking p least) < place_ahead s (place_in (LineStage c) p least)
        near Number = omega arith
        near Order = omega arith
        near Zero = omega arith
        near Length = omega arith
        near (Jumps d) = omega arith

    pub line_ended : r ≡ Ok None → MovedIs (has_mark marked) s (place_in (LineStage check) p least) (On q)
    line_ended is = behind is (told_back is e) refl

    pub line_refused : {n : Refusal} → r ≡ Err n → MovedIs (has_mark marked) s (place_in (LineStage check) p least) (On q)
    line_refused is = behind is (told_back is e) refl

-- ---- a stage

module _ (marked s : List ℕ) (x : Place) where
  pub step_memory : (t : Option Fault) {q : Place} {r : Moved} → x.stage ≡ Memory → told_fault t ≡ memory_faults s
      → q ≡ place_in (LineStage Number) x.offset x.least → r ≡ moved_by t q → MovedIs (has_mark marked) s x r
  unfolding stage_faults
  step_memory t is e at f =
      moved (has_mark marked) s x t f at
      (rw is (ap (λ (fs : List Fault). memory_faults s ++ fs) (sym (rest_line (has_mark marked) s x.offset x.least)))) (rw is (omega arith)) e

  pub step_line : {c : Check} (r : Moved) → x.stage ≡ LineStage c → MovedIs (has_mark marked) s (place_in (LineStage c) x.offset x.least) r
      → MovedIs (has_mark marked) s x r
  step_line r is m = subst (λ (g : Stage). MovedIs (has_mark marked) s (place_in g x.offset x.least) r) (sym is) m

  pub step_relinking : (t : Option Fault) {q : Place} {r : Moved} → x.stage ≡ Relinking → told_fault t ≡ relink_faults s
      → q ≡ place_in Done x.offset x.least → r ≡ moved_by t q → MovedIs (has_mark marked) s x r
  unfolding stage_faults
  step_relinking t is e at f = moved (has_mark marked) s x t f at (rw is (sym (append-nil (relink_faults s)))) (rw is (omega arith)) e

  pub step_done : x.stage ≡ Done → MovedIs (has_mark marked) s x End
  unfolding stage_faults
  step_done is = rw is

-- ---- the next fault

-- no fault stands between two places
pub record FaultAhead (marked s : List ℕ) (x₀ x : Place) : Type 0 where
  pub gives : faults_at (has_mark marked) s x₀ ≡ faults_at (has_mark marked) s x

pub fault_start : (marked s : List ℕ) (x : Place) → FaultAhead marked s x x
fault_start marked s x = record { gives = refl }

module _ {marked s : List ℕ} {x₀ x : Place} (k : FaultAhead marked s x₀ x) {r : Moved} (m : MovedIs (has_mark marked) s x r) where
  pub fault_told : {m : Found} → r ≡ MovedTold m → FaultIs (has_mark marked) s x₀ (Some m)
  fault_told is = k.gives ∙ subst (MovedIs (has_mark marked) s x) is m

  module _ {q : Place} (is : r ≡ On q) where
    onward : WalksOn (has_mark marked) s x q
    onward = subst (MovedIs (has_mark marked) s x) is m

    pub fault_less : place_ahead s q < place_ahead s x
    fault_less = onward.nearer

    pub fault_turn : FaultAhead marked s x₀ q
    fault_turn = record { gives = k.gives ∙ onward.same }

  pub fault_end : r ≡ End → FaultIs (has_mark marked) s x₀ None
  fault_end is = k.gives ∙ subst (MovedIs (has_mark marked) s x) is m
