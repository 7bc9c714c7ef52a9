-- A stretch lies within its buffer, and one after the other brings a line to its end.
-- Assumes nothing.
use Prim.Native.Nat.{ℕ, ◌≤◌, ◌<◌}
use mathlib.Core.Path.{◌≡◌, refl, ap, ◌∙◌}
use mathlib.Core.List.{List}
use native.Mathlib.Omega.{arith}
use lib.ListN.{length}
use lib.Seq.{sets, length-sets}
use mir.Syntax.{w16}
use mir.Val.{Fits}
use Rattle.list_options.specs.declared.ListOptions.{ListOptions}
use Rattle.list_stretches.specs.declared.Place.{Place}
use Rattle.list_stretches.specs.declared.Place.TheVariants.{Number, Over}
use Rattle.list_stretches.specs.declared.Stretch.{Stretch}
use Rattle.list_options.specs.Modes.{rules_under}
use Rattle.list_stretches.specs.Stretch.{stretch_of, stretch_answer, place_left}
use Rattle.list_stretches.proofs.Joining.{SmallNumber, stretch_held, stretch_nearer, number_small}

-- the buffer is as long as it was, and what is left of a line has a number of five digits at most
pub record Writing (first out : List ℕ) (place : Place) : Type 0 where
  pub kept : length out ≡ length first
  pub large : 9 ≤ length out
  pub small : SmallNumber place

pub writing_start : (out : List ℕ) (n : ℕ) → Fits w16 n → 9 ≤ length out → Writing out out (Number n)
writing_start out n f e = record { kept = refl; large = e; small = omega (arith, f) }

module _ (o : ListOptions) (body first out : List ℕ) (place : Place) {r : Stretch} {after : List ℕ} (is : r ≡ stretch_answer (stretch_of (rules_under o) body (length out) place))
    (e : after ≡ sets out 0 (stretch_of (rules_under o) body (length out) place).text) where
  same_long : length after ≡ length out
  same_long = ap length e ∙ length-sets out 0 (stretch_of (rules_under o) body (length out) place).text

  pub stretch_within : r.length ≤ length after
  stretch_within = omega (arith, stretch_held o body (length out) place is, same_long)

  pub writing_turn : Writing first out place → Writing first after r.place
  writing_turn w = record {
    kept = same_long ∙ w.kept;
    large = omega (arith, same_long, w.large);
    small = number_small o body (length out) place is w.small;
  }

  pub writing_less : (place ≡ Over → ⊥) → Writing first out place → place_left body r.place < place_left body place
  writing_less h w = stretch_nearer o body (length out) place is w.large w.small h
