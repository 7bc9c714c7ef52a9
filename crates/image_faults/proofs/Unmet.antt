-- The loop over the jumps of a body without a target.
-- Assumes nothing.
use Prim.Native.Nat.{ℕ, ◌<◌}
use mathlib.Core.Path.{◌≡◌, refl, sym, ap, ◌∙◌, subst}
use mathlib.Core.Bool.{Bool, true, false, not}
use mathlib.Core.List.{List, [], ◌∷◌}
use borrow.Author.Tests.{not-true, not-false}
use Rattle.image_marks.specs.Marks.{has_mark}
use Rattle.image_jumps.specs.declared.Cursor.{Cursor}
use Rattle.image_jumps.specs.declared.Jump.{Jump}
use Rattle.std.specs.Prelude.{Option, Some, None}
use Rattle.image_jumps.specs.JumpHelpers.{left_of, distance, JumpsTo, NextIs}
use Rattle.image_faults.specs.Faults.{unmet}
use Rattle.image_faults.specs.ToldHelpers.{UnmetIs}

-- the targets up to a place are met
pub record UnmetAhead (marked body : List ℕ) (c₀ c : Cursor) : Type 0 where
  pub gives : unmet (has_mark marked) (left_of body c) ≡ unmet (has_mark marked) (left_of body c₀)

pub unmet_start : (marked body : List ℕ) (c : Cursor) → UnmetAhead marked body c c
unmet_start marked body c = record { gives = refl }

module _ {marked body : List ℕ} {c₀ c : Cursor} (k : UnmetAhead marked body c₀ c) {r : Option Jump} (next : NextIs body c r) where
  module _ {j : Jump} (is : r ≡ Some j) where
    jumped : JumpsTo body c j.target j.cursor
    jumped = subst (NextIs body c) is next

    pub unmet_less : distance body j.cursor < distance body c
    unmet_less = jumped.nearer

    module _ {b : Bool} (e : b ≡ has_mark marked j.target) where
      here : unmet (has_mark marked) (left_of body c₀) ≡ unmet (has_mark marked) (j.target ∷ left_of body j.cursor)
      here = sym k.gives ∙ ap (unmet (has_mark marked)) jumped.same

      pub unmet_told : not b ≡ true → UnmetIs (has_mark marked) body c₀ (Some j)
      unfolding unmet
      unmet_told n = let w : has_mark marked j.target ≡ false = sym e ∙ not-true b n in here ∙ rw (w, unmet)

      pub unmet_turn : not b ≡ false → UnmetAhead marked body c₀ j.cursor
      unfolding unmet
      unmet_turn n = let w : has_mark marked j.target ≡ true = sym e ∙ not-false b n in record { gives = sym (here ∙ rw (w, unmet)) }

  pub unmet_end : r ≡ None → UnmetIs (has_mark marked) body c₀ None
  unfolding unmet
  unmet_end is = let w : left_of body c ≡ [] = subst (NextIs body c) is next in sym k.gives ∙ ap (unmet (has_mark marked)) w
