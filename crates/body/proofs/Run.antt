-- The equations of a body that a reader of document 01 expects, for every lexicon that keeps the rule: nothing is left of an empty
-- text, and else a step is taken and what it used is dropped. What is proved of bodies goes by these two.
-- Assumes nothing.
use Prim.Native.Nat.{ℕ, suc, ◌+◌, ◌≤◌, ◌<◌}
use mathlib.Core.Path.{◌≡◌, refl, sym, ap, ◌∙◌}
use mathlib.Core.Bool.{Bool, true, false}
use mathlib.Core.List.{List, [], ◌∷◌, ◌++◌}
use native.Mathlib.Omega.{arith}
use lib.Dec.{T}
use lib.ListN.{length, drop, replicate, length-append, length-drop, length-replicate}
use Rattle.base_steps.specs.Again.{again}
use Rattle.base_steps.proofs.Nearer.{Nearer, again_on}
use Rattle.body.specs.Body.{prefix_of, written, move_then, crunch_on, crunched_from}
use Rattle.body_rules.specs.Lexicon.{Lexicon}
use Rattle.body_rules.specs.Steps.{crunch_step}
use Rattle.body_rules.specs.declared.Mode.{Mode}
use Rattle.body_rules.specs.declared.Move.{Move}
use Rattle.body_rules.proofs.Beginnings.{proper, Takes}
use Rattle.body.proofs.Progress.{step_takes}

pub length_prefix : (prefixed : Bool) → length (prefix_of prefixed) ≤ 1
length_prefix true = omega arith
length_prefix false = omega arith

pub length_written : (o : Move) → length (written o) ≡ length (prefix_of o.prefixed) + o.count
unfolding written
length_written o = length-append (prefix_of o.prefixed) (replicate o.count o.byte) ∙ ap (λ (n : ℕ). length (prefix_of o.prefixed) + n) (length-replicate o.count o.byte)

module _ (l : Lexicon) where
  pub body_end_lem : (m : Mode) → crunched_from l m [] ≡ []
  unfolding crunched_from again crunch_on
  body_end_lem m = refl

  on_some : (more : Mode × List ℕ → List ℕ) (m : Mode) (t : List ℕ) → 0 < length t → crunch_on l more (m, t) ≡ move_then more t (crunch_step l m t)
  unfolding crunch_on
  on_some more m [] h = absurd (omega arith)
  on_some more m (b ∷ s) h = refl

  module _ (g : T (proper l)) where
    near : Nearer {S = Mode × List ℕ} {R = List ℕ} (λ x. length x.1) (crunch_on l)
    unfolding crunch_on
    near x f h k = go x.0 x.1 k
      where
        go : (m : Mode) (t : List ℕ) → ((y : Mode × List ℕ) → length y.1 < length t → f y ≡ h y) → crunch_on l f (m, t) ≡ crunch_on l h (m, t)
        go m [] less = refl
        go m (b ∷ s) less =
            let o = crunch_step l m (b ∷ s) in
            let f : Takes (b ∷ s) o.used = step_takes l g m (b ∷ s) (omega arith) in
            ap (λ (r : List ℕ). written o ++ r) (less (o.mode, drop o.used (b ∷ s)) (omega (arith, f.more, length-drop o.used (b ∷ s))))

    pub body_step : (m : Mode) (t : List ℕ) {o : Move} → 0 < length t → o ≡ crunch_step l m t
        → crunched_from l m t ≡ written o ++ crunched_from l o.mode (drop o.used t)
    unfolding crunched_from
    body_step m t h e =
        again_on near [] (λ y. suc (length y.1)) (λ y. omega arith) (m, t)
        ∙ on_some (λ y. crunched_from l y.0 y.1) m t h
        ∙ ap (move_then (λ y. crunched_from l y.0 y.1) t) (sym e)
