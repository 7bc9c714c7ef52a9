-- The walk over a body: every step takes text, so the walk has an end; and the loop that looks for the first step that is told.
-- Assumes nothing.
use Prim.Native.Nat.{ℕ, suc, ◌+◌, ◌-◌, ◌≤◌, ◌<◌}
use mathlib.Core.Path.{◌≡◌, refl, sym, ap, ◌∙◌}
use mathlib.Core.Bool.{Bool, true, false, not, false≢true, true≢false}
use mathlib.Core.List.{List}
use native.Mathlib.Omega.{arith}
use lib.Dec.{T, ltb}
use lib.ListN.{length, get_or, drop, length-drop}
use borrow.Author.Tests.{lt-ltb, le-ltb, ltb-true}
use mir.Syntax.{w64}
use mir.Val.{Fits}
use Rattle.base_steps.proofs.Nearer.{Nearer, again_on}
use Rattle.base_ascii.proofs.Choice.{taken, left}
use Rattle.word_match.specs.declared.sets.Sets.{Sets}
use Rattle.body_rules.specs.Lexicon.{Lexicon, lexicon}
use Rattle.body_rules.specs.Steps.{crunch_step}
use Rattle.body_rules.specs.declared.Mode.{Mode}
use Rattle.body_rules.specs.declared.Move.{Move}
use Rattle.body_rules.proofs.Beginnings.{proper, Takes, document_proper}
use Rattle.body.proofs.Progress.{step_takes}
use Rattle.editor_steps.specs.StepFindings.{finding_of, is_usual}
use Rattle.editor_findings.specs.Sights.{step_from, spot_behind, told_or, sight_on, first_sight}
use Rattle.editor_steps.specs.declared.Finding.{Finding}
use Rattle.editor_findings.specs.declared.sights.Sighting.{Sighting}
use Rattle.std.specs.Prelude.{Option, Some, None}
use Rattle.editor_findings.specs.declared.sights.Spot.{Spot}

abbrev pub Seen : Finding → ℕ → Spot → Option Sighting
Seen finding from to = Some (record { finding = finding; from = from; to = to })

module _ (l : Lexicon) (t : List ℕ) (g : T (proper l)) where
  takes : (s : Spot) → s.at < length t → Takes (drop s.at t) (step_from l t s).used
  takes s h = step_takes l g s.mode (drop s.at t) (omega (arith, length-drop s.at t))

  near : Nearer {S = Spot} {R = Option Sighting} (λ s. length t - s.at) (sight_on l t)
  unfolding sight_on
  near s f h k = go (ltb s.at (length t)) refl
    where
      go : (x : Bool) → ltb s.at (length t) ≡ x
          → ◌≡◌ {A = Option Sighting} (elim x [ true ↦ told_or f t s (step_from l t s) | false ↦ None ]) (elim x [ true ↦ told_or h t s (step_from l t s) | false ↦ None ])
      go true e =
          let p : s.at < length t = ltb-true _ _ e in
          let o = step_from l t s in
          ap (λ (r : Option Sighting). elim (is_usual (finding_of s.mode (get_or t s.at 0) o)) [
            | true ↦ r
            | false ↦ Seen (finding_of s.mode (get_or t s.at 0) o) s.at (spot_behind s o)
          ]) (k (spot_behind s o) (omega (arith, (takes s p).more, (takes s p).most, length-drop s.at t)))
      go false e = refl

  once : (s : Spot) → first_sight l t s ≡ sight_on l t (first_sight l t) s
  unfolding first_sight
  once s = again_on near None (λ y. suc (length t - y.at)) (λ y. omega arith) s

  there : (s : Spot) → s.at < length t → first_sight l t s ≡ told_or (first_sight l t) t s (step_from l t s)
  unfolding sight_on
  there s h = once s ∙ taken _ _ (lt-ltb _ _ h)

  none_left : (s : Spot) → length t ≤ s.at → first_sight l t s ≡ None
  unfolding sight_on
  none_left s h = once s ∙ left _ _ (le-ltb _ _ h)

abbrev pub spot_at : Mode → ℕ → Spot
spot_at mode at = record { mode = mode; at = at }

-- ---- a step of the loop

module _ (w : Sets) (t : List ℕ) (mode : Mode) {at : ℕ} {o : Move} (e : o ≡ crunch_step (lexicon w) mode (drop at t)) (h : at < length t) where
  within : (0 < o.used) × (at + o.used ≤ length t)
  within =
      let f : Takes (drop at t) o.used = rw e (takes (lexicon w) t (document_proper w) (spot_at mode at) h) in
      (f.more, omega (arith, f.most, length-drop at t))

  pub step_fits : Fits w64 (length t) → Fits w64 (at + o.used)
  step_fits f = record { fits = omega (arith, f.fits, within.1) }

  pub step_less : length t - (at + o.used) < length t - at
  step_less = omega (arith, within)

not_true : (x : Bool) → not x ≡ true → x ≡ false
not_true true e = absurd (false≢true e)
not_true false e = refl

not_false : (x : Bool) → not x ≡ false → x ≡ true
not_false true e = refl
not_false false e = absurd (true≢false e)

-- the walk from a spot on comes to what it comes to from the first one on
pub record Walked (w : Sets) (t : List ℕ) (first : Spot) (mode : Mode) (at : ℕ) : Type 0 where
  pub gives : first_sight (lexicon w) t (spot_at mode at) ≡ first_sight (lexicon w) t first

pub walked_start : (w : Sets) (t : List ℕ) (first : Spot) → Walked w t first first.mode first.at
walked_start w t first = record { gives = refl }

module _ {w : Sets} {t : List ℕ} {first : Spot} {mode : Mode} {at : ℕ} where
  pub walked_end : length t ≤ at → Walked w t first mode at → None ≡ first_sight (lexicon w) t first
  walked_end h k = sym (none_left (lexicon w) t (document_proper w) (spot_at mode at) h) ∙ k.gives

  module _ {o : Move} (e : o ≡ crunch_step (lexicon w) mode (drop at t)) (h : at < length t) (k : Walked w t first mode at) where
    comes : told_or (first_sight (lexicon w) t) t (spot_at mode at) o ≡ first_sight (lexicon w) t first
    comes =
        ap (told_or (first_sight (lexicon w) t) t (spot_at mode at)) e
        ∙ sym (there (lexicon w) t (document_proper w) (spot_at mode at) h)
        ∙ k.gives

    seen : {f : Finding} → f ≡ finding_of mode (get_or t at 0) o → is_usual f ≡ false → Seen f at (spot_behind (spot_at mode at) o) ≡ first_sight (lexicon w) t first
    seen p n = ap (λ (y : Finding). Seen y at (spot_behind (spot_at mode at) o)) p ∙ sym (left _ _ (ap is_usual (sym p) ∙ n)) ∙ comes

    onward : {f : Finding} → f ≡ finding_of mode (get_or t at 0) o → is_usual f ≡ true → Walked w t first o.mode (at + o.used)
    onward p n = record { gives = sym (taken _ _ (ap is_usual (sym p) ∙ n)) ∙ comes }

  module _ {o : Move} {f : Finding} {x : Bool} where
    pub walked_seen : not x ≡ true → x ≡ is_usual f → f ≡ finding_of mode (get_or t at 0) o → o ≡ crunch_step (lexicon w) mode (drop at t) → at < length t
        → Walked w t first mode at → Seen f at (spot_behind (spot_at mode at) o) ≡ first_sight (lexicon w) t first
    walked_seen n q p e h k = seen e h k p (sym q ∙ not_true x n)

    pub walked_turn : not x ≡ false → x ≡ is_usual f → f ≡ finding_of mode (get_or t at 0) o → o ≡ crunch_step (lexicon w) mode (drop at t) → at < length t
        → Walked w t first mode at → Walked w t first o.mode (at + o.used)
    walked_turn n q p e h k = onward e h k p (sym q ∙ not_false x n)
