-- The lines of an image without a fault, one after the other.
-- Assumes nothing.
use Prim.Native.Nat.{ℕ}
use mathlib.Core.Path.{◌≡◌, refl, sym, ap, ◌∙◌}
use mathlib.Core.List.{List, [], ◌∷◌}
use native.Mathlib.Omega.{arith}
use Rattle.base_refusals.specs.Answer.{Answer, done, refused, map_done, numbered, answered}
use Rattle.base_refusals.specs.declared.Refusal.{Refusal}
use Rattle.image_readers.specs.declared.Line.{Line}
use Rattle.image_readers.specs.Lines.{lines_from}
use Rattle.image_readers.specs.Links.{link_step}
use Rattle.image_readers.proofs.ByLinks.{link_sound}
use Rattle.image_readers.proofs.Equations.{LiesAt, lines_line, lines_end, lines_refused}
use Rattle.base_refusals.proofs.Tight.{told_back}
use Rattle.image_index.specs.IndexHelpers.{lines_listed, found_from, Sound}
use Rattle.std.specs.Prelude.{Option, Some, None, Result, Ok, Err}

-- a line, and no fault behind it
pub record SoundLine (s : List ℕ) (p : ℕ) (l : Line) : Type 0 where
  pub line : found_from s p ≡ l ∷ found_from s l.next
  pub behind : Sound s l.next
  pub lies : LiesAt s p l

module _ (s : List ℕ) (p : ℕ) {r : Result (Option Line) Refusal} (e : answered r ≡ link_step s p) (sound : Sound s p) where
  pub sound_line : {l : Line} → r ≡ Ok (Some l) → SoundLine s p l
  sound_line {l} is = go (lines_from link_step s l.next) refl
    where
      go : (a : Answer (List Line)) → lines_from link_step s l.next ≡ a → SoundLine s p l
      go (done ls) f =
          record {
            line =
                ap lines_listed (lines_line link_sound s p (told_back is e) ∙ ap (map_done (λ ms. l ∷ ms)) f)
                ∙ ap (λ (a : Answer (List Line)). l ∷ lines_listed a) (sym f);
            behind = f ∙ ap (λ (a : Answer (List Line)). done (lines_listed a)) (sym f);
            lies = link_sound.lies s p (told_back is e);
          }
      go (refused n) f =
          let w : lines_from link_step s p ≡ refused n = lines_line link_sound s p (told_back is e) ∙ ap (map_done (λ ms. l ∷ ms)) f in
          let z : ◌≡◌ {A = ℕ} 0 1 = cc in
          absurd (omega arith)

  pub sound_end : r ≡ Ok None → found_from s p ≡ []
  sound_end is = ap lines_listed (lines_end link_step s p (told_back is e))

  pub sound_refused : {n : Refusal} → r ≡ Err n → ⊥
  sound_refused {n} is =
      let w : lines_from link_step s p ≡ refused (numbered n) = lines_refused link_step s p (told_back is e) in
      let z : ◌≡◌ {A = ℕ} 0 1 = cc in
      omega arith
