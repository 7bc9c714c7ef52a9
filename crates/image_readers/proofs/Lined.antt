-- The lines before a fault, step by step, and those of a whole image.
-- Assumes nothing.
use Prim.Native.Nat.{ℕ, suc, ◌-◌}
use mathlib.Core.Path.{◌≡◌, refl, ap, ◌∙◌, subst}
use mathlib.Core.List.{List, [], ◌∷◌}
use native.Mathlib.Omega.{arith}
use lib.ListN.{length}
use Rattle.base_steps.proofs.Nearer.{Nearer, again_once}
use Rattle.base_refusals.specs.Numbers.{Numbered}
use Rattle.base_refusals.specs.Answer.{Answer, done, refused}
use Rattle.image_readers.specs.declared.Line.{Line}
use Rattle.image_readers.specs.Chain.{Chain, here, on, Leads}
use Rattle.image_readers.specs.Lined.{Ending, ended, faulted, Lined, lined_by, lined_on, lined_from}
use Rattle.image_readers.specs.Lines.{Reader, lines_of}
use Rattle.image_readers.proofs.Equations.{Sound, next_nearer}
use Rattle.image_readers.proofs.Reading.{lines_lead}
use Rattle.std.specs.Prelude.{Option, Some, None}

module _ {step : Reader} (sound : Sound step) (s : List ℕ) where
  nearer : Nearer (λ p. length s - p) (lined_on step s)
  nearer p f g alike = go (step s p) refl
    where
      go : (r : Answer (Option Line)) → step s p ≡ r → lined_by f r ≡ lined_by g r
      go (done (Some l)) e = ap (λ (x : Lined). record { lines = l ∷ x.lines; ending = x.ending }) (alike l.next (next_nearer sound s p e))
      go (done None) e = refl
      go (refused n) e = refl

  lined_on_lem : (p : ℕ) → lined_from step s p ≡ lined_by (lined_from step s) (step s p)
  unfolding lined_from
  lined_on_lem p = again_once nearer (record { lines = []; ending = ended }) (suc (length s)) p (omega arith)

  module _ (p : ℕ) where
    pub lined_line : {l : Line} → step s p ≡ done (Some l)
        → lined_from step s p ≡ record { lines = l ∷ (lined_from step s l.next).lines; ending = (lined_from step s l.next).ending }
    lined_line e = lined_on_lem p ∙ ap (lined_by (lined_from step s)) e

    pub lined_end : step s p ≡ done None → lined_from step s p ≡ record { lines = []; ending = ended }
    lined_end e = lined_on_lem p ∙ ap (lined_by (lined_from step s)) e

    pub lined_refused : {n : Numbered} → step s p ≡ refused n → lined_from step s p ≡ record { lines = []; ending = faulted n }
    lined_refused e = lined_on_lem p ∙ ap (lined_by (lined_from step s)) e

  -- lines found one after the other, and what stands behind the last
  pub chain_lined : {p q : ℕ} {ls : List Line} {e : Ending} → Chain (step s) p ls q → lined_from step s q ≡ record { lines = []; ending = e }
      → lined_from step s p ≡ record { lines = ls; ending = e }
  chain_lined here f = f
  chain_lined (on {p = p} {l = l} h c) f = lined_line p h ∙ ap (λ (x : Lined). record { lines = l ∷ x.lines; ending = x.ending }) (chain_lined c f)

  -- an image that the reader accepts: its lines, and then the end; one that it refuses: some lines, and then the fault
  pub accepted : {ls : List Line} → lines_of step s ≡ done ls → lined_from step s 2 ≡ record { lines = ls; ending = ended }
  accepted e = let k = subst (Leads step s 2) e (lines_lead sound s 2) in chain_lined k.1 (lined_end k.0 k.2)

  pub refused_at_lem : {n : Numbered} → lines_of step s ≡ refused n → (lined_from step s 2).ending ≡ faulted n
  refused_at_lem e =
      let k = subst (Leads step s 2) e (lines_lead sound s 2) in
      ap (λ (x : Lined). x.ending) (chain_lined k.2 (lined_refused k.1 k.3))
