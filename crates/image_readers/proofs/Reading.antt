-- Reading on, line by line, by any step that is sound: the lines of an image are those that steps one after the other find, and the
-- equations of the numbers and bodies.
-- Assumes nothing.
use Prim.Native.Nat.{ℕ, ◌-◌}
use mathlib.Core.Path.{◌≡◌, refl, sym, ap, ◌∙◌, subst}
use mathlib.Core.List.{List, [], ◌∷◌, ◌++◌, map, append-nil}
use native.Mathlib.Omega.{arith}
use lib.ListN.{length, drop, length-map, length-drop}
use lib.Seq.{length-take-le}
use Rattle.base_refusals.specs.Numbers.{Numbered}
use Rattle.base_refusals.specs.Answer.{Answer, done, refused, map_done}
use Rattle.image_readers.specs.declared.Line.{Line}
use Rattle.image_bytes.specs.ImageBytes.{low_first_at}
use Rattle.image_readers.specs.Lines.{Reader, onward, lines_from, lines_of, overview_of, overview}
use Rattle.image_readers.proofs.Equations.{LiesAt, Sound, lines_from_lem, lines_line, lines_end, lines_refused, by_lines}
use Rattle.image_readers.specs.Chain.{Chain, here, on, Leads}
use Rattle.image_readers.specs.Bodies.{body_of, numbered_body, bodies_from, bodies_of}
use Rattle.std.specs.Prelude.{Option, Some, None}

-- ---- steps one after the other

module _ {step : Reader} (sound : Sound step) (s : List ℕ) where
  then_these : (l : Line) (ls : List Line) (a : Answer (List Line)) → map_done (λ ms. l ∷ ms) (map_done (λ ms. ls ++ ms) a) ≡ map_done (λ ms. l ∷ ls ++ ms) a
  then_these l ls (done ms) = refl
  then_these l ls (refused n) = refl

  then_none : (a : Answer (List Line)) → a ≡ map_done (λ ms. [] ++ ms) a
  then_none (done ms) = refl
  then_none (refused n) = refl

  -- the lines from p on are those that were found up to q, and then those from q on
  pub chain_then : {p q : ℕ} {ls : List Line} → Chain (step s) p ls q → lines_from step s p ≡ map_done (λ ms. ls ++ ms) (lines_from step s q)
  chain_then (here {p = p}) = then_none (lines_from step s p)
  chain_then (on {p = p} {q = q} {l = l} {ls = ls} e c) =
      lines_line sound s p e ∙ ap (map_done (λ ms. l ∷ ms)) (chain_then c) ∙ then_these l ls (lines_from step s q)

  -- lines found one after the other up to the end are all the lines from p on; up to a refusal they are none
  pub chain_end : {p q : ℕ} {ls : List Line} → Chain (step s) p ls q → step s q ≡ done None → lines_from step s p ≡ done ls
  chain_end {q = q} {ls = ls} c e = chain_then c ∙ ap (map_done (λ ms. ls ++ ms)) (lines_end step s q e) ∙ ap done (append-nil ls)

  pub chain_refused : {p q : ℕ} {ls : List Line} {n : Numbered} → Chain (step s) p ls q → step s q ≡ refused n → lines_from step s p ≡ refused n
  chain_refused {q = q} {ls = ls} c e = chain_then c ∙ ap (map_done (λ ms. ls ++ ms)) (lines_refused step s q e)

  leads_onward : (p : ℕ) (r : Answer (Option Line)) → step s p ≡ r → ((l : Line) → step s p ≡ done (Some l) → Leads step s l.next (lines_from step s l.next))
      → Leads step s p (onward (lines_from step s) r)
  leads_onward p (done (Some l)) e ih = go (lines_from step s l.next) (ih l e)
    where
      go : (a : Answer (List Line)) → Leads step s l.next a → Leads step s p (map_done (λ ls. l ∷ ls) a)
      go (done ls) k = (k.0, on e k.1, k.2)
      go (refused n) k = (l ∷ k.0, k.1, on e k.2, k.3)
  leads_onward p (done None) e ih = (p, here, e)
  leads_onward p (refused n) e ih = ([], p, here, e)

  -- steps one after the other from p on find exactly the lines from p on, and then the end; or they come to the refusal
  pub lines_lead : (p : ℕ) → Leads step s p (lines_from step s p)
  lines_lead =
      by_lines sound s (λ q. Leads step s q (lines_from step s q))
      (λ q ih. subst (Leads step s q) (sym (lines_from_lem sound s q)) (leads_onward q (step s q) refl ih))

-- ---- the line count

-- the count is that of the lines, and of the bodies
pub overview_lines : (step : Reader) (s : List ℕ) {ls : List Line} → lines_of step s ≡ done ls
    → overview step s ≡ done (overview_of s ls)
unfolding overview
overview_lines step s e = ap (map_done (overview_of s)) e

pub overview_refused : (step : Reader) (s : List ℕ) {n : Numbered} → lines_of step s ≡ refused n → overview step s ≡ refused n
unfolding overview
overview_refused step s e = ap (map_done (overview_of s)) e

pub overview_bodies : (step : Reader) (s : List ℕ)
    → overview step s ≡ map_done (overview_of s) (bodies_of step s)
unfolding overview bodies_from
overview_bodies step s = go (lines_of step s)
  where
    go : (a : Answer (List Line)) → map_done (overview_of s) a
        ≡ map_done (overview_of s) (map_done (map (numbered_body s)) a)
    go (done ls) = ap (λ (n : ℕ). done (record { load = low_first_at s 0; lines = n })) (sym (length-map ls (numbered_body s)))
    go (refused n) = refl

-- ---- numbers and bodies, line by line

module _ (step : Reader) (s : List ℕ) (p : ℕ) where
  pub bodies_end : step s p ≡ done None → bodies_from step s p ≡ done []
  unfolding bodies_from
  bodies_end e = ap (map_done (map (numbered_body s))) (lines_end step s p e)

  pub bodies_refused : {n : Numbered} → step s p ≡ refused n → bodies_from step s p ≡ refused n
  unfolding bodies_from
  bodies_refused e = ap (map_done (map (numbered_body s))) (lines_refused step s p e)

pub bodies_line : {step : Reader} → Sound step → (s : List ℕ) (p : ℕ) {l : Line} → step s p ≡ done (Some l)
    → bodies_from step s p ≡ map_done (λ bs. numbered_body s l ∷ bs) (bodies_from step s l.next)
unfolding bodies_from
bodies_line {step} sound s p {l} e = ap (map_done (map (numbered_body s))) (lines_line sound s p e) ∙ go (lines_from step s l.next)
  where
    go : (a : Answer (List Line)) → map_done (map (numbered_body s)) (map_done (λ ls. l ∷ ls) a)
        ≡ map_done (λ bs. numbered_body s l ∷ bs) (map_done (map (numbered_body s)) a)
    go (done ls) = refl
    go (refused n) = refl

-- a body is as long as its line says
pub body_length_lem : {s : List ℕ} {p : ℕ} {l : Line} → LiesAt s p l → length (body_of s l) ≡ l.to - l.from
body_length_lem {s} {p} {l} d = length-take-le (l.to - l.from) (drop l.from s) (omega (arith, length-drop l.from s))
