-- A fit program is read alike by both readers, and the machine keeps its links.
-- Assumes nothing.
use Prim.Native.Nat.{ℕ, zero, suc, ◌+◌, ◌-◌, ◌≤◌, ◌<◌, min}
use mathlib.Core.Path.{◌≡◌, refl, sym, ap, ◌∙◌, subst}
use mathlib.Core.Bool.{Bool, true, false, cond}
use mathlib.Core.List.{List, [], ◌∷◌, ◌++◌}
use native.Mathlib.Omega.{arith}
use lib.Dec.{ltb, eqb}
use lib.ListN.{length, get_or, drop, length-drop}
use lib.Seq.{get_or-drop}
use borrow.Author.Tests.{ltb-false, eqb-true, eqb-false}
use Rattle.base_refusals.specs.Answer.{Answer, done, refused, map_done}
use Rattle.image_readers.specs.declared.Line.{Line}
use Rattle.image_readers.specs.Chain.{Chain, here, on, Leads}
use Rattle.image_bytes.specs.ImageBytes.{address_at, target_at, before_zero, body_end}
use Rattle.image_readers.specs.Lines.{lines_from, lines_of}
use Rattle.image_readers.specs.Links.{link_step}
use Rattle.image_readers.specs.Terminators.{terminated_line, terminator_step}
use Rattle.image_readers.proofs.ByLinks.{link_found, link_sound}
use Rattle.image_readers.proofs.ByTerminators.{terminator_line, terminator_end, terminator_sound}
use Rattle.image_readers.proofs.Equations.{lines_line, lines_end}
use Rattle.image_readers.proofs.Finding.{RightLength, cond_by, sized_right}
use Rattle.image_readers.proofs.Reading.{lines_lead}
use Rattle.image_relink.specs.Relinking.{Relinking, same, changed, leaves, endless, relink_from, relinking}
use Rattle.image_faults.specs.declared.Fault.{Fault}
use Rattle.image_faults.specs.declared.Fault.TheVariants.{ZeroInBody}
use Rattle.image_faults.specs.Faults.{memory_faults, relink_fault, relink_faults, number_faults, order_faults, first_zero, zero_faults, line_faults, lines_faults, has_target, faults_in, fitness}
use Rattle.image_faults.specs.ToldHelpers.{LineIs}
use Rattle.std.specs.Prelude.{Option, Some, None}

-- ---- lists without elements

none_first : (fs gs : List Fault) → fs ++ gs ≡ [] → fs ≡ []
none_first [] gs e = refl
none_first (f ∷ fs) gs e = let z : ◌≡◌ {A = ℕ} 0 1 = cc in absurd (omega arith)

none_last : (fs gs : List Fault) → fs ++ gs ≡ [] → gs ≡ []
none_last [] gs e = e
none_last (f ∷ fs) gs e = let z : ◌≡◌ {A = ℕ} 0 1 = cc in absurd (omega arith)

-- ---- a line

-- the first zero stands no further than any zero
zero_before : (s : List ℕ) (k : ℕ) → k < length s → get_or s k 0 ≡ 0 → before_zero s ≤ k
unfolding before_zero
zero_before [] k h e = absurd (omega arith)
zero_before (b ∷ s) zero h e = go (eqb b 0) refl
  where
    go : (r : Bool) → eqb b 0 ≡ r → elim r [ true ↦ 0 | false ↦ suc (before_zero s) ] ≤ 0
    go true f = omega arith
    go false f = absurd (eqb-false b 0 f e)
zero_before (b ∷ s) (suc k) h e = go (zero_before s k (omega arith) e) (eqb b 0)
  where
    go : before_zero s ≤ k → (r : Bool) → elim r [ true ↦ 0 | false ↦ suc (before_zero s) ] ≤ suc k
    go ih true = omega arith
    go ih false = omega arith

module _ (s : List ℕ) (p : ℕ) {l : Line} (is : LineIs s p l) where
  -- no zero stands before the one that the link leads behind
  not_before : zero_faults s l ≡ [] → l.to ≤ first_zero s l
  unfolding zero_faults
  not_before none = go (ltb (first_zero s l) l.to) refl none
    where
      go : (b : Bool) → ltb (first_zero s l) l.to ≡ b → cond b (ZeroInBody l.number (address_at s (first_zero s l)) ∷ []) [] ≡ [] → l.to ≤ first_zero s l
      go true e f = let z : ◌≡◌ {A = ℕ} 0 1 = cc in absurd (omega arith)
      go false e f = ltb-false (first_zero s l) l.to e

  line_alike : zero_faults s l ≡ [] → terminator_step s p ≡ done (Some l)
  line_alike none =
      let k = link_found s p is in
      let t : ℕ = target_at s p in
      let low : l.to ≤ first_zero s l = not_before none in
      let at : p + 4 + (t - 1 - (p + 4)) ≡ t - 1 = omega (arith, k.forward) in
      let zero_there : get_or (drop (p + 4) s) (t - 1 - (p + 4)) 0 ≡ 0 =
      get_or-drop (p + 4) s (t - 1 - (p + 4)) 0 ∙ ap (λ (i : ℕ). get_or s i 0) at ∙ k.closes in
      let high : before_zero (drop (p + 4) s) ≤ t - 1 - (p + 4) =
      zero_before (drop (p + 4) s) (t - 1 - (p + 4)) (omega (arith, length-drop (p + 4) s, k.forward, k.inside)) zero_there in
      let to_is : l.to ≡ t - 1 = ap (λ (m : Line). m.to) k.is in
      let from_is : l.from ≡ p + 4 = ap (λ (m : Line). m.from) k.is in
      let low_end : t - 1 ≤ p + 4 + before_zero (drop (p + 4) s) = rw (← to_is, ← from_is) low in
      let ends : body_end s p ≡ t - 1 = omega (arith, k.forward) in
      let next : min (body_end s p + 1) (length s) ≡ t = omega (arith, k.forward, k.inside) in
      let same_line : l ≡ terminated_line s p = k.is ∙ rw (next, ends) in
      sym (terminator_line s p (link_sound.not_too_long s p is) (link_sound.long_enough s p is) (omega (arith, k.forward, k.inside))
      (omega (arith, k.forward, k.inside)) k.no_end (omega (arith, k.forward, k.inside)) same_line)

-- ---- the end

abbrev EndIs : List ℕ → ℕ → Answer (Option Line) → Type 0
EndIs s p (done (Some l)) = Unit {0}
EndIs s p (done None) = RightLength s × (p + 2 ≤ length s) × (get_or s (p + 1) 0 ≡ 0)
EndIs s p (refused n) = Unit {0}

module _ (s : List ℕ) (p : ℕ) where
  link_ends : EndIs s p (link_step s p)
  unfolding link_step
  link_ends =
      let E = EndIs s p in
      let t = target_at s p in
      cond_by E (ltb 1048576 (length s)) (λ _. tt) (λ long.
      cond_by E (ltb (length s) 2) (λ _. tt) (λ short.
      cond_by E (ltb (length s) (p + 2)) (λ _. tt) (λ left.
      cond_by E (eqb (get_or s (p + 1) 0) 0)
      (λ e. (record { long = ltb-false _ _ long; short = ltb-false _ _ short }, ltb-false _ _ left, eqb-true _ _ e))
      (λ _.
      cond_by E (ltb t (p + 5)) (λ _. tt) (λ _.
      cond_by E (ltb (length s) t) (λ _. tt) (λ _.
      cond_by E (eqb (get_or s (t - 1) 0) 0) (λ _. tt) (λ _. tt)))))))

  end_alike : link_step s p ≡ done None → terminator_step s p ≡ done None
  end_alike e =
      let k = subst (EndIs s p) e link_ends in
      sym (terminator_end s p k.0.long k.0.short (omega (arith, k.1)) (omega (arith, k.1)) k.2)

-- ---- the lines

chain_alike : (has : ℕ → Bool) (s : List ℕ) (least : ℕ) {p q : ℕ} {ls : List Line} → Chain (link_step s) p ls q → lines_faults has s least ls ≡ []
    → link_step s q ≡ done None → lines_from terminator_step s p ≡ done ls
unfolding lines_faults line_faults
chain_alike has s least (here {p = p}) none e = lines_end terminator_step s p (end_alike s p e)
chain_alike has s least (on {p = p} {l = l} {ls = ls} h c) none e =
    let first = none_first (line_faults has s least l) (lines_faults has s (l.number + 1) ls) none in
    let zeros = none_first (zero_faults s l) _ (none_last (order_faults least l) _ (none_last (number_faults l) _ first)) in
    lines_line terminator_sound s p (line_alike s p h zeros)
    ∙ ap (map_done (λ ms. l ∷ ms))
    (chain_alike has s (l.number + 1) c (none_last (line_faults has s least l) (lines_faults has s (l.number + 1) ls) none) e)

module _ (s : List ℕ) (fit : fitness s ≡ done []) where
  module _ {ls : List Line} (e : lines_of link_step s ≡ done ls) where
    no_faults : faults_in s ls ≡ []
    unfolding fitness
    no_faults = let w : done (faults_in s ls) ≡ done [] = sym (ap (map_done (faults_in s)) e) ∙ fit in cc

    lead_end : Leads link_step s 2 (done ls)
    lead_end = subst (Leads link_step s 2) e (lines_lead link_sound s 2)

    alike_by : lines_of terminator_step s ≡ done ls
    unfolding faults_in
    alike_by =
        let lines = none_first (lines_faults (has_target ls) s 0 ls) (relink_faults s) (none_last (memory_faults s) _ no_faults) in
        chain_alike (has_target ls) s 0 lead_end.1 lines lead_end.2

    kept_by : relinking s ≡ done same
    unfolding faults_in relink_faults relinking
    kept_by =
        let q = lead_end.0 in
        let right : done (relink_from s 2) ≡ relinking s =
        sized_right s (done (relink_from s 2)) (link_sound.not_too_long s q lead_end.2) (link_sound.long_enough s q lead_end.2) in
        let none = none_last (lines_faults (has_target ls) s 0 ls) (relink_faults s) (none_last (memory_faults s) _ no_faults) in
        sym right ∙ go (relink_from s 2) (ap (relink_fault s) right ∙ none)
      where
        go : (r : Relinking) → relink_fault s (done r) ≡ [] → done r ≡ done same
        go same f = refl
        go (changed p link) f = let z : ◌≡◌ {A = ℕ} 0 1 = cc in absurd (omega arith)
        go leaves f = let z : ◌≡◌ {A = ℕ} 0 1 = cc in absurd (omega arith)
        go endless f = let z : ◌≡◌ {A = ℕ} 0 1 = cc in absurd (omega arith)

  accepted_by : {A : Type 0} → ((ls : List Line) → lines_of link_step s ≡ done ls → A) → A
  unfolding fitness
  accepted_by {A = A} f = go (lines_of link_step s) refl
    where
      go : (a : Answer (List Line)) → lines_of link_step s ≡ a → A
      go (done ls) e = f ls e
      go (refused n) e =
          let w : refused n ≡ done [] = sym (ap (map_done (faults_in s)) e) ∙ fit in
          let z : ◌≡◌ {A = ℕ} 0 1 = cc in
          absurd (omega arith)

  -- both readers read the same lines
  pub fit_reads_alike : lines_of terminator_step s ≡ lines_of link_step s
  fit_reads_alike = accepted_by (λ ls e. alike_by e ∙ sym e)

  -- the machine leaves every link as it was
  pub fit_links_kept : relinking s ≡ done same
  fit_links_kept = accepted_by (λ ls e. kept_by e)
