-- What a limit changes (document 02, No. 4: "Raising it never alters an answer other than 19"), and that without 19 the answer is the
-- search of the full list, or the first match before the fault.
-- Assumes nothing.
use Prim.Native.Nat.{ℕ, ◌+◌, ◌≤◌, ◌<◌}
use mathlib.Core.Path.{◌≡◌, refl, sym, ap, ◌∙◌, subst}
use mathlib.Core.Bool.{Bool, true, false, cond}
use mathlib.Core.List.{List, [], ◌∷◌}
use native.Mathlib.Omega.{arith}
use lib.Dec.{eqb, leb, ltb}
use lib.ListN.{length}
use borrow.Author.Tests.{lt-leb, leb-false, ltb-true, ltb-false}
use Rattle.base_refusals.specs.Numbers.{Numbered, image_too_long, too_short}
use Rattle.base_refusals.specs.Answer.{Answer, done, refused}
use Rattle.image_readers.specs.declared.Line.{Line}
use Rattle.image_readers.specs.Chain.{Leads}
use Rattle.image_readers.specs.Lined.{Ending, ended, faulted, Lined, lined_from}
use Rattle.image_readers.specs.Lines.{lines_of}
use Rattle.image_readers.specs.Links.{link_step}
use Rattle.image_readers.proofs.ByLinks.{link_sound, link_long, link_short}
use Rattle.image_readers.proofs.Finding.{sized_long, sized_short, sized_right}
use Rattle.image_readers.proofs.Lined.{accepted, refused_at_lem, lined_refused}
use Rattle.image_readers.proofs.Reading.{lines_lead}
use Rattle.image_find.specs.Sought.{limit_reached, at, nowhere, first_in, or_fault, within, line_sought}

-- where the answer is not 19, the limit was not reached, and the test of it may be left out
below : {A : Type 0} (limit v : ℕ) (a : Answer A) → (cond (leb limit v) (refused limit_reached) a ≡ refused limit_reached → ⊥) → v < limit
below limit v a other = go (leb limit v) refl other
  where
    go : (b : Bool) → leb limit v ≡ b → (cond b (refused limit_reached) a ≡ refused limit_reached → ⊥) → v < limit
    go true e o = absurd (o refl)
    go false e o = leb-false limit v e

module _ (number : ℕ) where
  -- a higher limit gives the same
  raised : (limit higher v : ℕ) (ls : List Line) (e : Ending) → limit ≤ higher → (within number limit v ls e ≡ refused limit_reached → ⊥)
      → within number higher v ls e ≡ within number limit v ls e
  unfolding within
  raised limit higher v [] ended h other = refl
  raised limit higher v [] (faulted n) h other =
      let l : v < limit = below limit v (refused n) other in
      let m : v < higher = omega arith in
      simp (lt-leb _ _ l, lt-leb _ _ m)
  raised limit higher v (x ∷ ls) e h other =
      let l : v < limit = below limit v _ other in
      let m : v < higher = omega arith in
      simp (lt-leb _ _ l, lt-leb _ _ m) (go (λ o. raised limit higher (v + 1) ls e h o) (eqb x.number number) (simp (lt-leb _ _ l) at other))
    where
      go : ((within number limit (v + 1) ls e ≡ refused limit_reached → ⊥) → within number higher (v + 1) ls e ≡ within number limit (v + 1) ls e) → (b : Bool)
          → (cond b (done (at (v + 1) x)) (within number limit (v + 1) ls e) ≡ refused limit_reached → ⊥)
          → cond b (done (at (v + 1) x)) (within number higher (v + 1) ls e) ≡ cond b (done (at (v + 1) x)) (within number limit (v + 1) ls e)
      go behind true o = refl
      go behind false o = behind o

  pub limit_raised : (limit higher : ℕ) (s : List ℕ) → limit ≤ higher → (line_sought number limit s ≡ refused limit_reached → ⊥)
      → line_sought number higher s ≡ line_sought number limit s
  unfolding line_sought
  limit_raised limit higher s h other = go (ltb 1048576 (length s)) (ltb (length s) 2) other
    where
      ls : List Line
      ls = (lined_from link_step s 2).lines

      e : Ending
      e = (lined_from link_step s 2).ending

      go : (b c : Bool)
          → (cond b (refused (image_too_long (length s))) (cond c (refused too_short) (within number limit 0 ls e)) ≡ refused limit_reached → ⊥)
          → cond b (refused (image_too_long (length s))) (cond c (refused too_short) (within number higher 0 ls e))
          ≡ cond b (refused (image_too_long (length s))) (cond c (refused too_short) (within number limit 0 ls e))
      go true c o = refl
      go false true o = refl
      go false false o = raised limit higher 0 ls e h o

  -- behind the lines stands the end: save for 19 it is the search of the full list
  pub full_search : (limit v : ℕ) (ls : List Line) → (within number limit v ls ended ≡ refused limit_reached → ⊥) → within number limit v ls ended ≡ done (first_in number v ls)
  unfolding within first_in
  full_search limit v [] other = refl
  full_search limit v (x ∷ ls) other =
      let l : v < limit = below limit v _ other in
      simp (lt-leb _ _ l) (go (λ o. full_search limit (v + 1) ls o) (eqb x.number number) (simp (lt-leb _ _ l) at other))
    where
      go : ((within number limit (v + 1) ls ended ≡ refused limit_reached → ⊥) → within number limit (v + 1) ls ended ≡ done (first_in number (v + 1) ls)) → (b : Bool)
          → (cond b (done (at (v + 1) x)) (within number limit (v + 1) ls ended) ≡ refused limit_reached → ⊥)
          → cond b (done (at (v + 1) x)) (within number limit (v + 1) ls ended) ≡ done (cond b (at (v + 1) x) (first_in number (v + 1) ls))
      go behind true o = refl
      go behind false o = behind o

-- ---- the lines of an image

right_length : (s : List ℕ) {ls : List Line} → lines_of link_step s ≡ done ls → (length s ≤ 1048576) × (2 ≤ length s)
right_length s e =
    let k = subst (Leads link_step s 2) e (lines_lead link_sound s 2) in
    (link_sound.not_too_long s k.0 k.2, link_sound.long_enough s k.0 k.2)

-- document 02: on an image that the link reader accepts the answer equals, save for 19, a search of the full list
pub sought_in_full : (number limit : ℕ) (s : List ℕ) {ls : List Line} → lines_of link_step s ≡ done ls → (line_sought number limit s ≡ refused limit_reached → ⊥)
    → line_sought number limit s ≡ done (first_in number 0 ls)
unfolding line_sought
sought_in_full number limit s {ls} e other =
    let w : within number limit 0 (lined_from link_step s 2).lines (lined_from link_step s 2).ending ≡ within number limit 0 ls ended =
    ap (λ (x : Lined). within number limit 0 x.lines x.ending) (accepted link_sound s e) in
    let r = right_length s e in
    let z : within number limit 0 ls ended ≡ line_sought number limit s = sym w ∙ sized_right s _ r.0 r.1 in
    sym z ∙ full_search number limit 0 ls (λ q. other (sym z ∙ q))

-- the count of all lines, where none has the number
pub none_counted : (number v : ℕ) (ls : List Line) {w : ℕ} → first_in number v ls ≡ nowhere w → w ≡ v + length ls
unfolding first_in
none_counted number v [] {w} e = let t : v ≡ w = cc in omega arith
none_counted number v (x ∷ ls) {w} e = go (eqb x.number number) (none_counted number (v + 1) ls) e
  where
    go : (b : Bool) → (first_in number (v + 1) ls ≡ nowhere w → w ≡ v + 1 + length ls) → cond b (at (v + 1) x) (first_in number (v + 1) ls) ≡ nowhere w → w ≡ v + length (x ∷ ls)
    go true more q = let z : ◌≡◌ {A = ℕ} 0 1 = cc in absurd (omega arith)
    go false more q = omega (arith, more q)

-- ---- an image that the reader refuses

fault_search : (number limit v : ℕ) (ls : List Line) (n : Numbered) → (within number limit v ls (faulted n) ≡ refused limit_reached → ⊥)
    → within number limit v ls (faulted n) ≡ or_fault n (first_in number v ls)
unfolding within first_in
fault_search number limit v [] n other = let l : v < limit = below limit v (refused n) other in simp (lt-leb _ _ l)
fault_search number limit v (x ∷ ls) n other =
    let l : v < limit = below limit v _ other in
    simp (lt-leb _ _ l) (go (λ o. fault_search number limit (v + 1) ls n o) (eqb x.number number) (simp (lt-leb _ _ l) at other))
  where
    go : ((within number limit (v + 1) ls (faulted n) ≡ refused limit_reached → ⊥) → within number limit (v + 1) ls (faulted n) ≡ or_fault n (first_in number (v + 1) ls)) → (b : Bool)
        → (cond b (done (at (v + 1) x)) (within number limit (v + 1) ls (faulted n)) ≡ refused limit_reached → ⊥)
        → cond b (done (at (v + 1) x)) (within number limit (v + 1) ls (faulted n)) ≡ or_fault n (cond b (at (v + 1) x) (first_in number (v + 1) ls))
    go more true o = refl
    go more false o = more o

module _ (number limit : ℕ) (s : List ℕ) {n : Numbered} (e : lines_of link_step s ≡ refused n) where
  -- refused before a header is read
  fault_first : {m : Numbered} → link_step s 2 ≡ refused m → line_sought number limit s ≡ refused m → line_sought number limit s ≡ or_fault n (first_in number 0 (lined_from link_step s 2).lines)
  unfolding first_in
  fault_first {m} h q =
      let lined = lined_refused link_sound s 2 h in
      let same : faulted m ≡ faulted n = ap (λ (x : Lined). x.ending) (sym lined) ∙ refused_at_lem link_sound s e in
      let is : m ≡ n = cc in
      q ∙ ap refused is ∙ sym (ap (λ (x : Lined). or_fault n (first_in number 0 x.lines)) lined)

  -- document 02: "on one it refuses, the first match among the lines before the fault, else the fault's refusal"
  pub sought_before_fault : (line_sought number limit s ≡ refused limit_reached → ⊥) → line_sought number limit s ≡ or_fault n (first_in number 0 (lined_from link_step s 2).lines)
  unfolding line_sought
  sought_before_fault other = go (ltb 1048576 (length s)) refl (ltb (length s) 2) refl
    where
      ls : List Line
      ls = (lined_from link_step s 2).lines

      go : (b : Bool) → ltb 1048576 (length s) ≡ b → (c : Bool) → ltb (length s) 2 ≡ c → line_sought number limit s ≡ or_fault n (first_in number 0 ls)
      go true p c q = let h = ltb-true 1048576 (length s) p in fault_first (sym (link_long s 2 h)) (sym (sized_long s _ h))
      go false p true q = let h = ltb-true (length s) 2 q in fault_first (sym (link_short s 2 h)) (sym (sized_short s _ h))
      go false p false q =
          let w : within number limit 0 ls (faulted n) ≡ line_sought number limit s =
          ap (within number limit 0 ls) (sym (refused_at_lem link_sound s e)) ∙ sized_right s _ (ltb-false 1048576 (length s) p) (ltb-false (length s) 2 q) in
          sym w ∙ fault_search number limit 0 ls n (λ z. other (sym w ∙ z))
