-- The line that is answered is one that a step gives, and its body is the body of that step, a part of the image.
-- Assumes nothing.
use Prim.Native.Nat.{ℕ, ◌+◌, ◌-◌, ◌≤◌, ◌<◌}
use mathlib.Core.Path.{◌≡◌, refl, sym, ap, ◌∙◌}
use mathlib.Core.Bool.{Bool, true, false, cond}
use mathlib.Core.List.{List, []}
use native.Mathlib.Omega.{arith}
use lib.Dec.{eqb, leb, ltb}
use lib.ListN.{length, take, drop}
use borrow.Author.Tests.{lt-ltb, le-ltb}
use Rattle.base_refusals.specs.Answer.{Answer, done, refused}
use Rattle.base_refusals.specs.Numbers.{image_too_long, too_short}
use Rattle.image_readers.specs.declared.Line.{Line}
use Rattle.image_readers.specs.Bodies.{body_of, body_found, body_at}
use Rattle.image_readers.specs.Chain.{Chain, here, on, Leads}
use Rattle.image_readers.specs.Lined.{Ending, ended, faulted, Lined, lined_from}
use Rattle.image_readers.specs.Lines.{lines_of}
use Rattle.image_readers.specs.Links.{link_step}
use Rattle.image_readers.proofs.ByLinks.{link_sound}
use Rattle.image_readers.proofs.Equations.{LiesAt}
use Rattle.image_readers.proofs.Lined.{lined_end, lined_refused, chain_lined}
use Rattle.image_readers.proofs.Reading.{lines_lead}
use Rattle.image_find.specs.Sought.{limit_reached, at, within, line_sought, body_in}
use Rattle.image_find.proofs.Seeking.{sought_from}
use Rattle.std.specs.Prelude.{Option, Some, None, MatchOption, slice_range, ◌⊎◌}
use Rattle.std.specs.Option.{unwrap_or}
use Rattle.std.specs.Borrow.{Bor}
use mathlib.Core.Logic.{inl, inr}

-- ---- `body` meets its contract, case by case

module _ (s : List ℕ) (l : Line) where
  pub body_beyond : length s < l.to → [] ≡ body_in s l
  unfolding body_in
  body_beyond h = simp (lt-ltb _ _ h)

  pub body_backward : l.to < l.from → [] ≡ body_in s l
  unfolding body_in
  body_backward h = go (ltb (length s) l.to)
    where
      go : (t : Bool) → [] ≡ cond t [] (cond (ltb l.to l.from) [] (body_of s l))
      go true = refl
      go false = simp (lt-ltb _ _ h)

  pub body_there : l.from ≤ l.to → l.to ≤ length s → take (l.to - l.from) (drop l.from s) ≡ body_in s l
  unfolding body_in
  body_there h k = simp (le-ltb _ _ k, le-ltb _ _ h)

-- the part of the image that was got, or its empty one
pub body_got : (s : List ℕ) (l : Line) (r : Option (Bor (List ℕ))) (x y : Bor (List ℕ))
    → MatchOption r ((l.to < l.from) ⊎ (length s < l.to)) (λ y. (l.from ≤ l.to) × (l.to ≤ length s) × (y.now ≡ slice_range s l.from l.to) × (length y.now + l.from ≡ l.to))
    → y.now ≡ [] → x ≡ unwrap_or r y → x.now ≡ body_in s l
body_got s l None x y h g e = ap (λ (z : Bor (List ℕ)). z.now) e ∙ g ∙ none h
  where
    none : (l.to < l.from) ⊎ (length s < l.to) → [] ≡ body_in s l
    none (inl b) = body_backward s l b
    none (inr b) = body_beyond s l b
body_got s l (Some z) x y h g e = ap (λ (z : Bor (List ℕ)). z.now) e ∙ h.2 ∙ body_there s l h.0 h.1

-- ---- the line that is answered

-- it is the line of the step at an offset
pub record Stepped (s : List ℕ) (l : Line) : Type 0 where
  pub offset : ℕ
  pub step : link_step s offset ≡ done (Some l)

module _ (number limit : ℕ) (s : List ℕ) where
  chain_found : (v : ℕ) {p q w : ℕ} {ls : List Line} (e : Ending) {l : Line} → Chain (link_step s) p ls q → within number limit v ls e ≡ done (at w l) → Stepped s l
  unfolding within
  chain_found v ended here f = let z : ◌≡◌ {A = ℕ} 0 1 = cc in absurd (omega arith)
  chain_found v {w = w} (faulted n) {l} here f = none (leb limit v) f
    where
      none : (b : Bool) → cond b (refused limit_reached) (refused n) ≡ done (at w l) → Stepped s l
      none true g = let z : ◌≡◌ {A = ℕ} 0 1 = cc in absurd (omega arith)
      none false g = let z : ◌≡◌ {A = ℕ} 0 1 = cc in absurd (omega arith)
  chain_found v {w = w} e {l} (on {p = p} {l = x} {ls = ls} h c) f = go (leb limit v) (eqb x.number number) (λ g. chain_found (v + 1) e c g) f
    where
      go : (b d : Bool) → (within number limit (v + 1) ls e ≡ done (at w l) → Stepped s l)
          → cond b (refused limit_reached) (cond d (done (at (v + 1) x)) (within number limit (v + 1) ls e)) ≡ done (at w l) → Stepped s l
      go true d more g = let z : ◌≡◌ {A = ℕ} 0 1 = cc in absurd (omega arith)
      go false true more g = let same : x ≡ l = cc in record { offset = p; step = h ∙ ap (λ (y : Line). done (Some y)) same }
      go false false more g = more g

  -- the lines before the fault, found one after the other
  record Chained : Type 0 where
    lines : List Line
    ending : Ending
    behind : ℕ
    chain : Chain (link_step s) 2 lines behind
    whole : lined_from link_step s 2 ≡ record { lines = lines; ending = ending }

  chained : Chained
  chained = go (lines_of link_step s) (lines_lead link_sound s 2)
    where
      go : (a : Answer (List Line)) → Leads link_step s 2 a → Chained
      go (done ls) k = record { lines = ls; ending = ended; behind = k.0; chain = k.1; whole = chain_lined link_sound s k.1 (lined_end link_sound s k.0 k.2) }
      go (refused n) k =
          record { lines = k.0; ending = faulted n; behind = k.1; chain = k.2; whole = chain_lined link_sound s k.2 (lined_refused link_sound s k.1 k.3) }

  module _ {v : ℕ} {l : Line} (f : line_sought number limit s ≡ done (at v l)) where
    pub sought_step : Stepped s l
    unfolding line_sought
    sought_step = go (ltb 1048576 (length s)) (ltb (length s) 2) f
      where
        go : (b d : Bool)
            → cond b (refused (image_too_long (length s))) (cond d (refused too_short) (sought_from number limit s 2 0)) ≡ done (at v l) → Stepped s l
        go true d g = let z : ◌≡◌ {A = ℕ} 0 1 = cc in absurd (omega arith)
        go false true g = let z : ◌≡◌ {A = ℕ} 0 1 = cc in absurd (omega arith)
        go false false g = chain_found 0 chained.ending chained.chain (ap (λ (x : Lined). within number limit 0 x.lines x.ending) (sym chained.whole) ∙ g)

    -- so its body is the one that `links::body` hands out there
    pub sought_body : body_in s l ≡ body_at link_step s sought_step.offset
    sought_body =
        let lies : LiesAt s sought_step.offset l = link_sound.lies s sought_step.offset sought_step.step in
        sym (body_there s l (omega (arith, lies)) (omega (arith, lies)))
        ∙ sym (ap (body_found s) sought_step.step)
