-- The loop over the headers: the invariant, a turn, and the ends.
-- Assumes nothing.
use Prim.Native.Nat.{ℕ, ◌+◌, ◌≤◌, ◌<◌}
use mathlib.Core.Path.{◌≡◌, sym, ap, ◌∙◌}
use mathlib.Core.List.{List, [], ◌∷◌}
use lib.ListN.{length}
use borrow.Author.Tests.{le-leb, lt-leb, eq-eqb, ne_eqb}
use Rattle.base_refusals.specs.Numbers.{image_too_long, too_short}
use Rattle.base_refusals.specs.Answer.{Answer, done, refused, numbered, answered}
use Rattle.base_refusals.specs.declared.Refusal.{Refusal}
use Rattle.image_readers.specs.declared.Line.{Line}
use Rattle.image_readers.specs.Lined.{faulted, Lined, lined_from}
use Rattle.image_readers.specs.Links.{link_step}
use Rattle.image_readers.proofs.ByLinks.{link_sound}
use Rattle.image_readers.proofs.Finding.{sized_long, sized_short, sized_right}
use Rattle.base_refusals.proofs.Tight.{told_back}
use Rattle.image_readers.proofs.Lined.{lined_line, lined_end, lined_refused}
use Rattle.image_find.specs.Sought.{limit_reached, Visit, at, nowhere, within, line_sought}
use Rattle.std.specs.Prelude.{Option, Some, None, Result, Ok, Err}

-- the search from p on, v headers being visited
abbrev pub sought_from : ℕ → ℕ → List ℕ → ℕ → ℕ → Answer Visit
sought_from number limit s p v = within number limit v (lined_from link_step s p).lines (lined_from link_step s p).ending

-- v headers were visited before p, none of them the line's; what is sought from p on is what is sought
pub record NoneBefore (number limit : ℕ) (s : List ℕ) (p v : ℕ) : Type 0 where
  pub gives : sought_from number limit s p v ≡ line_sought number limit s

module _ (number limit : ℕ) (s : List ℕ) where
  pub sought_long : 1048576 < length s → refused (image_too_long (length s)) ≡ line_sought number limit s
  unfolding line_sought
  sought_long h = sized_long s _ h

  pub sought_short : length s < 2 → refused too_short ≡ line_sought number limit s
  unfolding line_sought
  sought_short h = sized_short s _ h

  pub none_start : length s ≤ 1048576 → 2 ≤ length s → NoneBefore number limit s 2 0
  unfolding line_sought
  none_start long short = record { gives = sized_right s _ long short }

module _ {number limit : ℕ} {s : List ℕ} {p v : ℕ} {r : Result (Option Line) Refusal} (e : answered r ≡ link_step s p) (k : NoneBefore number limit s p v) where
  module _ {l : Line} (is : r ≡ Ok (Some l)) where
    here : sought_from number limit s p v ≡ within number limit v (l ∷ (lined_from link_step s l.next).lines) (lined_from link_step s l.next).ending
    here = ap (λ (x : Lined). within number limit v x.lines x.ending) (lined_line link_sound s p (told_back is e))

    pub line_limit : limit ≤ v → refused limit_reached ≡ line_sought number limit s
    unfolding within
    line_limit h = let w = sym here ∙ k.gives in simp (le-leb _ _ h) at w

    pub line_found : v < limit → l.number ≡ number → done (at (v + 1) l) ≡ line_sought number limit s
    unfolding within
    line_found h m = let w = sym here ∙ k.gives in simp (lt-leb _ _ h, eq-eqb _ _ m) at w

    pub none_turn : v < limit → (l.number ≡ number → ⊥) → NoneBefore number limit s l.next (v + 1)
    unfolding within
    none_turn h m =
        let w = sym here ∙ k.gives in
        record { gives = simp (lt-leb _ _ h, ne_eqb _ _ m) at w }

  pub end_nowhere : {w : ℕ} → w ≡ v → r ≡ Ok None → done (nowhere w) ≡ line_sought number limit s
  unfolding within
  end_nowhere q is = ap (λ (n : ℕ). done (nowhere n)) q ∙ sym (ap (λ (x : Lined). within number limit v x.lines x.ending) (lined_end link_sound s p (told_back is e))) ∙ k.gives

  module _ {n : Refusal} (is : r ≡ Err n) where
    fault : within number limit v [] (faulted (numbered n)) ≡ line_sought number limit s
    fault = sym (ap (λ (x : Lined). within number limit v x.lines x.ending) (lined_refused link_sound s p (told_back is e))) ∙ k.gives

    pub fault_limit : limit ≤ v → refused limit_reached ≡ line_sought number limit s
    unfolding within
    fault_limit h = simp (le-leb _ _ h) at fault

    pub fault_refused : v < limit → refused (numbered n) ≡ line_sought number limit s
    unfolding within
    fault_refused h = simp (lt-leb _ _ h) at fault
