-- The loop that marks an image's numbers, and a number that the marks do not reach.
-- Assumes nothing.
use Prim.Native.Nat.{ℕ, ◌-◌, ◌≤◌, ◌<◌}
use mathlib.Core.Path.{◌≡◌, refl, sym, ap, ◌∙◌}
use mathlib.Core.List.{List}
use lib.ListN.{length, set}
use lib.Seq.{set_out}
use Rattle.base_refusals.specs.declared.Refusal.{Refusal}
use Rattle.image_readers.specs.declared.Line.{Line}
use Rattle.image_readers.specs.Lined.{Lined, lined_from}
use Rattle.image_readers.specs.Links.{link_step}
use Rattle.image_readers.proofs.ByLinks.{link_sound}
use Rattle.image_readers.proofs.Equations.{next_nearer}
use Rattle.base_refusals.proofs.Tight.{told_back}
use Rattle.image_readers.proofs.Lined.{lined_line, lined_end, lined_refused}
use Rattle.image_marks.specs.Marks.{line_marks}
use Rattle.std.specs.Prelude.{Option, Some, None, Result, Ok, Err}
use Rattle.base_refusals.specs.Answer.{answered}

-- the numbers up to p are marked
pub record MarksAhead (s marked₀ marked : List ℕ) (p : ℕ) : Type 0 where
  pub gives : line_marks marked (lined_from link_step s p).lines ≡ line_marks marked₀ (lined_from link_step s 2).lines

pub marks_start : (s marked : List ℕ) → MarksAhead s marked marked 2
marks_start s marked = record { gives = refl }

module _ {s marked₀ marked : List ℕ} {p : ℕ} (k : MarksAhead s marked₀ marked p) {r : Result (Option Line) Refusal} (e : answered r ≡ link_step s p) where
  module _ {l : Line} (is : r ≡ Ok (Some l)) where
    pub marks_less : length s - l.next < length s - p
    marks_less = next_nearer link_sound s p (told_back is e)

    marked_on : line_marks (set marked l.number 1) (lined_from link_step s l.next).lines ≡ line_marks marked₀ (lined_from link_step s 2).lines
    unfolding line_marks
    marked_on = ap (λ (x : Lined). line_marks marked x.lines) (sym (lined_line link_sound s p (told_back is e))) ∙ k.gives

    module _ {n : ℕ} (q : n ≡ l.number) where
      pub marks_turn : n < length marked → MarksAhead s marked₀ (set marked n 1) l.next
      marks_turn h = record { gives = rw q marked_on }

      pub marks_past : length marked ≤ n → MarksAhead s marked₀ marked l.next
      marks_past h = record { gives = rw (set_out marked l.number 1 (rw q at h)) at marked_on }

  pub marks_end : r ≡ Ok None → marked ≡ line_marks marked₀ (lined_from link_step s 2).lines
  unfolding line_marks
  marks_end is = ap (λ (x : Lined). line_marks marked x.lines) (sym (lined_end link_sound s p (told_back is e))) ∙ k.gives

  pub marks_fault : {n : Refusal} → r ≡ Err n → marked ≡ line_marks marked₀ (lined_from link_step s 2).lines
  unfolding line_marks
  marks_fault is = ap (λ (x : Lined). line_marks marked x.lines) (sym (lined_refused link_sound s p (told_back is e))) ∙ k.gives
