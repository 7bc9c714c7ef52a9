-- The loop that reads a whole image, by either reader: its invariant, a turn, and its two ends.
-- Assumes nothing.
use Prim.Native.Nat.{ℕ, ◌+◌, ◌≤◌}
use mathlib.Core.Path.{◌≡◌, refl, sym, ap, ◌∙◌}
use mathlib.Core.List.{List, ◌∷◌}
use native.Mathlib.Omega.{arith}
use lib.ListN.{length}
use mir.Syntax.{w64}
use mir.Val.{Fits}
use Rattle.base_refusals.specs.Answer.{Answer, done, refused, map_done, numbered, answered}
use Rattle.base_refusals.specs.declared.Refusal.{Refusal}
use Rattle.image_readers.specs.declared.By.{By}
use Rattle.image_readers.specs.declared.Line.{Line}
use Rattle.image_bytes.specs.ImageBytes.{low_first_at}
use Rattle.image_readers.specs.Lines.{lines_from, overview_of, overview}
use Rattle.image_readers.specs.declared.Overview.{Overview}
use Rattle.image_readers.specs.Readers.{step_by}
use Rattle.image_readers.proofs.Equations.{LiesAt, lines_line, lines_end, lines_refused}
use Rattle.base_refusals.proofs.Tight.{told_back}
use Rattle.image_readers.proofs.Steps.{by_sound}
use Rattle.std.specs.Prelude.{Option, Some, None, Result, Ok, Err}

-- the load address, and so many lines more than were passed
abbrev after : List ℕ → ℕ → List Line → Overview
after s n ls = record { load = low_first_at s 0; lines = n + length ls }

-- n lines were passed before p, and with those from p on they make the overview
pub record LinesPassed (by : By) (s : List ℕ) (p n : ℕ) : Type 0 where
  pub few : n ≤ p
  pub gives : map_done (after s n) (lines_from (step_by by) s p) ≡ overview (step_by by) s

module _ (s : List ℕ) where
  none_passed : (a : Answer (List Line)) → map_done (after s 0) a ≡ map_done (overview_of s) a
  none_passed (done ls) = let e : 0 + length ls ≡ length ls = omega arith in rw e
  none_passed (refused n) = refl

  one_passed : (n : ℕ) (l : Line) (a : Answer (List Line)) → map_done (after s (n + 1)) a ≡ map_done (after s n) (map_done (λ ls. l ∷ ls) a)
  one_passed n l (done ls) = let e : n + 1 + length ls ≡ n + length (l ∷ ls) = omega arith in rw e
  one_passed n l (refused m) = refl

pub passed_start : (by : By) (s : List ℕ) → LinesPassed by s 2 0
unfolding overview
passed_start by s = record { few = omega arith; gives = none_passed s (lines_from (step_by by) s 2) }

-- a step at p found a line
module _ {by : By} {s : List ℕ} {p n : ℕ} {r : Result (Option Line) Refusal} {l : Line} (is : r ≡ Ok (Some l)) (e : answered r ≡ step_by by s p) (k : LinesPassed by s p n) where
  pub passed_turn : LinesPassed by s l.next (n + 1)
  passed_turn =
      let d : LiesAt s p l = (by_sound by).lies s p (told_back is e) in
      record {
        few = omega arith;
        gives = one_passed s n l (lines_from (step_by by) s l.next) ∙ ap (map_done (after s n)) (sym (lines_line (by_sound by) s p (told_back is e))) ∙ k.gives;
      }

  pub passed_fits : Fits w64 (n + 1)
  passed_fits =
      let d : LiesAt s p l = (by_sound by).lies s p (told_back is e) in
      record { fits = omega (arith, (by_sound by).not_too_long s p (told_back is e)) }

pub passed_end : {by : By} {s : List ℕ} {p n : ℕ} {r : Result (Option Line) Refusal} {load : ℕ} → r ≡ Ok None → answered r ≡ step_by by s p → LinesPassed by s p n → load ≡ low_first_at s 0
    → done (record { load = load; lines = n }) ≡ overview (step_by by) s
passed_end {by} {s} {p} {n} is e k w =
    let z : n ≡ n + 0 = omega arith in
    rw (w, z) (sym (ap (map_done (after s n)) (lines_end (step_by by) s p (told_back is e))) ∙ k.gives)

pub passed_refused : {by : By} {s : List ℕ} {p n : ℕ} {r : Result (Option Line) Refusal} {m : Refusal} → r ≡ Err m → answered r ≡ step_by by s p → LinesPassed by s p n
    → refused (numbered m) ≡ overview (step_by by) s
passed_refused {by} {s} {p} {n} is e k = sym (ap (map_done (after s n)) (lines_refused (step_by by) s p (told_back is e))) ∙ k.gives
