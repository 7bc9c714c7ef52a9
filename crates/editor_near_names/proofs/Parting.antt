-- A name and its count, test by test.
-- Assumes nothing.
use Prim.Native.Nat.{ℕ, ◌+◌, ◌-◌, ◌≤◌, ◌<◌}
use mathlib.Core.Path.{◌≡◌, sym, ap, ◌∙◌}
use mathlib.Core.Bool.{Bool}
use mathlib.Core.List.{List, []}
use native.Mathlib.Omega.{arith}
use lib.ListN.{length, take, drop, drop_of_length-le}
use lib.Seq.{length-take-le}
use borrow.Author.Tests.{lt-ltb, le-ltb}
use Rattle.base_ascii.specs.Bytes.{is_digit}
use Rattle.base_ascii.specs.Search.{equals, front, before, past_end}
use Rattle.base_ascii.specs.Trim.{trim}
use Rattle.base_ascii.proofs.Choice.{taken, left}
use Rattle.base_ascii.proofs.Searching.{tail, before_le}
use Rattle.editor_near_names.specs.Parts.{digits_of, name_within, count_within, name_part, count_part}

pub before_within : (p : ℕ → Bool) (s : List ℕ) {n : ℕ} → n ≡ before p s → n ≤ length s
before_within p s e = omega (arith, before_le p s)

-- a part from the front on is as long as was asked
pub part_long : (t : List ℕ) {n : ℕ} → n ≤ length t → n ≡ length (take n t)
part_long t {n} h = sym (length-take-le n t h)

pub digits_told : (t : List ℕ) {n z : ℕ} → z ≡ front (equals 48) (take n t) → n ≡ front is_digit t
    → take (length (take n t) - z) (drop z (take n t)) ≡ digits_of t
unfolding digits_of
digits_told t {n} {z} e f = tail (take n t) z ∙ rw (e, f)

module _ (s : List ℕ) {text : List ℕ} {d : ℕ} (e : text ≡ trim s) (f : d ≡ front is_digit text) where
  pub name_behind_lem : {r : List ℕ} → r ≡ trim (take (length text - d) (drop d text)) → 0 < d → r ≡ name_part s
  unfolding name_part name_within
  name_behind_lem q h =
      q
      ∙ ap trim (tail text d ∙ ap (λ (n : ℕ). drop n text) f)
      ∙ sym (taken _ _ (lt-ltb 0 (front is_digit text) (omega arith)))
      ∙ ap name_within e

  pub name_before : {r : List ℕ} {star : ℕ} → r ≡ trim (take star text) → d ≤ 0 → star ≡ before (equals 42) text → r ≡ name_part s
  unfolding name_part name_within
  name_before {star = star} q h b =
      q
      ∙ ap trim (ap (λ (n : ℕ). take n text) b)
      ∙ sym (left _ _ (le-ltb 0 (front is_digit text) (omega arith)))
      ∙ ap name_within e

  pub count_front : {r : List ℕ} → r ≡ digits_of text → 0 < d → r ≡ count_part s
  unfolding count_part count_within
  count_front q h = q ∙ sym (taken _ _ (lt-ltb 0 (front is_digit text) (omega arith))) ∙ ap count_within e

  module _ {star : ℕ} (h : d ≤ 0) (b : star ≡ before (equals 42) text) where
    behind : digits_of (trim (drop (star + 1) text)) ≡ count_part s
    unfolding count_part count_within
    behind =
        ap (λ (n : ℕ). digits_of (trim (drop (n + 1) text))) b
        ∙ sym (left _ _ (le-ltb 0 (front is_digit text) (omega arith)))
        ∙ ap count_within e

    pub count_none : length text ≤ star → [] ≡ count_part s
    unfolding digits_of trim front past_end
    count_none l =
        let none : drop (star + 1) text ≡ [] = drop_of_length-le text {i = star + 1} (omega arith) in
        ap (λ (u : List ℕ). digits_of (trim u)) (sym none) ∙ behind

    pub count_behind : {r rest : List ℕ} → r ≡ digits_of rest → rest ≡ trim (take (length text - (star + 1)) (drop (star + 1) text)) → r ≡ count_part s
    count_behind q t = q ∙ ap digits_of (t ∙ ap trim (tail text (star + 1))) ∙ behind
