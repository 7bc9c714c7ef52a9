-- How a line of the sentences is found.
-- Assumes nothing.
use Prim.Native.Nat.{ℕ, zero, suc, ◌+◌, ◌-◌, ◌≤◌, ◌<◌}
use mathlib.Core.Path.{◌≡◌, refl, sym, ◌∙◌}
use mathlib.Core.List.{List, []}
use native.Mathlib.Numerals.{add-one}
use native.Mathlib.Omega.{arith}
use lib.ListN.{length, get_or, take, drop, length-drop, drop_of_length-le}
use lib.Seq.{drop-cons, take_all}
use borrow.Author.Tests.{eq-eqb, ne_eqb}
use Rattle.say_sentences.specs.Sentence.{behind_rows}

-- i bytes are passed, and so many lines are left to pass
pub record Skipping (rows : List ℕ) (count i left : ℕ) : Type 0 where
  pub few : i ≤ length rows
  pub gives : behind_rows left (drop i rows) ≡ behind_rows count rows

pub skipping_start : (rows : List ℕ) (count : ℕ) → Skipping rows count 0 count
skipping_start rows count = record { few = omega arith; gives = refl }

behind_none : (n : ℕ) → behind_rows n [] ≡ []
unfolding behind_rows
behind_none zero = refl
behind_none (suc n) = refl

module _ {rows : List ℕ} {count i left : ℕ} (k : Skipping rows count i left) where
  pub skipping_lf : i < length rows → get_or rows i 0 ≡ 0x0A → 0 < left → Skipping rows count (i + 1) (left - 1)
  unfolding behind_rows
  skipping_lf h e z =
      let n : left ≡ suc (left - 1) = omega arith in
      record { few = omega arith; gives = rw add-one (rw (drop-cons rows i 0 h, n, behind_rows, eq-eqb _ _ e) at k.gives) }

  pub skipping_on : i < length rows → (get_or rows i 0 ≡ 0x0A → ⊥) → 0 < left → Skipping rows count (i + 1) left
  unfolding behind_rows
  skipping_on h e z =
      let n : left ≡ suc (left - 1) = omega arith in
      record { few = omega arith; gives = rw (add-one, n) (rw (drop-cons rows i 0 h, n, behind_rows, ne_eqb _ _ e) at k.gives) }

  pub skipping_there : left ≤ 0 → take (length rows - i) (drop i rows) ≡ behind_rows count rows
  unfolding behind_rows
  skipping_there z =
      let none : left ≡ 0 = omega arith in
      take_all (length rows - i) (drop i rows) (omega (arith, length-drop i rows)) ∙ rw none at k.gives

  pub skipping_end : length rows ≤ i → [] ≡ behind_rows count rows
  skipping_end h = sym (behind_none left) ∙ rw (drop_of_length-le rows h) at k.gives
