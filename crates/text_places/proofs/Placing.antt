-- Laws of the place of an offset: what ends a line, the place behind a byte, and the loop over a text.
-- Assumes nothing.
use Prim.Native.Nat.{ℕ, zero, suc, ◌+◌, ◌-◌, ◌≤◌, ◌<◌, min}
use mathlib.Core.Path.{◌≡◌, refl, sym, ap, ◌∙◌}
use mathlib.Core.Bool.{Bool, true, false, cond, not, ◌&&◌}
use mathlib.Core.List.{List, [], ◌∷◌}
use native.Mathlib.Numerals.{add-one}
use native.Mathlib.Decide.{dec_le}
use native.Mathlib.Omega.{arith}
use lib.Dec.{eqb}
use lib.ListN.{length, get_or, take, drop, length-drop, drop_of_length-le}
use lib.Seq.{drop-cons, take_all}
use borrow.Author.Tests.{eq-eqb, ne_eqb, eqb-true, eqb-false}
use Rattle.std.specs.List.{starts_with}
use Rattle.text_places.specs.Place.{ends_line, place_behind, place_from, text_place}
use Rattle.text_places.specs.declared.Place.{Place}

module _ {b : ℕ} (s : List ℕ) where
  pub ends_lf : b ≡ 0x0A → true ≡ ends_line b s
  unfolding ends_line
  ends_lf e = simp (eq-eqb b 0x0A e)

  pub ends_other : (b ≡ 0x0A → ⊥) → (b ≡ 0x0D → ⊥) → false ≡ ends_line b s
  unfolding ends_line
  ends_other n m = simp (ne_eqb b 0x0A n, ne_eqb b 0x0D m)

  pub ends_next : (b ≡ 0x0A → ⊥) → b ≡ 0x0D → not (eqb (get_or s 0 0) 0x0A) ≡ ends_line b s
  unfolding ends_line
  ends_next n e = simp (ne_eqb b 0x0A n, eq-eqb b 0x0D e)

eqb_back : (a b : ℕ) → eqb a b ≡ eqb b a
eqb_back a b = go (eqb b a) refl
  where
    go : (r : Bool) → eqb b a ≡ r → eqb a b ≡ eqb b a
    go true e = rw e (eq-eqb a b (sym (eqb-true b a e)))
    go false e = rw e (ne_eqb a b (λ q. eqb-false b a e (sym q)))

-- LF stands in front
pub begins_lf : (s : List ℕ) → starts_with eqb s (0x0A ∷ []) ≡ eqb (get_or s 0 0) 0x0A
begins_lf [] = refl
begins_lf (c ∷ s) = rw (eqb_back 0x0A c) (go (eqb c 0x0A))
  where
    go : (x : Bool) → (x && true) ≡ x
    go true = refl
    go false = refl

module _ (b : ℕ) (s : List ℕ) (p : Place) where
  pub past_end_lem : {r : Bool} → r ≡ ends_line b s → r ≡ true → ◌≡◌ {A = Place} (record { line = p.line + 1; column = 1 }) (place_behind p b s)
  unfolding place_behind
  past_end_lem e t = let ends : ends_line b s ≡ true = sym e ∙ t in simp ends

  pub past_pi : {r : Bool} → r ≡ ends_line b s → r ≡ false → b ≡ 0x80 → p ≡ place_behind p b s
  unfolding place_behind
  past_pi e t h = let ends : ends_line b s ≡ false = sym e ∙ t in simp (ends, eq-eqb b 0x80 h)

  pub past_one : {r : Bool} → r ≡ ends_line b s → r ≡ false → (b ≡ 0x80 → ⊥) → ◌≡◌ {A = Place} (record { line = p.line; column = p.column + 1 }) (place_behind p b s)
  unfolding place_behind
  past_one e t h = let ends : ends_line b s ≡ false = sym e ∙ t in simp (ends, ne_eqb b 0x80 h)

past_line : (p : Place) (b : ℕ) (s : List ℕ) → (place_behind p b s).line ≤ p.line + 1
unfolding place_behind
past_line p b s = go (ends_line b s) (eqb b 0x80)
  where
    go : (x y : Bool) → (cond {A = Place} x (record { line = p.line + 1; column = 1 }) (cond y p (record { line = p.line; column = p.column + 1 }))).line ≤ p.line + 1
    go true y = omega arith
    go false true = omega arith
    go false false = omega arith

past_column : (p : Place) (b : ℕ) (s : List ℕ) → (place_behind p b s).column ≤ p.column + 1
unfolding place_behind
past_column p b s = go (ends_line b s) (eqb b 0x80)
  where
    go : (x y : Bool) → (cond {A = Place} x (record { line = p.line + 1; column = 1 }) (cond y p (record { line = p.line; column = p.column + 1 }))).column ≤ p.column + 1
    go true y = omega arith
    go false true = omega arith
    go false false = omega arith

from_none : (p : Place) (n : ℕ) → place_from p n [] ≡ p
unfolding place_from
from_none p zero = refl
from_none p (suc n) = refl

-- i bytes of a text are passed, and the place is the one past them
pub record Passed (text : List ℕ) (offset i : ℕ) (at : Place) : Type 0 where
  pub few : i ≤ length text
  pub line : at.line ≤ i + 1
  pub column : at.column ≤ i + 1
  pub gives : place_from at (offset - i) (drop i text) ≡ text_place text offset

pub passed_start : (text : List ℕ) (offset : ℕ) → Passed text offset 0 (record { line = 1; column = 1 })
unfolding text_place
passed_start text offset =
    let n : offset - 0 ≡ offset = omega arith in
    record { few = omega arith; line = omega arith; column = omega arith; gives = ap (λ (m : ℕ). place_from (record { line = 1; column = 1 }) m text) n }

module _ {text : List ℕ} {offset i : ℕ} {at : Place} (k : Passed text offset i at) where
  pub passed_turn : i < length text → i < offset → {next : Place} → next ≡ place_behind at (get_or text i 0) (take (length text - (i + 1)) (drop (i + 1) text))
      → Passed text offset (i + 1) next
  unfolding place_from
  passed_turn h below d =
      let n : offset - i ≡ suc (offset - (i + 1)) = omega arith in
      let whole : take (length text - (i + 1)) (drop (i + 1) text) ≡ drop (i + 1) text = take_all (length text - (i + 1)) (drop (i + 1) text) (omega (arith, length-drop (i + 1) text)) in
      let e : _ ≡ place_behind at (get_or text i 0) (drop (i + 1) text) = d ∙ ap (λ (s : List ℕ). place_behind at (get_or text i 0) s) whole in
      record {
        few = omega arith;
        line = omega (arith, k.line, past_line at (get_or text i 0) (drop (i + 1) text), ap (λ (p : Place). p.line) e);
        column = omega (arith, k.column, past_column at (get_or text i 0) (drop (i + 1) text), ap (λ (p : Place). p.column) e);
        gives = rw (e, add-one) (rw (drop-cons text i 0 h, n, add-one) at k.gives);
      }

  pub passed_end : min offset (length text) ≤ i → at ≡ text_place text offset
  unfolding place_from
  passed_end h = go (dec_le offset i)
    where
      go : Dec (offset ≤ i) → at ≡ text_place text offset
      go (yes l) = let n : offset - i ≡ 0 = omega arith in rw n at k.gives
      go (no g) =
          let end : length text ≤ i = omega arith in
          sym (from_none at (offset - i)) ∙ rw (drop_of_length-le text end) at k.gives
