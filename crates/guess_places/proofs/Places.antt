-- The place behind a byte of a string or of DATA, case by case; and stretches of bytes that leave it as it is.
-- Assumes nothing.
use Prim.Native.Nat.{ℕ, zero, suc, ◌+◌, ◌-◌, ◌≤◌, ◌<◌}
use mathlib.Core.Path.{◌≡◌, refl, sym, ap, ◌∙◌, subst}
use mathlib.Core.Bool.{Bool, true, false, not, cond, ◌&&◌, false≢true}
use mathlib.Core.List.{List, [], ◌∷◌}
use native.Mathlib.Omega.{arith}
use lib.Dec.{eqb}
use Rattle.std.proofs.Common.{◌⊎◌, inl, inr}
use lib.ListN.{length, get_or, drop, length-drop}
use lib.Seq.{get_or-drop}
use borrow.Author.Tests.{eq-eqb, ne_eqb}
use mir.Syntax.{w64}
use mir.Val.{Fits}
use Rattle.base_ascii.specs.Search.{equals, front, before}
use Rattle.base_ascii.proofs.Searching.{tail, front_le}
use Rattle.guess_places.specs.Places.{is_plain, is_start, aside}
use Rattle.guess_places.specs.PlaceHelpers.{stays}
use Rattle.guess_places.specs.declared.place.Place.{Place}
use Rattle.guess_places.specs.declared.place.Place.TheVariants.{Start, Within, Quoted, Data, QuotedData}
use Rattle.guess_uses.proofs.Behind.{rest, rest_long}

-- what a pair of a place and a byte gives, arm by arm
module _ (b : ℕ) {place : Place} where
  pub behind_quoted : place ≡ Quoted → b ≡ 0x22 → Within ≡ aside place b
  unfolding aside
  behind_quoted p e = rw p (simp (eq-eqb _ _ e))

  pub data_quote : place ≡ Data → b ≡ 0x22 → QuotedData ≡ aside place b
  unfolding aside
  data_quote p e = rw p (simp (eq-eqb _ _ e))

  pub data_colon : place ≡ Data → b ≡ 0x3A → Start ≡ aside place b
  unfolding aside
  data_colon p e = rw (p, e)

  pub behind_quoted_data : place ≡ QuotedData → b ≡ 0x22 → Data ≡ aside place b
  unfolding aside
  behind_quoted_data p e = rw p (simp (eq-eqb _ _ e))

  pub still_quoted : place ≡ Quoted → (b ≡ 0x22 → ⊥) → place ≡ aside place b
  unfolding aside
  still_quoted p n = rw p (simp (ne_eqb _ _ n))

  pub still_data : place ≡ Data → (b ≡ 0x22 → ⊥) → (b ≡ 0x3A → ⊥) → place ≡ aside place b
  unfolding aside
  still_data p n m = rw p (simp (ne_eqb _ _ n, ne_eqb _ _ m))

  pub still_quoted_data : place ≡ QuotedData → (b ≡ 0x22 → ⊥) → place ≡ aside place b
  unfolding aside
  still_quoted_data p n = rw p (simp (ne_eqb _ _ n))

pub still_plain : (place : Place) (b : ℕ) → (place ≡ Quoted → ⊥) → (place ≡ Data → ⊥) → (place ≡ QuotedData → ⊥) → place ≡ aside place b
unfolding aside
still_plain Start b n m k = refl
still_plain Within b n m k = refl
still_plain Quoted b n m k = absurd (n refl)
still_plain Data b n m k = absurd (m refl)
still_plain QuotedData b n m k = absurd (k refl)

-- ---- tests of a place

pub plain_yes : (place : Place) → (place ≡ Start) ⊎ (place ≡ Within) → true ≡ is_plain place
unfolding is_plain
plain_yes place (inl e) = rw e
plain_yes place (inr e) = rw e

pub plain_no : (place : Place) → (place ≡ Start → ⊥) → (place ≡ Within → ⊥) → false ≡ is_plain place
unfolding is_plain
plain_no Start n m = absurd (n refl)
plain_no Within n m = absurd (m refl)
plain_no Quoted n m = refl
plain_no Data n m = refl
plain_no QuotedData n m = refl

pub start_yes : (place : Place) → place ≡ Start → true ≡ is_start place
unfolding is_start
start_yes place e = rw e

pub start_no : (place : Place) → (place ≡ Start → ⊥) → false ≡ is_start place
unfolding is_start
start_no Start n = absurd (n refl)
start_no Within n = refl
start_no Quoted n = refl
start_no Data n = refl
start_no QuotedData n = refl

-- ---- stretches

-- a byte that leaves the place as it is stands in a string or in DATA
pub record Same (place : Place) (b : ℕ) : Type 0 where
  pub apart : is_plain place ≡ false
  pub same : aside place b ≡ place

quoted_same : (x : Bool) (p q : Place) → not x ≡ true → cond x p q ≡ q
quoted_same true p q e = absurd (false≢true e)
quoted_same false p q e = refl

data_same : (x y : Bool) → (not x && not y) ≡ true → cond x QuotedData (cond y Start Data) ≡ Data
data_same true y e = absurd (false≢true e)
data_same false true e = absurd (false≢true e)
data_same false false e = refl

stays_same : (place : Place) (b : ℕ) → stays place b ≡ true → Same place b
unfolding stays is_plain aside
stays_same Start b e = absurd (false≢true e)
stays_same Within b e = absurd (false≢true e)
stays_same Quoted b e = record { apart = refl; same = quoted_same (eqb b 0x22) Within Quoted e }
stays_same QuotedData b e = record { apart = refl; same = quoted_same (eqb b 0x22) Data QuotedData e }
stays_same Data b e = record { apart = refl; same = data_same (eqb b 0x22) (eqb b 0x3A) e }

front_all : (p : ℕ → Bool) (t : List ℕ) (k : ℕ) → k < front p t → p (get_or t k 0) ≡ true
unfolding front
front_all p [] k h = absurd (omega arith)
front_all p (b ∷ t) k h = go (p b) refl k h (front_all p t)
  where
    go : (r : Bool) → p b ≡ r → (k : ℕ) → k < elim r [ true ↦ suc (front p t) | false ↦ 0 ] → ((k : ℕ) → k < front p t → p (get_or t k 0) ≡ true) → p (get_or (b ∷ t) k 0) ≡ true
    go true e zero g f = e
    go true e (suc k) g f = f k (omega arith)
    go false e k g f = absurd (omega arith)

-- what goes on over each such byte goes on over all of them
stretch_by : (P : ℕ → Type 0) (place : Place) (line : List ℕ) (i : ℕ) → ((j : ℕ) → j < length line → Same place (get_or line j 0) → P j → P (j + 1)) → (n : ℕ)
    → n ≤ front (stays place) (drop i line) → P i → P (i + n)
stretch_by P place line i f zero h k = let e : i ≡ i + 0 = omega arith in subst P e k
stretch_by P place line i f (suc n) h k =
    let w : i + n < length line = omega (arith, length-drop i line, front_le (stays place) (drop i line)) in
    let s : stays place (get_or line (i + n) 0) ≡ true = ap (stays place) (sym (get_or-drop i line n 0)) ∙ front_all (stays place) (drop i line) n (omega arith) in
    let e : i + n + 1 ≡ i + suc n = omega arith in
    subst P e (f (i + n) w (stays_same place (get_or line (i + n) 0) s) (stretch_by P place line i f n (omega arith) k))

-- a step, and the bytes of a string or of DATA behind it
module _ (line : List ℕ) (next : Place) (i used : ℕ) {n : ℕ} (p : n ≡ front (stays next) (rest line (i + used))) (h : i + used ≤ length line) where
  pub stretch_within : i + used + n ≤ length line
  stretch_within = omega (arith, front_le (stays next) (rest line (i + used)), rest_long line (i + used))

  pub stretch_fits : Fits w64 (length line) → Fits w64 (i + used + n)
  stretch_fits f = record { fits = omega (arith, f.fits, stretch_within) }

  pub stretch_less : 0 < used → length line - (i + used + n) < length line - i
  stretch_less s = omega (arith, stretch_within)

  pub stretch : (P : ℕ → Type 0) → ((j : ℕ) → j < length line → Same next (get_or line j 0) → P j → P (j + 1)) → P (i + used) → P (i + used + n)
  stretch P f k = stretch_by P next line (i + used) f n (omega (arith, p ∙ ap (front (stays next)) (tail line (i + used)))) k

-- each place
module _ (place : Place) (t : List ℕ) where
  none_of : ((b : ℕ) → stays place b ≡ false) → 0 ≡ front (stays place) t
  unfolding front
  none_of f = go t
    where
      go : (u : List ℕ) → 0 ≡ front (stays place) u
      go [] = refl
      go (b ∷ u) = rw (front, f b)

  pub plain_none : (place ≡ Start) ⊎ (place ≡ Within) → 0 ≡ front (stays place) t
  unfolding stays
  plain_none (inl e) = none_of (λ b. ap (λ (p : Place). stays p b) e)
  plain_none (inr e) = none_of (λ b. ap (λ (p : Place). stays p b) e)

  module _ {n : ℕ} where
    pub string_stretch : n ≡ before (equals 0x22) t → (place ≡ Quoted) ⊎ (place ≡ QuotedData) → n ≡ front (stays place) t
    unfolding stays before
    string_stretch q (inl e) = q ∙ sym (ap (λ (p : Place). front (stays p) t) e)
    string_stretch q (inr e) = q ∙ sym (ap (λ (p : Place). front (stays p) t) e)

    pub data_stretch : n ≡ front (stays Data) t → place ≡ Data → n ≡ front (stays place) t
    data_stretch q e = q ∙ sym (ap (λ (p : Place). front (stays p) t) e)
