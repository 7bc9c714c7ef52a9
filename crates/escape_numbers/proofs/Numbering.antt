-- Numbers: what a digit counts, the loop over digits, and the texts in front of which a `$` or a `+` stands.
-- Assumes nothing.
use Prim.Native.Nat.{ℕ, ◌+◌, ◌-◌, ◌*◌, ◌/◌, ◌^◌, ◌≤◌, ◌<◌}
use mathlib.Core.Path.{◌≡◌, refl, sym, ap, ◌∙◌}
use mathlib.Core.Bool.{Bool, true, false}
use mathlib.Core.List.{List, [], ◌∷◌}
use native.Mathlib.Nat.{le-mul_of_pos_right, le-div_iff_mul-le, div-lt_iff_lt-mul}
use native.Mathlib.Numerals.{add-one}
use native.Mathlib.Omega.{arith}
use lib.ListN.{length, get_or, take, drop, drop_of_length-le}
use lib.Seq.{drop-cons}
use lib.Dec.{leb, ltb, eqb}
use borrow.Author.Tests.{lt-ltb, le-ltb, le-leb, lt-leb, leb-true, eq-eqb, ne_eqb}
use mir.Syntax.{w8}
use mir.Val.{Fits}
use Rattle.base_ascii.specs.Bytes.{is_digit, is_letter, upper}
use Rattle.base_ascii.proofs.Searching.{tail}
use Rattle.escape_numbers.specs.Numbers.{digit_of, number_after, number_of, hex_of, unsigned, count_of}
use Rattle.std.specs.Prelude.{Option, Some, None}

-- ---- a digit

module _ (b : ℕ) {d : Bool} where
  pub digit_decimal : d ≡ true → d ≡ is_digit b → b - 48 ≡ digit_of b
  unfolding digit_of
  digit_decimal e p = simp (sym p ∙ e)

  module _ {l : Bool} where
    pub digit_letter : {u : ℕ} → u ≡ upper b → l ≡ true → l ≡ is_letter b → d ≡ false → d ≡ is_digit b → u - 55 ≡ digit_of b
    unfolding digit_of
    digit_letter v f q e p = simp (sym p ∙ e, sym q ∙ f, v)

    pub digit_none : l ≡ false → l ≡ is_letter b → d ≡ false → d ≡ is_digit b → 36 ≡ digit_of b
    unfolding digit_of
    digit_none f q e p = simp (sym p ∙ e, sym q ∙ f)

-- ---- digits one after the other

-- a number past the limit stays past it
over : (base limit : ℕ) → 0 < base → (s : List ℕ) (n : ℕ) → limit < n → number_after base limit n s ≡ None
unfolding number_after
over base limit p [] n h = rw (number_after, lt-leb _ _ h)
over base limit p (b ∷ s) n h =
    go (ltb (digit_of b) base) (over base limit p s (n * base + digit_of b) (omega (arith, le-mul_of_pos_right n p)))
  where
    go : (r : Bool) → number_after base limit (n * base + digit_of b) s ≡ None
        → ◌≡◌ {A = Option ℕ} (elim r [ true ↦ number_after base limit (n * base + digit_of b) s | false ↦ None ]) None
    go true e = e
    go false e = refl

-- the i digits passed made n, and the rest gives the answer w
pub record Made (base limit : ℕ) (s : List ℕ) (w : Option ℕ) (n i : ℕ) : Type 0 where
  pub within : i ≤ length s
  pub low : n ≤ limit
  pub gives : number_after base limit n (drop i s) ≡ w

pub made_start : (base limit : ℕ) (s : List ℕ) → (length s ≡ 0 → ⊥) → Made base limit s (number_of base limit s) 0 0
unfolding number_of
made_start base limit [] h = absurd (h refl)
made_start base limit (b ∷ s) h = record { within = omega arith; low = omega arith; gives = refl }

pub number_empty : (base limit : ℕ) (s : List ℕ) → length s ≡ 0 → None ≡ number_of base limit s
unfolding number_of
number_empty base limit [] h = refl
number_empty base limit (b ∷ s) h = absurd (omega arith)

pub made_fits : {base limit n d : ℕ} → n ≤ (limit - d) / base → d < base → (0 < base) × (base ≤ limit) → n * base + d ≤ limit
made_fits {base} {limit} {n} {d} o l p = let f : n * base ≤ limit - d = (le-div_iff_mul-le p.0).0 o in omega (arith, p.1)

module _ {base limit : ℕ} {s : List ℕ} {w : (Option ℕ)} {n i : ℕ} where
  pub made_end : length s ≤ i → Made base limit s w n i → Some n ≡ w
  unfolding number_after
  made_end h k =
      let e : number_after base limit n (drop i s) ≡ Some n = rw (drop_of_length-le s h, number_after, le-leb _ _ k.low) in
      sym e ∙ k.gives

  module _ {d : ℕ} where
    pub made_other : base ≤ d → d ≡ digit_of (get_or s i 0) → i < length s → Made base limit s w n i → None ≡ w
    unfolding number_after
    made_other l q h k =
        let f : base ≤ digit_of (get_or s i 0) = rw q at l in
        let e : number_after base limit n (drop i s) ≡ None = rw (drop-cons s i 0 h, number_after, le-ltb _ _ f) in
        sym e ∙ k.gives

    next : d < base → d ≡ digit_of (get_or s i 0) → i < length s → Made base limit s w n i → number_after base limit (n * base + d) (drop (i + 1) s) ≡ w
    unfolding number_after
    next l q h k =
        let f : digit_of (get_or s i 0) < base = rw q at l in
        let e : number_after base limit n (drop i s) ≡ number_after base limit (n * base + d) (drop (i + 1) s) =
        rw (add-one, drop-cons s i 0 h, number_after, lt-ltb _ _ f, q) in
        sym e ∙ k.gives

    pub made_over : (limit - d) / base < n → d < base → d ≡ digit_of (get_or s i 0) → i < length s → Made base limit s w n i → (0 < base) × (base ≤ limit) → None ≡ w
    made_over o l q h k p =
        let f : limit - d < n * base = (div-lt_iff_lt-mul p.0).0 o in
        sym (over base limit p.0 (drop (i + 1) s) (n * base + d) (omega (arith, p.1))) ∙ next l q h k

    pub made_turn : n ≤ (limit - d) / base → d < base → d ≡ digit_of (get_or s i 0) → i < length s → Made base limit s w n i → (0 < base) × (base ≤ limit)
        → Made base limit s w (n * base + d) (i + 1)
    made_turn o l q h k p = record { within = omega arith; low = made_fits o l p; gives = next l q h k }

-- a number that was found is within the limit
within_after : (base limit : ℕ) (s : List ℕ) (n v : ℕ) → number_after base limit n s ≡ Some v → v ≤ limit
unfolding number_after
within_after base limit [] n v e = go (leb n limit) refl e
  where
    go : (r : Bool) → leb n limit ≡ r → elim r [ true ↦ Some n | false ↦ None ] ≡ Some v → v ≤ limit
    go true f g = let z : n ≡ v = cc in omega (arith, leb-true n limit f)
    go false f g = let z : ◌≡◌ {A = ℕ} 0 1 = cc in absurd (omega arith)
within_after base limit (b ∷ s) n v e = go (ltb (digit_of b) base) e (within_after base limit s (n * base + digit_of b) v)
  where
    go : (r : Bool) → elim r [ true ↦ number_after base limit (n * base + digit_of b) s | false ↦ None ] ≡ Some v
        → (number_after base limit (n * base + digit_of b) s ≡ Some v → v ≤ limit) → v ≤ limit
    go true g f = f g
    go false g f = let z : ◌≡◌ {A = ℕ} 0 1 = cc in absurd (omega arith)

number_within : (base limit : ℕ) (s : List ℕ) {v : ℕ} → Some v ≡ number_of base limit s → v ≤ limit
unfolding number_of
number_within base limit [] e = let z : ◌≡◌ {A = ℕ} 0 1 = cc in absurd (omega arith)
number_within base limit (b ∷ s) {v} e = within_after base limit (b ∷ s) 0 v (sym e)

-- so the byte that a name of digits gives is one
pub decimal_byte : (s : List ℕ) {v : ℕ} {r : (Option ℕ)} → r ≡ Some v → r ≡ number_of 10 255 s → Fits w8 v
decimal_byte s f e = record { fits = omega (arith, number_within 10 255 s (sym f ∙ e)) }

-- ---- a $ in front

pub hex_empty : (s : List ℕ) → length s < 1 → None ≡ hex_of s
unfolding hex_of
hex_empty [] h = refl
hex_empty (b ∷ s) h = absurd (omega arith)

pub hex_other : (s : List ℕ) → (get_or s 0 0 ≡ 36 → ⊥) → None ≡ hex_of s
unfolding hex_of
hex_other [] h = refl
hex_other (b ∷ s) h = rw (hex_of, ne_eqb b 36 h)

pub hex_digits_lem : (s : List ℕ) {r : (Option ℕ)} → r ≡ number_of 16 255 (take (length s - 1) (drop 1 s)) → get_or s 0 0 ≡ 36 → 1 ≤ length s → r ≡ hex_of s
unfolding hex_of
hex_digits_lem [] e h l = absurd (omega arith)
hex_digits_lem (b ∷ s) e h l = rw (hex_of, eq-eqb b 36 h) (e ∙ ap (number_of 16 255) (tail (b ∷ s) 1))

hex_within : (s : List ℕ) {v : ℕ} → Some v ≡ hex_of s → v ≤ 255
unfolding hex_of
hex_within [] e = let z : ◌≡◌ {A = ℕ} 0 1 = cc in absurd (omega arith)
hex_within (b ∷ s) {v} e = go (eqb b 36) e
  where
    go : (r : Bool) → Some v ≡ elim r [ true ↦ number_of 16 255 s | false ↦ None ] → v ≤ 255
    go true f = number_within 16 255 s f
    go false f = let z : ◌≡◌ {A = ℕ} 0 1 = cc in absurd (omega arith)

pub hex_byte_lem : (s : List ℕ) {v : ℕ} {r : (Option ℕ)} → r ≡ Some v → r ≡ hex_of s → Fits w8 v
hex_byte_lem s f e = record { fits = omega (arith, hex_within s (sym f ∙ e)) }

-- ---- a + in front

pub plus_empty : (s : List ℕ) → length s < 1 → s ≡ unsigned s
unfolding unsigned
plus_empty [] h = refl
plus_empty (b ∷ s) h = absurd (omega arith)

pub plus_other : (s : List ℕ) → (get_or s 0 0 ≡ 43 → ⊥) → s ≡ unsigned s
unfolding unsigned
plus_other [] h = refl
plus_other (b ∷ s) h = rw (unsigned, ne_eqb b 43 h)

pub plus_left_out : (s : List ℕ) → get_or s 0 0 ≡ 43 → 1 ≤ length s → take (length s - 1) (drop 1 s) ≡ unsigned s
unfolding unsigned
plus_left_out [] h l = absurd (omega arith)
plus_left_out (b ∷ s) h l = rw (unsigned, eq-eqb b 43 h) (tail (b ∷ s) 1)

-- ---- a count

pub count_is : (s : List ℕ) {t : List ℕ} {r : (Option ℕ)} → r ≡ number_of 10 (2 ^ 64 - 1) t → t ≡ unsigned s → r ≡ count_of s
unfolding count_of
count_is s e u = e ∙ ap (number_of 10 (2 ^ 64 - 1)) u
