-- The packing law: bits, packed into bytes and taken out again, are the same bits and fewer than eight zeros behind them. And the
-- equations of `pack_from`, a law for each case.
-- Assumes nothing.
use Prim.Native.Nat.{ℕ, zero, suc, ◌+◌, ◌-◌, ◌*◌, ◌/◌, ◌%◌, ◌^◌, ◌≤◌, ◌<◌}
use mathlib.Core.Path.{◌≡◌, refl, sym, ap, ◌∙◌}
use mathlib.Core.Bool.{Bool, true, false}
use mathlib.Core.List.{List, [], ◌∷◌, ◌++◌, append_assoc, append-nil}
use native.Mathlib.Omega.{arith}
use native.Mathlib.Nat.{div-div-eq-div-mul, mul_left_comm, pow-succ'}
use native.Mathlib.Numerals.{add-one}
use lib.Dec.{eqb}
use lib.ListN.{length, replicate, replicate-append-replicate}
use borrow.Author.Tests.{eq-eqb, ne_eqb, eqb-true, eqb-false}
use Rattle.base_bits.specs.Bits.{Field, bits_of, field_bits, pack_from, packed, bytes_bits}

-- ---- the cases of `pack_from`

module _ (v n : ℕ) where
  pub pack_none : n ≡ 0 → pack_from v n [] ≡ []
  unfolding pack_from
  pack_none e = rw (eq-eqb n 0 e, pack_from)

  pub pack_last : (n ≡ 0 → ⊥) → pack_from v n [] ≡ v * 2 ^ (8 - n) ∷ []
  unfolding pack_from
  pack_last e = rw (ne_eqb n 0 e, pack_from)

  module _ (b : ℕ) (bs : List ℕ) where
    pub pack_full : n ≡ 7 → pack_from v n (b ∷ bs) ≡ (2 * v + b) ∷ pack_from 0 0 bs
    unfolding pack_from
    pack_full e = rw (eq-eqb n 7 e, pack_from)

    pub pack_more : (n ≡ 7 → ⊥) → pack_from v n (b ∷ bs) ≡ pack_from (2 * v + b) (n + 1) bs
    unfolding pack_from
    pack_more e = rw (ne_eqb n 7 e, pack_from)

-- with bits behind them, n bits that begin a byte make at least one
pub pack_some : (bs : List ℕ) (v n : ℕ) → 1 ≤ n → 1 ≤ length (pack_from v n bs)
pack_some [] v n h = rw (pack_last v n (λ e. omega arith)) (omega arith)
pack_some (b ∷ bs) v n h = go (eqb n 7) refl (pack_some bs (2 * v + b) (n + 1) (omega arith))
  where
    go : (t : Bool) → eqb n 7 ≡ t → 1 ≤ length (pack_from (2 * v + b) (n + 1) bs) → 1 ≤ length (pack_from v n (b ∷ bs))
    go true e f = rw (pack_full v n b bs (eqb-true n 7 e)) (omega arith)
    go false e f = rw (pack_more v n b bs (eqb-false n 7 e)) f

-- ---- bits of a number

pub length_bits : (w v : ℕ) → length (bits_of w v) ≡ w
unfolding bits_of
length_bits zero v = refl
length_bits (suc w) v = ap suc (length_bits w _)

-- one bit more at the end
pub bits_snoc : (w v b : ℕ) → b ≤ 1 → bits_of (suc w) (2 * v + b) ≡ bits_of w v ++ (b ∷ [])
unfolding bits_of
bits_snoc zero v b h = ap (λ (x : ℕ). x ∷ []) (omega arith)
bits_snoc (suc w) v b h =
    let half : (2 * v + b) / 2 ≡ v = omega arith in
    let top : (2 * v + b) / 2 ^ suc w ≡ v / 2 ^ w =
    ap (λ (x : ℕ). (2 * v + b) / x) (pow-succ' 2 w) ∙ sym (div-div-eq-div-mul (2 * v + b) 2 (2 ^ w)) ∙ ap (λ (x : ℕ). x / 2 ^ w) half in
    rw top (ap (λ (bs : List ℕ). v / 2 ^ w % 2 ∷ bs) (bits_snoc w v b h))

-- zeros at the end
bits_zeros : (w v k : ℕ) → bits_of (w + k) (v * 2 ^ k) ≡ bits_of w v ++ replicate k 0
bits_zeros w v zero = ap (λ (n : ℕ). bits_of n (v * 2 ^ 0)) (omega arith) ∙ ap (bits_of w) (omega arith) ∙ sym (append-nil (bits_of w v))
bits_zeros w v (suc k) =
    let p : v * 2 ^ suc k ≡ 2 * (v * 2 ^ k) + 0 = ap (λ (x : ℕ). v * x) (pow-succ' 2 k) ∙ mul_left_comm v 2 (2 ^ k) ∙ omega arith in
    let n : w + suc k ≡ suc (w + k) = omega arith in
    rw (p, n) (bits_snoc (w + k) (v * 2 ^ k) 0 (omega arith) ∙ ap (λ (bs : List ℕ). bs ++ (0 ∷ [])) (bits_zeros w v k)
    ∙ append_assoc (bits_of w v) (replicate k 0) (0 ∷ [])
    ∙ ap (λ (bs : List ℕ). bits_of w v ++ bs) (replicate-append-replicate k 1 0 ∙ ap (λ (m : ℕ). replicate m 0) (add-one k)))

-- ---- packed, and taken out again

-- each is a bit
abbrev pub AreBits : List ℕ → Type 0
AreBits [] = Unit {0}
AreBits (b ∷ bs) = (b ≤ 1) × AreBits bs

pub bits_are : (w v : ℕ) → AreBits (bits_of w v)
unfolding bits_of
bits_are zero v = tt
bits_are (suc w) v = (omega arith, bits_are w v)

pub are_both : (s t : List ℕ) → AreBits s → AreBits t → AreBits (s ++ t)
are_both [] t h k = k
are_both (b ∷ s) t h k = (h.0, are_both s t h.1 k)

pub fields_are : (fs : List Field) → AreBits (field_bits fs)
unfolding field_bits
fields_are [] = tt
fields_are (f ∷ fs) = are_both (bits_of f.width f.value) (field_bits fs) (bits_are f.width f.value) (fields_are fs)

-- the bits of bytes are these bits, and fewer than eight zeros
pub record Padded (bits bytes : List ℕ) : Type 0 where
  pub zeros : ℕ
  pub fewer : zeros < 8
  pub are : bytes_bits bytes ≡ bits ++ replicate zeros 0

pack_back : (bs : List ℕ) (v n : ℕ) → AreBits bs → n ≤ 7 → v < 2 ^ n → Padded (bits_of n v ++ bs) (pack_from v n bs)
unfolding bytes_bits
pack_back [] v n a h g = go (eqb n 0) refl
  where
    go : (t : Bool) → eqb n 0 ≡ t → Padded (bits_of n v ++ []) (pack_from v n [])
    go true e = let z : n ≡ 0 = eqb-true n 0 e in rw (pack_none v n z, z) (record { zeros = 0; fewer = omega arith; are = unfold bits_of in refl })
    go false e =
        let z = eqb-false n 0 e in
        let w : 8 ≡ n + (8 - n) = omega arith in
        let pos : 1 ≤ n = omega arith in
        rw (pack_last v n z) (record {
          zeros = 8 - n;
          fewer = omega arith;
          are = append-nil _ ∙ ap (λ (m : ℕ). bits_of m (v * 2 ^ (8 - n))) w ∙ bits_zeros n v (8 - n) ∙ ap (λ (x : List ℕ). x ++ replicate (8 - n) 0) (sym (append-nil (bits_of n v)));
        })
pack_back (b ∷ bs) v n a h g =
    go (eqb n 7) refl (pack_back bs 0 0 a.1 (omega arith) (omega arith))
    (λ e. pack_back bs (2 * v + b) (n + 1) a.1 (omega arith) (omega (arith, ap (λ (m : ℕ). 2 ^ m) (add-one n), pow-succ' 2 n, a.0)))
  where
    regroup : (m : ℕ) → n ≡ m → (rest : List ℕ) → bits_of (suc m) (2 * v + b) ++ rest ≡ bits_of n v ++ b ∷ rest
    regroup m e rest = ap (λ (x : List ℕ). x ++ rest) (bits_snoc m v b a.0) ∙ append_assoc (bits_of m v) (b ∷ []) rest ∙ ap (λ (x : ℕ). bits_of x v ++ b ∷ rest) (sym e)

    go : (t : Bool) → eqb n 7 ≡ t → Padded (bits_of 0 0 ++ bs) (pack_from 0 0 bs) → ((n ≡ 7 → ⊥) → Padded (bits_of (n + 1) (2 * v + b) ++ bs) (pack_from (2 * v + b) (n + 1) bs))
        → Padded (bits_of n v ++ b ∷ bs) (pack_from v n (b ∷ bs))
    go true e f k =
        let z : n ≡ 7 = eqb-true n 7 e in
        rw (pack_full v n b bs z) (record {
          zeros = f.zeros;
          fewer = f.fewer;
          are = ap (λ (x : List ℕ). bits_of 8 (2 * v + b) ++ x) f.are ∙ regroup 7 z (bs ++ replicate f.zeros 0) ∙ sym (append_assoc (bits_of n v) (b ∷ bs) (replicate f.zeros 0));
        })
    go false e f k =
        let z = eqb-false n 7 e in
        let p = k z in
        rw (pack_more v n b bs z) (record {
          zeros = p.zeros;
          fewer = p.fewer;
          are =
              p.are ∙ ap (λ (m : ℕ). (bits_of m (2 * v + b) ++ bs) ++ replicate p.zeros 0) (add-one n)
              ∙ ap (λ (x : List ℕ). x ++ replicate p.zeros 0) (regroup n refl bs);
        })

-- the packing law, for any fields
pub packed_back : (fs : List Field) → Padded (field_bits fs) (packed fs)
unfolding packed
packed_back fs = pack_back (field_bits fs) 0 0 (fields_are fs) (omega arith) (omega arith)

-- how many bytes bits take
pub pack_length : (bs : List ℕ) (v n : ℕ) → n ≤ 7 → length (pack_from v n bs) ≡ (n + length bs + 7) / 8
pack_length [] v n h = go (eqb n 0) refl
  where
    go : (t : Bool) → eqb n 0 ≡ t → length (pack_from v n []) ≡ (n + 0 + 7) / 8
    go true e = let z : n ≡ 0 = eqb-true n 0 e in rw (pack_none v n z) (omega arith)
    go false e = let z : n ≡ 0 → ⊥ = eqb-false n 0 e in rw (pack_last v n z) (omega arith)
pack_length (b ∷ bs) v n h = go (eqb n 7) refl (pack_length bs)
  where
    go : (t : Bool) → eqb n 7 ≡ t → ((w m : ℕ) → m ≤ 7 → length (pack_from w m bs) ≡ (m + length bs + 7) / 8)
        → length (pack_from v n (b ∷ bs)) ≡ (n + suc (length bs) + 7) / 8
    go true e f = let z : n ≡ 7 = eqb-true n 7 e in rw (pack_full v n b bs z) (omega (arith, f 0 0 (omega arith)))
    go false e f = let z : n ≡ 7 → ⊥ = eqb-false n 7 e in rw (pack_more v n b bs z) (omega (arith, f (2 * v + b) (n + 1) (omega arith)))
