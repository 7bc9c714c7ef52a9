-- Reading a field: the bit at an offset, the loop over a field's bits, and what a field that was packed reads as.
-- Assumes nothing.
use Prim.Native.Nat.{ℕ, zero, suc, ◌+◌, ◌-◌, ◌*◌, ◌/◌, ◌%◌, ◌^◌, ◌≤◌, ◌<◌}
use mathlib.Core.Path.{◌≡◌, refl, sym, ap, ◌∙◌}
use mathlib.Core.Bool.{Bool, true, false}
use mathlib.Core.List.{List, [], ◌∷◌, ◌++◌}
use native.Mathlib.Omega.{arith}
use native.Mathlib.Nat.{pow-succ', mul_left_comm}
use native.Mathlib.Numerals.{add-one}
use lib.Dec.{ltb}
use lib.ListN.{length, get_or, take, drop, length-append, length-drop, get_or-append}
use lib.Pow.{pow_mono}
use lib.Seq.{take-suc, get_or-drop, get_or-append-add}
use borrow.Author.Tests.{ltb-true, ltb-false}
use Rattle.base_bits.specs.Bits.{bits_of, bytes_bits, number_from, field_at}
use Rattle.base_bits.proofs.Bytes.{length_bits, bits_snoc}

-- ---- a bit

bit_in : (w v i k : ℕ) → i + k + 1 ≡ w → get_or (bits_of w v) i 0 ≡ v / 2 ^ k % 2
unfolding bits_of
bit_in zero v i k e = absurd (omega arith)
bit_in (suc w) v zero k e = ap (λ (m : ℕ). v / 2 ^ m % 2) (omega arith)
bit_in (suc w) v (suc i) k e = bit_in w v i k (omega arith)

pub length_bytes : (bytes : List ℕ) → length (bytes_bits bytes) ≡ 8 * length bytes
unfolding bytes_bits
length_bytes [] = refl
length_bytes (b ∷ bs) = length-append (bits_of 8 b) (bytes_bits bs) ∙ omega (arith, length_bits 8 b, length_bytes bs)

pub bit_there : (bytes : List ℕ) (at : ℕ) → at < 8 * length bytes → get_or bytes (at / 8) 0 / 2 ^ (7 - at % 8) % 2 ≡ get_or (bytes_bits bytes) at 0
unfolding bytes_bits
bit_there [] at h = absurd (omega arith)
bit_there (b ∷ bs) at h = go (ltb at 8) refl (λ g. bit_there bs (at - 8) (omega arith))
  where
    go : (t : Bool) → ltb at 8 ≡ t → (8 ≤ at → get_or bs ((at - 8) / 8) 0 / 2 ^ (7 - (at - 8) % 8) % 2 ≡ get_or (bytes_bits bs) (at - 8) 0)
        → get_or (b ∷ bs) (at / 8) 0 / 2 ^ (7 - at % 8) % 2 ≡ get_or (bits_of 8 b ++ bytes_bits bs) at 0
    go true e f =
        let l : at < 8 = ltb-true at 8 e in
        let q : at / 8 ≡ 0 = omega arith in
        let r : at % 8 ≡ at = omega arith in
        let m : at < length (bits_of 8 b) = omega (arith, length_bits 8 b) in
        rw (q, r) (sym (bit_in 8 b at (7 - at) (omega arith)) ∙ sym (get_or-append (bits_of 8 b) (bytes_bits bs) 0 at m))
    go false e f =
        let l : 8 ≤ at = ltb-false at 8 e in
        let q : at / 8 ≡ suc ((at - 8) / 8) = omega arith in
        let r : at % 8 ≡ (at - 8) % 8 = omega arith in
        let m : at ≡ length (bits_of 8 b) + (at - 8) = omega (arith, length_bits 8 b) in
        rw (q, r) (f l ∙ sym (get_or-append-add (bits_of 8 b) (bytes_bits bs) (at - 8) 0) ∙ ap (λ (n : ℕ). get_or (bits_of 8 b ++ bytes_bits bs) n 0) (sym m))

-- ---- the loop over a field's bits

number_snoc : (bs : List ℕ) (v b : ℕ) → number_from v (bs ++ (b ∷ [])) ≡ 2 * number_from v bs + b
unfolding number_from
number_snoc [] v b = refl
number_snoc (c ∷ bs) v b = number_snoc bs (2 * v + c) b

-- the first k bits of a field were read
pub record ReadSoFar (bytes : List ℕ) (at width k value : ℕ) : Type 0 where
  pub up : k ≤ width
  pub is : value ≡ field_at bytes at k
  pub small : value < 2 ^ k
  pub low : value < 65536

pub read_start : (bytes : List ℕ) (at width : ℕ) → ReadSoFar bytes at width 0 0
unfolding field_at
read_start bytes at width = record { up = omega arith; is = refl; small = omega arith; low = omega arith }

pub read_turn : {bytes : List ℕ} {at width k value b : ℕ} → ReadSoFar bytes at width k value → k < width → b ≡ get_or (bytes_bits bytes) (at + k) 0 → b ≤ 1
    → at + width ≤ 8 * length bytes → width ≤ 16 → ReadSoFar bytes at width (k + 1) (2 * value + b)
unfolding field_at
read_turn {bytes} {at} {width} {k} {value} {b} r h e l room w =
    let s = drop at (bytes_bits bytes) in
    let long : k < length s = omega (arith, length-drop at (bytes_bits bytes), length_bytes bytes) in
    let more : take (k + 1) s ≡ take k s ++ (b ∷ []) =
    ap (λ (n : ℕ). take n s) (add-one k) ∙ take-suc s k 0 long ∙ ap (λ (x : ℕ). take k s ++ (x ∷ [])) (get_or-drop at (bytes_bits bytes) k 0 ∙ sym e) in
    let small : 2 * value + b < 2 ^ (k + 1) = omega (arith, ap (λ (m : ℕ). 2 ^ m) (add-one k), pow-succ' 2 k, r.small) in
    record {
      up = omega arith;
      is = ap (λ (x : ℕ). 2 * x + b) r.is ∙ sym (number_snoc (take k s) 0 b) ∙ ap (number_from 0) (sym more);
      small = small;
      low = omega (arith, pow_mono {i = k + 1} {j = 16} (omega arith));
    }

pub read_end : {bytes : List ℕ} {at width k value : ℕ} → ReadSoFar bytes at width k value → width ≤ k → value ≡ field_at bytes at width
read_end {bytes} {at} r h = r.is ∙ ap (field_at bytes at) (omega (arith, r.up))

-- ---- what was packed, read back

-- a number that fits so many bits, behind bits of the value x
pub number_bits : (w v x : ℕ) → v < 2 ^ w → number_from x (bits_of w v) ≡ x * 2 ^ w + v
unfolding number_from bits_of
number_bits zero v x h = omega arith
number_bits (suc w) v x h =
    let two : 2 ^ suc w ≡ 2 * 2 ^ w = pow-succ' 2 w in
    let halves : 2 * (v / 2) + v % 2 ≡ v = omega arith in
    let low : v / 2 < 2 ^ w = omega arith in
    ap (λ (n : ℕ). number_from x (bits_of (suc w) n)) (sym halves) ∙ ap (number_from x) (bits_snoc w (v / 2) (v % 2) (omega arith))
    ∙ number_snoc (bits_of w (v / 2)) x (v % 2) ∙ ap (λ (n : ℕ). 2 * n + v % 2) (number_bits w (v / 2) x low)
    ∙ omega (arith, ap (λ (n : ℕ). x * n) two ∙ mul_left_comm x 2 (2 ^ w))
