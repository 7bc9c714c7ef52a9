-- Bits of a byte: one that is 0 leaves room for its power, one that is 1 holds it; and a byte with a bit changed.
-- Assumes nothing.
use Prim.Native.Nat.{ℕ, zero, suc, ◌+◌, ◌-◌, ◌*◌, ◌/◌, ◌%◌, ◌^◌, ◌≤◌, ◌<◌}
use mathlib.Core.Path.{◌≡◌, refl}
use mathlib.Core.Bool.{Bool, true, false, cond}
use mathlib.Core.List.{List}
use lib.Dec.{eqb}
use lib.ListN.{get_or, set}
use lib.Bits.{bit_and, bit_or, or_add_and}
use lib.Count.{ones_step}
use lib.Count.{ones as digits}
use Rattle.std.proofs.lemmas.Nat.Bits.{and_pow}
use Rattle.std.proofs.lemmas.Nat.{and-not, and_comm}
use borrow.Author.Tests.{le-ltb, lt-ltb}
use native.Mathlib.Omega.{arith}
use Rattle.disk_rules.specs.Places.{track_of, sector_of}
use Rattle.disk_rules.specs.Map.{bit_of, ones, with_bit, map_at, bit_at, is_free, marked}

pub power_below : (k : ℕ) → k < 8 → 2 ^ k < 256
power_below zero h = omega arith
power_below (suc zero) h = omega arith
power_below (suc (suc zero)) h = omega arith
power_below (suc (suc (suc zero))) h = omega arith
power_below (suc (suc (suc (suc zero)))) h = omega arith
power_below (suc (suc (suc (suc (suc zero))))) h = omega arith
power_below (suc (suc (suc (suc (suc (suc zero)))))) h = omega arith
power_below (suc (suc (suc (suc (suc (suc (suc zero))))))) h = omega arith
power_below (suc (suc (suc (suc (suc (suc (suc (suc k)))))))) h = absurd (omega arith)

-- the power that the code shifts to
shifted : (k : ℕ) → k < 8 → 1 * 2 ^ k % 256 ≡ 2 ^ k
shifted k h = let p : 2 ^ k < 256 = power_below k h in omega arith

-- a number that has the bit d of weight p, and with it made 1 or 0
one_of : (d b p x : ℕ) → d < 2 → x + d * p ≡ b + p → x ≡ cond (eqb d 1) b (b + p)
one_of zero b p x h e = omega arith
one_of (suc zero) b p x h e = omega arith
one_of (suc (suc d)) b p x h e = absurd (omega arith)

zero_of : (d b p x : ℕ) → d < 2 → x + d * p ≡ b → x ≡ cond (eqb d 1) (b - p) b
zero_of zero b p x h e = omega arith
zero_of (suc zero) b p x h e = omega arith
zero_of (suc (suc d)) b p x h e = absurd (omega arith)

module _ (b k : ℕ) (below : k < 8) where
  pub made_one : bit_or b (1 * 2 ^ k % 256) ≡ with_bit b k true
  unfolding with_bit bit_of
  made_one =
      let d : bit_of b k < 2 = omega arith in
      let s : bit_or b (2 ^ k) + bit_of b k * 2 ^ k ≡ b + 2 ^ k = rw and_pow at (or_add_and b (2 ^ k)) in
      rw (shifted k below) (one_of (bit_of b k) _ _ _ d s)

  pub made_zero : b < 256 → bit_and b (255 - 1 * 2 ^ k % 256) ≡ with_bit b k false
  unfolding with_bit bit_of
  made_zero h =
      let p : 2 ^ k < 256 = power_below k below in
      let d : bit_of b k < 2 = omega arith in
      let n : bit_and (255 - 2 ^ k) b + bit_and (2 ^ k) b ≡ b = and-not 8 (2 ^ k) b p h in
      let m : bit_and b (255 - 2 ^ k) + bit_of b k * 2 ^ k ≡ b =
      rw (← and_pow b k, and_comm b (255 - 2 ^ k), and_comm b (2 ^ k)) n in
      rw (shifted k below) (zero_of (bit_of b k) _ _ _ d m)

module _ (d : List ℕ) (n : ℕ) where
  pub free_on : {b t s : ℕ} → b ≡ bit_at d t s → t ≡ track_of n → s ≡ sector_of n → n < 357 → eqb b 1 ≡ is_free d n
  unfolding is_free
  free_on e f g h = rw (e, f, g) (simp (lt-ltb n 357 h))

  pub free_behind : {b t s : ℕ} → b ≡ bit_at d t s → t ≡ track_of n → s ≡ sector_of n → 357 ≤ n → 375 < n → eqb b 1 ≡ is_free d n
  unfolding is_free
  free_behind e f g h i = rw (e, f, g) (simp (le-ltb n 357 h, lt-ltb 375 n i))

  pub free_18 : 357 ≤ n → n ≤ 375 → false ≡ is_free d n
  unfolding is_free
  free_18 h i = simp (le-ltb n 357 h, le-ltb 375 n i)

  -- the byte of the sector s of track t
  abbrev byte_at : ℕ → ℕ → ℕ
  byte_at t s = map_at t + 1 + s / 8

  pub mark_made : (free : Bool) {t s v a b c : ℕ} → s ≡ sector_of n → t ≡ track_of n → v ≡ with_bit (get_or d (byte_at t s) 0) (s % 8) free
      → a ≡ ones (get_or (set d (byte_at t s) v) (map_at t + 1) 0) → b ≡ ones (get_or (set d (byte_at t s) v) (map_at t + 2) 0)
      → c ≡ ones (get_or (set d (byte_at t s) v) (map_at t + 3) 0) → set (set d (byte_at t s) v) (map_at t) (a + b + c) ≡ marked d n free
  unfolding marked
  mark_made free e f g i j k = rw (i, j, k, g, e, f)

-- std's count of a byte's ones is that of its eight bits
pub ones_counted : (b : ℕ) → b < 256 → (digits b ≡ ones b) × (digits b ≤ 8)
unfolding ones digits
ones_counted b h =
    let z : b / 2 / 2 / 2 / 2 / 2 / 2 / 2 / 2 ≡ 0 = omega arith in
    let e : digits (b / 2 / 2 / 2 / 2 / 2 / 2 / 2 / 2) ≡ 0 = rw z refl in
    let s : (n : ℕ) → digits n ≡ n % 2 + digits (n / 2) = ones_step in
    let d : digits b ≡ ones b =
    omega (
      arith,
      s b,
      s (b / 2),
      s (b / 2 / 2),
      s (b / 2 / 2 / 2),
      s (b / 2 / 2 / 2 / 2),
      s (b / 2 / 2 / 2 / 2 / 2),
      s (b / 2 / 2 / 2 / 2 / 2 / 2),
      s (b / 2 / 2 / 2 / 2 / 2 / 2 / 2),
    )
    in
    (d, omega arith)
