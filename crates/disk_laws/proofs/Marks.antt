-- A mark changes the bit of its sector, and no other bit.
-- Assumes nothing.
use Prim.Native.Nat.{ℕ, zero, suc, ◌+◌, ◌-◌, ◌/◌, ◌%◌, ◌^◌, ◌≤◌, ◌<◌}
use mathlib.Core.Path.{◌≡◌, refl, sym, ap, ◌∙◌}
use mathlib.Core.Bool.{Bool, true, false, cond, ◌&&◌}
use mathlib.Core.List.{List}
use lib.Dec.{eqb}
use lib.ListN.{length, get_or, set}
use lib.Seq.{get_or-set_same, get_or-set_other}
use native.Mathlib.Nat.{div-one, div-div-eq-div-mul, pow-succ', div-eq_of_lt}
use native.Mathlib.Decide.{dec_lt}
use native.Mathlib.Omega.{arith}
use borrow.Author.Tests.{eqb-true, eqb-false, eq-eqb, ne_eqb}
use Rattle.disk_rules.specs.Places.{track_of, sector_of}
use Rattle.disk_rules.specs.Map.{bit_of, with_bit, map_at, bit_at, marked}
use Rattle.disk_rules.proofs.Counting.{one, and_left, and_right}
use Rattle.disk_laws.proofs.Geometry.{Placed, place}

-- ---- bits, from the lowest on

bit_zero : (b : ℕ) → bit_of b 0 ≡ b % 2
unfolding bit_of
bit_zero b = ap (λ (x : ℕ). x % 2) (div-one b)

bit_suc : (b k : ℕ) → bit_of b (suc k) ≡ bit_of (b / 2) k
unfolding bit_of
bit_suc b k = ap (λ (x : ℕ). x % 2) (ap (λ (x : ℕ). b / x) (pow-succ' 2 k) ∙ sym (div-div-eq-div-mul b 2 (2 ^ k)))

bit_held : (b k : ℕ) → bit_of b k ≡ 1 → 2 ^ k ≤ b
unfolding bit_of
bit_held b k e = go (dec_lt b (2 ^ k)) where
  go : Dec (b < 2 ^ k) → 2 ^ k ≤ b
  go (yes h) = absurd (let z : b / 2 ^ k ≡ 0 = div-eq_of_lt h in let y : b / 2 ^ k % 2 ≡ 1 = e in omega arith)
  go (no h) = omega arith

-- a byte with a bit changed, halved, and its lowest bit
with_low : (b : ℕ) (free : Bool) → (with_bit b 0 free / 2 ≡ b / 2) × (with_bit b 0 free % 2 ≡ one free)
unfolding with_bit
with_low b true = go (eqb (bit_of b 0) 1) refl where
  go : (q : Bool) → eqb (bit_of b 0) 1 ≡ q → (cond q b (b + 2 ^ 0) / 2 ≡ b / 2) × (cond q b (b + 2 ^ 0) % 2 ≡ 1)
  go true e = let x : bit_of b 0 ≡ 1 = eqb-true (bit_of b 0) 1 e in (refl, omega (arith, bit_zero b))
  go false e = let x : bit_of b 0 ≡ 1 → ⊥ = eqb-false (bit_of b 0) 1 e in (omega (arith, bit_zero b), omega (arith, bit_zero b))
with_low b false = go (eqb (bit_of b 0) 1) refl where
  go : (q : Bool) → eqb (bit_of b 0) 1 ≡ q → (cond q (b - 2 ^ 0) b / 2 ≡ b / 2) × (cond q (b - 2 ^ 0) b % 2 ≡ 0)
  go true e = let x : bit_of b 0 ≡ 1 = eqb-true (bit_of b 0) 1 e in (omega (arith, bit_zero b), omega (arith, bit_zero b))
  go false e = let x : bit_of b 0 ≡ 1 → ⊥ = eqb-false (bit_of b 0) 1 e in (refl, omega (arith, bit_zero b))

with_high : (b k : ℕ) (free : Bool) → (with_bit b (suc k) free / 2 ≡ with_bit (b / 2) k free) × (with_bit b (suc k) free % 2 ≡ b % 2)
unfolding with_bit
with_high b k true = go (eqb (bit_of b (suc k)) 1) (eqb (bit_of (b / 2) k) 1) (ap (λ (x : ℕ). eqb x 1) (bit_suc b k)) where
  go : (p q : Bool) → p ≡ q → (cond p b (b + 2 ^ suc k) / 2 ≡ cond q (b / 2) (b / 2 + 2 ^ k)) × (cond p b (b + 2 ^ suc k) % 2 ≡ b % 2)
  go true true e = (refl, refl)
  go false false e = (omega arith, omega arith)
  go true false e = absurd (let z : ◌≡◌ {A = ℕ} 0 1 = cc in omega arith)
  go false true e = absurd (let z : ◌≡◌ {A = ℕ} 0 1 = cc in omega arith)
with_high b k false = go (eqb (bit_of b (suc k)) 1) (eqb (bit_of (b / 2) k) 1) refl (ap (λ (x : ℕ). eqb x 1) (bit_suc b k)) where
  go : (p q : Bool) → eqb (bit_of b (suc k)) 1 ≡ p → p ≡ q → (cond p (b - 2 ^ suc k) b / 2 ≡ cond q (b / 2 - 2 ^ k) (b / 2)) × (cond p (b - 2 ^ suc k) b % 2 ≡ b % 2)
  go true true f e = let x : 2 ^ suc k ≤ b = bit_held b (suc k) (eqb-true (bit_of b (suc k)) 1 f) in (omega arith, omega arith)
  go false false f e = (refl, refl)
  go true false f e = absurd (let z : ◌≡◌ {A = ℕ} 0 1 = cc in omega arith)
  go false true f e = absurd (let z : ◌≡◌ {A = ℕ} 0 1 = cc in omega arith)

pub bit_with : (b k j : ℕ) (free : Bool) → bit_of (with_bit b k free) j ≡ cond (eqb j k) (one free) (bit_of b j)
bit_with b zero zero free = bit_zero (with_bit b 0 free) ∙ (with_low b free).1
bit_with b zero (suc j) free =
    bit_suc (with_bit b 0 free) j ∙ ap (λ (x : ℕ). bit_of x j) (with_low b free).0 ∙ sym (bit_suc b j)
    ∙ ap (λ (q : Bool). cond q (one free) (bit_of b (suc j))) (sym (ne_eqb (suc j) 0 (λ e. omega arith)))
bit_with b (suc k) zero free =
    bit_zero (with_bit b (suc k) free) ∙ (with_high b k free).1 ∙ sym (bit_zero b)
    ∙ ap (λ (q : Bool). cond q (one free) (bit_of b 0)) (sym (ne_eqb 0 (suc k) (λ e. omega arith)))
bit_with b (suc k) (suc j) free =
    bit_suc (with_bit b (suc k) free) j ∙ ap (λ (x : ℕ). bit_of x j) (with_high b k free).0 ∙ bit_with (b / 2) k j free
    ∙ ap (λ (x : ℕ). cond (eqb j k) (one free) x) (sym (bit_suc b j))
    ∙ ap (λ (q : Bool). cond q (one free) (bit_of b (suc j))) (same (eqb j k) refl) where
      same : (q : Bool) → eqb j k ≡ q → q ≡ eqb (suc j) (suc k)
      same true e = let z : j ≡ k = eqb-true j k e in sym (eq-eqb (suc j) (suc k) (ap suc z))
      same false e = let z : j ≡ k → ⊥ = eqb-false j k e in sym (ne_eqb (suc j) (suc k) (λ f. z (omega arith)))

-- ---- the bits of the map

-- two tests that hold together
pub same_test : (p q : Bool) → (p ≡ true → q ≡ true) → (q ≡ true → p ≡ true) → p ≡ q
same_test true q f g = sym (f refl)
same_test false true f g = g refl
same_test false false f g = refl

module _ (d : List ℕ) (n : ℕ) (free : Bool) (t s : ℕ) (l : length d ≡ 174848) (b : n < 683) (h : t ≤ 35) (g : s < 24) where
  -- the byte of the marked sector's bit, and that of the bit that is looked at
  abbrev own : ℕ
  own = map_at (track_of n) + 1 + sector_of n / 8

  abbrev at : ℕ
  at = map_at t + 1 + s / 8

  abbrev test : Bool
  test = eqb t (track_of n) && eqb s (sector_of n)

  abbrev v : ℕ
  v = with_bit (get_or d own 0) (sector_of n % 8) free

  p : Placed n
  p = place n b

  tested_same : at ≡ own → eqb (s % 8) (sector_of n % 8) ≡ test
  tested_same z =
      let t' : t ≡ track_of n = omega (arith, p.on, p.few) in
      same_test (eqb (s % 8) (sector_of n % 8)) test
      (λ e. let f : s % 8 ≡ sector_of n % 8 = eqb-true (s % 8) (sector_of n % 8) e in
      let s' : s ≡ sector_of n = omega (arith, p.on, p.few) in
      rw (eq-eqb t (track_of n) t') (eq-eqb s (sector_of n) s'))
      (λ e. let s' : s ≡ sector_of n = eqb-true s (sector_of n) (and_right (eqb t (track_of n)) (eqb s (sector_of n)) e) in
      eq-eqb (s % 8) (sector_of n % 8) (ap (λ (x : ℕ). x % 8) s'))

  tested_not : (at ≡ own → ⊥) → test ≡ false
  tested_not z = go test refl where
    go : (q : Bool) → test ≡ q → q ≡ false
    go false e = refl
    go true e =
        let t' : t ≡ track_of n = eqb-true t (track_of n) (and_left (eqb t (track_of n)) (eqb s (sector_of n)) e) in
        let s' : s ≡ sector_of n = eqb-true s (sector_of n) (and_right (eqb t (track_of n)) (eqb s (sector_of n)) e) in
        absurd (z (omega arith))

  by_byte : (q : Bool) → eqb at own ≡ q → bit_of (get_or (set d own v) at 0) (s % 8) ≡ cond test (one free) (bit_at d t s)
  by_byte true e =
      let z : at ≡ own = eqb-true at own e in
      ap (λ (x : ℕ). bit_of (get_or (set d own v) x 0) (s % 8)) z
      ∙ ap (λ (x : ℕ). bit_of x (s % 8)) (get_or-set_same d own v 0 (omega (arith, p.high, p.on, p.few)))
      ∙ bit_with (get_or d own 0) (sector_of n % 8) (s % 8) free
      ∙ ap (λ (x : ℕ). cond (eqb (s % 8) (sector_of n % 8)) (one free) (bit_of (get_or d x 0) (s % 8))) (sym z)
      ∙ ap (λ (q : Bool). cond q (one free) (bit_at d t s)) (tested_same z)
  by_byte false e =
      let z : at ≡ own → ⊥ = eqb-false at own e in
      ap (λ (x : ℕ). bit_of x (s % 8)) (get_or-set_other d own at v 0 z) ∙ ap (λ (q : Bool). cond q (one free) (bit_at d t s)) (sym (tested_not z))

  -- a mark changes the bit of its sector, and no other
  pub bit_marked : bit_at (marked d n free) t s ≡ cond (eqb t (track_of n) && eqb s (sector_of n)) (one free) (bit_at d t s)
  unfolding marked
  bit_marked =
      ap (λ (x : ℕ). bit_of x (s % 8)) (get_or-set_other (set d own v) (map_at (track_of n)) at _ 0 (λ e. omega arith)) ∙ by_byte (eqb at own) refl
