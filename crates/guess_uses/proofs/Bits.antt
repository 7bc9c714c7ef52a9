-- Bits of bytes: one is turned on by adding what it is worth, and off by taking that away; no other bit moves.
-- Assumes nothing.
use Prim.Native.Nat.{ℕ, zero, suc, ◌+◌, ◌-◌, ◌*◌, ◌/◌, ◌%◌, ◌^◌, ◌≤◌, ◌<◌}
use mathlib.Core.Path.{◌≡◌, refl, sym, ap, ◌∙◌}
use mathlib.Core.Bool.{Bool, true, false, beq, false≢true}
use mathlib.Core.List.{List}
use native.Mathlib.Omega.{arith}
use native.Mathlib.Nat.{div-div-eq-div-mul, div-one, mod-eq_of_lt, pow-succ', pow-zero}
use lib.Dec.{eqb, ltb}
use lib.ListN.{length, get_or, set, length-set}
use lib.Pow.{pow-lt}
use lib.Seq.{get_or-set_same, get_or-set_other}
use borrow.Author.Tests.{eqb-true, eqb-false}
use mir.Syntax.{w8}
use mir.Val.{Fits}
use Rattle.guess_uses.specs.MarkHelpers.{is_on, Turned, last_bit}

-- ---- bits of a number

abbrev bit_of : ℕ → ℕ → ℕ
bit_of zero b = b % 2
bit_of (suc k) b = bit_of k (b / 2)

bit_is : (k b : ℕ) → b / 2 ^ k % 2 ≡ bit_of k b
bit_is zero b = ap (λ (x : ℕ). x % 2) (div-one b)
bit_is (suc k) b =
    ap (λ (x : ℕ). b / x % 2) (pow-succ' 2 k) ∙ ap (λ (x : ℕ). x % 2) (sym (div-div-eq-div-mul b 2 (2 ^ k))) ∙ bit_is k (b / 2)

-- a bit is 0 or 1
bit_small : (k b : ℕ) → bit_of k b ≤ 1
bit_small zero b = omega arith
bit_small (suc k) b = bit_small k (b / 2)

half_more : (k b : ℕ) → (b + 2 ^ suc k) / 2 ≡ b / 2 + 2 ^ k
half_more k b = omega (arith, pow-succ' 2 k)

add_same : (k b : ℕ) → bit_of k b ≡ 0 → bit_of k (b + 2 ^ k) ≡ 1
add_same zero b z = omega (arith, pow-zero 2)
add_same (suc k) b z = ap (bit_of k) (half_more k b) ∙ add_same k (b / 2) z

add_other : (k j b : ℕ) → bit_of k b ≡ 0 → (j ≡ k → ⊥) → bit_of j (b + 2 ^ k) ≡ bit_of j b
add_other zero zero b z n = absurd (n refl)
add_other zero (suc j) b z n = let e : (b + 2 ^ 0) / 2 ≡ b / 2 = omega (arith, pow-zero 2) in ap (bit_of j) e
add_other (suc k) zero b z n = omega (arith, pow-succ' 2 k)
add_other (suc k) (suc j) b z n = ap (bit_of j) (half_more k b) ∙ add_other k j (b / 2) z (λ e. n (ap suc e))

add_below : (m k b : ℕ) → bit_of k b ≡ 0 → k < m → b < 2 ^ m → b + 2 ^ k < 2 ^ m
add_below zero k b z h l = absurd (omega arith)
add_below (suc m) zero b z h l = omega (arith, pow-zero 2, pow-succ' 2 m)
add_below (suc m) (suc k) b z h l =
    omega (arith, pow-succ' 2 m, pow-succ' 2 k, add_below m k (b / 2) z (omega arith) (omega (arith, pow-succ' 2 m)))

take_least : (k b : ℕ) → bit_of k b ≡ 1 → 2 ^ k ≤ b
take_least zero b o = omega (arith, pow-zero 2)
take_least (suc k) b o = omega (arith, pow-succ' 2 k, take_least k (b / 2) o)

take_same : (k b : ℕ) → bit_of k b ≡ 1 → bit_of k (b - 2 ^ k) ≡ 0
take_same zero b o = omega (arith, pow-zero 2)
take_same (suc k) b o =
    let h : (b - 2 ^ suc k) / 2 ≡ b / 2 - 2 ^ k = omega (arith, pow-succ' 2 k, take_least k (b / 2) o) in
    ap (bit_of k) h ∙ take_same k (b / 2) o

take_other : (k j b : ℕ) → bit_of k b ≡ 1 → (j ≡ k → ⊥) → bit_of j (b - 2 ^ k) ≡ bit_of j b
take_other k j b o n =
    let e : b - 2 ^ k + 2 ^ k ≡ b = omega (arith, take_least k b o) in
    sym (add_other k j (b - 2 ^ k) (take_same k b o) n) ∙ ap (bit_of j) e

pub weight_is : (k : ℕ) → k < 8 → (1 * 2 ^ k) % 2 ^ 8 ≡ 2 ^ k
weight_is k h =
    let e : 1 * 2 ^ k ≡ 2 ^ k = omega arith in
    rw e (mod-eq_of_lt (pow-lt h))

-- ---- bits of bytes

on_is : (bits : List ℕ) (n : ℕ) → is_on bits n ≡ eqb (bit_of (n % 8) (get_or bits (n / 8) 0)) 1
unfolding is_on
on_is bits n = ap (λ (x : ℕ). eqb x 1) (bit_is (n % 8) (get_or bits (n / 8) 0))

module _ (bits : List ℕ) (n : ℕ) {x : Bool} where
  on_one : x ≡ true → x ≡ is_on bits n → bit_of (n % 8) (get_or bits (n / 8) 0) ≡ 1
  on_one e p = eqb-true _ _ (sym (on_is bits n) ∙ sym p ∙ e)

  off_zero : x ≡ false → x ≡ is_on bits n → bit_of (n % 8) (get_or bits (n / 8) 0) ≡ 0
  off_zero e p =
      let o = eqb-false (bit_of (n % 8) (get_or bits (n / 8) 0)) 1 (sym (on_is bits n) ∙ sym p ∙ e) in
      omega (arith, bit_small (n % 8) (get_or bits (n / 8) 0))

-- the byte of a bit is another, in which no other bit differs
turned_by : (bits : List ℕ) (n v : ℕ) {on : Bool} → n < 8 * length bits → eqb (bit_of (n % 8) v) 1 ≡ on
    → ((j : ℕ) → (j ≡ n % 8 → ⊥) → bit_of j v ≡ bit_of j (get_or bits (n / 8) 0)) → Turned bits n on (set bits (n / 8) v)
turned_by bits n v {on} h e f = record { size = length-set bits (n / 8) v; there = at n refl ∙ e; others = λ m d. go m d (eqb (m / 8) (n / 8)) refl }
  where
    at : (m : ℕ) → m / 8 ≡ n / 8 → is_on (set bits (n / 8) v) m ≡ eqb (bit_of (m % 8) v) 1
    at m p =
        on_is (set bits (n / 8) v) m
        ∙ ap (λ (b : ℕ). eqb (bit_of (m % 8) b) 1) (ap (λ (i : ℕ). get_or (set bits (n / 8) v) i 0) p ∙ get_or-set_same bits (n / 8) v 0 (omega arith))

    go : (m : ℕ) → (m ≡ n → ⊥) → (r : Bool) → eqb (m / 8) (n / 8) ≡ r → is_on (set bits (n / 8) v) m ≡ is_on bits m
    go m d true q =
        let p : m / 8 ≡ n / 8 = eqb-true _ _ q in
        at m p
        ∙ ap (λ (b : ℕ). eqb b 1) (f (m % 8) (λ r. d (omega arith)) ∙ ap (λ (i : ℕ). bit_of (m % 8) (get_or bits i 0)) (sym p))
        ∙ sym (on_is bits m)
    go m d false q =
        on_is (set bits (n / 8) v) m
        ∙ ap (λ (b : ℕ). eqb (bit_of (m % 8) b) 1) (get_or-set_other bits (n / 8) (m / 8) v 0 (eqb-false _ _ q))
        ∙ sym (on_is bits m)

-- a bit that is as it shall be stays
pub kept : (bits : List ℕ) (n : ℕ) {x on : Bool} → beq x on ≡ true → x ≡ is_on bits n → Turned bits n on bits
kept bits n {x} {on} e p = record { size = refl; there = sym p ∙ same x on e; others = λ m d. refl }
  where
    same : (x on : Bool) → beq x on ≡ true → x ≡ on
    same true true e = refl
    same true false e = absurd (false≢true e)
    same false true e = absurd (false≢true e)
    same false false e = refl

-- one that is not is the other
pub was_off : (x on : Bool) → beq x on ≡ false → on ≡ true → x ≡ false
was_off true on e q = absurd (false≢true (sym e ∙ ap (beq true) q))
was_off false on e q = refl

pub was_on : (x on : Bool) → beq x on ≡ false → on ≡ false → x ≡ true
was_on true on e q = refl
was_on false on e q = absurd (false≢true (sym e ∙ ap (beq false) q))

module _ (bits : List ℕ) (n : ℕ) {w : ℕ} (q : w ≡ 2 ^ (n % 8)) {x : Bool} where
  pub off_least : x ≡ true → x ≡ is_on bits n → w ≤ get_or bits (n / 8) 0
  off_least e p = omega (arith, take_least (n % 8) (get_or bits (n / 8) 0) (on_one bits n e p))

  pub on_fits : x ≡ false → x ≡ is_on bits n → get_or bits (n / 8) 0 < 256 → Fits w8 (get_or bits (n / 8) 0 + w)
  on_fits e p h = record { fits = omega (arith, add_below 8 (n % 8) (get_or bits (n / 8) 0) (off_zero bits n e p) (omega arith) (omega arith)) }

  module _ {on : Bool} where
    pub turned_off : on ≡ false → x ≡ true → x ≡ is_on bits n → n < 8 * length bits → Turned bits n on (set bits (n / 8) (get_or bits (n / 8) 0 - w))
    turned_off o e p h =
        let b : ℕ = get_or bits (n / 8) 0 in
        let k : bit_of (n % 8) b ≡ 1 = on_one bits n e p in
        rw q (turned_by bits n (b - 2 ^ (n % 8)) h (ap (λ (y : ℕ). eqb y 1) (take_same (n % 8) b k) ∙ sym o) (λ j d. take_other (n % 8) j b k d))

    pub turned_on : on ≡ true → x ≡ false → x ≡ is_on bits n → n < 8 * length bits → Turned bits n on (set bits (n / 8) (get_or bits (n / 8) 0 + w))
    turned_on o e p h =
        let b : ℕ = get_or bits (n / 8) 0 in
        let k : bit_of (n % 8) b ≡ 0 = off_zero bits n e p in
        rw q (turned_by bits n (b + 2 ^ (n % 8)) h (ap (λ (y : ℕ). eqb y 1) (add_same (n % 8) b k) ∙ sym o) (λ j d. add_other (n % 8) j b k d))

-- ---- the last of so many bits

pub last_none : (bits : List ℕ) (n : ℕ) → n ≤ 0 → ltb 0 n ≡ last_bit bits n
unfolding last_bit
last_none bits zero h = refl
last_none bits (suc n) h = absurd (omega arith)

pub last_some : (bits : List ℕ) (n : ℕ) {r : Bool} → r ≡ is_on bits (n - 1) → 0 < n → r ≡ last_bit bits n
unfolding last_bit
last_some bits zero q z = absurd (omega arith)
last_some bits (suc n) q z = let e : suc n - 1 ≡ n = omega arith in q ∙ ap (is_on bits) e
