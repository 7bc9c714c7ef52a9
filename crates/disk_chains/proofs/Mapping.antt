-- The map's bits beside marks.
-- Assumes nothing.
use Prim.Native.Nat.{ℕ, zero, suc, ◌+◌, ◌/◌, ◌%◌, ◌≤◌, ◌<◌}
use mathlib.Core.Path.{◌≡◌, refl, ap}
use mathlib.Core.Bool.{Bool, true, false, ◌&&◌}
use mathlib.Core.List.{List}
use lib.Dec.{eqb}
use lib.ListN.{length, get_or}
use native.Mathlib.Decide.{dec_lt}
use native.Mathlib.Omega.{arith}
use borrow.Author.Tests.{lt-ltb, le-ltb, eq-eqb, ne_eqb}
use Rattle.disk_rules.specs.Places.{sectors_on, sectors_before}
use Rattle.std.specs.List.{range_with_len, list_all}
use Rattle.disk_rules.specs.Lists.{every, numbers_from}
use Rattle.disk_rules.specs.Map.{bit_at}
use Rattle.disk_rules.specs.Free.{bit_agrees, map_agrees}

-- a track's sectors end with the disk at the latest
pub on_room : (t : ℕ) → 1 ≤ t → t ≤ 35 → sectors_before t + sectors_on t ≤ 683
unfolding sectors_before sectors_on
on_room t h g = go (dec_lt t 18) (dec_lt t 25) (dec_lt t 31) where
  go : Dec (t < 18) → Dec (t < 25) → Dec (t < 31) → sectors_before t + sectors_on t ≤ 683
  go (yes a) b c = simp (lt-ltb t 18 a) (omega arith)
  go (no a) (yes b) c = simp (le-ltb t 18 (omega arith), lt-ltb t 25 b) (omega arith)
  go (no a) (no b) (yes c) = simp (le-ltb t 18 (omega arith), le-ltb t 25 (omega arith), lt-ltb t 31 c) (omega arith)
  go (no a) (no b) (no c) = simp (le-ltb t 18 (omega arith), le-ltb t 25 (omega arith), le-ltb t 31 (omega arith)) (omega arith)

module _ (d : List ℕ) (marks : List Bool) (t s : ℕ) where
  abbrev agrees : Bool
  agrees = bit_agrees d (λ n. get_or marks n false) t s

  pub agrees_18 : t ≡ 18 → true ≡ agrees
  agrees_18 e = simp (eq-eqb t 18 e)

  pub agrees_in : {n m : ℕ} → 1 ≤ t → t ≤ 35 → n ≡ sectors_on t → s < n → m ≡ sectors_before t → length marks ≡ 683 → m + s < length marks
  agrees_in h g e i f l = omega (arith, on_room t h g)

  module _ (z : t ≡ 18 → ⊥) {b n : ℕ} (e : b ≡ bit_at d t s) (f : n ≡ sectors_on t) where
    pub agrees_beyond : n ≤ s → eqb b 0 ≡ agrees
    agrees_beyond h = let g : sectors_on t ≤ s = omega arith in rw e (simp (ne_eqb t 18 z, le-ltb s (sectors_on t) g))

    pub agrees_met : {m : ℕ} → s < n → m ≡ sectors_before t → get_or marks (m + s) false ≡ true → eqb b 0 ≡ agrees
    agrees_met h i j =
        let g : s < sectors_on t = omega arith in rw e (simp (ne_eqb t 18 z, lt-ltb s (sectors_on t) g, rw i at j))

    pub agrees_free : {m : ℕ} → s < n → m ≡ sectors_before t → get_or marks (m + s) false ≡ false → eqb b 1 ≡ agrees
    agrees_free h i j =
        let g : s < sectors_on t = omega arith in rw e (simp (ne_eqb t 18 z, lt-ltb s (sectors_on t) g, rw i at j))

-- std's test of a run of numbers is the rule's
pub every_listed : (test : ℕ → Bool) (a n : ℕ) → list_all test (range_with_len a n) ≡ every test (numbers_from a n)
unfolding every numbers_from
every_listed test a zero = refl
every_listed test a (suc n) = ap (λ b. test a && b) (every_listed test (a + 1) n)

pub map_listed : (d : List ℕ) (met : ℕ → Bool) → list_all (λ i. bit_agrees d met (1 + i / 24) (i % 24)) (range_with_len 0 840) ≡ map_agrees d met
unfolding map_agrees
map_listed d met = every_listed (λ i. bit_agrees d met (1 + i / 24) (i % 24)) 0 840
