-- The map behind marks: the bits of the marked sectors change, and the map agrees with the chains again.
-- Assumes nothing.
use Prim.Native.Nat.{ℕ, zero, suc, ◌+◌, ◌/◌, ◌%◌, ◌≤◌, ◌<◌}
use mathlib.Core.Path.{◌≡◌, refl, sym, ap, ◌∙◌}
use mathlib.Core.Bool.{Bool, true, false, not, cond, ◌&&◌, ◌||◌}
use mathlib.Core.List.{List, [], ◌∷◌}
use lib.Dec.{eqb, ltb}
use lib.ListN.{length}
use native.Mathlib.Omega.{arith}
use borrow.Author.Tests.{eqb-true, eqb-false, eq-eqb, lt-ltb, ltb-true}
use Rattle.disk_rules.specs.Places.{sectors_on, sectors_before, sector_at, track_of, sector_of}
use Rattle.disk_rules.specs.Lists.{numbers_from, every, some, is_in}
use Rattle.disk_rules.specs.Map.{bit_at, marked}
use Rattle.disk_rules.specs.Free.{bit_agrees, map_agrees, marked_all}
use Rattle.disk_chains.proofs.Marking.{marked_long}
use Rattle.disk_rules.proofs.Counting.{one, and_left, and_right, or_right, every_at}
use Rattle.disk_laws.proofs.Geometry.{Placed, place, Stands, stands}
use Rattle.disk_laws.proofs.Marks.{same_test, bit_marked}

-- ---- marks of a list

either : {A : Type 0} (o a b : Bool) (v w : A) → cond (o && a) v (cond (o && b) v w) ≡ cond (o && (b || a)) v w
either true true true v w = refl
either true true false v w = refl
either true false true v w = refl
either true false false v w = refl
either false a b v w = refl

module _ (t s : ℕ) (low : 1 ≤ t) (high : t ≤ 35) where
  -- a track and a sector on it are those of a number exactly where the number is theirs
  same_place : (n : ℕ) → n < 683 → (eqb t (track_of n) && eqb s (sector_of n)) ≡ (ltb s (sectors_on t) && eqb (sector_at t s) n)
  same_place n b =
      let p : Placed n = place n b in
      same_test (eqb t (track_of n) && eqb s (sector_of n)) (ltb s (sectors_on t) && eqb (sector_at t s) n)
      (λ e. let t' : t ≡ track_of n = eqb-true t (track_of n) (and_left (eqb t (track_of n)) (eqb s (sector_of n)) e) in
      let s' : s ≡ sector_of n = eqb-true s (sector_of n) (and_right (eqb t (track_of n)) (eqb s (sector_of n)) e) in
      let u : sectors_on t ≡ sectors_on (track_of n) = ap sectors_on t' in
      let v : sectors_before t ≡ sectors_before (track_of n) = ap sectors_before t' in
      rw (lt-ltb s (sectors_on t) (omega (arith, p.on)), eq-eqb (sector_at t s) n (omega (arith, p.back))))
      (λ e. let o : s < sectors_on t = ltb-true s (sectors_on t) (and_left (ltb s (sectors_on t)) (eqb (sector_at t s) n) e) in
      let m : sector_at t s ≡ n = eqb-true (sector_at t s) n (and_right (ltb s (sectors_on t)) (eqb (sector_at t s) n) e) in
      let x : Stands t s = stands t s low high o in
      let t' : t ≡ track_of n = sym x.track ∙ ap track_of m in
      let s' : s ≡ sector_of n = sym x.sector ∙ ap sector_of m in
      rw (eq-eqb t (track_of n) t') (eq-eqb s (sector_of n) s'))

  pub bits_marked : (d ns : List ℕ) (free : Bool) → s < 24 → length d ≡ 174848 → ((m : ℕ) → is_in ns m ≡ true → m < 683)
      → bit_at (marked_all d ns free) t s ≡ cond (ltb s (sectors_on t) && is_in ns (sector_at t s)) (one free) (bit_at d t s)
  unfolding marked_all some
  bits_marked d [] free g l b = none (ltb s (sectors_on t)) where
    none : (q : Bool) → bit_at d t s ≡ cond (q && false) (one free) (bit_at d t s)
    none true = refl
    none false = refl
  bits_marked d (n ∷ ns) free g l b =
      let low' : n < 683 = b n (rw (eq-eqb n n refl)) in
      let o : Bool = ltb s (sectors_on t) in
      let a : Bool = is_in ns (sector_at t s) in
      bits_marked (marked d n free) ns free g (marked_long d n free ∙ l) (λ m e. b m (or_right (eqb m n) (is_in ns m) e))
      ∙ ap (λ (x : ℕ). cond (o && a) (one free) x) (bit_marked d n free t s l low' high g ∙ ap (λ (q : Bool). cond q (one free) (bit_at d t s)) (same_place n low'))
      ∙ either o a (eqb (sector_at t s) n) (one free) (bit_at d t s)

-- ---- the map as a whole

pub every_holds : (test : ℕ → Bool) (from k : ℕ) → ((i : ℕ) → from ≤ i → i < from + k → test i ≡ true) → every test (numbers_from from k) ≡ true
unfolding every numbers_from
every_holds test from zero h = refl
every_holds test from (suc k) h = rw (h from (omega arith) (omega arith)) (every_holds test (from + 1) k (λ i a b. h i (omega arith) (omega arith)))

agreed : (u o i m m' free : Bool) (b c : ℕ) → c ≡ cond (o && i) (one free) b → m' ≡ cond i (not free) m → (u || eqb b (cond (o && not m) 1 0)) ≡ true
    → (u || eqb c (cond (o && not m') 1 0)) ≡ true
agreed true o i m m' free b c e f g = refl
agreed false true true m m' true b c e f g = rw (e, f) refl
agreed false true true m m' false b c e f g = rw (e, f) refl
agreed false true false m m' free b c e f g = rw (e, f) g
agreed false false i m m' free b c e f g = rw e g

-- a disk whose bits are those of another with the sectors of a list marked
module _ (d d' ns : List ℕ) (free : Bool) (met met' : ℕ → Bool) where
  pub agrees_again : length d ≡ 174848 → ((m : ℕ) → is_in ns m ≡ true → m < 683)
      → ((t s : ℕ) → 1 ≤ t → t ≤ 35 → s < 24 → (t ≡ 18 → ⊥) → bit_at d' t s ≡ bit_at (marked_all d ns free) t s)
      → ((n : ℕ) → met' n ≡ cond (is_in ns n) (not free) (met n)) → map_agrees d met ≡ true → map_agrees d' met' ≡ true
  unfolding map_agrees
  agrees_again l b h g a = every_holds (λ i. bit_agrees d' met' (1 + i / 24) (i % 24)) 0 840 (λ i x y. at (1 + i / 24) (i % 24) (omega arith) (omega arith) (omega arith)
      (every_at (λ j. bit_agrees d met (1 + j / 24) (j % 24)) 0 840 a i x y)) where
        at : (t s : ℕ) → 1 ≤ t → t ≤ 35 → s < 24 → bit_agrees d met t s ≡ true → bit_agrees d' met' t s ≡ true
        at t s x y z e = go (eqb t 18) refl e where
          go : (u : Bool) → eqb t 18 ≡ u → (u || eqb (bit_at d t s) (cond (ltb s (sectors_on t) && not (met (sector_at t s))) 1 0)) ≡ true
              → (u || eqb (bit_at d' t s) (cond (ltb s (sectors_on t) && not (met' (sector_at t s))) 1 0)) ≡ true
          go true f k = refl
          go false f k =
              agreed false (ltb s (sectors_on t)) (is_in ns (sector_at t s)) (met (sector_at t s)) (met' (sector_at t s)) free (bit_at d t s) (bit_at d' t s)
              (h t s x y z (eqb-false t 18 f) ∙ bits_marked t s x y d ns free z l b) (g (sector_at t s)) k
