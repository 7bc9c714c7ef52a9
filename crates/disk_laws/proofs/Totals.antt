-- On a sound disk every sector is free, or in one chain, or on track 18: "free sectors off track 18 plus sectors in chains of listed files plus the 19 make 683".
-- Assumes nothing.
use Prim.Native.Nat.{ℕ, ◌+◌, ◌-◌, ◌*◌, ◌/◌, ◌%◌, ◌≤◌, ◌<◌}
use mathlib.Core.Path.{◌≡◌, refl, sym, ap, ◌∙◌}
use mathlib.Core.Bool.{Bool, true, false, not, cond, ◌&&◌, ◌||◌}
use mathlib.Core.List.{List}
use lib.Dec.{eqb, ltb}
use lib.ListN.{length}
use native.Mathlib.Decide.{dec_lt}
use native.Mathlib.Omega.{arith}
use borrow.Author.Tests.{eqb-true, lt-ltb, le-ltb, ltb-true, ne_eqb}
use Rattle.disk_rules.specs.Places.{track_of, sector_of, sectors_on, sector_at, off_track18}
use Rattle.disk_rules.specs.Lists.{numbers_from, those, is_in, none_twice}
use Rattle.disk_rules.specs.Map.{bit_at, is_free}
use Rattle.disk_rules.specs.Free.{bit_agrees, map_agrees, free_sectors}
use Rattle.disk_rules.specs.Entries.{directory, listed}
use Rattle.disk_rules.specs.Check.{files, sound}
use Rattle.disk_rules.proofs.Counting.{and_left, and_right, one, count, count_three, stand_all, every_at}
use Rattle.disk_rules.proofs.Counted.{Checks, checks, all_check, chains_held}
use Rattle.disk_laws.specs.Runs.{AccountedFor}
use Rattle.disk_laws.proofs.Geometry.{Placed, place}

-- ---- the parts of the check

abbrev pub Holds : List ℕ → Type 0
Holds d = Checks d (directory d) (files d)

pub holds : (d : List ℕ) → sound d ≡ true → Holds d
unfolding sound
holds d e = checks d (directory d) (files d) e

pub all_hold : (d : List ℕ) → Holds d → sound d ≡ true
unfolding sound
all_hold d h = all_check d (directory d) (files d) h

-- ---- the map

told : (u v w : Bool) (b : ℕ) → u ≡ false → v ≡ true → (u || eqb b (cond (v && not w) 1 0)) ≡ true → eqb b 1 ≡ not w
told false true true b f g e = let z : b ≡ 0 = eqb-true b 0 e in rw z
told false true false b f g e = e
told false false w b f g e = absurd (let z : ◌≡◌ {A = ℕ} 0 1 = cc in omega arith)
told true v w b f g e = absurd (let z : ◌≡◌ {A = ℕ} 0 1 = cc in omega arith)

module _ (d : List ℕ) (met : ℕ → Bool) (a : map_agrees d met ≡ true) (n : ℕ) (h : n < 683) where
  -- the bit of a sector
  bit_agrees_lem : bit_agrees d met (track_of n) (sector_of n) ≡ true
  unfolding map_agrees
  bit_agrees_lem =
      let p : Placed n = place n h in
      let i : ℕ = 24 * (track_of n - 1) + sector_of n in
      let t : 1 + i / 24 ≡ track_of n = omega (arith, p.low, p.on, p.few) in
      let s : i % 24 ≡ sector_of n = omega (arith, p.on, p.few) in
      let x : bit_agrees d met (1 + i / 24) (i % 24) ≡ true =
      every_at (λ j. bit_agrees d met (1 + j / 24) (j % 24)) 0 840 a i (omega arith) (omega (arith, p.low, p.high, p.on, p.few))
      in
      sym (ap (λ (y : ℕ). bit_agrees d met y (sector_of n)) t) ∙ sym (ap (λ (y : ℕ). bit_agrees d met (1 + i / 24) y) s) ∙ x

  off_18 : (track_of n ≡ 18 → ⊥) → eqb (bit_at d (track_of n) (sector_of n)) 1 ≡ not (met n)
  off_18 z =
      let p : Placed n = place n h in
      told (eqb (track_of n) 18) (ltb (sector_of n) (sectors_on (track_of n))) (met (sector_at (track_of n) (sector_of n))) (bit_at d (track_of n) (sector_of n))
      (ne_eqb (track_of n) 18 z) (lt-ltb (sector_of n) (sectors_on (track_of n)) p.on) bit_agrees_lem
      ∙ ap (λ (m : ℕ). not (met m)) p.back

  -- it is free exactly where it stands off track 18 and in no chain
  pub free_exactly : is_free d n ≡ (off_track18 n && not (met n))
  unfolding is_free
  free_exactly = go (dec_lt n 357) (dec_lt 375 n) where
    go : Dec (n < 357) → Dec (375 < n) → (off_track18 n && eqb (bit_at d (track_of n) (sector_of n)) 1) ≡ (off_track18 n && not (met n))
    go (yes f) g = ap (λ (q : Bool). off_track18 n && q) (off_18 (λ e. omega (arith, (place n h).before_18 f)))
    go (no f) (yes g) = ap (λ (q : Bool). off_track18 n && q) (off_18 (λ e. omega (arith, (place n h).behind_18 g)))
    go (no f) (no g) = let e : 357 ≤ n = omega arith in let i : n ≤ 375 = omega arith in simp (le-ltb n 357 e, le-ltb 375 n i)

-- ---- the whole

one_of_three : (f o m : Bool) → f ≡ (o && not m) → (m ≡ true → o ≡ true) → one f + one m + one (not o) ≡ 1
one_of_three f true true e h = rw e refl
one_of_three f true false e h = rw e refl
one_of_three f false false e h = rw e refl
one_of_three f false true e h = absurd (let z : ◌≡◌ {A = Bool} false true = h refl in let y : ◌≡◌ {A = ℕ} 0 1 = cc in omega arith)

on_track_18 : count (λ n. not (off_track18 n)) (numbers_from 0 683) ≡ 19
unfolding those numbers_from
on_track_18 = refl

-- from counts of a run to the lists themselves
summed : (free used eighteen met : ℕ) → free + used + eighteen ≡ 683 → used ≡ met → eighteen ≡ 19 → free + met + 19 ≡ 683
summed free used eighteen met a b c = omega arith

module _ (d : List ℕ) (e : sound d ≡ true) where
  abbrev met : List ℕ
  met = (files d).sectors

  in_files : (m : ℕ) → is_in met m ≡ true → (ltb m 683 && off_track18 m) ≡ true
  in_files m h = chains_held d (listed d) m h

  -- a sector is free exactly where it stands off track 18 and in no chain of a listed file
  pub free_is : (n : ℕ) → n < 683 → is_free d n ≡ (off_track18 n && not (is_in (files d).sectors n))
  free_is n h = free_exactly d (is_in met) (holds d e).agrees n h

  -- "free sectors off track 18 plus sectors in chains of listed files plus the 19 make 683"
  pub all_accounted_for : AccountedFor d
  unfolding free_sectors
  all_accounted_for =
      summed (count (is_free d) (numbers_from 0 683)) (count (is_in met) (numbers_from 0 683)) (count (λ n. not (off_track18 n)) (numbers_from 0 683)) (length met)
      (count_three (is_free d) (is_in met) (λ n. not (off_track18 n)) 0 683
      (λ n f g. one_of_three (is_free d n) (off_track18 n) (is_in met n) (free_is n (omega arith)) (λ h. and_right (ltb n 683) (off_track18 n) (in_files n h))))
      (stand_all met 0 683 (holds d e).apart (λ m h. (omega arith, ltb-true m 683 (and_left (ltb m 683) (off_track18 m) (in_files m h)))))
      on_track_18

  -- "no sector is in two chains"
  pub in_one_chain : none_twice (files d).sectors ≡ true
  in_one_chain = (holds d e).apart
