-- Marking the numbers of a list from its end on: the loop's invariant, a turn, and its ends; and the marks of many sectors on a disk.
-- Assumes nothing.
use Prim.Native.Nat.{ℕ, zero, suc, ◌+◌, ◌-◌, ◌≤◌, ◌<◌}
use mathlib.Core.Path.{◌≡◌, refl, sym, ap, ◌∙◌}
use mathlib.Core.Bool.{Bool, true, false, ◌||◌, and-false}
use mathlib.Core.List.{List, [], ◌∷◌}
use lib.Dec.{eqb}
use lib.ListN.{length, get_or, set, drop, replicate, length-set, length-replicate, drop_of_length-le}
use lib.Seq.{drop-cons, drop-length, get_or-set_same, get_or-set_other}
use native.Mathlib.Numerals.{add-one}
use native.Mathlib.Omega.{arith}
use borrow.Author.Tests.{eqb-true, eqb-false}
use Rattle.disk_rules.specs.Lists.{some, is_in, none_twice}
use Rattle.disk_rules.specs.Free.{marked_all}
use Rattle.disk_rules.specs.Map.{marked}
use Rattle.disk_chains.specs.ChainHelpers.{Sectors, Marks, Marked}

blank_at : (k n : ℕ) → get_or (replicate k false) n false ≡ false
blank_at zero n = refl
blank_at (suc k) zero = refl
blank_at (suc k) (suc n) = blank_at k n

pub blank : Marks (replicate 683 false) []
unfolding some
blank = record { sized = length-replicate 683 false; means = blank_at 683 }

pub record Marking (list : List ℕ) (marks : List Bool) (i : ℕ) : Type 0 where
  pub within : i ≤ length list
  pub sectors : Sectors list
  pub means : Marks marks (drop i list)
  pub once : none_twice (drop i list) ≡ true

pub mark_start : {list : List ℕ} {marks : List Bool} → Sectors list → Marks marks [] → Marking list marks (length list)
unfolding none_twice
mark_start {list} {marks} s m =
    record { within = omega arith; sectors = s; means = rw (drop-length list) m; once = rw (drop-length list) }

-- a number that stands twice behind some place stands twice
twice_behind : (j : ℕ) (l : List ℕ) → none_twice (drop j l) ≡ false → none_twice l ≡ false
unfolding none_twice
twice_behind zero l e = e
twice_behind (suc j) [] e = e
twice_behind (suc j) (n ∷ l) e = rw (twice_behind j l e, and-false)

module _ {list : List ℕ} {marks : List Bool} {i : ℕ} (m : Marking list marks i) where
  pub mark_in : 0 < i → get_or list (i - 1) 0 < length marks
  mark_in h = omega (arith, m.sectors.below (i - 1) (omega (arith, m.within)), m.means.sized)

  dropped : 0 < i → drop (i - 1) list ≡ get_or list (i - 1) 0 ∷ drop i list
  dropped h =
      let e : suc (i - 1) ≡ i = omega arith in
      let g : i - 1 < length list = omega (arith, m.within) in
      drop-cons list (i - 1) 0 g ∙ ap (λ (k : ℕ). get_or list (i - 1) 0 ∷ drop k list) e

  pub mark_twice : 0 < i → get_or marks (get_or list (i - 1) 0) false ≡ true → Marked list false marks
  unfolding none_twice
  mark_twice h e =
      let t : is_in (drop i list) (get_or list (i - 1) 0) ≡ true = sym (m.means.means (get_or list (i - 1) 0)) ∙ e in
      let f : none_twice (drop (i - 1) list) ≡ false = rw (dropped h, t) in
      record {
        once = sym (twice_behind (i - 1) list f);
        marks = λ z. absurd (let y : ◌≡◌ {A = ℕ} 0 1 = cc in omega arith);
      }

  module _ (h : 0 < i) where
    by_case : (k : ℕ) (b : Bool) → eqb k (get_or list (i - 1) 0) ≡ b
        → get_or (set marks (get_or list (i - 1) 0) true) k false ≡ (b || is_in (drop i list) k)
    by_case k true e = rw (eqb-true k (get_or list (i - 1) 0) e) (get_or-set_same marks (get_or list (i - 1) 0) true false (mark_in h))
    by_case k false e = get_or-set_other marks (get_or list (i - 1) 0) k true false (eqb-false k (get_or list (i - 1) 0) e) ∙ m.means.means k

    pub mark_turn : get_or marks (get_or list (i - 1) 0) false ≡ false → Marking list (set marks (get_or list (i - 1) 0) true) (i - 1)
    unfolding none_twice some
    mark_turn e =
        let t : is_in (drop i list) (get_or list (i - 1) 0) ≡ false = sym (m.means.means (get_or list (i - 1) 0)) ∙ e in
        record {
          within = omega (arith, m.within);
          sectors = m.sectors;
          means = rw (dropped h) (record { sized = length-set marks (get_or list (i - 1) 0) true ∙ m.means.sized; means = λ k. by_case k (eqb k (get_or list (i - 1) 0)) refl });
          once = rw (dropped h, t) m.once;
        }

  pub mark_end : i ≤ 0 → Marked list true marks
  mark_end h =
      let z : i ≡ 0 = omega arith in
      record { once = sym (rw z at m.once); marks = λ e. rw z at m.means }

-- ---- on a disk

pub marked_long : (d : List ℕ) (n : ℕ) (free : Bool) → length (marked d n free) ≡ length d
unfolding marked
marked_long d n free = simp length-set

pub marked_all_long : (d ns : List ℕ) (free : Bool) → length (marked_all d ns free) ≡ length d
unfolding marked_all
marked_all_long d [] free = refl
marked_all_long d (n ∷ ns) free = marked_all_long (marked d n free) ns free ∙ marked_long d n free

pub record Setting (d₀ list : List ℕ) (free : Bool) (d : List ℕ) (i : ℕ) : Type 0 where
  pub sized : length d ≡ length d₀
  pub size : length d₀ ≡ 174848
  pub sectors : Sectors list
  pub sets : marked_all d (drop i list) free ≡ marked_all d₀ list free

pub set_start : {d list : List ℕ} (free : Bool) → length d ≡ 174848 → Sectors list → Setting d list free d 0
set_start free e s = record { sized = refl; size = e; sectors = s; sets = refl }

module _ {d₀ list : List ℕ} {free : Bool} {d : List ℕ} {i : ℕ} (s : Setting d₀ list free d i) where
  pub set_long : length d ≡ 174848
  set_long = s.sized ∙ s.size

  pub set_below : i < length list → get_or list i 0 < 683
  set_below h = s.sectors.below i h

  pub set_turn : i < length list → {e : List ℕ} → e ≡ marked d (get_or list i 0) free → Setting d₀ list free e (i + 1)
  unfolding marked_all
  set_turn h {e} g =
      record {
        sized = ap length g ∙ marked_long d (get_or list i 0) free ∙ s.sized;
        size = s.size;
        sectors = s.sectors;
        sets = rw (g, add-one) (rw (drop-cons list i 0 h) at s.sets);
      }

  pub set_end : length list ≤ i → d ≡ marked_all d₀ list free
  unfolding marked_all
  set_end h = let z : drop i list ≡ [] = drop_of_length-le list {i = i} h in rw z at s.sets
