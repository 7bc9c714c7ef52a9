-- Searching entries: the first that passes a test, and whether each is good.
-- Assumes nothing.
use Prim.Native.Nat.{ℕ, suc, ◌+◌, ◌-◌, ◌≤◌, ◌<◌}
use mathlib.Core.Path.{◌≡◌, refl, sym, ap, ◌∙◌}
use mathlib.Core.Bool.{Bool, true, false, cond, ◌||◌}
use mathlib.Core.List.{List, [], ◌∷◌}
use lib.ListN.{length, get_or, take, drop, drop_of_length-le, length-drop}
use lib.Seq.{drop-cons, get_or-drop, take_all}
use native.Mathlib.Numerals.{add-one}
use native.Mathlib.Omega.{arith}
use borrow.Author.Tests.{eq-eqb, ne_eqb}
use Rattle.disk_rules.specs.Lists.{some}
use Rattle.disk_rules.specs.Entries.{is_named, name_at, entries_good}
use Rattle.std.specs.Option.{is_some}
use Rattle.std.specs.Prelude.{Option, Some, None, find}
use Rattle.disk_entries.specs.EntryHelpers.{Entries}

pub record Seeking (test : ℕ → Bool) (l : List ℕ) (i : ℕ) : Type 0 where
  pub within : i ≤ length l
  pub gives : find test (drop i l) ≡ find test l

pub seek_start : (test : ℕ → Bool) (l : List ℕ) → Seeking test l 0
seek_start test l = record { within = omega arith; gives = refl }

module _ {test : ℕ → Bool} {l : List ℕ} {i : ℕ} (s : Seeking test l i) where
  pub seek_found : {r : Bool} → i < length l → r ≡ true → r ≡ test (get_or l i 0) → Some (get_or l i 0) ≡ find test l
  seek_found h e g =
      let q : test (get_or l i 0) ≡ true = sym g ∙ e in
      simp q at (rw (drop-cons l i 0 h) at s.gives)

  pub seek_turn : {r : Bool} → i < length l → r ≡ false → r ≡ test (get_or l i 0) → Seeking test l (i + 1)
  seek_turn h e g =
      let q : test (get_or l i 0) ≡ false = sym g ∙ e in
      record { within = omega arith; gives = rw add-one (simp q at (rw (drop-cons l i 0 h) at s.gives)) }

  pub seek_end : length l ≤ i → None ≡ find test l
  seek_end h = rw (drop_of_length-le l {i = i} h) at s.gives

-- ---- what the first tells

pub found_some : (test : ℕ → Bool) (l : List ℕ) → is_some (find test l) ≡ some test l
unfolding some
found_some test [] = refl
found_some test (n ∷ l) = go (test n) (found_some test l) where
  go : (b : Bool) → is_some (find test l) ≡ some test l → is_some (cond b (Some n) (find test l)) ≡ (b || some test l)
  go true e = refl
  go false e = e

-- ---- each entry is good

pub record Testing (d l : List ℕ) (i : ℕ) : Type 0 where
  pub within : i ≤ length l
  pub entries : Entries l
  pub tests : entries_good d (drop i l) ≡ entries_good d l

pub test_start : (d : List ℕ) {l : List ℕ} → Entries l → Testing d l 0
test_start d e = record { within = omega arith; entries = e; tests = refl }

module _ {d l : List ℕ} {i : ℕ} (t : Testing d l i) where
  -- what stands behind a place, as a part up to the end
  abbrev tail : ℕ → List ℕ
  tail j = take (length l - j) (drop j l)

  tail_drop : (j : ℕ) → tail j ≡ drop j l
  tail_drop j = take_all (length l - j) (drop j l) (omega (arith, length-drop j l))

  pub test_tail : (j : ℕ) → Entries (take (length l - j) (drop j l))
  test_tail j =
      rw (tail_drop j) (record { within = λ k h. rw (get_or-drop j l k 0) (t.entries.within (j + k) (omega (arith, length-drop j l))) })

  unrolled : i < length l → entries_good d l ≡ entries_good d (get_or l i 0 ∷ drop (i + 1) l)
  unrolled h = sym (rw (add-one, ← drop-cons l i 0 h) t.tests)

  pub test_type : i < length l → (get_or d (get_or l i 0) 0 ≡ 0x82 → ⊥) → false ≡ entries_good d l
  unfolding entries_good
  test_type h e = sym (unrolled h ∙ simp (ne_eqb (get_or d (get_or l i 0) 0) 0x82 e))

  module _ {r : Option ℕ} {name : List ℕ} (h : i < length l) (e : get_or d (get_or l i 0) 0 ≡ 0x82) (m : name ≡ name_at d (get_or l i 0))
      (f : r ≡ find (is_named d name) (take (length l - (i + 1)) (drop (i + 1) l))) where
    abbrev test : ℕ → Bool
    test = is_named d (name_at d (get_or l i 0))

    first : r ≡ find test (drop (i + 1) l)
    first = rw (m, tail_drop (i + 1)) at f

    pub test_twice : {q : Bool} → q ≡ is_some r → q ≡ true → false ≡ entries_good d l
    unfolding entries_good
    test_twice k g =
        let a : some test (drop (i + 1) l) ≡ true = sym (found_some test (drop (i + 1) l)) ∙ ap is_some (sym first) ∙ sym k ∙ g in
        sym (unrolled h ∙ simp (eq-eqb (get_or d (get_or l i 0) 0) 0x82 e, a))

    pub test_turn : {q : Bool} → q ≡ is_some r → q ≡ false → Testing d l (i + 1)
    unfolding entries_good
    test_turn k g =
        let a : some test (drop (i + 1) l) ≡ false = sym (found_some test (drop (i + 1) l)) ∙ ap is_some (sym first) ∙ sym k ∙ g in
        record { within = omega arith; entries = t.entries; tests = sym (unrolled h ∙ simp (eq-eqb (get_or d (get_or l i 0) 0) 0x82 e, a)) }

  pub test_end : length l ≤ i → true ≡ entries_good d l
  unfolding entries_good
  test_end h = rw (drop_of_length-le l {i = i} h) at t.tests

-- ---- an entry stands on the disk

module _ (d : List ℕ) {l : List ℕ} {i : ℕ} (e : Entries l) (s : length d ≡ 174848) (h : i < length l) where
  pub entry_in_lem : get_or l i 0 + 30 ≤ length d
  entry_in_lem = omega (arith, e.within i h)

  pub entry_first : get_or l i 0 < length d
  entry_first = omega (arith, e.within i h)
