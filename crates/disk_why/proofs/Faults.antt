-- The first fault of a list, and of each rule: the loops' invariants, a turn, and their ends.
-- Assumes nothing.
use Prim.Native.Nat.{ℕ, zero, suc, ◌+◌, ◌-◌, ◌*◌, ◌≤◌, ◌<◌}
use mathlib.Core.Path.{◌≡◌, refl, sym, ap, ◌∙◌, fun_ext}
use mathlib.Core.Bool.{Bool, true, false, not, cond}
use mathlib.Core.List.{List, [], ◌∷◌}
use lib.ListN.{length, get_or, take, drop, replicate, drop_of_length-le, length-drop}
use lib.Seq.{drop-cons, get_or-drop, take_all}
use native.Mathlib.Numerals.{add-one}
use native.Mathlib.Omega.{arith}
use borrow.Author.Tests.{eq-eqb, ne_eqb, lt-ltb, le-ltb, not-true, not-false}
use Rattle.disk_rules.specs.Places.{sectors_on, sectors_before}
use Rattle.disk_rules.specs.Lists.{numbers_from, those}
use Rattle.disk_rules.specs.Map.{bit_at}
use Rattle.disk_rules.specs.Free.{bit_agrees}
use Rattle.disk_rules.specs.Entries.{name_at, is_named}
use Rattle.disk_chains.proofs.Mapping.{agrees_18, agrees_beyond, agrees_met, agrees_free}
use Rattle.disk_entries.specs.EntryHelpers.{Entries}
use Rattle.std.specs.Prelude.{Option, Some, None, find}
use Rattle.disk_ways.specs.Ways.{none_met, sectors_over, Way, way_of, ends_as}
use Rattle.disk_ways.specs.declared.Over.TheVariants.{Files}
use Rattle.disk_ways.specs.declared.Stop.{Stop}
use Rattle.disk_why.specs.Why.{is_nothing, or_else, first_fault, same_fault, entry_fault, file_fault, alone_fault, met_behind, crossed_fault, met_by, bit_fault}
use Rattle.disk_why.specs.BrokenHelpers.{Crosses, Crossed}
use Rattle.disk_why.specs.declared.Broken.{Broken}
use Rattle.disk_why.specs.declared.Broken.TheVariants.{Nothing, NotClosed, SameName, File, Free, Used, Beyond}

never : {A : Type 0} → ◌≡◌ {A = Bool} false true → A
never e = absurd (let z : ◌≡◌ {A = ℕ} 0 1 = cc in omega arith)

-- ---- the first fault of a list

module _ (f : ℕ → Broken) (n : ℕ) (ns : List ℕ) {goal : Broken} (h : first_fault f (n ∷ ns) ≡ goal) {r : Broken} {q : Bool} (e : r ≡ f n) (g : q ≡ is_nothing r) where
  first_found : not q ≡ true → r ≡ goal
  unfolding first_fault
  first_found i = let k : is_nothing (f n) ≡ false = sym (rw e at g) ∙ not-true q i in e ∙ (simp k at h)

  first_turn : not q ≡ false → first_fault f ns ≡ goal
  unfolding first_fault
  first_turn i = let k : is_nothing (f n) ≡ true = sym (rw e at g) ∙ not-false q i in simp k at h

-- ---- each entry's chain alone

pub record Alone (d l : List ℕ) (i : ℕ) : Type 0 where
  pub within : i ≤ length l
  pub entries : Entries l
  pub gives : alone_fault d (drop i l) ≡ alone_fault d l

pub alone_start : (d : List ℕ) {l : List ℕ} → Entries l → Alone d l 0
alone_start d e = record { within = omega arith; entries = e; gives = refl }

module _ {d l : List ℕ} {i : ℕ} (a : Alone d l i) where
  pub alone_room : i < length l → get_or l i 0 + 30 ≤ 174848
  alone_room h = a.entries.within i h

  module _ (h : i < length l) {r : Broken} {q : Bool} (e : r ≡ file_fault d none_met (get_or l i 0)) (g : q ≡ is_nothing r) where
    here : first_fault (file_fault d none_met) (get_or l i 0 ∷ drop (suc i) l) ≡ alone_fault d l
    here = rw (drop-cons l i 0 h) at a.gives

    pub alone_found : not q ≡ true → r ≡ alone_fault d l
    alone_found j = first_found (file_fault d none_met) (get_or l i 0) (drop (suc i) l) here e g j

    pub alone_turn : not q ≡ false → Alone d l (i + 1)
    alone_turn j =
        record {
          within = omega arith;
          entries = a.entries;
          gives = rw add-one (first_turn (file_fault d none_met) (get_or l i 0) (drop (suc i) l) here e g j);
        }

  pub alone_end : length l ≤ i → Nothing ≡ alone_fault d l
  unfolding first_fault
  alone_end h = rw (drop_of_length-le l {i = i} h) at a.gives

-- ---- an entry's type and name

module _ (test : ℕ → Bool) (p : ℕ) where
  same_first : (l : List ℕ) {q : ℕ} → find test l ≡ Some q → same_fault p (those test l) ≡ SameName p q
  unfolding those
  same_first [] e = absurd (cc)
  same_first (n ∷ l) {q} e = go (test n) (same_first l) e where
    go : (b : Bool) → (find test l ≡ Some q → same_fault p (those test l) ≡ SameName p q) → cond b (Some n) (find test l) ≡ Some q
        → same_fault p (cond b (n ∷ those test l) (those test l)) ≡ SameName p q
    go true k f = let z : n ≡ q = cc in ap (SameName p) z
    go false k f = k f

  same_none : (l : List ℕ) → find test l ≡ None → same_fault p (those test l) ≡ Nothing
  unfolding those
  same_none [] e = refl
  same_none (n ∷ l) e = go (test n) (same_none l) e where
    go : (b : Bool) → (find test l ≡ None → same_fault p (those test l) ≡ Nothing) → cond b (Some n) (find test l) ≡ None
        → same_fault p (cond b (n ∷ those test l) (those test l)) ≡ Nothing
    go true k f = absurd (cc)
    go false k f = k f

pub record Testing (d l : List ℕ) (i : ℕ) : Type 0 where
  pub within : i ≤ length l
  pub entries : Entries l
  pub gives : entry_fault d (drop i l) ≡ entry_fault d l

pub test_start : (d : List ℕ) {l : List ℕ} → Entries l → Testing d l 0
test_start d e = record { within = omega arith; entries = e; gives = refl }

module _ {d l : List ℕ} {i : ℕ} (t : Testing d l i) where
  tail_drop : (j : ℕ) → take (length l - j) (drop j l) ≡ drop j l
  tail_drop j = take_all (length l - j) (drop j l) (omega (arith, length-drop j l))

  pub test_tail : (j : ℕ) → Entries (take (length l - j) (drop j l))
  test_tail j =
      rw (tail_drop j) (record { within = λ k h. rw (get_or-drop j l k 0) (t.entries.within (j + k) (omega (arith, length-drop j l))) })

  unrolled : i < length l → entry_fault d (get_or l i 0 ∷ drop (i + 1) l) ≡ entry_fault d l
  unrolled h = rw (add-one, ← drop-cons l i 0 h) t.gives

  pub test_type : i < length l → (get_or d (get_or l i 0) 0 ≡ 0x82 → ⊥) → NotClosed (get_or l i 0) ≡ entry_fault d l
  unfolding entry_fault
  test_type h e = simp (ne_eqb (get_or d (get_or l i 0) 0) 0x82 e) at (unrolled h)

  module _ {r : Option ℕ} {name : List ℕ} (h : i < length l) (e : get_or d (get_or l i 0) 0 ≡ 0x82) (m : name ≡ name_at d (get_or l i 0))
      (f : r ≡ find (is_named d name) (take (length l - (i + 1)) (drop (i + 1) l))) where
    first : r ≡ find (is_named d (name_at d (get_or l i 0))) (drop (i + 1) l)
    first = rw (m, tail_drop (i + 1)) at f

    pub test_twice : {q : ℕ} → r ≡ Some q → SameName (get_or l i 0) q ≡ entry_fault d l
    unfolding entry_fault
    test_twice {q} g =
        let a : same_fault (get_or l i 0) (those (is_named d (name_at d (get_or l i 0))) (drop (i + 1) l)) ≡ SameName (get_or l i 0) q =
        same_first (is_named d (name_at d (get_or l i 0))) (get_or l i 0) (drop (i + 1) l) (sym first ∙ g)
        in
        simp (eq-eqb (get_or d (get_or l i 0) 0) 0x82 e, a) at (unrolled h)

    pub test_turn : r ≡ None → Testing d l (i + 1)
    unfolding entry_fault
    test_turn g =
        let a : same_fault (get_or l i 0) (those (is_named d (name_at d (get_or l i 0))) (drop (i + 1) l)) ≡ Nothing =
        same_none (is_named d (name_at d (get_or l i 0))) (get_or l i 0) (drop (i + 1) l) (sym first ∙ g)
        in
        record { within = omega arith; entries = t.entries; gives = simp (eq-eqb (get_or d (get_or l i 0) 0) 0x82 e, a) at (unrolled h) }

  pub test_end : length l ≤ i → Nothing ≡ entry_fault d l
  unfolding entry_fault
  test_end h = rw (drop_of_length-le l {i = i} h) at t.gives

-- an entry stands on the disk
module _ (d : List ℕ) {l : List ℕ} {i : ℕ} (e : Entries l) (s : length d ≡ 174848) (h : i < length l) where
  pub entry_in_lem : get_or l i 0 + 30 ≤ length d
  entry_in_lem = omega (arith, e.within i h)

  pub entry_first : get_or l i 0 < length d
  entry_first = omega (arith, e.within i h)

-- ---- one chain

-- the marks of a disk's 683 sectors are enough
pub marks_enough : {n : ℕ} → 683 ≤ n → sectors_over Files ≤ n
unfolding sectors_before
marks_enough h = h

pub disk_enough : {n : ℕ} → n ≡ 174848 → 256 * sectors_over Files ≤ n
unfolding sectors_before
disk_enough e = omega arith

blank_at : (k n : ℕ) → get_or (replicate k false) n false ≡ false
blank_at zero n = refl
blank_at (suc k) zero = refl
blank_at (suc k) (suc n) = blank_at k n

-- no mark is made yet
pub blank : (λ m. get_or (replicate 683 false) m false) ≡ none_met
blank = fun_ext (blank_at 683)

module _ (d : List ℕ) (p : ℕ) {r : Stop} {after : List Bool} {q : Bool}
    (x : Crosses (way_of Files 683 d (λ m. get_or (replicate 683 false) m false) p) (replicate 683 false) r after) (e : q ≡ ends_as false r) where
  stops : r ≡ (way_of Files 683 d none_met p).stop
  stops = rw blank at x.stop

  pub ends_nothing : q ≡ true → Nothing ≡ file_fault d none_met p
  unfolding file_fault
  ends_nothing g = let k : ends_as false (way_of Files 683 d none_met p).stop ≡ true = sym (rw stops at e) ∙ g in rw k

  pub ends_fault : q ≡ false → File p r ≡ file_fault d none_met p
  unfolding file_fault
  ends_fault g = let k : ends_as false (way_of Files 683 d none_met p).stop ≡ false = sym (rw stops at e) ∙ g in rw k (ap (File p) stops)

-- ---- the chains together

abbrev pub marked_in : List Bool → ℕ → Bool
marked_in marks m = get_or marks m false

pub record Crossing (d l : List ℕ) (marks₀ marks : List Bool) (i : ℕ) : Type 0 where
  pub within : i ≤ length l
  pub entries : Entries l
  pub room : 683 ≤ length marks₀
  pub long : length marks ≡ length marks₀
  pub gives : crossed_fault d (marked_in marks) (drop i l) ≡ crossed_fault d (marked_in marks₀) l
  pub meets : met_by d (marked_in marks) (drop i l) ≡ met_by d (marked_in marks₀) l

pub cross_start : (d : List ℕ) {l : List ℕ} {marks : List Bool} → Entries l → 683 ≤ length marks → Crossing d l marks marks 0
cross_start d e h = record { within = omega arith; entries = e; room = h; long = refl; gives = refl; meets = refl }

module _ {d l : List ℕ} {marks₀ marks : List Bool} {i : ℕ} (c : Crossing d l marks₀ marks i) where
  pub cross_room : i < length l → get_or l i 0 + 30 ≤ 174848
  cross_room h = c.entries.within i h

  pub cross_marks : 683 ≤ length marks
  cross_marks = omega (arith, c.room, c.long)

  module _ (h : i < length l) {r : Stop} {after : List Bool} {q : Bool} (x : Crosses (way_of Files 683 d (marked_in marks) (get_or l i 0)) marks r after) (e : q ≡ ends_as false r) where
    abbrev this : Way
    this = way_of Files 683 d (marked_in marks) (get_or l i 0)

    ends : ends_as false this.stop ≡ q
    ends = sym (rw x.stop at e)

    pub cross_found : not q ≡ true → Crossed d l marks₀ (File (get_or l i 0) r) after
    unfolding crossed_fault file_fault
    cross_found g =
        let k : ends_as false this.stop ≡ false = ends ∙ not-true q g in
        let here : crossed_fault d (marked_in marks) (get_or l i 0 ∷ drop (suc i) l) ≡ crossed_fault d (marked_in marks₀) l = rw (drop-cons l i 0 h) at c.gives in
        record {
          fault = rw x.stop (simp k at here);
          sized = x.sized ∙ c.long;
          marked = λ z. never z;
        }

    met : marked_in after ≡ met_behind d (marked_in marks) (get_or l i 0)
    met = fun_ext x.marked

    pub cross_turn : not q ≡ false → Crossing d l marks₀ after (i + 1)
    unfolding crossed_fault file_fault met_by
    cross_turn g =
        let k : ends_as false this.stop ≡ true = ends ∙ not-false q g in
        let here : crossed_fault d (marked_in marks) (get_or l i 0 ∷ drop (suc i) l) ≡ crossed_fault d (marked_in marks₀) l = rw (drop-cons l i 0 h) at c.gives in
        let also : met_by d (marked_in marks) (get_or l i 0 ∷ drop (suc i) l) ≡ met_by d (marked_in marks₀) l = rw (drop-cons l i 0 h) at c.meets in
        record {
          within = omega arith;
          entries = c.entries;
          room = c.room;
          long = x.sized ∙ c.long;
          gives = rw add-one (ap (λ (m : ℕ → Bool). crossed_fault d m (drop (suc i) l)) met ∙ (simp k at here));
          meets = rw add-one (ap (λ (m : ℕ → Bool). met_by d m (drop (suc i) l)) met ∙ also);
        }

  pub cross_end : length l ≤ i → Crossed d l marks₀ Nothing marks
  unfolding crossed_fault met_by
  cross_end h =
      let z : drop i l ≡ [] = drop_of_length-le l {i = i} h in
      let e : marked_in marks ≡ met_by d (marked_in marks₀) l = rw z at c.meets in
      record { fault = rw z at c.gives; sized = c.long; marked = λ y m. ap (λ (f : ℕ → Bool). f m) e }

-- ---- the map

module _ (d : List ℕ) (marks : List Bool) (t s : ℕ) where
  abbrev agrees : Bool
  agrees = bit_agrees d (marked_in marks) t s

  agreed : agrees ≡ true → Nothing ≡ bit_fault d (marked_in marks) t s
  unfolding bit_fault
  agreed e = rw e

  pub bit_18 : t ≡ 18 → Nothing ≡ bit_fault d (marked_in marks) t s
  bit_18 e = agreed (sym (agrees_18 d marks t s e))

  module _ (z : t ≡ 18 → ⊥) {b n : ℕ} (e : b ≡ bit_at d t s) (o : b ≤ 1) (f : n ≡ sectors_on t) where
    pub beyond_fine : n ≤ s → b ≡ 0 → Nothing ≡ bit_fault d (marked_in marks) t s
    beyond_fine h i = agreed (sym (agrees_beyond d marks t s z e f h) ∙ eq-eqb b 0 i)

    pub beyond_told : n ≤ s → (b ≡ 0 → ⊥) → Beyond t s ≡ bit_fault d (marked_in marks) t s
    unfolding bit_fault
    beyond_told h i =
        let a : agrees ≡ false = sym (agrees_beyond d marks t s z e f h) ∙ ne_eqb b 0 i in
        let g : sectors_on t ≤ s = omega arith in
        rw (a, le-ltb s (sectors_on t) g)

    module _ {m : ℕ} (h : s < n) (j : m ≡ sectors_before t) where
      on : s < sectors_on t
      on = omega arith

      pub met_fine : get_or marks (m + s) false ≡ true → b ≡ 0 → Nothing ≡ bit_fault d (marked_in marks) t s
      met_fine k i = agreed (sym (agrees_met d marks t s z e f h j k) ∙ eq-eqb b 0 i)

      pub met_told : get_or marks (m + s) false ≡ true → (b ≡ 0 → ⊥) → Free t s ≡ bit_fault d (marked_in marks) t s
      unfolding bit_fault
      met_told k i =
          let a : agrees ≡ false = sym (agrees_met d marks t s z e f h j k) ∙ ne_eqb b 0 i in
          let w : bit_at d t s ≡ 1 = by (b) refl in
          rw (a, lt-ltb s (sectors_on t) on, eq-eqb (bit_at d t s) 1 w) where
            by : (x : ℕ) → b ≡ x → bit_at d t s ≡ 1
            by zero y = absurd (i y)
            by (suc x) y = omega arith

      pub free_fine : get_or marks (m + s) false ≡ false → b ≡ 1 → Nothing ≡ bit_fault d (marked_in marks) t s
      free_fine k i = agreed (sym (agrees_free d marks t s z e f h j k) ∙ eq-eqb b 1 i)

      pub free_told : get_or marks (m + s) false ≡ false → (b ≡ 1 → ⊥) → Used t s ≡ bit_fault d (marked_in marks) t s
      unfolding bit_fault
      free_told k i =
          let a : agrees ≡ false = sym (agrees_free d marks t s z e f h j k) ∙ ne_eqb b 1 i in
          let w : bit_at d t s ≡ 1 → ⊥ = λ y. i (e ∙ y) in
          rw (a, lt-ltb s (sectors_on t) on, ne_eqb (bit_at d t s) 1 w)

pub record Mapping (f : ℕ → Broken) (goal : Broken) (i : ℕ) : Type 0 where
  pub within : i ≤ 840
  pub gives : first_fault f (numbers_from i (840 - i)) ≡ goal

pub map_start : (f : ℕ → Broken) → Mapping f (first_fault f (numbers_from 0 840)) 0
map_start f = record { within = omega arith; gives = refl }

module _ {f : ℕ → Broken} {goal : Broken} {i : ℕ} (m : Mapping f goal i) where
  module _ (h : i < 840) {r : Broken} {q : Bool} (e : r ≡ f i) (g : q ≡ is_nothing r) where
    run : first_fault f (i ∷ numbers_from (i + 1) (840 - (i + 1))) ≡ goal
    unfolding numbers_from
    run = let k : 840 - i ≡ suc (840 - (i + 1)) = omega arith in rw k at m.gives

    pub map_found : not q ≡ true → r ≡ goal
    map_found j = first_found f i (numbers_from (i + 1) (840 - (i + 1))) run e g j

    pub map_turn : not q ≡ false → Mapping f goal (i + 1)
    map_turn j = record { within = omega arith; gives = first_turn f i (numbers_from (i + 1) (840 - (i + 1))) run e g j }

  pub map_end : 840 ≤ i → Nothing ≡ goal
  unfolding numbers_from first_fault
  map_end h = let z : 840 - i ≡ 0 = omega arith in rw z at m.gives

-- ---- one rule behind the other

module _ {a : Broken} (b : Broken) {r : Broken} {q : Bool} (e : r ≡ a) (g : q ≡ is_nothing r) where
  pub or_first : not q ≡ true → r ≡ or_else a b
  or_first h = let k : is_nothing a ≡ false = sym (rw e at g) ∙ not-true q h in e ∙ rw k

  pub or_next : not q ≡ false → b ≡ or_else a b
  or_next h = let k : is_nothing a ≡ true = sym (rw e at g) ∙ not-false q h in rw k
