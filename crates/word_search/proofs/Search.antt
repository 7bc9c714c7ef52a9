-- The search over a stored list: its loop's invariant, a turn, and its ends; for every test of a word.
-- Assumes nothing.
use Prim.Native.Nat.{ℕ, zero, suc, ◌+◌, ◌-◌, ◌≤◌, ◌<◌}
use mathlib.Core.Path.{◌≡◌, refl, sym, ap, ◌∙◌}
use mathlib.Core.Bool.{Bool, true, false, ◌&&◌}
use mathlib.Core.List.{List}
use native.Mathlib.Numerals.{add-one}
use native.Mathlib.Omega.{arith}
use lib.Dec.{T}
use Rattle.word_search.specs.Compare.{passes}
use Rattle.word_search.specs.RunHelpers.{Lies, Ready, Stored, word_of, passes_at, first_from}
use Rattle.word_search.specs.declared.Section.{Section}
use Rattle.word_search.specs.declared.Test.{Test}

pub and_left : (a b : Bool) → T (a && b) → T a
and_left true b t = tt
and_left false b t = t

pub and_right : (a b : Bool) → T (a && b) → T b
and_right true b t = t
and_right false b t = absurd t

-- ---- the first place that passes

module _ (p : ℕ → Bool) where
  -- at a place that passes, at one that does not, and at the end
  pub first_here : (i to : ℕ) → i < to → p i ≡ true → first_from p i (to - i) ≡ i
  unfolding first_from
  first_here i to h e = let n : to - i ≡ suc (to - (i + 1)) = omega arith in rw (n, first_from, e)

  pub first_next : (i to : ℕ) → i < to → p i ≡ false → first_from p i (to - i) ≡ first_from p (i + 1) (to - (i + 1))
  unfolding first_from
  first_next i to h e = let n : to - i ≡ suc (to - (i + 1)) = omega arith in rw (n, first_from, e, add-one)

  pub first_none : (i to : ℕ) → to ≤ i → first_from p i (to - i) ≡ i
  unfolding first_from
  first_none i to h = let n : to - i ≡ 0 = omega arith in rw n

  -- it stands within the places that are gone through
  pub first_from_lem : (i n : ℕ) → i ≤ first_from p i n
  unfolding first_from
  first_from_lem i zero = omega arith
  first_from_lem i (suc n) = go (p i) (first_from_lem (suc i) n)
    where
      go : (b : Bool) → suc i ≤ first_from p (suc i) n → i ≤ elim b [ true ↦ i | false ↦ first_from p (suc i) n ]
      go true h = omega arith
      go false h = omega arith

  pub first_to : (i n : ℕ) → first_from p i n ≤ i + n
  unfolding first_from
  first_to i zero = omega arith
  first_to i (suc n) = go (p i) (first_to (suc i) n)
    where
      go : (b : Bool) → first_from p (suc i) n ≤ suc i + n → elim b [ true ↦ i | false ↦ first_from p (suc i) n ] ≤ i + suc n
      go true h = omega arith
      go false h = omega arith

  -- where it is one of them, it passes
  pub first_passes : (i n : ℕ) → first_from p i n < i + n → p (first_from p i n) ≡ true
  unfolding first_from
  first_passes i zero h = absurd (omega arith)
  first_passes i (suc n) h = go (p i) refl h (first_passes (suc i) n)
    where
      go : (b : Bool) → p i ≡ b → elim b [ true ↦ i | false ↦ first_from p (suc i) n ] < i + suc n
          → (first_from p (suc i) n < suc i + n → p (first_from p (suc i) n) ≡ true) → p (elim b [ true ↦ i | false ↦ first_from p (suc i) n ]) ≡ true
      go true e l f = e
      go false e l f = f (omega arith)

  -- a stricter test finds the same from the first place on that passes the other
  pub first_skip : (q : ℕ → Bool) → ((k : ℕ) → p k ≡ false → q k ≡ false) → (i n : ℕ) → first_from q i n ≡ first_from q (first_from p i n) (i + n - first_from p i n)
  unfolding first_from
  first_skip q s i zero = let e : i + 0 - i ≡ 0 = omega arith in rw e
  first_skip q s i (suc n) = go (p i) refl (first_skip q s (suc i) n)
    where
      end : suc i + n ≡ i + suc n
      end = omega arith

      go : (b : Bool) → p i ≡ b → first_from q (suc i) n ≡ first_from q (first_from p (suc i) n) (suc i + n - first_from p (suc i) n)
          → first_from q i (suc n) ≡ first_from q (elim b [ true ↦ i | false ↦ first_from p (suc i) n ]) (i + suc n - elim b [ true ↦ i | false ↦ first_from p (suc i) n ])
      go true e h = let m : i + suc n - i ≡ suc n = omega arith in rw m
      go false e h = rw (first_from, s i e) (h ∙ ap (λ (m : ℕ). first_from q (first_from p (suc i) n) (m - first_from p (suc i) n)) end)

-- ---- the loop: the places passed do not pass the test

pub record Sought (p : ℕ → Bool) (from to i : ℕ) : Type 0 where
  pub up : from ≤ i
  pub within : i ≤ to
  pub gives : first_from p i (to - i) ≡ first_from p from (to - from)

module _ {t b s : List ℕ} {section : Section} {n : ℕ} where
  pub sought_start : (p : ℕ → Bool) → Stored t b s section n → Sought p section.from section.to section.from
  sought_start p k = record { up = omega arith; within = k.up; gives = refl }

  module _ {p : ℕ → Bool} {i : ℕ} where
    pub sought_lies : i < section.to → Sought p section.from section.to i → Stored t b s section n → Lies b s i
    sought_lies h k st = st.lie _ k.up h

    pub sought_ready : {x : List ℕ} → x ≡ word_of b s i → i < section.to → Sought p section.from section.to i → Stored t b s section n → Ready x t n
    sought_ready e h k st = rw e (st.ready _ k.up h)

pub sought_end : {p : ℕ → Bool} {from to i : ℕ} → to ≤ i → Sought p from to i → to ≡ first_from p from (to - from)
sought_end {to} {i} h k = let e : to ≡ i = omega arith in e ∙ sym (first_none _ _ _ h) ∙ k.gives

module _ (test : Test) (text b s : List ℕ) {x : List ℕ} {r : Bool} {from to i : ℕ} where
  pub sought_found : r ≡ true → r ≡ passes test x text → x ≡ word_of b s i → i < to → Sought (passes_at test text b s) from to i → i ≡ first_from (passes_at test text b s) from (to - from)
  unfolding passes_at
  sought_found t q e h k = sym (first_here (passes_at test text b s) i to h (ap (λ (w : List ℕ). passes test w text) (sym e) ∙ sym q ∙ t)) ∙ k.gives

  pub sought_turn : r ≡ false → r ≡ passes test x text → x ≡ word_of b s i → i < to → Sought (passes_at test text b s) from to i → Sought (passes_at test text b s) from to (i + 1)
  unfolding passes_at
  sought_turn t q e h k =
      let n = first_next (passes_at test text b s) i to h (ap (λ (w : List ℕ). passes test w text) (sym e) ∙ sym q ∙ t) in
      record { up = omega arith; within = omega arith; gives = sym n ∙ k.gives }
