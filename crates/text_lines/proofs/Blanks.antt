-- Blanks in front of a text: which bytes they are, how they are passed, and what they do not change.
-- Assumes nothing.
use Prim.Native.Nat.{ℕ, zero, suc, ◌+◌, ◌-◌, ◌≤◌, ◌<◌}
use mathlib.Core.Path.{◌≡◌, refl, sym, ap, ◌∙◌, subst}
use mathlib.Core.Bool.{Bool, true, false, not, ◌||◌}
use mathlib.Core.List.{List, [], ◌∷◌}
use native.Mathlib.Numerals.{unary_clauses}
use native.Mathlib.Omega.{arith}
use lib.Dec.{eqb}
use lib.ListN.{length, get_or, take, drop}
use borrow.Author.Tests.{eqb-true, eq-eqb, not-false}
use Rattle.base_ascii.specs.Bytes.{between, is_space}
use Rattle.base_ascii.specs.Search.{equals, is_white, is_blank, front}
use Rattle.base_ascii.proofs.Searching.{Onward, onward_start, onward_wider, passes_all, run_turn, from_end, from_found, front_nil, front_more, front_none}
use Rattle.text_lines.specs.SplitHelpers.{run_end}

-- ---- one byte

-- what holds of each of the three holds of a blank
blank_each : (P : ℕ → Type 0) → P 0x20 → P 0x09 → P 0x0C → (b : ℕ) → is_blank b ≡ true → P b
blank_each P x y z b e = go (eqb b 0x20) refl (eqb b 0x09) refl e
  where
    go : (r : Bool) → eqb b 0x20 ≡ r → (s : Bool) → eqb b 0x09 ≡ s → (r || (s || eqb b 0x0C)) ≡ true → P b
    go true p s q f = subst P (sym (eqb-true _ _ p)) x
    go false p true q f = subst P (sym (eqb-true _ _ q)) y
    go false p false q f = subst P (sym (eqb-true _ _ f)) z

pub blank_lf : (b : ℕ) → is_blank b ≡ true → eqb b 0x0A ≡ false
blank_lf = blank_each (λ b. eqb b 0x0A ≡ false) refl refl refl

pub blank_cr : (b : ℕ) → is_blank b ≡ true → eqb b 0x0D ≡ false
blank_cr = blank_each (λ b. eqb b 0x0D ≡ false) refl refl refl

-- a blank is white space of trimming, and of the dialect guess
pub blank_trimmed : (b : ℕ) → is_blank b ≡ true → is_space b ≡ true
unfolding between
blank_trimmed = blank_each (λ b. is_space b ≡ true) refl refl refl

pub blank_white : (b : ℕ) → is_blank b ≡ true → is_white b ≡ true
unfolding between
blank_white = blank_each (λ b. is_white b ≡ true) refl refl refl

-- ---- from a place on

-- one more of a run, and those that are passed behind it
pub run_on_lem : {t : List ℕ} {b from i : ℕ} (n : ℕ) → run_end b t n ≡ run_end b t (i + 1) → get_or t i 0 ≡ b → i < length t → Onward (front (equals b)) t from i
    → run_end b t n ≡ run_end b t from
run_on_lem {b = b} n run e h o = run ∙ (run_turn b e h o).gives

-- four more of it
pub run_four : (b : ℕ) {s : List ℕ} {from i : ℕ} → get_or s (i + 3) 0 ≡ b → get_or s (i + 2) 0 ≡ b → get_or s (i + 1) 0 ≡ b → get_or s i 0 ≡ b → 4 ≤ length s - i
    → Onward (front (equals b)) s from i → Onward (front (equals b)) s from (i + 4)
run_four b {s} {i = i} d c a e h = passes_all (equals b) 4 each (omega arith)
  where
    each : (k : ℕ) → k < 4 → equals b (get_or s (i + k) 0) ≡ true
    each zero l = simp unary_clauses (eq-eqb _ _ e)
    each (suc zero) l = eq-eqb _ _ a
    each (suc (suc zero)) l = eq-eqb _ _ c
    each (suc (suc (suc zero))) l = eq-eqb _ _ d
    each (suc (suc (suc (suc k)))) l = absurd (omega arith)

module _ (t : List ℕ) (from : ℕ) where
  pub blanks_beyond : length t ≤ from → from ≡ from + front is_blank (drop from t)
  blanks_beyond h = from_end is_blank h (onward_start (front is_blank) t from)

  pub blanks_none : {r : Bool} → not r ≡ true → r ≡ is_blank (get_or t from 0) → from < length t → from ≡ from + front is_blank (drop from t)
  blanks_none e q h = from_found is_blank e q h (onward_start (front is_blank) t from)

  -- a run of one blank is passed first, or a part of it
  pub blanks_run : {n : ℕ} {r : Bool} → run_end (get_or t from 0) t n ≡ run_end (get_or t from 0) t (from + 1) → not r ≡ false → r ≡ is_blank (get_or t from 0) → from < length t
      → Onward (front is_blank) t from n
  blanks_run {n} {r} run e q h =
      let b = get_or t from 0 in
      let blank : is_blank b ≡ true = sym q ∙ not-false r e in
      let o : Onward (front (equals b)) t from n = record { gives = run_on_lem n run refl h (onward_start (front (equals b)) t from) } in
      onward_wider is_blank (equals b) (λ x p. ap is_blank (eqb-true x b p) ∙ blank) o

-- ---- what one blank in front does not change, all of them in front of a line do not

module _ {A : Type 0} (P : List ℕ → A) (same : (b : ℕ) (l : List ℕ) → is_blank b ≡ true → P (b ∷ l) ≡ P l) where
  pub past_blanks : (s : List ℕ) (n : ℕ) → front is_blank s ≤ n → P (take (n - front is_blank s) (drop (front is_blank s) s)) ≡ P (take n s)
  past_blanks [] n h = rw front_nil (let e : n - 0 ≡ n = omega arith in ap (λ (m : ℕ). P (take m [])) e)
  past_blanks (b ∷ s) n h = go (is_blank b) refl n h (past_blanks s)
    where
      go : (r : Bool) → is_blank b ≡ r → (n : ℕ) → front is_blank (b ∷ s) ≤ n
          → ((m : ℕ) → front is_blank s ≤ m → P (take (m - front is_blank s) (drop (front is_blank s) s)) ≡ P (take m s))
          → P (take (n - front is_blank (b ∷ s)) (drop (front is_blank (b ∷ s)) (b ∷ s))) ≡ P (take n (b ∷ s))
      go true q zero h f = absurd (omega (arith, front_more is_blank b s q))
      go true q (suc m) h f =
          let e : suc m - suc (front is_blank s) ≡ m - front is_blank s = omega arith in
          rw (front_more is_blank b s q) (rw e (f m (omega (arith, front_more is_blank b s q)) ∙ sym (same b (take m s) q)))
      go false q n h f =
          let e : n - 0 ≡ n = omega arith in
          rw (front_none is_blank b s q) (ap (λ (m : ℕ). P (take m (b ∷ s))) e)
