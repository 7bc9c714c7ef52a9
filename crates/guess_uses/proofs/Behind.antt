-- What stands behind a word: the loop over a list in parentheses, and an assignment.
-- Assumes nothing.
use Prim.Native.Nat.{ℕ, zero, suc, ◌+◌, ◌-◌, ◌≤◌, ◌<◌}
use mathlib.Core.Path.{◌≡◌, sym, ap, ◌∙◌}
use mathlib.Core.Bool.{Bool, true, false}
use mathlib.Core.List.{List, [], ◌∷◌}
use native.Mathlib.Omega.{arith}
use lib.Dec.{eqb}
use lib.ListN.{length, get_or, take, drop, length-drop, drop_of_length-le}
use borrow.Author.Tests.{eq-eqb, ne_eqb}
use mir.Syntax.{w64}
use mir.Val.{Fits}
use Rattle.base_ascii.specs.Search.{of_kind, starts_with, front, past}
use Rattle.base_ascii.specs.declared.search.Kind.{Kind}
use Rattle.base_ascii.proofs.Searching.{tail, here, starts_long}
use Rattle.base_ascii.proofs.Choice.{taken, left}
use Rattle.guess_uses.specs.Ahead.{closing, behind_list, assigns}
use Rattle.guess_uses.specs.MarkHelpers.{equals_ahead}

-- what is left of a text from a place on, as it is lent
abbrev pub rest : List ℕ → ℕ → List ℕ
rest t a = take (length t - a) (drop a t)

pub rest_long : (t : List ℕ) (a : ℕ) → length (rest t a) ≡ length t - a
rest_long t a = ap length (tail t a) ∙ length-drop a t

pub rest_some : (t : List ℕ) {a : ℕ} → a < length t → 0 < length (rest t a)
rest_some t {a} h = omega (arith, rest_long t a)

-- ---- a byte of a list

module _ (b : ℕ) (s : List ℕ) where
  pub close_last : b ≡ 0x29 → closing 0 (b ∷ s) ≡ 1
  unfolding closing
  close_last e = taken _ _ (eq-eqb _ _ e)

  pub close_one : (d : ℕ) → b ≡ 0x29 → closing (suc d) (b ∷ s) ≡ suc (closing d s)
  unfolding closing
  close_one d e = taken _ _ (eq-eqb _ _ e)

  pub open_one : (d : ℕ) → (b ≡ 0x29 → ⊥) → b ≡ 0x28 → closing d (b ∷ s) ≡ suc (closing (suc d) s)
  unfolding closing
  open_one d n e = left _ _ (ne_eqb _ _ n) ∙ taken _ _ (eq-eqb _ _ e)

  pub keep : (d : ℕ) → (b ≡ 0x29 → ⊥) → (b ≡ 0x28 → ⊥) → closing d (b ∷ s) ≡ suc (closing d s)
  unfolding closing
  keep d n m = left _ _ (ne_eqb _ _ n) ∙ left _ _ (ne_eqb _ _ m)

-- ---- the loop

-- i bytes of the list passed, so many lists being open within it
pub record Listed (s : List ℕ) (depth i : ℕ) : Type 0 where
  pub within : i ≤ length s
  pub shallow : depth ≤ i
  pub gives : i + closing depth (drop i s) ≡ closing 0 s

pub listed_start : (s : List ℕ) → Listed s 0 0
listed_start s = record { within = omega arith; shallow = omega arith; gives = omega arith }

module _ {s : List ℕ} {depth i : ℕ} where
  pub listed_told : length s ≤ i → i ≤ length s → Listed s depth i → length s ≡ closing 0 s
  unfolding closing
  listed_told h g k = let e : closing depth (drop i s) ≡ 0 = rw (drop_of_length-le s h) in omega arith

  pub listed_closed : depth ≡ 0 → get_or s i 0 ≡ 0x29 → i < length s → Listed s depth i → i + 1 ≡ closing 0 s
  listed_closed z e h k =
      let c : closing depth (drop i s) ≡ 1 = ap (closing depth) (here s i h) ∙ ap (λ (d : ℕ). closing d (get_or s i 0 ∷ drop (i + 1) s)) z ∙ close_last _ _ e in
      omega arith

  pub listed_up : (depth ≡ 0 → ⊥) → get_or s i 0 ≡ 0x29 → i < length s → Listed s depth i → Listed s (depth - 1) (i + 1)
  listed_up n e h k =
      let d : depth ≡ suc (depth - 1) = omega arith in
      let c : closing depth (drop i s) ≡ suc (closing (depth - 1) (drop (i + 1) s)) =
      ap (closing depth) (here s i h) ∙ ap (λ (x : ℕ). closing x (get_or s i 0 ∷ drop (i + 1) s)) d ∙ close_one _ _ (depth - 1) e in
      record { within = omega arith; shallow = omega arith; gives = omega arith }

  pub listed_down : get_or s i 0 ≡ 0x28 → i < length s → Listed s depth i → Listed s (depth + 1) (i + 1)
  listed_down e h k =
      let d : depth + 1 ≡ suc depth = omega arith in
      let c : closing depth (drop i s) ≡ suc (closing (depth + 1) (drop (i + 1) s)) =
      ap (closing depth) (here s i h) ∙ open_one _ _ depth (λ f. omega arith) e ∙ ap (λ (x : ℕ). suc (closing x (drop (i + 1) s))) (sym d) in
      record { within = omega arith; shallow = omega arith; gives = omega arith }

  pub listed_on : (get_or s i 0 ≡ 0x29 → ⊥) → (get_or s i 0 ≡ 0x28 → ⊥) → i < length s → Listed s depth i → Listed s depth (i + 1)
  listed_on n m h k =
      let c : closing depth (drop i s) ≡ suc (closing depth (drop (i + 1) s)) = ap (closing depth) (here s i h) ∙ keep _ _ depth n m in
      record { within = omega arith; shallow = omega arith; gives = omega arith }

closing_le : (s : List ℕ) (d : ℕ) → closing d s ≤ length s
unfolding closing
closing_le [] d = omega arith
closing_le (b ∷ s) d = go (eqb b 0x29) (eqb b 0x28) (closing_le s) d
  where
    go : (x y : Bool) → ((d : ℕ) → closing d s ≤ length s) → (d : ℕ)
        → elim x [ true ↦ elim d [ zero ↦ 1 | suc d ↦ suc (closing d s) ] | false ↦ elim y [ true ↦ suc (closing (suc d) s) | false ↦ suc (closing d s) ] ] ≤ suc (length s)
    go true y f zero = omega arith
    go true y f (suc d) = omega (arith, f d)
    go false true f d = omega (arith, f (suc d))
    go false false f d = omega (arith, f d)

-- ---- an assignment

-- a text that starts with a byte has one
pub opens : (b : ℕ) (s : List ℕ) {x : Bool} → x ≡ true → x ≡ starts_with b s → 1 ≤ length s
opens b s e q = starts_long b s (sym q ∙ e)

module _ (s : List ℕ) {n : ℕ} (c : n ≡ closing 0 (rest s 1)) (h : 0 < length s) where
  pub list_within : 1 + n ≤ length s
  list_within = omega (arith, closing_le (rest s 1) 0, rest_long s 1)

  pub list_fits : Fits w64 (length s) → Fits w64 (1 + n)
  list_fits f = record { fits = omega (arith, f.fits, list_within) }

-- = behind the list that a text begins with
pub list_told : (blank : Kind) (s : List ℕ) {n m : ℕ} {y : Bool} → y ≡ starts_with 0x3D (rest (rest s (1 + n)) m) → m ≡ front (of_kind blank) (rest s (1 + n))
    → n ≡ closing 0 (rest s 1) → y ≡ equals_ahead blank (behind_list s)
unfolding equals_ahead behind_list
list_told blank s {n} {m} r f c =
    let i : closing 0 (rest s 1) ≡ closing 0 (drop 1 s) = ap (closing 0) (tail s 1) in
    let k : 1 + n ≡ suc (closing 0 (drop 1 s)) = omega arith in
    let listed : rest s (1 + n) ≡ behind_list s = tail s (1 + n) ∙ ap (λ (j : ℕ). drop j s) k in
    let behind : rest (rest s (1 + n)) m ≡ past (of_kind blank) (behind_list s) =
    tail (rest s (1 + n)) m ∙ ap (λ (j : ℕ). drop j (rest s (1 + n))) f ∙ ap (past (of_kind blank)) listed in
    r ∙ ap (starts_with 0x3D) behind

module _ (blank : Kind) (t : List ℕ) {a : ℕ} where
  passed : a ≡ front (of_kind blank) t → rest t a ≡ past (of_kind blank) t
  passed p = tail t a ∙ ap (λ (n : ℕ). drop n t) p

  told : {x : Bool} → x ≡ starts_with 0x28 (rest t a) → a ≡ front (of_kind blank) t → starts_with 0x28 (past (of_kind blank) t) ≡ x
  told q p = sym (q ∙ ap (starts_with 0x28) (passed p))

  pub assigns_plain : {x y : Bool} → y ≡ starts_with 0x3D (rest t a) → x ≡ false → x ≡ starts_with 0x28 (rest t a) → a ≡ front (of_kind blank) t → y ≡ assigns blank t
  unfolding assigns
  assigns_plain r e q p = r ∙ ap (starts_with 0x3D) (passed p) ∙ sym (left _ _ (told q p ∙ e))

  pub assigns_list : {x y : Bool} → y ≡ equals_ahead blank (behind_list (rest t a)) → x ≡ true → x ≡ starts_with 0x28 (rest t a) → a ≡ front (of_kind blank) t → y ≡ assigns blank t
  unfolding assigns equals_ahead
  assigns_list r e q p = r ∙ ap (λ (u : List ℕ). equals_ahead blank (behind_list u)) (passed p) ∙ sym (taken _ _ (told q p ∙ e))
