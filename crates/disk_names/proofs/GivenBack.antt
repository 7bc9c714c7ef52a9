-- What is shown can be given back: a name that is shown, taken as a text, stands for that name.
-- Assumes nothing.
use Prim.Native.Nat.{ℕ, zero, suc, ◌+◌, ◌*◌, ◌/◌, ◌%◌, ◌<◌}
use mathlib.Core.Path.{◌≡◌, refl, sym, ap, subst, ◌∙◌}
use mathlib.Core.Bool.{Bool, true, false, cond, not, ◌&&◌}
use mathlib.Core.List.{List, [], ◌∷◌, ◌++◌}
use mathlib.Core.Logic.{◌⊎◌, inl, inr}
use native.Mathlib.Nat.{not-suc-le-zero, eq-or-lt_of_le, le_of_suc-le-suc}
use native.Mathlib.Omega.{arith}
use lib.Dec.{T, eqb, leb, eqb→eq}
use lib.ListN.{length, get_or}
use borrow.Author.Tests.{lt-leb, leb-true, leb-false}
use Rattle.base_ascii.specs.Bytes.{between, upper}
use Rattle.base_ascii.proofs.Ranges.{between_in}
use Rattle.word_search.proofs.Search.{and_left, and_right}
use Rattle.list_bytes.specs.ByteTexts.{hex_digits, hex_byte}
use Rattle.disk_names.specs.Names.{digit_value, byte_form, character_byte, name_behind, name_given, byte_shown, name_shown}
use Rattle.std.specs.Prelude.{Option, Some, None}
use Rattle.disk_names.proofs.Naming.{form_short, form_open, form_byte}

-- ---- the value of each hex digit

valued_below : ℕ → Bool
valued_below zero = true
valued_below (suc n) = eqb (digit_value (get_or hex_digits n 0)) n && valued_below n

valued_at : (m : ℕ) → T (valued_below m) → (n : ℕ) → n < m → digit_value (get_or hex_digits n 0) ≡ n
unfolding valued_below
valued_at zero t n h = absurd (not-suc-le-zero h)
valued_at (suc m) t n h = go (valued_at m (and_right (eqb (digit_value (get_or hex_digits m 0)) m) _ t) n) (eq-or-lt_of_le (le_of_suc-le-suc h))
  where
    go : (n < m → digit_value (get_or hex_digits n 0) ≡ n) → (n ≡ m) ⊎ (n < m) → digit_value (get_or hex_digits n 0) ≡ n
    go below (inl e) =
        subst (λ (k : ℕ). digit_value (get_or hex_digits k 0) ≡ k) (sym e)
        (eqb→eq (digit_value (get_or hex_digits m 0)) m (and_left (eqb (digit_value (get_or hex_digits m 0)) m) _ t))
    go below (inr l) = below l

sixteen : T (valued_below 16)
unfolding valued_below digit_value hex_digits
sixteen = tt

-- ---- a byte, and what follows it

-- a text that does not begin with a brace begins with no byte in braces
no_brace : (b : ℕ) (s : List ℕ) → (b ≡ 0x7B → ⊥) → byte_form (b ∷ s) ≡ None
no_brace b s n = go (leb 4 (length (b ∷ s))) refl
  where
    go : (r : Bool) → leb 4 (length (b ∷ s)) ≡ r → byte_form (b ∷ s) ≡ None
    go true e = sym (form_open (b ∷ s) (leb-true _ _ e) n)
    go false e = sym (form_short (b ∷ s) (leb-false _ _ e))

not_letter : (b : ℕ) → b < 97 → between 97 122 b ≡ false
unfolding between
not_letter b h = simp (lt-leb 97 b h)

back_itself : (b : ℕ) (s : List ℕ) → between 0x20 0x5F b ≡ true → name_behind 0 (b ∷ s) ≡ b ∷ name_behind 0 s
unfolding name_behind character_byte upper
back_itself b s e =
    let within = between_in 0x20 0x5F b e in
    let n : b ≡ 0x7B → ⊥ = λ q. omega arith in
    let small : b < 97 = omega arith in
    let kept : between 97 122 b ≡ false = not_letter b small in
    rw (name_behind, no_brace b s n) (simp (kept, e))

back_braced : (b : ℕ) (s : List ℕ) → b < 256 → name_behind 0 (0x7B ∷ hex_byte b ++ (0x7D ∷ s)) ≡ b ∷ name_behind 0 s
unfolding name_behind hex_byte
back_braced b s h =
    let high : digit_value (get_or hex_digits (b / 16) 0) ≡ b / 16 = valued_at 16 sixteen (b / 16) (omega arith) in
    let low : digit_value (get_or hex_digits (b % 16) 0) ≡ b % 16 = valued_at 16 sixteen (b % 16) (omega arith) in
    let text : List ℕ = 0x7B ∷ get_or hex_digits (b / 16) 0 ∷ get_or hex_digits (b % 16) 0 ∷ 0x7D ∷ s in
    let form : byte_form text ≡ Some (16 * (b / 16) + b % 16) = sym (form_byte text (omega arith) refl refl (sym high) (omega arith) (sym low) (omega arith)) in
    let whole : 16 * (b / 16) + b % 16 ≡ b = omega arith in
    rw (name_behind, form, whole)

pub given_byte : (b : ℕ) (s : List ℕ) → b < 256 → name_behind 0 (byte_shown b ++ s) ≡ b ∷ name_behind 0 s
unfolding byte_shown hex_byte
given_byte b s h = go (not (eqb b 0x3D)) (between 0x20 0x5F b) refl
  where
    braced : name_behind 0 ((0x7B ∷ hex_byte b ++ (0x7D ∷ [])) ++ s) ≡ b ∷ name_behind 0 s
    braced = back_braced b s h

    go : (q r : Bool) → between 0x20 0x5F b ≡ r → name_behind 0 (cond (q && r) (b ∷ []) (0x7B ∷ hex_byte b ++ (0x7D ∷ [])) ++ s) ≡ b ∷ name_behind 0 s
    go true true e = back_itself b s e
    go true false e = braced
    go false r e = braced

-- ---- a name

-- each is a byte
pub data Bytes : List ℕ → Type 0 where
  none : Bytes []
  more : {b : ℕ} {s : List ℕ} → b < 256 → Bytes s → Bytes (b ∷ s)

pub given_shown : (name : List ℕ) → Bytes name → name_given (name_shown name) ≡ name
unfolding name_shown name_behind
given_shown [] none = refl
given_shown (b ∷ s) (more h k) = given_byte b (name_shown s) h ∙ ap (λ (l : List ℕ). b ∷ l) (given_shown s k)
