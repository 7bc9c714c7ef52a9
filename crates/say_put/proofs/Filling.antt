-- How the marks of a row are filled, and how long it then is.
-- Assumes nothing.
use Prim.Native.Nat.{ℕ, suc, ◌+◌, ◌*◌, ◌≤◌, ◌<◌}
use mathlib.Core.Path.{◌≡◌}
use mathlib.Core.Bool.{Bool, true, false}
use mathlib.Core.List.{List, [], ◌∷◌, ◌++◌}
use native.Mathlib.Numerals.{add-one}
use native.Mathlib.Omega.{arith}
use lib.Dec.{eqb}
use lib.ListN.{length, get_or, drop, drop_of_length-le, length-append}
use lib.Seq.{drop-cons}
use mir.Syntax.{w64}
use mir.Val.{Fits}
use borrow.Author.Tests.{eq-eqb, ne_eqb}
use Rattle.base_steps.specs.Decimal.{decimal}
use Rattle.say_put.specs.Clipped.{Clipped}
use Rattle.say_put.specs.Rows.{filled}
use Rattle.say_put.proofs.Clipping.{Owes, owes_all, owes_less, owes_none}
use Rattle.say_put.proofs.Spelling.{decimal_short}

module _ (row : List ℕ) (i a b c : ℕ) (h : i < length row) where
  filled_lf : get_or row i 0 ≡ 0x0A → filled (drop i row) a b c ≡ []
  unfolding filled
  filled_lf e = rw (drop-cons row i 0 h, filled, eq-eqb _ _ e)

  filled_mark : get_or row i 0 ≡ 0x23 → filled (drop i row) a b c ≡ decimal a ++ filled (drop (i + 1) row) b c 0
  unfolding filled
  filled_mark e =
      let other : get_or row i 0 ≡ 0x0A → ⊥ = λ (f : get_or row i 0 ≡ 0x0A). omega arith in
      rw (drop-cons row i 0 h, filled, ne_eqb _ _ other, eq-eqb _ _ e, add-one)

  filled_byte : (get_or row i 0 ≡ 0x0A → ⊥) → (get_or row i 0 ≡ 0x23 → ⊥) → filled (drop i row) a b c ≡ (get_or row i 0 ∷ []) ++ filled (drop (i + 1) row) a b c
  unfolding filled
  filled_byte n m = rw (drop-cons row i 0 h, filled, ne_eqb _ _ n, ne_eqb _ _ m, add-one)

-- of a row i bytes are passed, and what the rest gives is owed
pub record Filling (row : List ℕ) (first second third at : ℕ) (buffer out : List ℕ) (i to value later last : ℕ) : Type 0 where
  pub few : i ≤ length row
  pub owes : Owes buffer at (filled row first second third) out to (filled (drop i row) value later last)

pub filling_start : (row : List ℕ) (first second third : ℕ) {at : ℕ} {buffer : List ℕ} → at ≤ length buffer → Filling row first second third at buffer buffer 0 at first second third
filling_start row first second third h = record { few = omega arith; owes = owes_all (filled row first second third) h }

module _ {row : List ℕ} {first second third at : ℕ} {buffer out : List ℕ} {i to value later last : ℕ} (k : Filling row first second third at buffer out i to value later last) where
  pub filling_mark : i < length row → get_or row i 0 ≡ 0x23 → {mid : ℕ} {half : List ℕ} → Clipped out to (decimal value) mid half
      → Filling row first second third at buffer half (i + 1) mid later last 0
  filling_mark h e p = record { few = omega arith; owes = owes_less (decimal value) (filled (drop (i + 1) row) later last 0) k.owes (filled_mark row i value later last h e) p }

  pub filling_byte : i < length row → (get_or row i 0 ≡ 0x0A → ⊥) → (get_or row i 0 ≡ 0x23 → ⊥) → {mid : ℕ} {half : List ℕ}
      → Clipped out to (get_or row i 0 ∷ []) mid half → Filling row first second third at buffer half (i + 1) mid value later last
  filling_byte h n m p =
      record { few = omega arith; owes = owes_less (get_or row i 0 ∷ []) (filled (drop (i + 1) row) value later last) k.owes (filled_byte row i value later last h n m) p }

  pub filling_lf : i < length row → get_or row i 0 ≡ 0x0A → Clipped buffer at (filled row first second third) to out
  filling_lf h e = owes_none k.owes (filled_lf row i value later last h e)

  pub filling_end : length row ≤ i → Clipped buffer at (filled row first second third) to out
  unfolding filled
  filling_end h = owes_none k.owes (rw (drop_of_length-le row h))

-- ---- how long a row is

fits_zero : Fits w64 0
fits_zero = record { fits = omega arith }

pub filled_short : (row : List ℕ) {x y z : ℕ} → Fits w64 x → Fits w64 y → Fits w64 z → length (filled row x y z) ≤ 20 * length row
unfolding filled
filled_short [] p q r = omega arith
filled_short (c ∷ s) {x} {y} {z} p q r = go (eqb c 0x0A) (eqb c 0x23) (filled_short s q r fits_zero) (filled_short s p q r)
  where
    go : (a b : Bool) → length (filled s y z 0) ≤ 20 * length s → length (filled s x y z) ≤ 20 * length s
        → length {A = ℕ} (elim a [ true ↦ [] | false ↦ elim b [ true ↦ decimal x ++ filled s y z 0 | false ↦ c ∷ filled s x y z ] ]) ≤ 20 * suc (length s)
    go true b m n = omega arith
    go false true m n = omega (arith, length-append (decimal x) (filled s y z 0), decimal_short p)
    go false false m n = omega arith
