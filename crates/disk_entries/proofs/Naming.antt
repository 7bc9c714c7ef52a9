-- Names: the bytes before the first A0, and whether two are the same.
-- Assumes nothing.
use Prim.Native.Nat.{ℕ, suc, ◌+◌, ◌-◌, ◌≤◌, ◌<◌}
use mathlib.Core.Path.{◌≡◌, refl, sym, ap, ◌∙◌}
use mathlib.Core.Bool.{Bool, true, false, not, cond, ◌&&◌}
use mathlib.Core.List.{List, [], ◌∷◌, ◌++◌, append-nil}
use lib.Dec.{eqb}
use lib.ListN.{length, get_or, take, drop, length-take, drop_of_length-le}
use lib.Seq.{drop-cons, take-suc, append_snoc, take-take}
use native.Mathlib.Numerals.{add-one}
use native.Mathlib.Omega.{arith}
use borrow.Author.Tests.{eq-eqb, ne_eqb, eqb-true}
use Rattle.std.specs.List.{prefix_len}
use Rattle.disk_rules.specs.Entries.{before_a0, name_at, same_name, is_named}
use Rattle.disk_entries.specs.EntryHelpers.{Before}

abbrev pub not_a0 : ℕ → Bool
not_a0 b = not (eqb b 0xA0)

before_prefix : (bytes : List ℕ) → Before bytes (prefix_len not_a0 bytes)
unfolding before_a0
before_prefix [] = record { within = omega arith; are = refl }
before_prefix (b ∷ bytes) = record { within = (go (eqb b 0xA0) (before_prefix bytes)).0; are = (go (eqb b 0xA0) (before_prefix bytes)).1 } where
  go : (q : Bool) → Before bytes (prefix_len not_a0 bytes)
      → (cond (not q) (1 + prefix_len not_a0 bytes) 0 ≤ suc (length bytes)) × (take (cond (not q) (1 + prefix_len not_a0 bytes) 0) (b ∷ bytes) ≡ cond q [] (b ∷ before_a0 bytes))
  go true f = (omega arith, refl)
  go false f =
      let e : 1 + prefix_len not_a0 bytes ≡ suc (prefix_len not_a0 bytes) = omega arith in
      (omega (arith, f.within), rw e (ap (λ (l : List ℕ). b ∷ l) f.are))

pub before_counted : (bytes : List ℕ) {n : ℕ} → n ≡ prefix_len not_a0 bytes → Before bytes n
before_counted bytes e = rw e (before_prefix bytes)

-- the part of a disk that is an entry's name
module _ (d : List ℕ) (p : ℕ) {n : ℕ} (h : p + 30 ≤ length d) (b : Before (take (p + 19 - (p + 3)) (drop (p + 3) d)) n) where
  sixteen : p + 19 - (p + 3) ≡ 16
  sixteen = omega arith

  pub name_room : n ≤ 16
  name_room = omega (arith, b.within, length-take (p + 19 - (p + 3)) (drop (p + 3) d))

  pub name_part_lem : take (p + 3 + n - (p + 3)) (drop (p + 3) d) ≡ name_at d p
  unfolding name_at
  name_part_lem =
      let e : p + 3 + n - (p + 3) ≡ n = omega arith in
      rw e (sym (take-take n 16 (drop (p + 3) d) name_room) ∙ rw sixteen at b.are)

same_refl : (a : List ℕ) → same_name a a ≡ true
unfolding same_name
same_refl [] = refl
same_refl (b ∷ a) = rw (eq-eqb b b refl) (same_refl a)

same_equal : (a b : List ℕ) → same_name a b ≡ true → a ≡ b
unfolding same_name
same_equal [] [] e = refl
same_equal [] (y ∷ b) e = absurd (let z : ◌≡◌ {A = ℕ} 0 1 = cc in omega arith)
same_equal (x ∷ a) [] e = absurd (let z : ◌≡◌ {A = ℕ} 0 1 = cc in omega arith)
same_equal (x ∷ a) (y ∷ b) e = go (eqb x y) refl e (same_equal a b) where
  go : (q : Bool) → eqb x y ≡ q → (q && same_name a b) ≡ true → (same_name a b ≡ true → a ≡ b) → x ∷ a ≡ y ∷ b
  go true f g k = let h : x ≡ y = eqb-true x y f in let j : a ≡ b = k g in cc
  go false f g k = absurd (let z : ◌≡◌ {A = ℕ} 0 1 = cc in omega arith)

-- a test that holds exactly where two lists are equal
same_told : (a b : List ℕ) (r : Bool) → (r ≡ true → a ≡ b) × (a ≡ b → r ≡ true) → r ≡ same_name a b
same_told a b true k = sym (rw (k.0 refl) (same_refl b))
same_told a b false k = go (same_name a b) refl where
  go : (q : Bool) → same_name a b ≡ q → false ≡ q
  go true e = k.1 (same_equal a b e)
  go false e = refl

pub name_told_lem : (d name : List ℕ) (p : ℕ) {part : List ℕ} {r : Bool} → part ≡ name_at d p → (r ≡ true → part ≡ name) × (part ≡ name → r ≡ true)
    → r ≡ is_named d name p
name_told_lem d name p {part} {r} e k = same_told part name r k ∙ ap (λ (n : List ℕ). same_name n name) e
