-- What the test of sameness says, and a text that is one of the words.
-- Assumes nothing.
use Prim.Native.Nat.{ℕ, suc}
use mathlib.Core.Path.{◌≡◌, refl, sym, ap, ◌∙◌}
use mathlib.Core.Bool.{Bool, true, false, ◌&&◌, false≢true}
use mathlib.Core.List.{List, [], ◌∷◌, map}
use lib.Dec.{T, eqb}
use lib.Pointwise.{pointwise}
use borrow.Author.Tests.{eq-eqb, eqb-true}
use Rattle.word_search.specs.Compare.{same, member}
use Rattle.word_search.specs.Find.{Entry, first_that, same_in}
use Rattle.std.specs.Prelude.{Some, is_some}
use Rattle.word_search.proofs.Search.{and_left, and_right}

pub same_refl : (w : List ℕ) → same w w ≡ true
unfolding same
same_refl [] = refl
same_refl (x ∷ w) = rw (same, eq-eqb x x refl) (same_refl w)

pub same_eq : (w t : List ℕ) → same w t ≡ true → w ≡ t
unfolding same
same_eq [] [] q = refl
same_eq [] (y ∷ t) q = absurd (false≢true q)
same_eq (x ∷ w) [] q = absurd (false≢true q)
same_eq (x ∷ w) (y ∷ t) q = go (eqb x y) refl q (same_eq w t)
  where
    go : (b : Bool) → eqb x y ≡ b → elim b [ true ↦ same w t | false ↦ false ] ≡ true → (same w t ≡ true → w ≡ t) → ◌≡◌ {A = List ℕ} (x ∷ w) (y ∷ t)
    go true e g f = let head : x ≡ y = eqb-true _ _ e in let tail : w ≡ t = f g in cc
    go false e g f = absurd (false≢true g)

-- the comparison of two lists, item by item
pub same_pointwise : (w t : List ℕ) → pointwise eqb w t ≡ same w t
unfolding same
same_pointwise [] [] = refl
same_pointwise [] (y ∷ t) = refl
same_pointwise (x ∷ w) [] = refl
same_pointwise (x ∷ w) (y ∷ t) = go (eqb x y) (same_pointwise w t)
  where
    go : (b : Bool) → pointwise eqb w t ≡ same w t → (b && pointwise eqb w t) ≡ elim b [ true ↦ same w t | false ↦ false ]
    go true e = e
    go false e = refl

abbrev pub spellings : List Entry → List (List ℕ)
spellings = map (λ e. e.word)

found_member : (t : List ℕ) (es : List Entry) (k : ℕ) → is_some (first_that (λ i w. same w t) es k) ≡ member t (spellings es)
unfolding first_that member
found_member t [] k = refl
found_member t (e ∷ es) k = go (same e.word t) (found_member t es (suc k))
  where
    go : (b : Bool) → is_some (first_that (λ i w. same w t) es (suc k)) ≡ member t (spellings es)
        → is_some (elim b [ true ↦ Some (record { index = k; used = lib.ListN.length e.word; token = e.token }) | false ↦ first_that (λ i w. same w t) es (suc k) ]) ≡ elim b [ true ↦ true | false ↦ member t (spellings es) ]
    go true h = refl
    go false h = h

-- a word is found just where the text is one of the words
pub same_member : (t : List ℕ) (es : List Entry) → is_some (same_in es t) ≡ member t (spellings es)
unfolding same_in
same_member t es = found_member t es 0

-- ---- two lists that hold each other's words

unfoldable pub within : List (List ℕ) → List (List ℕ) → Bool
within [] m = true
within (w ∷ ws) m = member w m && within ws m

pub T_true : (b : Bool) → T b → b ≡ true
T_true true t = refl
T_true false t = absurd t

member_within : (t : List ℕ) (l m : List (List ℕ)) → T (within l m) → member t l ≡ true → member t m ≡ true
unfolding within member
member_within t [] m h q = absurd (false≢true q)
member_within t (w ∷ ws) m h q = go (same w t) refl q (member_within t ws m (and_right (member w m) _ h))
  where
    go : (b : Bool) → same w t ≡ b → elim b [ true ↦ true | false ↦ member t ws ] ≡ true → (member t ws ≡ true → member t m ≡ true) → member t m ≡ true
    go true e g f = ap (λ (x : List ℕ). member x m) (sym (same_eq w t e)) ∙ T_true (member w m) (and_left (member w m) _ h)
    go false e g f = f g

pub member_same : (t : List ℕ) (l m : List (List ℕ)) → T (within l m) → T (within m l) → member t l ≡ member t m
member_same t l m h k = go (member t l) (member t m) (member_within t l m h) (member_within t m l k)
  where
    go : (a b : Bool) → (a ≡ true → b ≡ true) → (b ≡ true → a ≡ true) → a ≡ b
    go true true f g = refl
    go true false f g = sym (f refl)
    go false true f g = g refl
    go false false f g = refl
