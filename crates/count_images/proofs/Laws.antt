-- What totals promise (document 02, No. 12): the order of images does not matter, and the totals of two parts are the sum of theirs.
-- Assumes nothing.
use Prim.Native.Nat.{ℕ}
use mathlib.Core.Path.{◌≡◌, refl, sym, ap, ◌∙◌}
use mathlib.Core.List.{List, [], ◌∷◌, ◌++◌, flat_map, append_assoc, Permᴰ}
use native.Mathlib.Omega.{arith}
use Rattle.count_tokens.specs.Tokens.{tokens_in}
use Rattle.count_images.specs.Tallies.{occurrences, tally, added}
use Rattle.count_images.specs.Totals.{image_marks, totals_of}
use Rattle.count_images.proofs.Tallying.{occurrences_append, tally_append, tally_alike}

-- the marks that images make
abbrev pub marks_of : List (List ℕ) → List ℕ
marks_of images = flat_map (λ (image : List ℕ). image_marks (tokens_in image)) images

-- ---- any order

module _ {A : Type 0} (f : A → List ℕ) (k : ℕ) where
  pub alike_in_order : {xs ys : List A} → Permᴰ xs ys → occurrences k (flat_map f xs) ≡ occurrences k (flat_map f ys)
  unfolding flat_map
  alike_in_order Permᴰ.nil = refl
  alike_in_order (Permᴰ.cons {a = a} {b = b} {l₁ = xs} {l₂ = ys} e d) =
      omega
      (arith, occurrences_append k (f a) (flat_map f xs), occurrences_append k (f b) (flat_map f ys), alike_in_order d, ap (λ (x : A). occurrences k (f x)) e)
  alike_in_order (Permᴰ.swap {a = a} {b = b} {a' = c} {b' = d} {l = l} e g) =
      omega
      (arith, occurrences_append k (f a) (f b ++ flat_map f l), occurrences_append k (f b) (flat_map f l), occurrences_append k (f c) (f d ++ flat_map f l), occurrences_append k (f d) (flat_map f l), ap (λ (x : A). occurrences k (f x)) e, ap (λ (x : A). occurrences k (f x)) g)
  alike_in_order (Permᴰ.trans d e) = alike_in_order d ∙ alike_in_order e

-- "their order is proved not to matter": refused images among them, the same images in any order have the same totals
pub totals_in_any_order : {xs ys : List (List ℕ)} → Permᴰ xs ys → totals_of xs ≡ totals_of ys
unfolding totals_of
totals_in_any_order {xs} {ys} p = tally_alike (marks_of xs) (marks_of ys) (λ k. alike_in_order _ k p)

-- ---- two parts

flat_append : {A : Type 0} (f : A → List ℕ) (xs ys : List A) → flat_map f (xs ++ ys) ≡ flat_map f xs ++ flat_map f ys
unfolding flat_map
flat_append f [] ys = refl
flat_append f (x ∷ xs) ys = rw (flat_append f xs ys) (sym (append_assoc (f x) (flat_map f xs) (flat_map f ys)))

-- the sum of the totals of two parts is the totals of both
pub totals_join : (xs ys : List (List ℕ)) → added (totals_of xs) (totals_of ys) ≡ totals_of (xs ++ ys)
unfolding totals_of
totals_join xs ys = sym (ap tally (flat_append _ xs ys) ∙ tally_append (marks_of xs) (marks_of ys))
