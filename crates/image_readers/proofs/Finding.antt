-- What both readers' steps share: the two refusals that come first, and what is known of what was found.
-- Assumes nothing.
use Prim.Native.Nat.{ℕ, ◌≤◌, ◌<◌}
use mathlib.Core.Path.{◌≡◌, refl, subst}
use mathlib.Core.Bool.{Bool, true, false, cond}
use mathlib.Core.List.{List}
use native.Mathlib.Omega.{arith}
use lib.ListN.{length}
use lib.Dec.{ltb}
use borrow.Author.Tests.{le-ltb, lt-ltb, ltb-false}
use Rattle.base_refusals.specs.Answer.{Answer, done, refused}
use Rattle.base_refusals.specs.Numbers.{image_too_long, too_short}
use Rattle.image_readers.specs.declared.Line.{Line}
use Rattle.image_readers.specs.Image.{sized}
use Rattle.std.specs.Prelude.{Option, Some, None}

-- ---- the length is checked first

module _ {A : Type 0} (s : List ℕ) (a : Answer A) where
  pub sized_long : 1048576 < length s → refused (image_too_long (length s)) ≡ sized s a
  sized_long h = simp (lt-ltb _ _ h)

  pub sized_short : length s < 2 → refused too_short ≡ sized s a
  sized_short h = let g : length s ≤ 1048576 = omega arith in simp (le-ltb _ _ g, lt-ltb _ _ h)

  pub sized_right : length s ≤ 1048576 → 2 ≤ length s → a ≡ sized s a
  sized_right long short = simp (le-ltb _ _ long, le-ltb _ _ short)

-- ---- what is known of what was found

-- the length of an image that is read
pub record RightLength (s : List ℕ) : Type 0 where
  pub long : length s ≤ 1048576
  pub short : 2 ≤ length s

-- what is to be known of an answer: that the image's length is right, and Q of a line
abbrev pub Knows : (Line → Type 0) → List ℕ → Answer (Option Line) → Type 0
Knows Q s (done (Some l)) = RightLength s × Q l
Knows Q s (done None) = RightLength s
Knows Q s (refused n) = Unit {0}

-- it is known of a choice if it is known of each case under its test
pub cond_by : {A : Type 0} (P : A → Type 0) (b : Bool) {x y : A} → (b ≡ true → P x) → (b ≡ false → P y) → P (cond b x y)
cond_by P true f g = f refl
cond_by P false f g = g refl

module _ (Q : Line → Type 0) (s : List ℕ) where
  pub sized_knows : (a : Answer (Option Line)) → (RightLength s → Knows Q s a) → Knows Q s (sized s a)
  sized_knows a f =
      cond_by (Knows Q s) (ltb 1048576 (length s)) (λ _. tt) (λ long.
      cond_by (Knows Q s) (ltb (length s) 2) (λ _. tt) (λ short.
      f (record { long = ltb-false 1048576 (length s) long; short = ltb-false (length s) 2 short })))

  pub knows_length : {a : Answer (Option Line)} (f : (Option Line)) → a ≡ done f → Knows Q s a → RightLength s
  knows_length (Some l) e k = (subst (Knows Q s) e k).0
  knows_length None e k = subst (Knows Q s) e k

  pub knows_line : {a : Answer (Option Line)} {l : Line} → a ≡ done (Some l) → Knows Q s a → Q l
  knows_line e k = (subst (Knows Q s) e k).1
