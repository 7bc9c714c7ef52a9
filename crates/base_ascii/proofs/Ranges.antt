-- What the test of a range says.
-- Assumes nothing.
use Prim.Native.Nat.{ℕ, ◌≤◌}
use mathlib.Core.Path.{◌≡◌, refl}
use mathlib.Core.Bool.{Bool, true, false, ◌&&◌, false≢true}
use lib.Dec.{leb}
use borrow.Author.Tests.{leb-true, le-leb}
use Rattle.base_ascii.specs.Bytes.{between}

pub between_in : (low high b : ℕ) → between low high b ≡ true → (low ≤ b) × (b ≤ high)
unfolding between
between_in low high b e = go (leb low b) refl e
  where
    go : (r : Bool) → leb low b ≡ r → (r && leb b high) ≡ true → (low ≤ b) × (b ≤ high)
    go true p q = (leb-true low b p, leb-true b high q)
    go false p q = absurd (false≢true q)

pub in_between : (low high b : ℕ) → low ≤ b → b ≤ high → between low high b ≡ true
unfolding between
in_between low high b l h = simp (le-leb _ _ l, le-leb _ _ h)
