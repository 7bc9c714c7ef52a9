-- What stands between braces, test by test.
-- Assumes nothing.
use Prim.Native.Nat.{ℕ, ◌≤◌, ◌<◌}
use mathlib.Core.Path.{◌≡◌}
use mathlib.Core.List.{List}
use lib.ListN.{take}
use borrow.Author.Tests.{lt-ltb, le-ltb}
use Rattle.base_ascii.specs.Search.{equals, before}
use Rattle.editor_findings.specs.Braces.{inside_by, inside_of}
use Rattle.editor_findings.specs.declared.braces.Inside.TheVariants.{Closed, Unclosed, Long}

module _ (t : List ℕ) {near : List ℕ} {a b : ℕ} where
  pub inside_closed : a < b → b ≡ before (equals 0x22) near → a ≡ before (equals 0x7D) near → near ≡ take 64 t → Closed a ≡ inside_of t
  unfolding inside_of inside_by
  inside_closed h q p e = rw (← e, ← p, ← q, lt-ltb _ _ h)

  module _ (h : b ≤ a) (q : b ≡ before (equals 0x22) near) (p : a ≡ before (equals 0x7D) near) (e : near ≡ take 64 t) where
    pub inside_open : b < 64 → Unclosed b ≡ inside_of t
    unfolding inside_of inside_by
    inside_open l = rw (← e, ← p, ← q, le-ltb _ _ h, lt-ltb _ _ l)

    pub inside_long : 64 ≤ b → Long ≡ inside_of t
    unfolding inside_of inside_by
    inside_long l = rw (← e, ← p, ← q, le-ltb _ _ h, le-ltb _ _ l)
