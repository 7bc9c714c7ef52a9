-- A byte of a string, and an escape, case by case.
-- Assumes nothing.
use Prim.Native.Nat.{ℕ, ◌+◌, ◌-◌, ◌≤◌, ◌<◌}
use mathlib.Core.Path.{◌≡◌, sym, ap, ◌∙◌}
use mathlib.Core.Bool.{false, and-false}
use native.Mathlib.Omega.{arith}
use lib.Dec.{leb}
use borrow.Author.Tests.{lt-leb}
use mir.Syntax.{w8}
use mir.Val.{Fits}
use Rattle.base_ascii.specs.Bytes.{between}
use Rattle.base_ascii.proofs.Ranges.{in_between}
use Rattle.escape_bytes.specs.declared.Escape.{Escape}
use Rattle.escape_bytes.specs.Keys.{known}
use Rattle.std.specs.Prelude.{Option, None}
use Rattle.body_rules.specs.Steps.{one, lettered, escaped}
use Rattle.body_rules.specs.declared.Mode.TheVariants.{String}
use Rattle.body_rules.specs.declared.Move.{Move}

-- a byte that is in no such range
below : (low high b : ℕ) → b < low → between low high b ≡ false
unfolding between
below low high b h = rw (between, lt-leb low b h)

above : (low high b : ℕ) → high < b → between low high b ≡ false
unfolding between
above low high b h = rw (between, lt-leb b high h) (and-false (leb low b))

module _ (b : ℕ) where
  pub lettered_small : 97 ≤ b → b < 123 → b - 32 ≡ lettered b
  unfolding lettered
  lettered_small l h = simp (in_between 97 122 b l (omega arith))

  pub lettered_capital : 65 ≤ b → b < 91 → b + 0x80 ≡ lettered b
  unfolding lettered
  lettered_capital l h = simp (below 97 122 b (omega arith), in_between 65 90 b l (omega arith))

  other : between 97 122 b ≡ false → between 65 90 b ≡ false → b ≡ lettered b
  unfolding lettered
  other e f = simp (e, f)

  -- below A, between Z and a, and above z
  pub lettered_low : b < 65 → b ≡ lettered b
  lettered_low h = other (below 97 122 b (omega arith)) (below 65 90 b h)

  pub lettered_between : 91 ≤ b → b < 97 → b ≡ lettered b
  lettered_between l h = other (below 97 122 b h) (above 65 90 b (omega arith))

  pub lettered_high : 123 ≤ b → b ≡ lettered b
  lettered_high l = other (above 97 122 b (omega arith)) (above 65 90 b (omega arith))

  pub raised_from : 97 ≤ b → 32 ≤ b
  raised_from h = omega arith

  pub capital_fits : b < 91 → Fits w8 (b + 0x80)
  capital_fits h = record { fits = omega arith }

-- an escape, n bytes between braces: the string goes on behind it, whatever byte it gives
module _ (n : ℕ) {x : Option Escape} where
  pub escaped_known : {b count : ℕ} → x ≡ known b count
      → ◌≡◌ {A = Move} (record { prefixed = false; byte = b; count = count; mode = String; used = n + 2 }) (escaped n x)
  unfolding escaped
  escaped_known e = ap (escaped n) (sym e)

  pub escaped_unknown : {r : Move} → r ≡ one 0x7B String → x ≡ None → r ≡ escaped n x
  unfolding escaped
  escaped_unknown q e = q ∙ ap (escaped n) (sym e)
