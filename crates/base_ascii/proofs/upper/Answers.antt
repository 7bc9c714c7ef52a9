-- `base_ascii::upper` meets its contract.
-- Assumes nothing.
use mathlib.Core.Path.{◌≡◌, sym, ◌∙◌}
use mathlib.Core.Bool.{true, false}
use native.Mathlib.Omega.{arith}
use Rattle.base_ascii.specs.Bytes.{between, upper}
use Rattle.base_ascii.proofs.Ranges.{between_in}
use Rattle.base_ascii.proofs.upper.Goals as goal

pub overflow_sub-result : goal.overflow_sub-result
overflow_sub-result c = omega (arith, (between_in 97 122 c.args.b (sym c.between.ensures ∙ c.if-between.true)).0)

pub returns-then-between : goal.returns-then-between
unfolding upper
returns-then-between c = let small : between 97 122 c.args.b ≡ true = sym c.between.ensures ∙ c.if-between.true in rw small

pub returns-else-between : goal.returns-else-between
unfolding upper
returns-else-between c = let other : between 97 122 c.args.b ≡ false = sym c.between.ensures ∙ c.if-between.false in rw other
