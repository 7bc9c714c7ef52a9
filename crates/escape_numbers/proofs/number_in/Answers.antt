-- `escape_numbers::number_in` meets its contract: a number past the limit stays past it.
-- Assumes nothing.
use mathlib.Core.Path.{sym, ◌∙◌}
use mathlib.Core.Bool.{false≢true}
use native.Mathlib.Omega.{arith}
use borrow.Author.Tests.{eqb-true, eq-eqb}
use Rattle.escape_numbers.proofs.Numbering.{number_empty, made_start, made_other, made_over, made_fits, made_turn, made_end}
use Rattle.escape_numbers.proofs.number_in.Goals as goal

pub returns-then-is_empty : goal.returns-then-is_empty
returns-then-is_empty c = number_empty _ _ _ (eqb-true _ 0 (sym c.if-is_empty.ensures))

pub loop-b-init : goal.loop-b-init
loop-b-init c = made_start _ _ _ (λ h. false≢true (c.if-is_empty.ensures ∙ eq-eqb _ 0 h))

pub returns-then-base-d : goal.returns-then-base-d
returns-then-base-d c = search made_other

pub returns-then-n-limit : goal.returns-then-n-limit
returns-then-n-limit c = search made_over

pub overflow_mul-n : goal.overflow_mul-n
overflow_mul-n c = omega (arith, made_fits c.if-n-limit.false c.if-base-d.false c.requires)

pub overflow_add-n : goal.overflow_add-n
overflow_add-n c = omega (arith, made_fits c.if-n-limit.false c.if-base-d.false c.requires)

pub loop-b-preserved : goal.loop-b-preserved
loop-b-preserved c = search made_turn

pub returns : goal.returns
returns c = search made_end
