-- `editor_findings::sights::sight_from` meets its contract.
-- Assumes nothing.
use mathlib.Core.Path.{refl}
use Rattle.body_steps.proofs.Braces.{spans_on}
use Rattle.editor_findings.proofs.Walking.{step_fits, step_less, walked_start, walked_seen, walked_turn, walked_end}
use borrow.Author.Rules.{rules}
use Rattle.editor_findings.proofs.sights.sight_from.Goals as goal

pub loop-stand-init : goal.loop-stand-init
loop-stand-init c = search walked_start

pub overflow_add-behind : goal.overflow_add-behind
overflow_add-behind c = search step_fits

pub returns-then-not-is_usual : goal.returns-then-not-is_usual
returns-then-not-is_usual c = record { told = search walked_seen; behind = refl; known = search spans_on }

pub loop-stand-smaller : goal.loop-stand-smaller
loop-stand-smaller c = search step_less

pub loop-stand-preserved : goal.loop-stand-preserved
loop-stand-preserved c = (search walked_turn, search spans_on)

pub returns : goal.returns
returns c = record { told = walked_end (search rules) c.loop-stand.invariant.0; behind = tt; known = search }
