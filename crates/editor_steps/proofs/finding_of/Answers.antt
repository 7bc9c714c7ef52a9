-- `editor_steps::finding_of` meets its contract.
-- Assumes nothing.
use Rattle.editor_steps.proofs.StepTests.{found_word, found_zero, found_brace, found_aside, found_control, found_usual}
use Rattle.editor_steps.proofs.finding_of.Goals as goal
use Rattle.editor_steps.proofs.finding_of.Goals.{else-is_code-via-then-is_code+else-is_control, else-is_code-via-else-is_code}

pub returns-then-step : goal.returns-then-step
returns-then-step c = search found_word

pub returns-then-step-eq0 : goal.returns-then-step-eq0
returns-then-step-eq0 c = search found_zero

pub returns-then-is_kept : goal.returns-then-is_kept
returns-then-is_kept c = search (found_brace, c.if-step-eq0.false)

pub returns-then-is_control : goal.returns-then-is_control
returns-then-is_control c = search (found_control, c.if-step-eq0.false)

pub returns-else-is_code : goal.returns-else-is_code
returns-else-is_code c =
    elim c.else-is_code.branch [
      | else-is_code-via-then-is_code+else-is_control w ↦
          found_usual _ _ _ w.if-is_control.false w.is_control.ensures w.if-is_code.true c.is_code.ensures c.if-is_kept.false c.is_kept.ensures c.if-step-eq0.false c.if-step.false
      | else-is_code-via-else-is_code w ↦ found_aside _ _ _ w.if-is_code.false c.is_code.ensures c.if-is_kept.false c.is_kept.ensures c.if-step-eq0.false c.if-step.false
    ]
