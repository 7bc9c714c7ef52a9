-- `moldthatch::lines::step_code` meets its contract.
-- Assumes nothing.
use Rattle.moldthatch.proofs.TellingLines.{inner_read, tells_step}
use Rattle.moldthatch.proofs.lines.step_code.Goals as goal

pub returns-in-Ok-Some : goal.returns-in-Ok-Some
returns-in-Ok-Some c = tells_step _ (inner_read c.in-Ok-Some.is c.in-Ok-Some.field-0-is (simp c.in-Ok-Some.is)) c.line_code.ensures

pub returns-in-Ok-None : goal.returns-in-Ok-None
returns-in-Ok-None c = tells_step _ (inner_read c.in-Ok-None.is c.in-Ok-None.field-0-is (simp c.in-Ok-None.is)) c.no_line.ensures

pub returns-in-Err : goal.returns-in-Err
returns-in-Err c = search tells_step
