-- `moldthatch::lines::sought_code` meets its contract.
-- Assumes nothing.
use Rattle.moldthatch.proofs.TellingLines.{inner_read, tells_sought}
use Rattle.moldthatch.proofs.lines.sought_code.Goals as goal

pub returns-in-Ok-Found : goal.returns-in-Ok-Found
returns-in-Ok-Found c = tells_sought _ (inner_read c.in-Ok-Found.is c.in-Ok-Found.field-0-is (simp c.in-Ok-Found.is)) c.line_code.ensures

pub returns-in-Ok-Nowhere : goal.returns-in-Ok-Nowhere
returns-in-Ok-Nowhere c = tells_sought _ (inner_read c.in-Ok-Nowhere.is c.in-Ok-Nowhere.field-0-is (simp c.in-Ok-Nowhere.is)) c.no_line.ensures

pub returns-in-Ok-LimitReached : goal.returns-in-Ok-LimitReached
returns-in-Ok-LimitReached c = tells_sought _ (inner_read c.in-Ok-LimitReached.is c.in-Ok-LimitReached.field-0-is (simp c.in-Ok-LimitReached.is)) c.no_line-in-Ok-LimitReached.ensures

pub returns-in-Err : goal.returns-in-Err
returns-in-Err c = search tells_sought
