-- `image_find::find_line` meets its contract.
-- Assumes nothing.
use native.Mathlib.Omega.{arith}
use Rattle.std.proofs.Common.{refl}
use Rattle.std.proofs.lemmas.Result.{err_from_is_err_and}
use Rattle.base_refusals.proofs.Tight.{inner}
use Rattle.image_find.proofs.Seeking.{sought_long, sought_short, none_start, line_limit, line_found, none_turn, end_nowhere, fault_limit, fault_refused}
use Rattle.image_find.proofs.find_line.Goals as goal

pub returns-then-length-gt-LONGEST : goal.returns-then-length-gt-LONGEST
returns-then-length-gt-LONGEST c = search sought_long

pub returns-then-length-lt2 : goal.returns-then-length-lt2
returns-then-length-lt2 c = search sought_short

pub loop-visited-init : goal.loop-visited-init
loop-visited-init c = search none_start

pub returns-in_err-line : goal.returns-in_err-line
returns-in_err-line c =
    let p = err_from_is_err_and c.from_residual.result c.from_residual.ensures.1 in
    rw (p.1, p.2) (fault_refused c.step.ensures c.loop-visited.invariant c.in_err-line.was c.loop-visited-test.true)

pub returns-in_default : goal.returns-in_default
returns-in_default c = end_nowhere c.step.ensures c.loop-visited.invariant refl (inner c.in_ok-line.was c.in_default.is)

pub returns-then-line-number : goal.returns-then-line-number
returns-then-line-number c = line_found c.step.ensures c.loop-visited.invariant (inner c.in_ok-line.was c.in-Some.is) c.loop-visited-test.true c.if-line-number.true

pub loop-visited-preserved : goal.loop-visited-preserved
loop-visited-preserved c = none_turn c.step.ensures c.loop-visited.invariant (inner c.in_ok-line.was c.in-Some.is) c.loop-visited-test.true c.if-line-number.false

pub returns-in-Ok-None : goal.returns-in-Ok-None
returns-in-Ok-None c = end_nowhere c.step-2.ensures c.loop-visited.invariant (omega arith) (inner c.in-Ok-None.is c.in-Ok-None.field-0-is)

pub returns-in-Ok-Some : goal.returns-in-Ok-Some
returns-in-Ok-Some c = line_limit c.step-2.ensures c.loop-visited.invariant (inner c.in-Ok-Some.is c.in-Ok-Some.field-0-is) c.loop-visited-test.false

pub returns-in-Err : goal.returns-in-Err
returns-in-Err c = fault_limit c.step-2.ensures c.loop-visited.invariant c.in-Err.is c.loop-visited-test.false
