-- `body::measure_body` meets its contract.
-- Assumes nothing.
use lib.ListN.{length}
use mir.Syntax.{w64}
use mir.Val.{Fits}
use Rattle.body_rules.proofs.Beginnings.{document_proper}
use Rattle.body.proofs.Writing.{measured_start, measured_full, measured_turn, measured_end, measured_fits, measured_less, short_full, short_measured, long_byte, long_here}
use Rattle.body_steps.proofs.Braces.{spans_on, reaches_on}
use native.Mathlib.Omega.{arith}
use Rattle.body.proofs.measure_body.Goals as goal

pub loop-at-init : goal.loop-at-init
loop-at-init c = search measured_start

pub returns-then-n-eq65536 : goal.returns-then-n-eq65536
returns-then-n-eq65536 c = search short_full

pub loop-at-preserved-else-n-eq65536 : goal.loop-at-preserved-else-n-eq65536
loop-at-preserved-else-n-eq65536 c = search (short_measured, spans_on, c.if-n-eq65536.false)

pub step-m-requires : goal.step-m-requires
step-m-requires c = search long_byte

pub returns-then-n-eq65536-2 : goal.returns-then-n-eq65536-2
returns-then-n-eq65536-2 c = search (measured_full, document_proper, long_here)

pub overflow_add-at-else-is_short : goal.overflow_add-at-else-is_short
overflow_add-at-else-is_short c = let text-fits : Fits w64 (length c.args.text.now) = record { fits = omega arith } in search (measured_fits, document_proper, long_here, text-fits)

pub loop-at-smaller : goal.loop-at-smaller
loop-at-smaller c = search (measured_less, document_proper, long_here)

pub loop-at-preserved : goal.loop-at-preserved
loop-at-preserved c = search (measured_turn, reaches_on, document_proper, long_here, c.if-n-eq65536-2.false)

pub returns : goal.returns
returns c = search measured_end
