-- `body::zero::holds_zero` meets its contract.
-- Assumes nothing.
use lib.ListN.{length}
use mir.Syntax.{w64}
use mir.Val.{Fits}
use Rattle.body_rules.proofs.Beginnings.{document_proper}
use Rattle.body.proofs.Writing.{long_byte, long_here}
use Rattle.body.proofs.Zeros.{none_start, none_found, none_turn, none_end, none_less, none_fits, short_found, short_none}
use Rattle.body_steps.proofs.Braces.{spans_on, reaches_on}
use native.Mathlib.Omega.{arith}
use Rattle.body.proofs.zero.holds_zero.Goals as goal

pub loop-at-init : goal.loop-at-init
loop-at-init c = search none_start

pub returns-then-b-eq0 : goal.returns-then-b-eq0
returns-then-b-eq0 c = search short_found

pub loop-at-preserved-then-is_short : goal.loop-at-preserved-then-is_short
loop-at-preserved-then-is_short c = search (short_none, spans_on, c.if-b-eq0.false)

pub step-m-requires : goal.step-m-requires
step-m-requires c = search long_byte

pub returns-then-writes_zero : goal.returns-then-writes_zero
returns-then-writes_zero c = search (none_found, document_proper, long_here)

pub overflow_add-at-else-is_short : goal.overflow_add-at-else-is_short
overflow_add-at-else-is_short c = let text-fits : Fits w64 (length c.args.text.now) = record { fits = omega arith } in search (none_fits, document_proper, long_here, text-fits)

pub loop-at-smaller : goal.loop-at-smaller
loop-at-smaller c = search (none_less, document_proper, long_here)

pub loop-at-preserved : goal.loop-at-preserved
loop-at-preserved c = search (none_turn, reaches_on, document_proper, long_here)

pub returns : goal.returns
returns c = search none_end
