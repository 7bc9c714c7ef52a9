-- `body::write_body` meets its contract.
-- Assumes nothing.
use Prim.Native.Nat.{◌<◌}
use lib.ListN.{length}
use mir.Syntax.{w64}
use mir.Val.{Fits}
use Rattle.body_rules.proofs.Beginnings.{document_proper}
use Rattle.body.proofs.Writing.{owed_start, owed_room, owed_turn, owed_end, owed_fits, owed_less, short_room, short_turn, long_byte, long_here}
use Rattle.body_steps.proofs.Braces.{spans_on, reaches_on}
use Rattle.body_rules.proofs.ShortSteps.{short_known}
use native.Mathlib.Omega.{arith}
use Rattle.body.proofs.write_body.Goals as goal

pub loop-at-init : goal.loop-at-init
loop-at-init c = search owed_start

pub short_byte-requires : goal.short_byte-requires
short_byte-requires c = search short_known

pub bounds-out-n : goal.bounds-out-n
bounds-out-n c = search short_room

pub overflow_add-n : goal.overflow_add-n
overflow_add-n c = let h : c.loop-at.n < length c.loop-at.out = search short_room in omega arith

pub loop-at-preserved-then-is_short : goal.loop-at-preserved-then-is_short
loop-at-preserved-then-is_short c = search (short_turn, spans_on)

pub step-m-requires : goal.step-m-requires
step-m-requires c = search long_byte

pub put_move-n-requires : goal.put_move-n-requires
put_move-n-requires c = search (owed_room, document_proper, long_here)

pub overflow_add-at-else-is_short : goal.overflow_add-at-else-is_short
overflow_add-at-else-is_short c = let text-fits : Fits w64 (length c.args.text.now) = record { fits = omega arith } in search (owed_fits, document_proper, long_here, text-fits)

pub loop-at-smaller : goal.loop-at-smaller
loop-at-smaller c = search (owed_less, document_proper, long_here)

pub loop-at-preserved : goal.loop-at-preserved
loop-at-preserved c = search (owed_turn, reaches_on, document_proper, long_here)

pub returns : goal.returns
returns c = search owed_end
