-- `guess_uses::lists::put_bit` meets its contract.
-- Assumes nothing.
use Rattle.guess_uses.proofs.Bits.{kept, was_on, was_off, off_least, on_fits, turned_off, turned_on, weight_is}
use native.Mathlib.Omega.{arith}
use Rattle.guess_uses.proofs.lists.put_bit.Goals as goal

pub returns-then-bit-on : goal.returns-then-bit-on
returns-then-bit-on c = search kept

pub overflow_sub-bits : goal.overflow_sub-bits
overflow_sub-bits c = off_least _ _ (weight_is _ (omega arith)) (was_on _ _ c.if-bit-on.false c.if-on.false) c.bit.ensures

pub overflow_add-bits : goal.overflow_add-bits
overflow_add-bits c = on_fits _ _ (weight_is _ (omega arith)) (was_off _ _ c.if-bit-on.false c.if-on.true) c.bit.ensures (omega arith)

pub returns-then-on : goal.returns-then-on
returns-then-on c = turned_on _ _ (weight_is _ (omega arith)) c.if-on.true (was_off _ _ c.if-bit-on.false c.if-on.true) c.bit.ensures c.requires

pub returns-else-on : goal.returns-else-on
returns-else-on c = turned_off _ _ (weight_is _ (omega arith)) c.if-on.false (was_on _ _ c.if-bit-on.false c.if-on.false) c.bit.ensures c.requires
