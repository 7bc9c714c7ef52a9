-- `base_bits::field_at` meets its contract.
-- Assumes nothing.
use Rattle.base_bits.proofs.Reading.{ReadSoFar}
use Rattle.base_bits.proofs.field_at.Given as goal

abbrev pub invariant-loop-k : goal.invariant-loop-k
invariant-loop-k l = ReadSoFar l.bytes l.at l.width l.k l.value
