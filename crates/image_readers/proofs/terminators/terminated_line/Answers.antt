-- `image_readers::terminators::terminated_line` meets its contract.
-- Assumes nothing.
use native.Mathlib.Omega.{arith}
use Rattle.image_bytes.proofs.Zeros.{body_end_within}
use Rattle.image_readers.proofs.terminators.terminated_line.Goals as goal

pub overflow_add-to : goal.overflow_add-to
overflow_add-to c = record { fits = omega (arith, body_end_within c.args.image.now c.args.offset (search)) }
