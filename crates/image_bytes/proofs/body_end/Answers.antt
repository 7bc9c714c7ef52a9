-- `image_bytes::body_end` meets its contract.
-- Assumes nothing.
use native.Mathlib.Omega.{arith}
use Rattle.image_bytes.proofs.Zeros.{body_end_at, body_at_within}
use Rattle.image_bytes.proofs.body_end.Goals as goal

pub overflow_add-result : goal.overflow_add-result
overflow_add-result c = let a = c.args in omega (arith, body_at_within a.image.now a.offset (search) c.before_zero.ensures)

pub returns : goal.returns
returns c = search body_end_at
