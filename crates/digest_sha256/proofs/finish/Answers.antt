-- `digest_sha256::finish` meets its contract.
-- Assumes nothing.
use Rattle.std.proofs.Common.{arith, length-take}
use Rattle.digest_sha256.proofs.Pieces.{finished}
use Rattle.digest_sha256.proofs.finish.Goals as goal

pub slice_bounds-add-end : goal.slice_bounds-add-end
slice_bounds-add-end c = simp length-take (omega arith)

pub returns : goal.returns
returns c = λ m g. finished g c.padding_of-end.ensures c.add-done.ensures c.words_bytes.ensures
