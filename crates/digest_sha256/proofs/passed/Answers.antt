-- `digest_sha256::passed` meets its contract.
-- Assumes nothing.
use Rattle.std.proofs.Common.{refl, ◌≡◌, length, arith, length-take, rules}
use Rattle.digest_sha256.proofs.Pieces.{passed_holds}
use Rattle.digest_sha256.proofs.passed.Goals as goal

pub slice_bounds-copied-end : goal.slice_bounds-copied-end
slice_bounds-copied-end c = simp length-take (omega arith)

pub copied-full-requires : goal.copied-full-requires
copied-full-requires c = simp length-take (omega arith)

pub returns : goal.returns
returns c = let long : length c.args.state.buffer ≡ 64 = search rules in λ m g. passed_holds g long _ c.copied-full.ensures c.compress-first.ensures c.compress_all.ensures c.copied.ensures refl c.requires
