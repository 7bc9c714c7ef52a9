-- `library_digests::write_sha256` meets its contract.
-- Assumes nothing.
use mathlib.Core.Path.{ap}
use lib.ListN.{length, length-take}
use native.Mathlib.Omega.{arith}
use Rattle.library_digests.proofs.Writing.{digest_long, no_room_lem, digest_put}
use Rattle.library_digests.proofs.write_sha256.Goals as goal

pub returns-then-out-lt32 : goal.returns-then-out-lt32
returns-then-out-lt32 c = search no_room_lem

pub copy_from_slice-requires : goal.copy_from_slice-requires
copy_from_slice-requires c = omega (arith, length-take 32 c.args.out.now, digest_long c.args.bytes.now, ap length c.digest-digest.ensures)

pub returns : goal.returns
returns c = search digest_put
