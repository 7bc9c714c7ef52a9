-- `disk_bytes::payload_length` meets its contract.
-- Assumes nothing.
use Rattle.disk_bytes.proofs.Taking.{pay_full, pay_last}
use Prim.Native.Nat.{◌+◌, ◌-◌, ◌*◌, ◌<◌}
use mathlib.Core.Path.{◌≡◌}
use lib.ListN.{get_or}
use native.Mathlib.Omega.{arith}
use borrow.Author.Rules.{rules}
use Rattle.disk_bytes.proofs.payload_length.Goals as goal

pub returns-then-disk-at-eq0 : goal.returns-then-disk-at-eq0
returns-then-disk-at-eq0 c =
    let b : get_or c.args.disk.now (256 * c.args.n + 1) 0 < 256 = omega (arith, c.type_inv.disk (256 * c.args.n + 1)) in
    let k : c.saturating_sub.result ≡ get_or c.args.disk.now (256 * c.args.n + 1) 0 - 1 = omega arith in
    (pay_last c.args.disk.now c.args.n c.requires c.if-disk-at-eq0.true k b, omega arith)

pub returns-else-disk-at-eq0 : goal.returns-else-disk-at-eq0
returns-else-disk-at-eq0 c = search (rules, pay_full, c.if-disk-at-eq0.false)
