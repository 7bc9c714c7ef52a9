-- `disk::format` meets its contract.
-- Assumes nothing.
use Rattle.disk_rules.specs.Calls.{fresh_header}
use Rattle.disk.proofs.Formatting.{format_long, format_done}
use Rattle.disk.proofs.format.Goals as goal

pub returns-then-disk-ne174848 : goal.returns-then-disk-ne174848
returns-then-disk-ne174848 c = search (format_long, c.if-disk-ne174848.true)

pub returns : goal.returns
unfolding fresh_header
returns c = format_done c.args.disk.now c.if-disk-ne174848.false (c.fill.ensures.after (λ y e. cc)) c.store.ensures c.store-2.ensures
