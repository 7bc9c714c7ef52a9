-- `disk_bytes::store` meets its contract.
-- Assumes nothing.
use Rattle.disk_bytes.proofs.Laying.{stored}
use Rattle.disk_bytes.proofs.store.Goals as goal

pub returns : goal.returns
returns c = stored c.args.out.now c.args.text.now c.args.at c.requires c.copy_from_slice.ensures.after
