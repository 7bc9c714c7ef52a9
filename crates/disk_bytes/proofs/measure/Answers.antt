-- `disk_bytes::measure` meets its contract.
-- Assumes nothing.
use Rattle.disk_bytes.proofs.Taking.{measure_start, measure_below, measure_turn, measure_end}
use borrow.Author.Rules.{rules}
use Rattle.disk_bytes.proofs.measure.Goals as goal

pub loop-n-init : goal.loop-n-init
loop-n-init c = search measure_start

pub payload_length-count-requires : goal.payload_length-count-requires
payload_length-count-requires c = search (rules, measure_below)

pub loop-n-preserved : goal.loop-n-preserved
loop-n-preserved c = search measure_turn

pub returns : goal.returns
returns c = search measure_end
