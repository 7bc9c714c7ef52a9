-- `disk_bytes::take_out` meets its contract.
-- Assumes nothing.
use Rattle.disk_bytes.proofs.Taking.{take_start, take_below, take_room, take_mul, take_add, take_sum, take_within, take_to, take_turn, take_end}
use borrow.Author.Rules.{rules}
use Rattle.disk_bytes.proofs.take_out.Goals as goal

pub loop-n-init : goal.loop-n-init
loop-n-init c = search take_start

pub overflow_mul-from : goal.overflow_mul-from
overflow_mul-from c = search take_mul

pub overflow_add-from : goal.overflow_add-from
overflow_add-from c = search take_add

pub payload_length-requires : goal.payload_length-requires
payload_length-requires c = search (rules, take_below)

pub overflow_add-end : goal.overflow_add-end
overflow_add-end c = search take_sum

pub slice_bounds-store-end : goal.slice_bounds-store-end
slice_bounds-store-end c = search take_within

pub store-requires : goal.store-requires
store-requires c = search take_room

pub overflow_add-to : goal.overflow_add-to
overflow_add-to c = search take_to

pub loop-n-preserved : goal.loop-n-preserved
loop-n-preserved c = search take_turn

pub returns : goal.returns
returns c = search take_end
