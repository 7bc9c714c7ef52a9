-- `disk_why::chain_fault` meets its contract.
-- Assumes nothing.
use Rattle.disk_why.proofs.Faults.{alone_start, alone_room, alone_found, alone_turn, alone_end}
use borrow.Author.Rules.{rules}
use Rattle.disk_why.proofs.chain_fault.Goals as goal

pub loop-p-init : goal.loop-p-init
loop-p-init c = search alone_start

pub alone_fault-fault-requires : goal.alone_fault-fault-requires
alone_fault-fault-requires c = search (rules, alone_room)

pub returns-then-not-is_nothing : goal.returns-then-not-is_nothing
returns-then-not-is_nothing c = search alone_found

pub loop-p-preserved : goal.loop-p-preserved
loop-p-preserved c = search alone_turn

pub returns : goal.returns
returns c = search alone_end
