-- `disk_why::entry_fault` meets its contract.
-- Assumes nothing.
use Rattle.disk_why.proofs.Faults.{test_start, entry_in_lem, entry_first, test_tail, test_type, test_twice, test_turn, test_end}
use borrow.Author.Rules.{rules}
use Rattle.disk_why.proofs.entry_fault.Goals as goal

pub loop-i-init : goal.loop-i-init
loop-i-init c = search test_start

pub bounds-disk-p : goal.bounds-disk-p
bounds-disk-p c = search entry_first

pub returns-then-disk-p : goal.returns-then-disk-p
returns-then-disk-p c = search (test_type, c.if-disk-p.true)

pub name_at-requires : goal.name_at-requires
name_at-requires c = search entry_in_lem

pub find-requires : goal.find-requires
find-requires c = search (rules, test_tail)

pub returns-in-Some : goal.returns-in-Some
returns-in-Some c = search test_twice

pub loop-i-preserved : goal.loop-i-preserved
loop-i-preserved c = search test_turn

pub returns : goal.returns
returns c = search test_end
