-- `disk::seek` meets its contract.
-- Assumes nothing.
use Rattle.disk.proofs.Locating.{seek_long, look_entries, seek_unsound, seek_name, seek_on}
use borrow.Author.Rules.{rules}
use Rattle.disk.proofs.seek.Goals as goal

pub returns-then-disk-ne174848 : goal.returns-then-disk-ne174848
returns-then-disk-ne174848 c = search (seek_long, c.if-disk-ne174848.true)

pub returns-in_default : goal.returns-in_default
returns-in_default c = seek_unsound c.args.disk.now c.args.name.now _ c.in_default.ensures

pub returns-then-not-is_name : goal.returns-then-not-is_name
returns-then-not-is_name c = seek_name c.args.name.now c.in-Some.ensures c.is_name.ensures c.if-not-is_name.true

pub find-entry-requires : goal.find-entry-requires
find-entry-requires c = (c.if-disk-ne174848.false, look_entries c.in-Some.ensures)

pub returns : goal.returns
returns c = seek_on c.args.name.now c.in-Some.ensures c.is_name.ensures c.if-disk-ne174848.false c.if-not-is_name.false c.find-entry.ensures
