-- `disk_directory::put_files` meets its contract.
-- Assumes nothing.
use Rattle.say_put.proofs.Clipping.{clip_long}
use Rattle.disk_directory.proofs.Lining.{lining_start, lining_turn, lining_end, entry_listed}
use borrow.Author.Rules.{rules}
use Rattle.disk_directory.proofs.put_files.Goals as goal

pub loop-p-init : goal.loop-p-init
loop-p-init c = search lining_start

pub put_file-to-requires : goal.put_file-to-requires
put_file-to-requires c = search (rules, entry_listed)

pub loop-p-preserved : goal.loop-p-preserved
loop-p-preserved c = search lining_turn

pub returns : goal.returns
returns c = search lining_end

pub shape_of-out : goal.shape_of-out
shape_of-out c = clip_long (returns c)
