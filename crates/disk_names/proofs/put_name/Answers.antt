-- `disk_names::put_name` meets its contract.
-- Assumes nothing.
use Rattle.say_put.proofs.Clipping.{clip_long}
use Rattle.disk_names.proofs.Showing.{showing_start, showing_turn, showing_end}
use Rattle.disk_names.proofs.put_name.Goals as goal

pub loop-b-init : goal.loop-b-init
loop-b-init c = search showing_start

pub loop-b-preserved : goal.loop-b-preserved
loop-b-preserved c = search showing_turn

pub returns : goal.returns
returns c = search showing_end

pub shape_of-out : goal.shape_of-out
shape_of-out c = clip_long (returns c)
