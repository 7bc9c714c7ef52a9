-- `disk_names::given` meets its contract.
-- Assumes nothing.
use Rattle.say_put.proofs.Clipping.{clip_long}
use Rattle.disk_names.proofs.Naming.{giving_start, giving_form, giving_character, giving_end}
use Rattle.disk_names.proofs.given.Goals as goal

pub loop-i-init : goal.loop-i-init
loop-i-init c = search giving_start

pub loop-i-preserved-in-Some : goal.loop-i-preserved-in-Some
loop-i-preserved-in-Some c = search giving_form

pub loop-i-preserved : goal.loop-i-preserved
loop-i-preserved c = search giving_character

pub returns : goal.returns
returns c = search giving_end

pub shape_of-out : goal.shape_of-out
shape_of-out c = clip_long (returns c)
