-- `image_relink::relink` meets its contract.
-- Assumes nothing.
use Rattle.image_relink.proofs.Following.{relinking_long, relinking_short, followed_start, followed_turn, followed_nearer, ends_same, ends_changed, ends_leaving, ends_endless}
use Rattle.image_relink.proofs.relink.Goals as goal

pub returns-then-length-gt-LONGEST : goal.returns-then-length-gt-LONGEST
returns-then-length-gt-LONGEST c = search relinking_long

pub returns-then-length-lt2 : goal.returns-then-length-lt2
returns-then-length-lt2 c = search relinking_short

pub loop-next-init : goal.loop-next-init
loop-next-init c = search followed_start

pub returns-in-End : goal.returns-in-End
returns-in-End c = search ends_same

pub loop-next-smaller : goal.loop-next-smaller
loop-next-smaller c = search followed_nearer

pub loop-next-preserved : goal.loop-next-preserved
loop-next-preserved c = search followed_turn

pub returns-in-Changed : goal.returns-in-Changed
returns-in-Changed c = search ends_changed

pub returns-in-Outside : goal.returns-in-Outside
returns-in-Outside c = search ends_leaving

pub returns-in-Endless : goal.returns-in-Endless
returns-in-Endless c = search ends_endless
