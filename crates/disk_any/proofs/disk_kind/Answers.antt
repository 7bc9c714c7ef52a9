-- `disk_any::disk_kind` meets its contract.
-- Assumes nothing.
use Rattle.disk_any.proofs.Sizes.{kind_1, kind_2, kind_3, kind_4, kind_5, kind_6, kind_7, kind_8, kind_9}
use Rattle.disk_any.proofs.disk_kind.Goals as goal

pub returns-then-length-eq174848 : goal.returns-then-length-eq174848
returns-then-length-eq174848 c = search kind_1

pub returns-then-length-eq175531 : goal.returns-then-length-eq175531
returns-then-length-eq175531 c = search kind_2

pub returns-then-length-eq196608 : goal.returns-then-length-eq196608
returns-then-length-eq196608 c = search kind_3

pub returns-then-length-eq197376 : goal.returns-then-length-eq197376
returns-then-length-eq197376 c = search kind_4

pub returns-then-length-eq349696 : goal.returns-then-length-eq349696
returns-then-length-eq349696 c = search kind_5

pub returns-then-length-eq351062 : goal.returns-then-length-eq351062
returns-then-length-eq351062 c = search kind_6

pub returns-then-length-eq819200 : goal.returns-then-length-eq819200
returns-then-length-eq819200 c = search kind_7

pub returns-then-length-eq822400 : goal.returns-then-length-eq822400
returns-then-length-eq822400 c = search kind_8

pub returns : goal.returns
returns c = kind_9 _ c.if-length-eq174848.false c.if-length-eq175531.false c.if-length-eq196608.false c.if-length-eq197376.false c.if-length-eq349696.false c.if-length-eq351062.false c.if-length-eq819200.false c.if-length-eq822400.false
