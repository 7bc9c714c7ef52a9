-- `crunch_write::write_line` meets its contract: the numbering of the line says what it gives.
-- Assumes nothing.
use Rattle.crunch_write.proofs.Giving.{none_given, four_room, given_frame, given_put, given_room}
use Rattle.crunch_rules.proofs.Lining.{body_up, body_within}
use Rattle.crunch_write.proofs.write_line.Goals as goal

pub slice_bounds-write_body-count : goal.slice_bounds-write_body-count
slice_bounds-write_body-count c = search four_room

pub slice_bounds-write_body-start : goal.slice_bounds-write_body-start
slice_bounds-write_body-start c = search four_room

pub slice_bounds-body-count : goal.slice_bounds-body-count
slice_bounds-body-count c = search body_up

pub slice_bounds-body-start : goal.slice_bounds-body-start
slice_bounds-body-start c = search body_up

pub slice_bounds-body-end : goal.slice_bounds-body-end
slice_bounds-body-end c = search body_within

pub write_body-length-requires : goal.write_body-length-requires
write_body-length-requires c = search given_room

pub put_frame-requires : goal.put_frame-requires
put_frame-requires c = search given_frame

pub returns-in-Blank : goal.returns-in-Blank
returns-in-Blank c = none_given _ _ _ c.in-Blank.is c.number_line.ensures

pub returns-in-Numbered : goal.returns-in-Numbered
returns-in-Numbered c = search given_put
