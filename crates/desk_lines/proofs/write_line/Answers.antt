-- `desk_lines::write_line` is safe and ends: a stretch lies within its buffer, and each brings the line nearer to its end.
-- Assumes nothing.
use Rattle.desk_lines.proofs.Held.{writing_start, writing_turn, writing_less, stretch_within}
use Rattle.desk_lines.proofs.write_line.Goals as goal
use Rattle.desk_lines.proofs.write_line.Goals.{in-Over, in_default}

pub loop-place-init : goal.loop-place-init
loop-place-init c = search writing_start

pub write_first-requires : goal.write_first-requires
write_first-requires c = search stretch_within

pub loop-place-smaller : goal.loop-place-smaller
loop-place-smaller c =
    elim c.match-matches.branch [ in-Over w ↦ cc w.matches-is | in_default w ↦ search (writing_less, w.in_default.not-Over) ]

pub loop-place-preserved : goal.loop-place-preserved
loop-place-preserved c = search writing_turn
