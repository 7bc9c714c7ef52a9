-- `image_fitness::line_step` meets its contract: a line, or what stands behind the last.
-- Assumes nothing.
use Rattle.base_refusals.proofs.Tight.{inner}
use Rattle.image_fitness.proofs.Moving.{line_found, line_ended, line_refused}
use Rattle.image_fitness.proofs.line_step.Goals as goal
use Rattle.image_fitness.proofs.line_step.Goals.{in-Ok+in-None-1, in-Err-1}

pub in_line-requires : goal.in_line-requires
in_line-requires c = search (line_found, inner)

pub returns-in-Ok-None : goal.returns-in-Ok-None
returns-in-Ok-None c =
    elim c.in-Ok-None-1.branch [
      | in-Ok+in-None-1 w ↦ search (line_ended, inner)
      | in-Err-1 w ↦ search line_refused
    ]
