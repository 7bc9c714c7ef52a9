-- `image_fitness::step` meets its contract.
-- Assumes nothing.
use Rattle.image_fitness.proofs.Moving.{step_memory, step_line, step_relinking, step_done}
use Rattle.image_fitness.proofs.step.Goals as goal

pub returns-in-Memory : goal.returns-in-Memory
returns-in-Memory c = search step_memory

pub returns-in-Line : goal.returns-in-Line
returns-in-Line c = search step_line

pub returns-in-Relinking : goal.returns-in-Relinking
returns-in-Relinking c = search step_relinking

pub returns-in-Done : goal.returns-in-Done
returns-in-Done c = search step_done
