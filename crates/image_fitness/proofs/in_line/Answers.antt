-- `image_fitness::in_line` meets its contract.
-- Assumes nothing.
use Rattle.image_fitness.proofs.Moving.{in_number, in_order, in_zero, in_length, in_jumps}
use Rattle.image_fitness.proofs.in_line.Goals as goal

pub returns-in-Number : goal.returns-in-Number
returns-in-Number c = search in_number

pub returns-in-Order : goal.returns-in-Order
returns-in-Order c = search in_order

pub returns-in-Zero : goal.returns-in-Zero
returns-in-Zero c = search in_zero

pub returns-in-Length : goal.returns-in-Length
returns-in-Length c = search in_length

pub returns-in-Jumps : goal.returns-in-Jumps
returns-in-Jumps c = search in_jumps
