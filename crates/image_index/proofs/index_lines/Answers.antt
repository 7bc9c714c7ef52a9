-- `image_index::index_lines` meets its contract.
-- Assumes nothing.
use Rattle.std.proofs.lemmas.Result.{err_from_is_err_and}
use Rattle.base_lent.proofs.Storing.{put_long}
use Rattle.image_index.proofs.Whole.{mul_fits, add_fits, answer_many, answer_high, answer_none, answer_room, answer_done}
use Rattle.image_index.proofs.index_lines.Goals as goal

pub returns-then-lines-gt8191 : goal.returns-then-lines-gt8191
returns-then-lines-gt8191 c = search answer_many

pub returns-in_err-jumps : goal.returns-in_err-jumps
returns-in_err-jumps c = let p = err_from_is_err_and c.from_residual.result c.from_residual.ensures.1 in rw (p.1, p.2) (search (answer_high, c.in_err-jumps.was))

pub overflow_mul-needed-2 : goal.overflow_mul-needed-2
overflow_mul-needed-2 c = search (mul_fits, c.in_ok-jumps.was)

pub overflow_add-needed-2 : goal.overflow_add-needed-2
overflow_add-needed-2 c = search (add_fits, c.in_ok-jumps.was)

pub returns-then-needed-out : goal.returns-then-needed-out
returns-then-needed-out c = search (answer_none, c.in_ok-jumps.was)

pub put_index-requires : goal.put_index-requires
put_index-requires c = search (answer_room, c.in_ok-jumps.was)

pub shape_of-out : goal.shape_of-out
shape_of-out c = search put_long

pub returns : goal.returns
returns c = search (answer_done, c.in_ok-jumps.was)
