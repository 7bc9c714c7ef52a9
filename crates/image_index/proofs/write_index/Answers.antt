-- `image_index::write_index` meets its contract.
-- Assumes nothing.
use Rattle.std.proofs.lemmas.Result.{err_from_is_err_and}
use Rattle.image_index.proofs.Whole.{check_faultless, check_refused}
use Rattle.image_index.proofs.write_index.Goals as goal

pub index_lines-requires : goal.index_lines-requires
index_lines-requires c = search (check_faultless, c.in_ok-overview.was)

pub returns-in_err-overview : goal.returns-in_err-overview
returns-in_err-overview c = let p = err_from_is_err_and c.from_residual.result c.from_residual.ensures.1 in rw (p.1, p.2) (search (check_refused, c.in_err-overview.was))
