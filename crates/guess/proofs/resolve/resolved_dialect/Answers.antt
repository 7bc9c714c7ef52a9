-- `guess::resolve::resolved_dialect` meets its contract.
-- Assumes nothing.
use Rattle.std.proofs.lemmas.Result.{err_from_is_err_and}
use Rattle.guess.proofs.Texts.{resolved_fine, resolved_refused}
use Rattle.guess.proofs.resolve.resolved_dialect.Goals as goal

pub returns-in_err-check_text : goal.returns-in_err-check_text
returns-in_err-check_text c =
    let p = err_from_is_err_and c.from_residual.result c.from_residual.ensures.1 in
    rw (p.1, p.2) (resolved_refused _ _ c.in_err-check_text.was c.check_text.ensures)

pub returns : goal.returns
returns c = resolved_fine _ _ c.guessed.ensures c.in_ok-check_text.was c.check_text.ensures
