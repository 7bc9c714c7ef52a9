-- `say_names::before_last` meets its contract.
-- Assumes nothing.
use Rattle.say_names.proofs.Splitting.{mark_taken, split_before, before_none}
use Rattle.say_names.proofs.before_last.Goals as goal

pub slice_bounds-result-end : goal.slice_bounds-result-end
slice_bounds-result-end c = search mark_taken

pub returns-in-Some : goal.returns-in-Some
returns-in-Some c = search split_before

pub returns-in-None : goal.returns-in-None
returns-in-None c = search before_none
