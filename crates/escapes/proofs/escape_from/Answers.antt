-- `escapes::escape_from` meets its contract.
-- Assumes nothing.
use Rattle.escapes.proofs.Tails.{end_counted, end_late, end_whole}
use Rattle.escapes.proofs.escape_from.Goals as goal
use Rattle.escapes.proofs.escape_from.Goals.{in_default-via-in-Some+else-at-repeat, in_default-via-in_default}

pub returns-in-Some : goal.returns-in-Some
returns-in-Some c = search end_counted

pub returns-in_default : goal.returns-in_default
returns-in_default c =
    elim c.in_default.branch [
      | in_default-via-in-Some+else-at-repeat w ↦ search end_late
      | in_default-via-in_default w ↦ search end_whole
    ]
