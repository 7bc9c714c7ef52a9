-- `escapes::keys::key_escape` meets its contract.
-- Assumes nothing.
use Rattle.escapes.proofs.Marks.{key_begins_not, key_unreached, key_short, key_long, key_known, key_unknown}
use Rattle.escapes.proofs.keys.key_escape.Goals as goal

pub returns-then-not-begins_key : goal.returns-then-not-begins_key
returns-then-not-begins_key c = search key_begins_not

pub returns-then-reach-mark : goal.returns-then-reach-mark
returns-then-reach-mark c = search key_unreached

pub returns-in_err-key_named-in-len1 : goal.returns-in_err-key_named-in-len1
returns-in_err-key_named-in-len1 c = search (key_unknown, c.in_err-key_named-in-len1.ensures)

pub returns-in_ok-key_named-in-len1 : goal.returns-in_ok-key_named-in-len1
returns-in_ok-key_named-in-len1 c = search (key_known, c.in_ok-key_named-in-len1.ensures)

pub returns-in_default : goal.returns-in_default
returns-in_default c = search key_short

pub returns-in_default-2 : goal.returns-in_default-2
returns-in_default-2 c = search key_long
