-- `escapes::keys::key_named` meets its contract: the table is the definition's.
-- Assumes nothing.
use mathlib.Core.Path.{refl}
use Rattle.escape_bytes.specs.Keys.{key_names}
use Rattle.escapes.proofs.Prefixes.{key_found, key_turn, key_end}
use Rattle.escapes.proofs.keys.key_named.Goals as goal

pub loop-name-init : goal.loop-name-init
unfolding key_names
loop-name-init c = record { spelt = refl; gives = refl }

pub returns-then-alike : goal.returns-then-alike
returns-then-alike c = search key_found

pub loop-name-preserved : goal.loop-name-preserved
loop-name-preserved c = search key_turn

pub returns : goal.returns
returns c = search key_end
