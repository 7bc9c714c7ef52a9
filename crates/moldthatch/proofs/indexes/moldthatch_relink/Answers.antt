-- `moldthatch::indexes::moldthatch_relink` meets its contract.
-- Assumes nothing.
use mathlib.Core.Path.{refl}
use Rattle.base_refusals.proofs.Tight.{inner}
use Rattle.moldthatch.proofs.Telling.{tells_relinked, tells_link}
use Rattle.moldthatch.proofs.indexes.moldthatch_relink.Goals as goal

pub returns-in-Ok-Same : goal.returns-in-Ok-Same
returns-in-Ok-Same c = tells_relinked _ (inner c.in-Ok-Same.is c.in-Ok-Same.field-0-is) c.relink.ensures refl

pub returns-in-Ok-Changed : goal.returns-in-Ok-Changed
returns-in-Ok-Changed c = search (tells_link, inner)

pub returns-in-Ok-Leaves : goal.returns-in-Ok-Leaves
returns-in-Ok-Leaves c = tells_relinked _ (inner c.in-Ok-Leaves.is c.in-Ok-Leaves.field-0-is) c.relink.ensures c.with_one.ensures

pub returns-in-Ok-Endless : goal.returns-in-Ok-Endless
returns-in-Ok-Endless c = tells_relinked _ (inner c.in-Ok-Endless.is c.in-Ok-Endless.field-0-is) c.relink.ensures c.with_one-in-Ok-Endless.ensures

pub returns-in-Err : goal.returns-in-Err
returns-in-Err c = search tells_relinked
