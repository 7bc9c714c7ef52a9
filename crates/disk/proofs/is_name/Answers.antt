-- `disk::is_name` meets its contract.
-- Assumes nothing.
use mathlib.Core.Path.{◌≡◌, sym, ◌∙◌}
use mathlib.Core.Bool.{Bool, true, false}
use native.Mathlib.Omega.{arith}
use Rattle.disk.proofs.Locating.{name_told}
use Rattle.disk.proofs.is_name.Goals as goal
use Rattle.disk.proofs.is_name.Goals.{in-1-to-16, in_default, in_default-2}

pub returns-then-matches : goal.returns-then-matches
returns-then-matches c = elim c.if-matches-2.branch [
  | in-1-to-16 w ↦ name_told c.args.name.now (omega arith) (omega arith) c.contains.ensures.value
  | in_default w ↦ absurd (let z : ◌≡◌ {A = Bool} false true = sym w.matches-is ∙ c.if-matches.true in cc)
  | in_default-2 w ↦ absurd (let z : ◌≡◌ {A = Bool} false true = sym w.matches-is ∙ c.if-matches.true in cc)
]
