-- `list_spelling::lists_as_itself` meets its contract.
-- Assumes nothing.
use Rattle.std.proofs.Common.{arith}
use Rattle.std.proofs.lemmas.Bool.Decides.{nat_tests}
use Rattle.base_ascii.specs.Bytes.{between}
use Rattle.list_spelling.specs.ItselfHelpers.{lists_as_itself}
use Rattle.list_spelling.proofs.lists_as_itself.Goals as goal

pub returns-in-34 : goal.returns-in-34
unfolding lists_as_itself between
returns-in-34 c = grind (arith, nat_tests)

pub returns-in-32-to-95 : goal.returns-in-32-to-95
unfolding lists_as_itself between
returns-in-32-to-95 c = grind (arith, nat_tests)

pub returns-in_default : goal.returns-in_default
unfolding lists_as_itself between
returns-in_default c = grind (arith, nat_tests)

pub returns-in_default-2 : goal.returns-in_default-2
unfolding lists_as_itself between
returns-in_default-2 c = grind (arith, nat_tests)
