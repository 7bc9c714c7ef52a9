-- `list_bytes::remark_to_string` meets its contract.
-- Assumes nothing.
use Rattle.std.proofs.Common.{arith}
use Rattle.std.proofs.lemmas.Bool.Decides.{nat_tests}
use Rattle.base_ascii.specs.Bytes.{between}
use Rattle.list_bytes.specs.ByteTexts.{remark_text}
use Rattle.list_bytes.proofs.remark_to_string.Goals as goal

pub returns-in-97-to-122 : goal.returns-in-97-to-122
unfolding remark_text between
returns-in-97-to-122 c = grind (arith, nat_tests)

pub returns-in_default : goal.returns-in_default
unfolding remark_text between
returns-in_default c = grind (arith, nat_tests)
