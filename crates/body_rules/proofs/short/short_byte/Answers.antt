-- `body_rules::short::short_byte` meets its contract.
-- Assumes nothing.
use Rattle.body_rules.specs.ShortHelpers.{short_byte}
use Rattle.body_rules.proofs.ShortSteps.{byte_in, byte_raised, known_in}
use Rattle.body_rules.proofs.short.short_byte.Goals as goal

pub plain_byte-requires : goal.plain_byte-requires
plain_byte-requires c = search known_in

pub returns-in-Plain : goal.returns-in-Plain
unfolding short_byte
returns-in-Plain c = search byte_in

pub returns-in-String : goal.returns-in-String
unfolding short_byte
returns-in-String c = search byte_in

pub returns-in-Remark : goal.returns-in-Remark
unfolding short_byte
returns-in-Remark c = search byte_in

pub returns-in-Data : goal.returns-in-Data
returns-in-Data c = search byte_raised
