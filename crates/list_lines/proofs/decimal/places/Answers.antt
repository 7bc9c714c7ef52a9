-- `list_lines::decimal::places` meets its contract.
-- Assumes nothing.
use Rattle.std.proofs.Common.{arith}
use Rattle.list_lines.proofs.Digits.{places_one, places_two, places_three, places_four, places_five}
use Rattle.list_lines.proofs.decimal.places.Goals as goal

pub returns-in-0-to-9 : goal.returns-in-0-to-9
returns-in-0-to-9 c = places_one _ (omega arith)

pub returns-in-10-to-99 : goal.returns-in-10-to-99
returns-in-10-to-99 c = places_two _ (omega arith) (omega arith)

pub returns-in-100-to-999 : goal.returns-in-100-to-999
returns-in-100-to-999 c = places_three _ (omega arith) (omega arith)

pub returns-in-1000-to-9999 : goal.returns-in-1000-to-9999
returns-in-1000-to-9999 c = places_four _ (omega arith) (omega arith)

pub returns-in_default : goal.returns-in_default
returns-in_default c = places_five _ (omega arith) c.ranges.n
