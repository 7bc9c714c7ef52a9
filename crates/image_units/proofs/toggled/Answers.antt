-- `image_units::toggled` meets its contract.
-- Assumes nothing.
use Rattle.image_units.specs.Units.{toggled_mode}
use Rattle.image_units.proofs.toggled.Goals as goal

pub returns-in-Plain : goal.returns-in-Plain
unfolding toggled_mode
returns-in-Plain c = rw c.in-Plain.is

pub returns-in-Quoted : goal.returns-in-Quoted
unfolding toggled_mode
returns-in-Quoted c = rw c.in-Quoted.is

pub returns-in-Remark : goal.returns-in-Remark
unfolding toggled_mode
returns-in-Remark c = rw c.in-Remark.is

pub returns-in-Data : goal.returns-in-Data
unfolding toggled_mode
returns-in-Data c = rw c.in-Data.is

pub returns-in-QuotedData : goal.returns-in-QuotedData
unfolding toggled_mode
returns-in-QuotedData c = rw c.in-QuotedData.is
