-- `image_units::unit_at` meets its contract: the mode is known in each arm.
-- Assumes nothing.
use Rattle.image_units.specs.Units.{unit_at}
use Rattle.image_units.proofs.Cases.{unit_in, unit_quoted, unit_remarked}
use Rattle.image_units.proofs.unit_at.Goals as goal

pub returns-in-Plain : goal.returns-in-Plain
unfolding unit_at
returns-in-Plain c = search unit_in

pub returns-in-Data : goal.returns-in-Data
unfolding unit_at
returns-in-Data c = search unit_in

pub returns-in-Quoted : goal.returns-in-Quoted
returns-in-Quoted c = search unit_quoted

pub returns-in-Remark : goal.returns-in-Remark
returns-in-Remark c = search unit_remarked
