-- `image_units::behind` meets its contract.
-- Assumes nothing.
use native.Mathlib.Omega.{arith}
use Rattle.image_units.proofs.Cases.{behind_remark_lem, behind_no_remark, behind_data, behind_no_data, behind_plain, behind_colon, behind_item, behind_other}
use Rattle.image_units.proofs.behind.Goals as goal

pub returns-in-143 : goal.returns-in-143
returns-in-143 c = search behind_remark_lem

pub returns-in-131 : goal.returns-in-131
returns-in-131 c = search behind_data

pub returns-in_default-b : goal.returns-in_default-b
returns-in_default-b c = search behind_no_remark

pub returns-in_default-b-2 : goal.returns-in_default-b-2
returns-in_default-b-2 c = behind_item _ _ c.in-Data.is (grind arith)

pub returns-in_default-b-3 : goal.returns-in_default-b-3
returns-in_default-b-3 c = behind_plain _ _ c.in-Plain.is (grind arith) (grind arith)

pub returns-in-58 : goal.returns-in-58
returns-in-58 c = search behind_colon

pub returns-in_default-b-4 : goal.returns-in_default-b-4
returns-in_default-b-4 c = search behind_no_data

pub returns-in_default : goal.returns-in_default
returns-in_default c = behind_other _ _ _ c.in_default.not-Plain c.in_default.not-Data
