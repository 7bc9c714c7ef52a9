-- `moldthatch::dialects::dialect_code` meets its contract.
-- Assumes nothing.
use Rattle.moldthatch.proofs.TellingDialects.{tells_dialect}
use Rattle.moldthatch.proofs.dialects.dialect_code.Goals as goal

pub returns-in-Auto : goal.returns-in-Auto
returns-in-Auto c = search tells_dialect

pub returns-in-BasicV2 : goal.returns-in-BasicV2
returns-in-BasicV2 c = search tells_dialect

pub returns-in-Tsb : goal.returns-in-Tsb
returns-in-Tsb c = search tells_dialect

pub returns-in-Basic35 : goal.returns-in-Basic35
returns-in-Basic35 c = search tells_dialect
