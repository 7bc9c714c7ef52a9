-- `text_lines::behind_blanks` meets its contract.
-- Assumes nothing.
use Rattle.base_ascii.proofs.Searching.{front_turn, from_found, from_end}
use Rattle.text_lines.proofs.Blanks.{blanks_beyond, blanks_none, blanks_run}
use Rattle.text_lines.proofs.behind_blanks.Goals as goal

pub returns-then-text-from : goal.returns-then-text-from
returns-then-text-from c = search blanks_beyond

pub returns-then-not-is_kind : goal.returns-then-not-is_kind
returns-then-not-is_kind c = search blanks_none

pub loop-i-init : goal.loop-i-init
loop-i-init c = search blanks_run

pub returns-then-not-is_kind-2 : goal.returns-then-not-is_kind-2
returns-then-not-is_kind-2 c = search from_found

pub loop-i-preserved : goal.loop-i-preserved
loop-i-preserved c = search front_turn

pub returns : goal.returns
returns c = search from_end
