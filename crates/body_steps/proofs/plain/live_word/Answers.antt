-- `body_steps::plain::live_word` meets its contract.
-- Assumes nothing.
use Rattle.word_match.proofs.Living.{live_dead}
use Rattle.body_steps.proofs.plain.live_word.Goals as goal

pub returns-then-not-sets : goal.returns-then-not-sets
returns-then-not-sets c = search live_dead
