-- `word_match::match_live` meets its contract: the loop goes from one word that the text begins with to the next.
-- Assumes nothing.
use Rattle.word_match.proofs.Storage.{match_stored}
use Rattle.word_match.proofs.Living.{live_dead, living_start, living_turn, living_demoted, living_less, living_stored, living_placed, living_place, living_next, first_held, living_word, living_none}
use Rattle.word_match.proofs.match_live.Goals as goal

pub returns-then-not-sets : goal.returns-then-not-sets
returns-then-not-sets c = search live_dead

pub first_passing-first-requires : goal.first_passing-first-requires
first_passing-first-requires c = search match_stored

pub loop-i-init : goal.loop-i-init
loop-i-init c = search living_start

pub place_of-place-requires : goal.place_of-place-requires
place_of-place-requires c = search living_placed

pub bounds-sets-place : goal.bounds-sets-place
bounds-sets-place c = search living_place

pub returns-then-sets-place : goal.returns-then-sets-place
returns-then-sets-place c = search living_demoted

pub overflow_add-i : goal.overflow_add-i
overflow_add-i c = search living_next

pub first_passing-i-requires : goal.first_passing-i-requires
first_passing-i-requires c = search living_stored

pub loop-i-smaller : goal.loop-i-smaller
loop-i-smaller c = search living_less

pub loop-i-preserved : goal.loop-i-preserved
loop-i-preserved c = search living_turn

pub word_found-requires : goal.word_found-requires
word_found-requires c = search first_held

pub returns-then-first-to : goal.returns-then-first-to
returns-then-first-to c = search living_word

pub returns-else-first-to : goal.returns-else-first-to
returns-else-first-to c = search living_none
