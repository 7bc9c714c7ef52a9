-- `word_match::group_of` meets its contract.
-- Assumes nothing.
use Rattle.word_match.proofs.Storage.{group_empty, group_outside, group_inside, group_low, group_fits, group_within}
use Rattle.word_match.proofs.group_of.Goals as goal

pub returns-in_default : goal.returns-in_default
returns-in_default c = search (group_empty, c.in_default.ensures.item)

pub returns-then-not-between : goal.returns-then-not-between
returns-then-not-between c = search (group_outside, c.in-Some.ensures.item)

pub overflow_sub-b : goal.overflow_sub-b
overflow_sub-b c = search group_low

pub overflow_add-groups_of : goal.overflow_add-groups_of
overflow_add-groups_of c = search group_fits

pub section_at-requires : goal.section_at-requires
section_at-requires c = search (group_within, c.args.words.spelt)

pub returns : goal.returns
returns c = search (group_inside, c.in-Some.ensures.item)
