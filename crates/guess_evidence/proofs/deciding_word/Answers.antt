-- `guess_evidence::deciding_word` meets its contract.
-- Assumes nothing.
use Rattle.guess_evidence.proofs.Steps.{place_within, word_told, no_word_told}
use mathlib.Core.Path.{◌∙◌}
use borrow.Author.Rules.{rules}
use Rattle.guess_evidence.proofs.deciding_word.Goals as goal

pub slice_bounds-list_place-count : goal.slice_bounds-list_place-count
slice_bounds-list_place-count c = place_within _ c.in_ok-offset.was c.deciding_place.ensures

pub slice_bounds-list_place-start : goal.slice_bounds-list_place-start
slice_bounds-list_place-start c = search (rules, place_within _ c.in_ok-offset.was c.deciding_place.ensures)

pub returns-in_err-offset : goal.returns-in_err-offset
returns-in_err-offset c = c.from_residual.ensures ∙ no_word_told _ c.in_err-offset.was c.deciding_place.ensures

pub returns : goal.returns
returns c = word_told _ c.list_place-word.ensures c.in_ok-offset.was c.deciding_place.ensures
