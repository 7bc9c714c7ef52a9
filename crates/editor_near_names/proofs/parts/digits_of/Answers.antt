-- `editor_near_names::parts::digits_of` meets its contract.
-- Assumes nothing.
use Rattle.base_ascii.proofs.Searching.{front_within}
use Rattle.editor_near_names.proofs.Parting.{digits_told, part_long}
use Rattle.editor_near_names.proofs.parts.digits_of.Goals as goal

pub slice_bounds-digits-end : goal.slice_bounds-digits-end
slice_bounds-digits-end c = search (part_long, front_within)

pub slice_bounds-result-count : goal.slice_bounds-result-count
slice_bounds-result-count c = search front_within

pub slice_bounds-result-start : goal.slice_bounds-result-start
slice_bounds-result-start c = search front_within

pub returns : goal.returns
returns c = search digits_told
