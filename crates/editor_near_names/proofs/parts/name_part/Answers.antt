-- `editor_near_names::parts::name_part` meets its contract.
-- Assumes nothing.
use Rattle.base_ascii.proofs.Searching.{front_within}
use Rattle.editor_near_names.proofs.Parting.{before_within, part_long, name_behind_lem, name_before}
use Rattle.editor_near_names.proofs.parts.name_part.Goals as goal

pub slice_bounds-trim-count : goal.slice_bounds-trim-count
slice_bounds-trim-count c = search front_within

pub slice_bounds-trim-start : goal.slice_bounds-trim-start
slice_bounds-trim-start c = search front_within

pub returns-then-digits-gt0 : goal.returns-then-digits-gt0
returns-then-digits-gt0 c = search name_behind_lem

pub slice_bounds-trim-end-2 : goal.slice_bounds-trim-end-2
slice_bounds-trim-end-2 c = search (part_long, before_within)

pub returns : goal.returns
returns c = search name_before
