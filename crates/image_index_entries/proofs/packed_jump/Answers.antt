-- `image_index_entries::packed_jump` meets its contract.
-- Assumes nothing.
use native.Mathlib.Omega.{arith}
use Rattle.image_index_entries.proofs.Reading.{entry_none, packed_beyond, packed_there}
use Rattle.image_index_entries.proofs.packed_jump.Goals as goal
use Rattle.image_index_entries.proofs.packed_jump.Goals.{then-place-eq0-via-then-place-eq0, then-place-eq0-via-else-place-eq0+then-place-held}

pub returns-then-place-eq0 : goal.returns-then-place-eq0
returns-then-place-eq0 c =
    elim c.then-place-eq0.branch [
      | then-place-eq0-via-then-place-eq0 w ↦ search entry_none
      | then-place-eq0-via-else-place-eq0+then-place-held w ↦ search packed_beyond
    ]

pub overflow_mul-from : goal.overflow_mul-from
overflow_mul-from c = omega arith

pub overflow_mul-at : goal.overflow_mul-at
overflow_mul-at c = omega arith

pub slice_bounds-field_at-count : goal.slice_bounds-field_at-count
slice_bounds-field_at-count c = omega arith

pub slice_bounds-field_at-start : goal.slice_bounds-field_at-start
slice_bounds-field_at-start c = omega arith

pub field_at-requires : goal.field_at-requires
field_at-requires c = omega arith

pub slice_bounds-field_at-count-2 : goal.slice_bounds-field_at-count-2
slice_bounds-field_at-count-2 c = omega arith

pub slice_bounds-field_at-start-2 : goal.slice_bounds-field_at-start-2
slice_bounds-field_at-start-2 c = omega arith

pub field_at-requires-2 : goal.field_at-requires-2
field_at-requires-2 c = omega arith

pub returns : goal.returns
returns c = search (packed_there, c.if-place-eq0.false)
