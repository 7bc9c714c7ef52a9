-- `image_index_entries::line_at` meets its contract.
-- Assumes nothing.
use native.Mathlib.Omega.{arith}
use Rattle.image_index_entries.proofs.Reading.{entry_none, line_beyond, line_there}
use Rattle.image_index_entries.proofs.line_at.Goals as goal
use Rattle.image_index_entries.proofs.line_at.Goals.{then-place-eq0-via-then-place-eq0, then-place-eq0-via-else-place-eq0+then-place-lines_held}

pub returns-then-place-eq0 : goal.returns-then-place-eq0
returns-then-place-eq0 c =
    elim c.then-place-eq0.branch [
      | then-place-eq0-via-then-place-eq0 w ↦ search entry_none
      | then-place-eq0-via-else-place-eq0+then-place-lines_held w ↦ search line_beyond
    ]

pub overflow_mul-place : goal.overflow_mul-place
overflow_mul-place c = omega arith

pub overflow_sub-place : goal.overflow_sub-place
overflow_sub-place c = omega arith

pub word_at-requires : goal.word_at-requires
word_at-requires c = omega arith

pub overflow_mul-place-2 : goal.overflow_mul-place-2
overflow_mul-place-2 c = omega arith

pub word_at-requires-2 : goal.word_at-requires-2
word_at-requires-2 c = omega arith

pub returns : goal.returns
returns c = search (line_there, c.if-place-eq0.false)
