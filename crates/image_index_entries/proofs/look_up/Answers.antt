-- `image_index_entries::look_up` meets its contract.
-- Assumes nothing.
use native.Mathlib.Omega.{arith}
use Rattle.image_index_entries.proofs.Reading.{looking_start, looking_found, looking_turn, looking_end}
use Rattle.image_index_entries.proofs.look_up.Goals as goal

pub loop-before-init : goal.loop-before-init
loop-before-init c = search looking_start

pub overflow_mul-before : goal.overflow_mul-before
overflow_mul-before c = omega arith

pub overflow_add-before : goal.overflow_add-before
overflow_add-before c = omega arith

pub word_at-requires : goal.word_at-requires
word_at-requires c = omega arith

pub overflow_mul-before-then-word_at-number : goal.overflow_mul-before-then-word_at-number
overflow_mul-before-then-word_at-number c = omega arith

pub overflow_add-before-then-word_at-number : goal.overflow_add-before-then-word_at-number
overflow_add-before-then-word_at-number c = omega arith

pub word_at-requires-then-word_at-number : goal.word_at-requires-then-word_at-number
word_at-requires-then-word_at-number c = omega arith

pub returns-then-word_at-number : goal.returns-then-word_at-number
returns-then-word_at-number c = search (looking_found, c.loop-before.invariant)

pub loop-before-preserved : goal.loop-before-preserved
loop-before-preserved c = search (looking_turn, c.loop-before.invariant, c.if-word_at-number.false)

pub returns : goal.returns
returns c = search looking_end
