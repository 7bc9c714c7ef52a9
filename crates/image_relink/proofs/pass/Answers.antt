-- `image_relink::pass` meets its contract.
-- Assumes nothing.
use Rattle.image_relink.proofs.Following.{known_within, count_fits, pass_outside, pass_end, pass_stored, pass_beyond, pass_endless}
use borrow.Author.Rules.{rules}
use native.Mathlib.Omega.{arith}
use Rattle.image_relink.proofs.pass.Goals as goal

pub returns-then-not-is_in_memory : goal.returns-then-not-is_in_memory
returns-then-not-is_in_memory c = search pass_outside

pub bounds-image-high : goal.bounds-image-high
bounds-image-high c = search known_within

pub returns-then-image-high-eq0 : goal.returns-then-image-high-eq0
returns-then-image-high-eq0 c = search pass_end

pub overflow_add-y : goal.overflow_add-y
overflow_add-y c = search count_fits

pub store-requires : goal.store-requires
store-requires c = (search rules, search rules, search rules, search rules, search known_within, omega arith)

pub returns-in-At : goal.returns-in-At
returns-in-At c = search (pass_stored, c.if-image-high-eq0.false)

pub returns-in-Outside : goal.returns-in-Outside
returns-in-Outside c = search (pass_beyond, c.if-image-high-eq0.false)

pub returns-in-Nowhere : goal.returns-in-Nowhere
returns-in-Nowhere c = search (pass_endless, c.if-image-high-eq0.false)
