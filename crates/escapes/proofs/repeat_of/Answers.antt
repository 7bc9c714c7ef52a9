-- `escapes::repeat_of` meets its contract.
-- Assumes nothing.
use native.Mathlib.Omega.{arith}
use lib.ListN.{length}
use mir.Syntax.{w64}
use mir.Val.{Fits}
use Rattle.escapes.proofs.Resolving.{star_next, star_fits, star_taken}
use Rattle.escapes.proofs.Tails.{repeat_countless, repeat_starless, repeat_missing, repeat_zero, repeat_told}
use Rattle.escapes.proofs.repeat_of.Goals as goal

pub returns-then-not-may_end_in_count : goal.returns-then-not-may_end_in_count
returns-then-not-may_end_in_count c = search repeat_countless

pub returns-in_err-star : goal.returns-in_err-star
returns-in_err-star c = search (repeat_starless, c.in_err-star.ensures)

pub overflow_add-from : goal.overflow_add-from
overflow_add-from c = let text-fits : Fits w64 (length c.args.text.now) = record { fits = omega arith } in star_fits _ c.in_ok-star.ensures text-fits

pub slice_bounds-trim-count : goal.slice_bounds-trim-count
slice_bounds-trim-count c = search (star_next, c.in_ok-star.ensures)

pub slice_bounds-trim-start : goal.slice_bounds-trim-start
slice_bounds-trim-start c = search (star_next, c.in_ok-star.ensures)

pub returns-in_err-count : goal.returns-in_err-count
returns-in_err-count c = search (repeat_missing, c.in_ok-star.ensures, c.in_err-count.ensures)

pub returns-then-count-eq0 : goal.returns-then-count-eq0
returns-then-count-eq0 c = search (repeat_zero, c.in_ok-star.ensures, c.in_ok-count.ensures)

pub slice_bounds-solid_length-end : goal.slice_bounds-solid_length-end
slice_bounds-solid_length-end c = search (star_taken, c.in_ok-star.ensures)

pub returns : goal.returns
returns c = search (repeat_told, c.in_ok-star.ensures, c.in_ok-count.ensures, c.if-count-eq0.false)
