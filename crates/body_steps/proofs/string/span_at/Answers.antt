-- `body_steps::string::span_at` meets its contract.
-- Assumes nothing.
use lib.ListN.{length}
use mir.Syntax.{w64}
use mir.Val.{Fits}
use native.Mathlib.Omega.{arith}
use Rattle.body_steps.proofs.Braces.{found_within, found_fits, reaches_other, reaches_known, reaches_found}
use Rattle.body_steps.proofs.string.span_at.Goals as goal
use Rattle.body_steps.proofs.string.span_at.Goals.{then-text-at-ne123-via-then-text-at-ne123, then-text-at-ne123-via-else-text-at-ne123+then-at-known}

pub returns-then-text-at-ne123 : goal.returns-then-text-at-ne123
returns-then-text-at-ne123 c =
    elim c.then-text-at-ne123.branch [
      | then-text-at-ne123-via-then-text-at-ne123 w ↦ search (reaches_other, w.if-text-at-ne123.true)
      | then-text-at-ne123-via-else-text-at-ne123+then-at-known w ↦ search reaches_known
    ]

pub overflow_add-close : goal.overflow_add-close
overflow_add-close c = let text-fits : Fits w64 (length c.args.text.now) = record { fits = omega arith } in search (found_fits, text-fits)

pub slice_bounds-tail_of-end : goal.slice_bounds-tail_of-end
slice_bounds-tail_of-end c = search found_within

pub returns : goal.returns
returns c = search reaches_found
