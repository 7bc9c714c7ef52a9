-- `guess_uses::proving::assigned` meets its contract.
-- Assumes nothing.
use Prim.Native.Nat.{◌≤◌}
use mathlib.Core.Path.{sym, ◌∙◌}
use mathlib.Core.Bool.{false≢true}
use lib.ListN.{length}
use borrow.Author.Rules.{rules}
use Rattle.guess_uses.proofs.Uses.{assigned_percent, assigned_dollar, assigned_bare, opens_as}
use Rattle.guess_uses.proofs.Marks.{marks_rest}
use Rattle.guess_uses.proofs.proving.assigned.Goals as goal
use Rattle.guess_uses.proofs.proving.assigned.Goals.{Then-starts_with-2, then-starts_with, else-starts_with}

some : (c : Then-starts_with-2) → 1 ≤ length c.args.text.now
some c =
    elim c.if-starts_with.branch [
      | then-starts_with w ↦ opens_as _ _ c.if-starts_with-2.true w.value-is c.starts_with.ensures
      | else-starts_with w ↦ opens_as _ _ c.if-starts_with-2.true w.value-is w.starts_with-else-starts_with.ensures
    ]

pub slice_bounds-assigns-count : goal.slice_bounds-assigns-count
slice_bounds-assigns-count c = some c

pub slice_bounds-assigns-start : goal.slice_bounds-assigns-start
slice_bounds-assigns-start c = search (rules, some c)

pub assigns-requires : goal.assigns-requires
assigns-requires c = search marks_rest

pub returns-then-starts_with-2 : goal.returns-then-starts_with-2
returns-then-starts_with-2 c =
    elim c.if-starts_with.branch [
      | then-starts_with w ↦ assigned_percent _ c.assigns.ensures c.if-starts_with-2.true w.value-is c.starts_with.ensures
      | else-starts_with w ↦
          assigned_dollar _ c.assigns.ensures c.if-starts_with-2.true w.value-is w.starts_with-else-starts_with.ensures w.if-starts_with.false c.starts_with.ensures
    ]

pub returns-else-starts_with-2 : goal.returns-else-starts_with-2
returns-else-starts_with-2 c =
    elim c.if-starts_with.branch [
      | then-starts_with w ↦ absurd (false≢true (sym c.if-starts_with-2.false ∙ w.value-is ∙ w.if-starts_with.true))
      | else-starts_with w ↦
          assigned_bare _ c.assigns-else-starts_with-2.ensures c.if-starts_with-2.false w.value-is w.starts_with-else-starts_with.ensures w.if-starts_with.false c.starts_with.ensures
    ]
