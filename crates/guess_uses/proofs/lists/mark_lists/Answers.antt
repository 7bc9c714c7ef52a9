-- `guess_uses::lists::mark_lists` meets its contract.
-- Assumes nothing.
use mathlib.Core.Path.{sym, ◌∙◌}
use Rattle.guess_uses.proofs.Marks.{marking_start, marking_close, marking_open, marking_on, marking_space, marking_end}
use Rattle.guess_uses.proofs.lists.mark_lists.Goals as goal
use Rattle.guess_uses.proofs.lists.mark_lists.Goals.{then-b-eq41, else-b-eq41+then-b-eq40, else-b-eq41+else-b-eq40}
use borrow.Author.Rules.{rules}

pub loop-n-init : goal.loop-n-init
loop-n-init c = search marking_start

pub loop-n-preserved : goal.loop-n-preserved
loop-n-preserved c =
    elim c.if-b-eq41.branch [
      | then-b-eq41 w ↦ rw (w.marks-is, w.levels-is, w.count-is) (marking_close c.loop-n.invariant c.loop-n-test.true c.equals_ahead-ahead.ensures w.put_bit.ensures w.if-b-eq41.true)
      | else-b-eq41+then-b-eq40 w ↦
          rw (w.marks-is, w.levels-is, w.count-is)
          (marking_open c.loop-n.invariant c.loop-n-test.true c.equals_ahead-ahead.ensures w.put_bit-then-b-eq40.ensures w.last_bit-follows.ensures (search rules) w.if-b-eq40.true)
      | else-b-eq41+else-b-eq40 w ↦
          rw (w.marks-is, w.levels-is, w.count-is)
          (marking_on c.loop-n.invariant c.loop-n-test.true c.equals_ahead-ahead.ensures w.if-b-eq41.false w.if-b-eq40.false)
    ]

pub returns : goal.returns
returns c = search marking_end

pub loop-n-preserved-then-is_kind : goal.loop-n-preserved-then-is_kind
loop-n-preserved-then-is_kind c = marking_space c.loop-n.invariant c.loop-n-test.true c.if-b-eq32.true (sym c.is_kind.ensures ∙ c.if-is_kind.true)
