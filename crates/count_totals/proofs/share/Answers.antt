-- `count_totals::share` meets its contract.
-- Assumes nothing.
use Rattle.count_totals.proofs.Bounds.{token_there, share_fits, share_nothing, share_none, share_some}
use Rattle.count_totals.proofs.share.Goals as goal
use Rattle.count_totals.proofs.share.Goals.{then-sum-eq0-via-then-sum-eq0, then-sum-eq0-via-else-sum-eq0+then-k-ge-TAKEN}

pub returns-then-sum-eq0 : goal.returns-then-sum-eq0
returns-then-sum-eq0 c =
    elim c.then-sum-eq0.branch [
      | then-sum-eq0-via-then-sum-eq0 w ↦ search share_nothing
      | then-sum-eq0-via-else-sum-eq0+then-k-ge-TAKEN w ↦ rw (← c.from-k.ensures) (search share_none)
    ]

pub bounds-totals-k : goal.bounds-totals-k
bounds-totals-k c = search (token_there, c.if-sum-eq0.false)

pub overflow_mul-result : goal.overflow_mul-result
overflow_mul-result c = search (share_fits, c.if-sum-eq0.false)

pub returns : goal.returns
returns c = rw (← c.from-k.ensures) (search (share_some, c.if-sum-eq0.false))
