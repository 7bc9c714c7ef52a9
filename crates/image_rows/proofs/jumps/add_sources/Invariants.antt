-- `image_rows::jumps::add_sources` meets its contract.
-- Assumes nothing.
use Rattle.image_rows.proofs.Threading.{Sourcing}
use Rattle.image_rows.proofs.jumps.add_sources.Given as goal

abbrev pub invariant-loop-left : goal.invariant-loop-left
invariant-loop-left l = Sourcing l.index l.nexts l.first l.at l.initial.out l.out l._left l.place l.to
