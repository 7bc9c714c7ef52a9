-- `crunch_image::bound::fits` meets its contract.
-- Assumes nothing.
use Prim.Native.Nat.{◌-◌}
use lib.ListN.{length}
use Rattle.body_rules.specs.Lexicon.{lexicon}
use Rattle.crunch_image.proofs.Bounding.{BoundTo}
use Rattle.crunch_image.proofs.bound.fits.Given as goal

abbrev pub invariant-loop-at : goal.invariant-loop-at
invariant-loop-at l = BoundTo (lexicon l.sets) l.load l.text l.at l.address

abbrev pub decreases-loop-at : goal.decreases-loop-at
decreases-loop-at l = length l.text - l.at
