-- The walk ends: behind each fault fewer are left.
-- Assumes nothing.
use Prim.Native.Nat.{ℕ, ◌<◌}
use mathlib.Core.Path.{◌≡◌, ap, subst}
use mathlib.Core.List.{List, ◌∷◌}
use native.Mathlib.Omega.{arith}
use lib.ListN.{length}
use Rattle.image_fitness.specs.declared.Place.{Place}
use Rattle.image_fitness.specs.declared.Found.{Found}
use Rattle.std.specs.Prelude.{Option, Some}
use Rattle.image_marks.specs.Marks.{has_mark}
use Rattle.image_fitness.specs.FaultHelpers.{faults_at, FaultIs}

pub fewer_left : (marked s : List ℕ) (x : Place) {r : Option Found} {m : Found} → r ≡ Some m → FaultIs (has_mark marked) s x r
    → length (faults_at (has_mark marked) s m.place) < length (faults_at (has_mark marked) s x)
fewer_left marked s x {m = found} is m =
    let w : faults_at (has_mark marked) s x ≡ found.fault ∷ faults_at (has_mark marked) s found.place = subst (FaultIs (has_mark marked) s x) is m in
    omega (arith, ap length w)
