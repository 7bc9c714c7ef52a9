-- A step taken again and again. A step is given what answers from any other place on, and says what is answered from its own place on.
--
-- Going on at a place that is no part of the one before is no recursion that can be written, so it counts down a number that is large
-- enough. Where each step comes nearer to an end, what number that is does not matter: proofs/Nearer.antt has the equation without it.
-- Assumes nothing.
use Rattle.std.specs.Prelude.{ℕ, zero, suc}

-- at most so many steps from a place on; r where none is left
unfoldable pub again : {S R : Type 0} → R → ((S → R) → S → R) → ℕ → S → R
again r step zero x = r
again r step (suc k) x = step (again r step k) x
