-- What is known of a step by either reader, as the calls over it need it: premises are what a `match` says of the step's result, and
-- what the step promises.
-- Assumes nothing.
use Prim.Native.Nat.{ℕ, ◌+◌, ◌-◌, ◌≤◌, ◌<◌}
use mathlib.Core.Path.{◌≡◌}
use mathlib.Core.List.{List}
use native.Mathlib.Omega.{arith}
use lib.ListN.{length}
use Rattle.base_refusals.specs.declared.Refusal.{Refusal}
use Rattle.image_readers.specs.declared.By.{By}
use Rattle.image_readers.specs.declared.By.TheVariants.{Terminators, Links}
use Rattle.image_readers.specs.declared.Line.{Line}
use Rattle.image_readers.specs.Links.{link_step}
use Rattle.image_readers.specs.Terminators.{terminator_step}
use Rattle.image_readers.specs.Readers.{step_by}
use Rattle.image_readers.proofs.Equations.{LiesAt, Sound, next_nearer}
use Rattle.base_refusals.proofs.Tight.{told_back}
use Rattle.image_readers.proofs.ByLinks.{link_sound}
use Rattle.image_readers.proofs.ByTerminators.{terminator_sound}
use Rattle.std.specs.Prelude.{Option, Some, None, Result, Ok}
use Rattle.base_refusals.specs.Answer.{answered}

pub by_sound : (by : By) → Sound (step_by by)
unfolding step_by
by_sound Terminators = terminator_sound
by_sound Links = link_sound

module _ (by : By) (s : List ℕ) (p : ℕ) (r : Result (Option Line) Refusal) where
  pub step_terminators : by ≡ Terminators → answered r ≡ terminator_step s p → answered r ≡ step_by by s p
  unfolding step_by
  step_terminators is e = rw is e

  pub step_links : by ≡ Links → answered r ≡ link_step s p → answered r ≡ step_by by s p
  unfolding step_by
  step_links is e = rw is e

-- a line was found
module _ (by : By) (s : List ℕ) (p : ℕ) {r : Result (Option Line) Refusal} {l : Line} (is : r ≡ Ok (Some l)) (e : answered r ≡ step_by by s p) where
  pub found_lies : LiesAt s p l
  found_lies = (by_sound by).lies s p (told_back is e)

  pub found_runs : l.from ≤ l.to
  found_runs = found_lies.runs

  pub found_within : l.to ≤ length s
  found_within = omega (arith, found_lies)

  pub found_nearer : length s - l.next < length s - p
  found_nearer = next_nearer (by_sound by) s p (told_back is e)

-- no line was found
module _ (by : By) (s : List ℕ) (p : ℕ) {r : Result (Option Line) Refusal} where
  pub end_long : r ≡ Ok None → answered r ≡ step_by by s p → 0 + 1 < length s
  end_long is e = (by_sound by).long_enough s p (told_back is e)
