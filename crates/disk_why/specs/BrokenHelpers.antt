-- What the contracts of two helpers say of marks in the caller's hands.
-- Assumes nothing.
use Rattle.std.specs.Prelude.{ℕ, ◌≡◌, Bool, true, false, ◌||◌, List, length, get_or}
use Rattle.disk_rules.specs.Lists.{is_in}
use Rattle.disk_ways.specs.Ways.{Way}
use Rattle.disk_ways.specs.declared.Stop.{Stop}
use Rattle.disk_why.specs.Why.{is_nothing, crossed_fault, met_by}
use Rattle.disk_why.specs.declared.Broken.{Broken}

-- how a way stops, and its sectors were marked
pub record Crosses (w : Way) (marks : List Bool) (r : Stop) (after : List Bool) : Type 0 where
  pub stop : r ≡ w.stop
  pub sized : length after ≡ length marks
  pub marked : (m : ℕ) → get_or after m false ≡ (is_in w.sectors m || get_or marks m false)

-- what is broken over all chains; if nothing, their sectors were marked
pub record Crossed (disk files : List ℕ) (marks : List Bool) (r : Broken) (after : List Bool) : Type 0 where
  pub fault : r ≡ crossed_fault disk (λ m. get_or marks m false) files
  pub sized : length after ≡ length marks
  pub marked : is_nothing r ≡ true → (m : ℕ) → get_or after m false ≡ met_by disk (λ m. get_or marks m false) files m
