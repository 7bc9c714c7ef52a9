-- What the contracts of the helpers in this crate say of lists in the caller's hands.
-- Assumes nothing.
use Rattle.std.specs.Prelude.{ℕ, ◌+◌, ◌≤◌, ◌<◌, ◌≡◌, Bool, true, false, List, length, get_or}
use Rattle.std.proofs.lemmas.List.Edits.{sets}
use Rattle.disk_rules.specs.Lists.{is_in, none_twice}
use Rattle.disk_rules.specs.Chains.{Chain}
use Rattle.disk_chains.specs.declared.Traced.{Traced}

-- each number of a list is a sector's
pub record Sectors (l : List ℕ) : Type 0 where
  pub below : (i : ℕ) → i < length l → get_or l i 0 < 683

-- a chain was logged in a list from a place on
pub record Traces (c : Chain) (log : List ℕ) (at : ℕ) (r : Traced) (after : List ℕ) : Type 0 where
  pub to : r.to ≡ at + length c.sectors
  pub within : r.to ≤ length log
  pub ends : r.ends ≡ c.ends
  pub logged : after ≡ sets log at c.sectors

-- the numbers of a list are marked, and no others
pub record Marks (marks : List Bool) (l : List ℕ) : Type 0 where
  pub sized : length marks ≡ 683
  pub means : (n : ℕ) → get_or marks n false ≡ is_in l n

-- whether a number stands in the list twice; if not, its numbers are marked now
pub record Marked (l : List ℕ) (r : Bool) (after : List Bool) : Type 0 where
  pub once : r ≡ none_twice l
  pub marks : r ≡ true → Marks after l

-- a list was stored in another from its start on
pub record Lists (l buffer : List ℕ) (count : ℕ) (after : List ℕ) : Type 0 where
  pub counts : count ≡ length l
  pub stored : after ≡ sets buffer 0 l
