-- What the contract of `follow` says of lists in the caller's hands.
-- Assumes nothing.
use Rattle.std.specs.Prelude.{ℕ, ◌≤◌, ◌≡◌, Bool, false, ◌||◌, List, length, get_or}
use Rattle.std.proofs.lemmas.List.Edits.{sets}
use Rattle.disk_rules.specs.Lists.{is_in}
use Rattle.disk_ways.specs.Ways.{Way}
use Rattle.disk_ways.specs.declared.Followed.{Followed}

-- a way was logged from a list's start on, and its sectors were marked
pub record Follows (w : Way) (log : List ℕ) (marks : List Bool) (r : Followed) (logAfter : List ℕ) (marksAfter : List Bool) : Type 0 where
  pub to : r.to ≡ length w.sectors
  pub within : r.to ≤ length log
  pub stop : r.stop ≡ w.stop
  pub logged : logAfter ≡ sets log 0 w.sectors
  pub sized : length marksAfter ≡ length marks
  pub marked : (m : ℕ) → get_or marksAfter m false ≡ (is_in w.sectors m || get_or marks m false)
