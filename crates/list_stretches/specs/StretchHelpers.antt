-- For helpers of `list_stretch` alone: runs and stretches stored from a place of a buffer on.
-- Assumes nothing.
use Rattle.std.specs.Prelude.{ℕ, ◌+◌, ◌-◌, ◌≡◌, List, length, drop}
use Rattle.std.proofs.lemmas.List.Edits.{sets}
use Rattle.image_units.specs.declared.Rules.{Rules}
use Rattle.list_stretches.specs.Stretch.{Run, run_from, Stretched}
use Rattle.list_stretches.specs.declared.Spot.{Spot}
use Rattle.list_stretches.specs.declared.Stretch.{Stretch}

-- the run that a buffer holds from a spot on
abbrev pub run_at : Rules → List ℕ → List ℕ → Spot → Run
run_at rules body buffer s = run_from rules (length buffer - s.to) s.mode (drop s.at body)

-- a run was stored from a spot on: the spot behind it, and what the buffer then holds
pub record RunPut (run : Run) (buffer : List ℕ) (s r : Spot) (after : List ℕ) : Type 0 where
  pub ends : r.to ≡ s.to + length run.text
  pub place : r.at ≡ s.at + run.taken
  pub mode : r.mode ≡ run.mode
  pub stored : after ≡ sets buffer s.to run.text

-- a stretch was stored from a place of a buffer on
pub record StretchPut (s : Stretched) (buffer : List ℕ) (to : ℕ) (r : Stretch) (after : List ℕ) : Type 0 where
  pub ends : r.length ≡ to + length s.text
  pub place : r.place ≡ s.place
  pub stored : after ≡ sets buffer to s.text
