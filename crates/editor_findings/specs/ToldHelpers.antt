-- For whoever walks over a body from one step that is told to the next: where the walk stands.
-- Assumes nothing.
use Rattle.std.specs.Prelude.{ℕ, ◌≡◌, List, Option, Some, None}
use Rattle.body_steps.specs.BraceHelpers.{Spans}
use Rattle.body_rules.specs.Lexicon.{Lexicon}
use Rattle.body.specs.declared.at.Stand.{Stand}
use Rattle.editor_findings.specs.Sights.{first_sight}
use Rattle.editor_findings.specs.declared.sights.Sighting.{Sighting}
use Rattle.editor_findings.specs.declared.sights.Spot.{Spot}
use Rattle.editor_findings.specs.declared.sights.Told.{Told}

abbrev pub spot_of : Stand → Spot
spot_of s = record { mode = s.mode; at = s.at }

-- a walk stands behind the step that is told
abbrev pub Behind : Option Sighting → Spot → Type 0
Behind (Some seen) s = seen.to ≡ s
Behind None s = Unit {0}

-- what is told from where a walk stands on, and where it stands then, with a span that is known there
pub record Tells (l : Lexicon) (t : List ℕ) (from : Stand) (r : Told) : Type 0 where
  pub told : r.sighting ≡ first_sight l t (spot_of from)
  pub behind : Behind r.sighting (spot_of r.stand)
  pub known : Spans t r.stand.at r.stand.span
