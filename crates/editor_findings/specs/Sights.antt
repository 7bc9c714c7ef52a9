-- The steps of a body that an editor is told of before it is crunched, by what crunching makes of them (document 01, "Crunching one body").
-- Assumes nothing.
use Rattle.std.specs.Prelude.{ℕ, suc, ◌+◌, ◌-◌, true, false, List, ltb, length, get_or, drop, Option, Some, None}
use Rattle.base_steps.specs.Again.{again}
use Rattle.body_rules.specs.Lexicon.{Lexicon}
use Rattle.body_rules.specs.Steps.{crunch_step}
use Rattle.body_rules.specs.declared.Move.{Move}
use Rattle.editor_steps.specs.StepFindings.{finding_of, is_usual}
use Rattle.editor_findings.specs.declared.sights.Sighting.{Sighting}
use Rattle.editor_findings.specs.declared.sights.Spot.{Spot}

-- the step at a spot of a body
abbrev pub step_from : Lexicon → List ℕ → Spot → Move
step_from l t s = crunch_step l s.mode (drop s.at t)

-- the spot behind it
abbrev pub spot_behind : Spot → Move → Spot
spot_behind s o = record { mode = o.mode; at = s.at + o.used }

-- a step that is told, or what follows it
abbrev pub told_or : (Spot → Option Sighting) → List ℕ → Spot → Move → Option Sighting
told_or more t s o =
    elim (is_usual (finding_of s.mode (get_or t s.at 0) o)) [
      | true ↦ more (spot_behind s o)
      | false ↦ Some (record { finding = finding_of s.mode (get_or t s.at 0) o; from = s.at; to = spot_behind s o })
    ]

unfoldable pub sight_on : Lexicon → List ℕ → (Spot → Option Sighting) → Spot → Option Sighting
unfolding crunch_step finding_of
sight_on l t more s = elim (ltb s.at (length t)) [ true ↦ told_or more t s (step_from l t s) | false ↦ None ]

-- the first step from a spot of a body on that is told
unfoldable pub first_sight : Lexicon → List ℕ → Spot → Option Sighting
unfolding again sight_on
first_sight l t s = again None (sight_on l t) (suc (length t - s.at)) s
