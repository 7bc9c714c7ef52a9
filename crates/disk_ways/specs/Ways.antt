-- The way of a chain from sector to sector (docs/RULES.md, "Why a disk is not in order": "It meets no sector twice, and how it stops is told").
-- The links are those of `Links` (disk_rules), on a disk of 35 tracks or more.
-- Assumes nothing.
use Rattle.std.specs.Prelude.{ℕ, zero, suc, ◌+◌, ◌*◌, Bool, true, false, cond, not, ◌&&◌, ◌||◌, List, [], ◌∷◌, eqb, get_or}
use Rattle.disk_rules.specs.Places.{sectors_before}
use Rattle.disk_rules.specs.Links.{link_on}
use Rattle.disk_rules.specs.Chains.{may_hold, may_end}
use Rattle.disk_rules.specs.declared.Link.{Link}
use Rattle.disk_rules.specs.declared.Link.TheVariants.{Last, To, Astray as NoSector}
use Rattle.disk_ways.specs.declared.Over.{Over}
use Rattle.disk_ways.specs.declared.Over.TheVariants.{Directory, Files, Tracks}
use Rattle.disk_ways.specs.declared.Stop.{Stop}
use Rattle.disk_ways.specs.declared.Stop.TheVariants.{Ended, Astray, Barred, Again}

-- how many tracks, and how many sectors, there are to go over
abbrev pub tracks_over : Over → ℕ
tracks_over Directory = 35
tracks_over Files = 35
tracks_over (Tracks tracks) = tracks

abbrev pub sectors_over : Over → ℕ
sectors_over over = sectors_before (tracks_over over + 1)

-- whether a way may go to a sector
abbrev pub may_go : Over → ℕ → Bool
may_go Directory n = may_hold true n
may_go Files n = may_hold false n
may_go (Tracks tracks) n = true

-- the link in the two bytes at an offset
abbrev pub link_there : Over → List ℕ → ℕ → Link
link_there over disk at = link_on (tracks_over over) (get_or disk at 0) (get_or disk (at + 1) 0)

-- the sectors that are met, in order, and how the way stops
pub record Way : Type 0 where
  pub sectors : List ℕ
  pub stop : Stop

abbrev pub stopped : Stop → Way
stopped s = record { sectors = []; stop = s }

abbrev pub stray_at : List ℕ → ℕ → Stop
stray_at disk at = Astray (get_or disk at 0) (get_or disk (at + 1) 0)

-- a sector that the way may not go to, or met before
abbrev pub refused_at : Over → ℕ → Stop
refused_at over n = cond (may_go over n) (Again n) (Barred n)

-- the sector n, and what f meets from the one that its link leads to
abbrev pub way_onward : List ℕ → ℕ → (ℕ → Way) → Link → Way
way_onward disk n f (Last b) = record { sectors = n ∷ []; stop = Ended n b }
way_onward disk n f (To m) = record { sectors = n ∷ (f m).sectors; stop = (f m).stop }
way_onward disk n f NoSector = record { sectors = n ∷ []; stop = stray_at disk (256 * n) }

-- the way from n on over sectors that were not met, of at most so many: behind as many as there are to go over, the next was met before
unfoldable pub way : Over → ℕ → List ℕ → (ℕ → Bool) → ℕ → Way
way over zero disk met n = stopped (refused_at over n)
way over (suc k) disk met n =
    cond (may_go over n && not (met n))
    (way_onward disk n (way over k disk (λ m. eqb m n || met m)) (link_there over disk (256 * n)))
    (stopped (refused_at over n))

-- the way of a file whose first sector stands in the two bytes at an offset: one that has none stops there
abbrev pub way_by : List ℕ → ℕ → (ℕ → Way) → Link → Way
way_by disk at f (Last b) = stopped (stray_at disk at)
way_by disk at f (To n) = f n
way_by disk at f NoSector = stopped (stray_at disk at)

-- the way of the entry p's file
abbrev pub way_of : Over → ℕ → List ℕ → (ℕ → Bool) → ℕ → Way
way_of over k disk met p = way_by disk (p + 1) (way over k disk met) (link_there over disk (p + 1))

-- no sector was met
abbrev pub none_met : ℕ → Bool
none_met m = false

-- whether a way ends as a chain, the directory's or a file's, should
abbrev pub ends_as : Bool → Stop → Bool
ends_as dir (Ended n b) = may_end dir b
ends_as dir (Astray t s) = false
ends_as dir (Barred n) = false
ends_as dir (Again n) = false
