-- The sectors of a way are the disk's, and a log's start is what was logged.
-- Assumes nothing.
use Prim.Native.Nat.{ℕ, zero, suc, ◌+◌, ◌*◌, ◌≤◌, ◌<◌}
use mathlib.Core.Path.{◌≡◌, refl, sym}
use mathlib.Core.Bool.{Bool, true, false, not, cond, ◌&&◌, ◌||◌}
use mathlib.Core.List.{List}
use lib.Dec.{eqb}
use lib.ListN.{length, get_or, take, drop}
use lib.Seq.{sets-eq, take_at}
use native.Mathlib.Omega.{arith}
use Rattle.base_steps.specs.Each.{Each}
use Rattle.disk_rules.specs.declared.Link.{Link}
use Rattle.disk_rules.specs.declared.Link.TheVariants.{Last, To, Astray as NoSector}
use Rattle.disk_ways.specs.Ways.{tracks_over, sectors_over, may_go, link_there, Way, stopped, refused_at, way_onward, way, way_by, way_of}
use Rattle.disk_ways.specs.WayHelpers.{Follows}
use Rattle.disk_ways.specs.declared.Over.{Over}
use Rattle.disk_ways.specs.declared.Followed.{Followed}
use Rattle.disk_ways.proofs.Going.{link_below}

-- a sector of what a way goes over
abbrev pub Of : Over → ℕ → Type 0
Of over n = n < sectors_over over

pub way_each : (over : Over) → 31 ≤ tracks_over over → (k : ℕ) (d : List ℕ) (met : ℕ → Bool) (n : ℕ) → Of over n → Each (Of over) (way over k d met n).sectors
unfolding way
way_each over t zero d met n h = tt
way_each over t (suc k) d met n h = go (may_go over n && not (met n)) (link_there over d (256 * n)) refl (way_each over t k d (λ m. eqb m n || met m)) where
  go : (q : Bool) (l : Link) → link_there over d (256 * n) ≡ l → ((m : ℕ) → Of over m → Each (Of over) (way over k d (λ m. eqb m n || met m) m).sectors)
      → Each (Of over) (cond q (way_onward d n (way over k d (λ m. eqb m n || met m)) l) (stopped (refused_at over n))).sectors
  go false l e f = tt
  go true (Last b) e f = (h, tt)
  go true (To m) e f = (h, f m (link_below (tracks_over over) (get_or d (256 * n) 0) (get_or d (256 * n + 1) 0) t e))
  go true NoSector e f = (h, tt)

pub entry_each : (over : Over) → 31 ≤ tracks_over over → (k : ℕ) (d : List ℕ) (met : ℕ → Bool) (p : ℕ) → Each (Of over) (way_of over k d met p).sectors
entry_each over t k d met p = go (link_there over d (p + 1)) refl where
  go : (l : Link) → link_there over d (p + 1) ≡ l → Each (Of over) (way_by d (p + 1) (way over k d met) l).sectors
  go (Last b) e = tt
  go (To n) e = way_each over t k d met n (link_below (tracks_over over) (get_or d (p + 1) 0) (get_or d (p + 1 + 1) 0) t e)
  go NoSector e = tt

module _ {w : Way} {log : List ℕ} {marks : List Bool} {r : Followed} {after : List ℕ} {marks' : List Bool} (f : Follows w log marks r after marks') where
  pub followed_start : take r.to after ≡ w.sectors
  followed_start =
      let k : 0 + length w.sectors ≤ length log = omega (arith, f.to, f.within) in
      rw (f.logged, sets-eq w.sectors log 0 k) (take_at w.sectors (drop (0 + length w.sectors) log) r.to (sym f.to))
