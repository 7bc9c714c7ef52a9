-- Where entries stand, and which are listed.
-- Assumes nothing.
use Prim.Native.Nat.{ℕ, ◌+◌, ◌*◌, ◌/◌, ◌≤◌, ◌<◌}
use mathlib.Core.Path.{◌≡◌}
use mathlib.Core.Bool.{Bool, true, false, not, not-not}
use mathlib.Core.List.{List, map}
use lib.Dec.{eqb}
use lib.ListN.{length, get_or}
use native.Mathlib.Omega.{arith}
use mir.Val.{Fits}
use mir.Syntax.{w64}
use Rattle.disk_rules.specs.Lists.{numbers_from, those}
use Rattle.disk_rules.specs.Entries.{entry_at, is_that, entries_that}
use Rattle.disk_chains.specs.ChainHelpers.{Sectors, Lists}

module _ {l : List ℕ} (s : Sectors l) {e : ℕ} (h : e < 8 * length l) where
  sector : get_or l (e / 8) 0 < 683
  sector = s.below (e / 8) (omega arith)

  pub entry_fits : Fits w64 (256 * get_or l (e / 8) 0)
  entry_fits = omega (arith, sector)

  pub entry_fits_2 : Fits w64 (256 * get_or l (e / 8) 0 + 2)
  entry_fits_2 = omega (arith, sector)

  pub entry_fits_3 : Fits w64 (entry_at l e)
  entry_fits_3 = omega (arith, sector)

  pub entry_room : entry_at l e + 30 ≤ 174848
  entry_room = omega (arith, sector)

module _ {which : Bool} (d : List ℕ) (p : ℕ) where
  pub that_listed : which ≡ true → not (eqb (get_or d p 0) 0) ≡ is_that which d p
  that_listed e = rw e

  pub that_not : which ≡ false → eqb (get_or d p 0) 0 ≡ is_that which d p
  that_not e = rw (e, not-not)

pub that_stored : (which : Bool) (d sectors : List ℕ) {list₀ list : List ℕ} {count n : ℕ}
    → Lists (those (is_that which d) (map (entry_at sectors) (numbers_from 0 n))) list₀ count list → n ≡ 8 * length sectors → Lists (entries_that which d sectors) list₀ count list
unfolding entries_that
that_stored which d sectors l e = rw e at l
