-- Where a way may go, and what a track and a sector link to.
-- Assumes nothing.
use Prim.Native.Nat.{ℕ, ◌+◌, ◌*◌, ◌-◌, ◌≤◌, ◌<◌}
use mathlib.Core.Path.{◌≡◌, refl, sym, ◌∙◌}
use mathlib.Core.Bool.{Bool, true, false, cond, ◌&&◌}
use lib.Dec.{leb, ltb, eqb}
use native.Mathlib.Decide.{dec_lt}
use native.Mathlib.Omega.{arith}
use borrow.Author.Tests.{lt-ltb, le-ltb, leb-true, ltb-true}
use Rattle.disk_rules.specs.Places.{sectors_on, sectors_before, sector_at}
use Rattle.disk_rules.specs.declared.Link.TheVariants.{Last, To, Astray}
use Rattle.disk_rules.specs.Links.{link_on}
use Rattle.disk_ways.specs.Ways.{may_go, refused_at}
use Rattle.disk_ways.specs.declared.Over.{Over}
use Rattle.disk_ways.specs.declared.Stop.TheVariants.{Barred, Again}

-- ---- where a way may go

module _ (over : Over) (n : ℕ) {r : Bool} (g : r ≡ may_go over n) where
  pub refused_again : r ≡ true → Again n ≡ refused_at over n
  refused_again e = let h : may_go over n ≡ true = sym g ∙ e in rw h

  pub refused_barred : r ≡ false → Barred n ≡ refused_at over n
  refused_barred e = let h : may_go over n ≡ false = sym g ∙ e in rw h

-- ---- links

-- a track's sectors end before a later track's first
on_before_lem : (t tracks : ℕ) → 1 ≤ t → t ≤ tracks → 31 ≤ tracks → sectors_before t + sectors_on t ≤ sectors_before (tracks + 1)
unfolding sectors_before sectors_on
on_before_lem t tracks h g f =
    simp (le-ltb (tracks + 1) 18 (omega arith), le-ltb (tracks + 1) 25 (omega arith), le-ltb (tracks + 1) 31 (omega arith)) (go (dec_lt t 18) (dec_lt t 25) (dec_lt t 31)) where
      go : Dec (t < 18) → Dec (t < 25) → Dec (t < 31) → sectors_before t + sectors_on t ≤ 598 + 17 * (tracks + 1 - 31)
      go (yes x) y z = simp (lt-ltb t 18 x) (omega arith)
      go (no x) (yes y) z = simp (le-ltb t 18 (omega arith), lt-ltb t 25 y) (omega arith)
      go (no x) (no y) (yes z) = simp (le-ltb t 18 (omega arith), le-ltb t 25 (omega arith), lt-ltb t 31 z) (omega arith)
      go (no x) (no y) (no z) = simp (le-ltb t 18 (omega arith), le-ltb t 25 (omega arith), le-ltb t 31 (omega arith)) (omega arith)

-- what is linked to is a sector of the disk
pub link_below : (tracks t s : ℕ) {m : ℕ} → 31 ≤ tracks → link_on tracks t s ≡ To m → m < sectors_before (tracks + 1)
unfolding link_on
link_below tracks t s {m} h e = go (eqb t 0) (leb 1 t) refl (leb t tracks) refl (ltb s (sectors_on t)) refl e where
  go : (z a : Bool) → leb 1 t ≡ a → (b : Bool) → leb t tracks ≡ b → (c : Bool) → ltb s (sectors_on t) ≡ c
      → cond z (Last s) (cond (a && b && c) (To (sector_at t s)) Astray) ≡ To m → m < sectors_before (tracks + 1)
  go true a p b q c r x = absurd (let y : ◌≡◌ {A = ℕ} 0 1 = cc in omega arith)
  go false true p true q true r x =
      let y : sector_at t s ≡ m = cc in omega (arith, on_before_lem t tracks (leb-true 1 t p) (leb-true t tracks q) h, ltb-true s (sectors_on t) r)
  go false false p b q c r x = absurd (let y : ◌≡◌ {A = ℕ} 0 1 = cc in omega arith)
  go false true p false q c r x = absurd (let y : ◌≡◌ {A = ℕ} 0 1 = cc in omega arith)
  go false true p true q false r x = absurd (let y : ◌≡◌ {A = ℕ} 0 1 = cc in omega arith)
