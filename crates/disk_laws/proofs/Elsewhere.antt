-- What a call leaves alone: bytes that are not written stay, and no call but formatting writes into a sector that is in use.
-- Assumes nothing.
use Prim.Native.Nat.{ℕ, suc, ◌+◌, ◌-◌, ◌*◌, ◌/◌, ◌≤◌, ◌<◌}
use mathlib.Core.Path.{◌≡◌, refl, subst, ◌∙◌}
use mathlib.Core.Bool.{Bool, true, false, ◌||◌}
use mathlib.Core.List.{List, [], ◌∷◌}
use lib.Dec.{eqb}
use lib.ListN.{length, get_or, take, drop, set, replicate, length-append, length-replicate, length-take}
use lib.Seq.{sets, get_or-set_other}
use native.Mathlib.Decide.{dec_lt}
use native.Mathlib.Omega.{arith}
use borrow.Author.Tests.{eqb-false, eq-eqb}
use Rattle.disk_rules.specs.Places.{track_of, sector_of}
use Rattle.disk_rules.specs.Lists.{some, is_in}
use Rattle.disk_rules.specs.Map.{marked, map_at}
use Rattle.disk_rules.specs.Free.{marked_all}
use Rattle.disk_rules.specs.Calls.{sector_bytes, link_bytes, laid}
use Rattle.disk_rules.proofs.Counting.{or_right}
use Rattle.disk_laws.proofs.Geometry.{Placed, place}

-- ---- bytes that are set

-- a place before one, or from another on
pub data Off (from to j : ℕ) : Type 0 where
  before : j < from → Off from to j
  behind : to ≤ j → Off from to j

pub set_off : (l : List ℕ) (i v j : ℕ) → Off i (i + 1) j → get_or (set l i v) j 0 ≡ get_or l j 0
set_off l i v j (before h) = get_or-set_other l i j v 0 (λ e. omega arith)
set_off l i v j (behind h) = get_or-set_other l i j v 0 (λ e. omega arith)

pub sets_off : (l : List ℕ) (i : ℕ) (vs : List ℕ) (j : ℕ) → Off i (i + length vs) j → get_or (sets l i vs) j 0 ≡ get_or l j 0
sets_off l i [] j o = refl
sets_off l i (v ∷ vs) j (before h) =
    sets_off (set l i v) (suc i) vs j (before (omega arith)) ∙ set_off l i v j (before h)
sets_off l i (v ∷ vs) j (behind h) =
    sets_off (set l i v) (suc i) vs j (behind (omega arith)) ∙ set_off l i v j (behind (omega arith))

-- ---- the map's bytes

pub narrow : {a b c e j : ℕ} → Off a b j → a ≤ c → e ≤ b → Off c e j
narrow (before h) f g = before (omega arith)
narrow (behind h) f g = behind (omega arith)

twice_off : (l : List ℕ) (a v b w j : ℕ) → Off a (a + 1) j → Off b (b + 1) j → get_or (set (set l a v) b w) j 0 ≡ get_or l j 0
twice_off l a v b w j o q = set_off (set l a v) b w j q ∙ set_off l a v j o

pub marked_off : (d : List ℕ) (n : ℕ) (free : Bool) (j : ℕ) → n < 683 → Off 91396 91536 j → get_or (marked d n free) j 0 ≡ get_or d j 0
unfolding marked
marked_off d n free j h o =
    let p : Placed n = place n h in
    twice_off d (map_at (track_of n) + 1 + sector_of n / 8) _ (map_at (track_of n)) _ j
    (narrow o (omega (arith, p.low)) (omega (arith, p.high, p.on, p.few)))
    (narrow o (omega (arith, p.low)) (omega (arith, p.high)))

pub marked_all_off : (d ns : List ℕ) (free : Bool) (j : ℕ) → ((m : ℕ) → is_in ns m ≡ true → m < 683) → Off 91396 91536 j
    → get_or (marked_all d ns free) j 0 ≡ get_or d j 0
unfolding marked_all some
marked_all_off d [] free j h o = refl
marked_all_off d (n ∷ ns) free j h o =
    marked_all_off (marked d n free) ns free j (λ m e. h m (or_right (eqb m n) (is_in ns m) e)) o
    ∙ marked_off d n free j (h n (rw (eq-eqb n n refl))) o

-- ---- sectors that are laid

-- a byte of a sector
pub record Within (n j : ℕ) : Type 0 where
  pub from : 256 * n ≤ j
  pub to : j < 256 * n + 256

pub sector_long : (t s : ℕ) (bytes : List ℕ) → length bytes ≤ 254 → length (sector_bytes t s bytes) ≡ 256
sector_long t s bytes h = omega (arith, length-append bytes (replicate (254 - length bytes) 0), length-replicate {A = ℕ} (254 - length bytes) 0)

pub link_long : (ns bytes left : List ℕ) → length bytes ≤ 254 → length (link_bytes ns bytes left) ≡ 256
link_long [] bytes left h = sector_long 0 (1 + length left) bytes h
link_long (m ∷ ns) bytes left h = sector_long (track_of m) (sector_of m) bytes h

-- another sector's bytes
pub apart : (m n j : ℕ) → eqb n m ≡ false → Within n j → Off (256 * m) (256 * m + 256) j
apart m n j e w = go (dec_lt n m) (eqb-false n m e) where
  go : Dec (n < m) → (n ≡ m → ⊥) → Off (256 * m) (256 * m + 256) j
  go (yes h) z = before (omega (arith, w.to))
  go (no h) z = let k : m < n = omega arith in behind (omega (arith, w.from))

or_false : (a b : Bool) → (a || b) ≡ false → (a ≡ false) × (b ≡ false)
or_false true b e = absurd (let z : ◌≡◌ {A = ℕ} 0 1 = cc in omega arith)
or_false false b e = (refl, e)

pub laid_off : (d ns image : List ℕ) (n j : ℕ) → is_in ns n ≡ false → Within n j → get_or (laid d ns image) j 0 ≡ get_or d j 0
unfolding laid some
laid_off d [] image n j e w = refl
laid_off d (m ∷ ns) image n j e w =
    let o : (eqb n m ≡ false) × (is_in ns n ≡ false) = or_false (eqb n m) (is_in ns n) e in
    let x : List ℕ = link_bytes ns (take 254 image) image in
    let few : length (take 254 image) ≤ 254 = omega (arith, length-take 254 image) in
    let long : length x ≡ 256 = link_long ns (take 254 image) image few in
    let end : 256 * m + 256 ≡ 256 * m + length x = omega arith in
    laid_off (sets d (256 * m) x) ns (drop 254 image) n j o.1 w
    ∙ sets_off d (256 * m) x j (subst (λ (k : ℕ). Off (256 * m) k j) end (apart m n j o.0 w))
