-- A sector's track and its place on it lead back to the sector.
-- Assumes nothing.
use Prim.Native.Nat.{ℕ, ◌+◌, ◌-◌, ◌*◌, ◌/◌, ◌%◌, ◌≤◌, ◌<◌}
use mathlib.Core.Path.{◌≡◌, refl, sym, ap, ◌∙◌}
use native.Mathlib.Decide.{dec_lt}
use native.Mathlib.Omega.{arith}
use Rattle.disk_rules.specs.Places.{sectors_on, sectors_before, sector_at, track_of, sector_of}
use Rattle.disk_rules.specs.Links.{link_to}
use Rattle.disk_rules.specs.declared.Link.TheVariants.{To}
use Rattle.disk_sectors.proofs.Geometry.{zone_1, zone_2, zone_3, zone_4, link_on_lem}

pub record Placed (n : ℕ) : Type 0 where
  pub low : 1 ≤ track_of n
  pub high : track_of n ≤ 35
  pub on : sector_of n < sectors_on (track_of n)
  pub few : sectors_on (track_of n) ≤ 21
  pub back : sector_at (track_of n) (sector_of n) ≡ n
  pub before_18 : n < 357 → track_of n < 18
  pub behind_18 : 375 < n → 18 < track_of n

module _ {n t s o f : ℕ} (a : t ≡ track_of n) (b : s ≡ sector_of n) (c : o ≡ sectors_on t) (e : f ≡ sectors_before t) where
  placed : 1 ≤ t → t ≤ 35 → s < o → o ≤ 21 → f + s ≡ n → (n < 357 → t < 18) → (375 < n → 18 < t) → Placed n
  placed g h i j k l m =
      let c' : sectors_on t ≡ sectors_on (track_of n) = ap sectors_on a in
      let e' : sectors_before t ≡ sectors_before (track_of n) = ap sectors_before a in
      record {
        low = omega arith;
        high = omega arith;
        on = omega arith;
        few = omega arith;
        back = omega arith;
        before_18 = λ x. let y : t < 18 = l x in omega arith;
        behind_18 = λ x. let y : 18 < t = m x in omega arith;
      }

module _ (n : ℕ) where
  track_1 : n < 357 → 1 + n / 21 ≡ track_of n
  unfolding track_of
  track_1 h = zone_1 n 357 490 598 _ _ _ _ h

  pub track_2 : 357 ≤ n → n < 490 → 18 + (n - 357) / 19 ≡ track_of n
  unfolding track_of
  track_2 g h = zone_2 n 357 490 598 _ _ _ _ g h

  track_3 : 490 ≤ n → n < 598 → 25 + (n - 490) / 18 ≡ track_of n
  unfolding track_of
  track_3 g h = zone_3 n 357 490 598 _ _ _ _ (omega arith) g h

  track_4 : 598 ≤ n → 31 + (n - 598) / 17 ≡ track_of n
  unfolding track_of
  track_4 g = zone_4 n 357 490 598 _ _ _ _ (omega arith) (omega arith) g

  sector_1 : n < 357 → n % 21 ≡ sector_of n
  unfolding sector_of
  sector_1 h = zone_1 n 357 490 598 _ _ _ _ h

  sector_2 : 357 ≤ n → n < 490 → (n - 357) % 19 ≡ sector_of n
  unfolding sector_of
  sector_2 g h = zone_2 n 357 490 598 _ _ _ _ g h

  sector_3 : 490 ≤ n → n < 598 → (n - 490) % 18 ≡ sector_of n
  unfolding sector_of
  sector_3 g h = zone_3 n 357 490 598 _ _ _ _ (omega arith) g h

  sector_4 : 598 ≤ n → (n - 598) % 17 ≡ sector_of n
  unfolding sector_of
  sector_4 g = zone_4 n 357 490 598 _ _ _ _ (omega arith) (omega arith) g

module _ (t : ℕ) where
  on_1 : t < 18 → 21 ≡ sectors_on t
  unfolding sectors_on
  on_1 h = zone_1 t 18 25 31 _ _ _ _ h

  on_2 : 18 ≤ t → t < 25 → 19 ≡ sectors_on t
  unfolding sectors_on
  on_2 g h = zone_2 t 18 25 31 _ _ _ _ g h

  on_3 : 25 ≤ t → t < 31 → 18 ≡ sectors_on t
  unfolding sectors_on
  on_3 g h = zone_3 t 18 25 31 _ _ _ _ (omega arith) g h

  on_4 : 31 ≤ t → 17 ≡ sectors_on t
  unfolding sectors_on
  on_4 g = zone_4 t 18 25 31 _ _ _ _ (omega arith) (omega arith) g

  before_1 : t < 18 → 21 * (t - 1) ≡ sectors_before t
  unfolding sectors_before
  before_1 h = zone_1 t 18 25 31 _ _ _ _ h

  before_2 : 18 ≤ t → t < 25 → 357 + 19 * (t - 18) ≡ sectors_before t
  unfolding sectors_before
  before_2 g h = zone_2 t 18 25 31 _ _ _ _ g h

  before_3 : 25 ≤ t → t < 31 → 490 + 18 * (t - 25) ≡ sectors_before t
  unfolding sectors_before
  before_3 g h = zone_3 t 18 25 31 _ _ _ _ (omega arith) g h

  before_4 : 31 ≤ t → 598 + 17 * (t - 31) ≡ sectors_before t
  unfolding sectors_before
  before_4 g = zone_4 t 18 25 31 _ _ _ _ (omega arith) (omega arith) g

pub place : (n : ℕ) → n < 683 → Placed n
place n h = go (dec_lt n 357) (dec_lt n 490) (dec_lt n 598) where
  go : Dec (n < 357) → Dec (n < 490) → Dec (n < 598) → Placed n
  go (yes a) b c =
      let t : ℕ = 1 + n / 21 in
      let k : t < 18 = omega arith in
      placed (track_1 n a) (sector_1 n a) (on_1 t k) (before_1 t k) (omega arith) (omega arith) (omega arith) (omega arith) (omega arith) (λ x. k) (λ x. absurd (omega arith))
  go (no a) (yes b) c =
      let t : ℕ = 18 + (n - 357) / 19 in
      let k : t < 25 = omega arith in
      let j : 18 ≤ t = omega arith in
      placed (track_2 n (omega arith) b) (sector_2 n (omega arith) b) (on_2 t j k) (before_2 t j k) (omega arith) (omega arith) (omega arith) (omega arith) (omega arith) (λ x. absurd (omega arith)) (λ x. omega arith)
  go (no a) (no b) (yes c) =
      let t : ℕ = 25 + (n - 490) / 18 in
      let k : t < 31 = omega arith in
      let j : 25 ≤ t = omega arith in
      placed (track_3 n (omega arith) c) (sector_3 n (omega arith) c) (on_3 t j k) (before_3 t j k) (omega arith) (omega arith) (omega arith) (omega arith) (omega arith) (λ x. absurd (omega arith)) (λ x. omega arith)
  go (no a) (no b) (no c) =
      let t : ℕ = 31 + (n - 598) / 17 in
      let j : 31 ≤ t = omega arith in
      placed (track_4 n (omega arith)) (sector_4 n (omega arith)) (on_4 t j) (before_4 t j) (omega arith) (omega arith) (omega arith) (omega arith) (omega arith) (λ x. absurd (omega arith)) (λ x. omega arith)

-- a link that names a sector leads to it
pub link_back : (n : ℕ) → n < 683 → link_to (track_of n) (sector_of n) ≡ To n
link_back n h =
    let p : Placed n = place n h in
    sym (link_on_lem (track_of n) (sector_of n) p.low p.high refl p.on refl) ∙ ap To p.back

-- ---- and back: the sector s of track t stands on that track, there

pub record Stands (t s : ℕ) : Type 0 where
  pub track : track_of (sector_at t s) ≡ t
  pub sector : sector_of (sector_at t s) ≡ s
  pub below : sector_at t s < 683

module _ (t s : ℕ) (low : 1 ≤ t) (high : t ≤ 35) (on : s < sectors_on t) where
  pub stands : Stands t s
  stands = go (dec_lt t 18) (dec_lt t 25) (dec_lt t 31) where
    go : Dec (t < 18) → Dec (t < 25) → Dec (t < 31) → Stands t s
    go (yes a) b c =
        let o : 21 ≡ sectors_on t = on_1 t a in
        let f : 21 * (t - 1) ≡ sectors_before t = before_1 t a in
        let h : sector_at t s < 357 = omega arith in
        record { track = omega (arith, track_1 (sector_at t s) h); sector = omega (arith, sector_1 (sector_at t s) h); below = omega arith }
    go (no a) (yes b) c =
        let o : 19 ≡ sectors_on t = on_2 t (omega arith) b in
        let f : 357 + 19 * (t - 18) ≡ sectors_before t = before_2 t (omega arith) b in
        let g : 357 ≤ sector_at t s = omega arith in
        let h : sector_at t s < 490 = omega arith in
        record { track = omega (arith, track_2 (sector_at t s) g h); sector = omega (arith, sector_2 (sector_at t s) g h); below = omega arith }
    go (no a) (no b) (yes c) =
        let o : 18 ≡ sectors_on t = on_3 t (omega arith) c in
        let f : 490 + 18 * (t - 25) ≡ sectors_before t = before_3 t (omega arith) c in
        let g : 490 ≤ sector_at t s = omega arith in
        let h : sector_at t s < 598 = omega arith in
        record { track = omega (arith, track_3 (sector_at t s) g h); sector = omega (arith, sector_3 (sector_at t s) g h); below = omega arith }
    go (no a) (no b) (no c) =
        let o : 17 ≡ sectors_on t = on_4 t (omega arith) in
        let f : 598 + 17 * (t - 31) ≡ sectors_before t = before_4 t (omega arith) in
        let g : 598 ≤ sector_at t s = omega arith in
        record { track = omega (arith, track_4 (sector_at t s) g); sector = omega (arith, sector_4 (sector_at t s) g); below = omega arith }
