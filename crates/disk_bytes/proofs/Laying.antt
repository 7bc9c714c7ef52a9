-- Bytes stored, a sector written whole, and an image laid out over sectors.
-- Assumes nothing.
use Prim.Native.Nat.{ℕ, zero, suc, ◌+◌, ◌-◌, ◌*◌, ◌≤◌, ◌<◌}
use mathlib.Core.Path.{◌≡◌, refl, sym, ap, ◌∙◌}
use mathlib.Core.List.{List, [], ◌∷◌, ◌++◌, append_assoc}
use lib.ListN.{length, get_or, take, drop, set, replicate, length-take, length-drop, drop_of_length-le}
use lib.Seq.{sets, sets-eq, length-sets, take_all, drop-cons, drop-drop}
use native.Mathlib.Numerals.{add-one}
use native.Mathlib.Omega.{arith}
use borrow.Rule.Slice.PartMut.{put_mid}
use Rattle.disk_rules.specs.Places.{track_of, sector_of}
use Rattle.disk_rules.specs.Calls.{sector_bytes, link_bytes, laid}
use Rattle.disk_chains.specs.ChainHelpers.{Sectors}

-- bytes copied to a part that starts at a place
pub stored : (d text : List ℕ) (at : ℕ) {part : List ℕ} → at + length text ≤ length d
    → part ≡ text → put_mid at ((at + length text) - at) d part ≡ sets d at text
stored d text at {part} h e =
    let k : (at + length text) - at ≡ length text = omega arith in
    rw (k, e)
    (ap (λ (t : List ℕ). take at d ++ (text ++ t)) (drop-drop (length text) at d) ∙ sym (sets-eq text d at h ∙ append_assoc (take at d) text (drop (at + length text) d)))

pub drop_replicate : (k n a : ℕ) → drop k (replicate n a) ≡ replicate (n - k) a
drop_replicate zero n a = let e : n - 0 ≡ n = omega arith in rw e
drop_replicate (suc k) zero a = let e : 0 - suc k ≡ 0 = omega arith in rw e
drop_replicate (suc k) (suc n) a = let e : suc n - suc k ≡ n - k = omega arith in rw e (drop_replicate k n a)

-- a sector as it is put together
pub sector_made : (t s : ℕ) (part : List ℕ) → length part ≤ 254 → sets (set (set (replicate 256 0) 0 t) 1 s) 2 part ≡ sector_bytes t s part
sector_made t s part h =
    let e : 2 + length part ≡ suc (suc (length part)) = omega arith in
    sets-eq part (t ∷ s ∷ replicate 254 0) 2 (omega arith)
    ∙ ap (λ (k : ℕ). t ∷ s ∷ part ++ drop k (t ∷ s ∷ replicate 254 0)) e
    ∙ ap (λ (r : List ℕ). t ∷ s ∷ part ++ r) (drop_replicate (length part) 254 0)

pub sector_written : (d : List ℕ) (at t s : ℕ) (part : List ℕ) {sector after : List ℕ} → length part ≤ 254
    → sector ≡ sets (set (set (replicate 256 0) 0 t) 1 s) 2 part → after ≡ sets d at sector → after ≡ sets d at (sector_bytes t s part)
sector_written d at t s part h e f = f ∙ ap (λ (x : List ℕ). sets d at x) (e ∙ sector_made t s part h)

-- ---- an image over sectors

pub record Laying (d₀ l image d : List ℕ) (i : ℕ) : Type 0 where
  pub size : length d₀ ≡ 174848
  pub sized : length d ≡ length d₀
  pub sectors : Sectors l
  pub low : 254 * (length l - 1) ≤ length image
  pub high : length image ≤ 254 * length l
  pub lays : laid d (drop i l) (drop (254 * i) image) ≡ laid d₀ l image

pub lay_start : {d l image : List ℕ} → length d ≡ 174848 → Sectors l → 254 * (length l - 1) ≤ length image → length image ≤ 254 * length l → Laying d l image d 0
lay_start e s a b = record { size = e; sized = refl; sectors = s; low = a; high = b; lays = refl }

take_short : (k : ℕ) (l : List ℕ) → length (take k l) ≤ k
take_short k l = omega (arith, length-take k l)

module _ {d₀ l image d : List ℕ} {i : ℕ} (y : Laying d₀ l image d i) where
  pub lay_long : length d ≡ 174848
  lay_long = y.sized ∙ y.size

  pub lay_below : i < length l → get_or l i 0 < 683
  lay_below h = y.sectors.below i h

  pub lay_next : i + 1 < length l → get_or l (i + 1) 0 < 683
  lay_next h = y.sectors.below (i + 1) h

  pub lay_part : length (take (254 * i + 254 - 254 * i) (drop (254 * i) image)) ≤ 254
  lay_part = omega (arith, take_short (254 * i + 254 - 254 * i) (drop (254 * i) image))

  pub lay_rest : length l ≤ i + 1 → length (take (length image - 254 * i) (drop (254 * i) image)) ≤ 254
  lay_rest h = omega (arith, take_short (length image - 254 * i) (drop (254 * i) image), y.high)

  -- the sector at i written, as the definition writes it
  module _ (h : i < length l) {after : List ℕ} (e : after ≡ sets d (256 * get_or l i 0) (link_bytes (drop (suc i) l) (take 254 (drop (254 * i) image)) (drop (254 * i) image))) where
    written : Laying d₀ l image after (i + 1)
    unfolding laid
    written =
        let x : List ℕ = drop (254 * i) image in
        let ns : List ℕ = drop (suc i) l in
        let sector : List ℕ = link_bytes ns (take 254 x) x in
        let step : laid (sets d (256 * get_or l i 0) sector) ns (drop 254 x) ≡ laid d₀ l image = rw (drop-cons l i 0 h) at y.lays in
        let k : 254 * (i + 1) ≡ 254 * i + 254 = omega arith in
        let a : drop (i + 1) l ≡ ns = ap (λ (j : ℕ). drop j l) (add-one i) in
        let b : drop (254 * (i + 1)) image ≡ drop 254 x = ap (λ (j : ℕ). drop j image) k ∙ sym (drop-drop 254 (254 * i) image) in
        record {
          size = y.size;
          sized = ap length e ∙ length-sets d (256 * get_or l i 0) sector ∙ y.sized;
          sectors = y.sectors;
          low = y.low;
          high = y.high;
          lays =
              ap (λ (z : List ℕ). laid z (drop (i + 1) l) (drop (254 * (i + 1)) image)) e
              ∙ ap (λ (z : List ℕ). laid (sets d (256 * get_or l i 0) sector) z (drop (254 * (i + 1)) image)) a
              ∙ ap (λ (z : List ℕ). laid (sets d (256 * get_or l i 0) sector) ns z) b
              ∙ step;
        }

  module _ (h : i < length l) {after : List ℕ} where
    pub lay_turn : {t s : ℕ} → i + 1 < length l → t ≡ track_of (get_or l (i + 1) 0) → s ≡ sector_of (get_or l (i + 1) 0)
        → after ≡ sets d (256 * get_or l i 0) (sector_bytes t s (take (254 * i + 254 - 254 * i) (drop (254 * i) image))) → Laying d₀ l image after (i + 1)
    lay_turn {t} {s} g a b e =
        let k : 254 * i + 254 - 254 * i ≡ 254 = omega arith in
        let n : drop (suc i) l ≡ get_or l (i + 1) 0 ∷ drop (suc (i + 1)) l = rw (← add-one i) (drop-cons l (i + 1) 0 g) in
        let f : sector_bytes t s (take (254 * i + 254 - 254 * i) (drop (254 * i) image)) ≡ link_bytes (drop (suc i) l) (take 254 (drop (254 * i) image)) (drop (254 * i) image) =
        rw (n, a, b, k)
        in
        written h (e ∙ ap (λ (x : List ℕ). sets d (256 * get_or l i 0) x) f)

    pub lay_last : length l ≤ i + 1 → after ≡ sets d (256 * get_or l i 0) (sector_bytes 0 (1 + (length image - 254 * i)) (take (length image - 254 * i) (drop (254 * i) image)))
        → Laying d₀ l image after (i + 1)
    lay_last g e =
        let few : length (drop (254 * i) image) ≤ 254 = omega (arith, length-drop (254 * i) image, y.high) in
        let n : drop (suc i) l ≡ [] = drop_of_length-le l {i = suc i} (omega arith) in
        let a : take (length image - 254 * i) (drop (254 * i) image) ≡ drop (254 * i) image = take_all (length image - 254 * i) (drop (254 * i) image) (omega (arith, length-drop (254 * i) image)) in
        let b : take 254 (drop (254 * i) image) ≡ drop (254 * i) image = take_all 254 (drop (254 * i) image) few in
        let c : length image - 254 * i ≡ length (drop (254 * i) image) = sym (length-drop (254 * i) image) in
        let f : sector_bytes 0 (1 + (length image - 254 * i)) (take (length image - 254 * i) (drop (254 * i) image))
        ≡ link_bytes (drop (suc i) l) (take 254 (drop (254 * i) image)) (drop (254 * i) image) =
        rw (n, a, b, c)
        in
        written h (e ∙ ap (λ (x : List ℕ). sets d (256 * get_or l i 0) x) f)

  pub lay_end : length l ≤ i → d ≡ laid d₀ l image
  unfolding laid
  lay_end h = rw (drop_of_length-le l {i = i} h) at y.lays
