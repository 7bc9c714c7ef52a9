-- The bytes that sectors hold, counted and taken out.
-- Assumes nothing.
use Prim.Native.Nat.{ℕ, zero, suc, ◌+◌, ◌-◌, ◌*◌, ◌^◌, ◌≤◌, ◌<◌}
use mathlib.Core.Path.{◌≡◌, refl, sym, ap, ◌∙◌}
use mathlib.Core.Bool.{cond}
use mathlib.Core.List.{List, [], ◌∷◌, ◌++◌}
use lib.Dec.{eqb}
use lib.ListN.{length, get_or, take, drop, length-drop, length-append, drop_of_length-le}
use lib.Seq.{sets, length-sets, drop-cons, length-take-le}
use native.Mathlib.Numerals.{add-one}
use native.Mathlib.Omega.{arith}
use mir.Val.{Fits}
use mir.Syntax.{w64}
use borrow.Author.Tests.{eq-eqb, ne_eqb}
use Rattle.base_lent.proofs.Storing.{sets_append}
use Rattle.disk_rules.specs.Calls.{payload, chain_bytes}
use Rattle.disk_chains.specs.ChainHelpers.{Sectors}
use Rattle.disk_bytes.specs.ByteHelpers.{Below, Lies}

module _ (d : List ℕ) (n : ℕ) (e : 256 * n + 256 ≤ length d) where
  room : (k : ℕ) → k ≤ 254 → k ≡ length (take k (drop (256 * n + 2) d))
  room k g = sym (length-take-le k (drop (256 * n + 2) d) (omega (arith, length-drop (256 * n + 2) d)))

  pub pay_full : (get_or d (256 * n) 0 ≡ 0 → ⊥) → 254 ≡ length (payload d n)
  pay_full z = rw (ne_eqb (get_or d (256 * n) 0) 0 z) (room 254 (omega arith))

  pub pay_last : {k : ℕ} → get_or d (256 * n) 0 ≡ 0 → k ≡ get_or d (256 * n + 1) 0 - 1 → get_or d (256 * n + 1) 0 < 256 → k ≡ length (payload d n)
  pay_last {k} z f g = rw (eq-eqb (get_or d (256 * n) 0) 0 z, ← f) (room k (omega arith))

-- a list that `measure` takes is one that `take_out` takes
pub below_lies : {d l : List ℕ} → Below d l → Lies d l
below_lies s = s.lies

-- and one that `take_out` takes is one that `measure` takes, where it is no longer than an image has sectors
pub lies_below : {d l : List ℕ} → length l ≤ 768 → Lies d l → Below d l
lies_below h s = record { few = h; lies = s }

-- the sectors of a disk of 35 tracks
pub sectors_below : {d l : List ℕ} → length d ≡ 174848 → Sectors l → length l ≤ 683 → Below d l
sectors_below e s h = lies_below (omega arith) (record { small = λ i g. omega (arith, s.below i g); within = λ i g. omega (arith, s.below i g) })

-- ---- how many

pub record Measuring (d l : List ℕ) (count i : ℕ) : Type 0 where
  pub sectors : Below d l
  pub within : i ≤ length l
  pub few : count ≤ 254 * i
  pub gives : count + length (chain_bytes d (drop i l)) ≡ length (chain_bytes d l)

pub measure_start : (d : List ℕ) {l : List ℕ} → Below d l → Measuring d l 0 0
measure_start d s = record { sectors = s; within = omega arith; few = omega arith; gives = omega arith }

module _ {d l : List ℕ} {count i : ℕ} (m : Measuring d l count i) where
  pub measure_below : i < length l → 256 * get_or l i 0 + 256 ≤ length d
  measure_below h = m.sectors.lies.within i h

  pub measure_turn : {r : ℕ} → i < length l → r ≡ length (payload d (get_or l i 0)) → r ≤ 254 → Measuring d l (count + r) (i + 1)
  unfolding chain_bytes
  measure_turn {r} h e f =
      let g : count + length (payload d (get_or l i 0) ++ chain_bytes d (drop (suc i) l)) ≡ length (chain_bytes d l) = rw (drop-cons l i 0 h) at m.gives in
      record {
        sectors = m.sectors;
        within = omega arith;
        few = omega (arith, m.few);
        gives = rw add-one (omega (arith, g, length-append (payload d (get_or l i 0)) (chain_bytes d (drop (suc i) l))));
      }

  pub measure_end : length l ≤ i → count ≡ length (chain_bytes d l)
  unfolding chain_bytes
  measure_end h =
      let g : count + 0 ≡ length (chain_bytes d l) = rw (drop_of_length-le l {i = i} h) at m.gives in omega arith

-- ---- taken out

-- as many bytes as a part has are that part
take_exact : (k : ℕ) (x : List ℕ) → take (length (take k x)) x ≡ take k x
take_exact zero x = refl
take_exact (suc k) [] = refl
take_exact (suc k) (a ∷ x) = ap (λ (r : List ℕ). a ∷ r) (take_exact k x)

pub record Taking (d l out₀ out : List ℕ) (to i : ℕ) : Type 0 where
  pub sectors : Lies d l
  pub sized : length out ≡ length out₀
  pub room : to + length (chain_bytes d (drop i l)) ≤ length out₀
  pub stores : sets out to (chain_bytes d (drop i l)) ≡ sets out₀ 0 (chain_bytes d l)

pub take_start : (d : List ℕ) {l out : List ℕ} → Lies d l → length (chain_bytes d l) ≤ length out → Taking d l out out 0 0
take_start d s h = record { sectors = s; sized = refl; room = omega arith; stores = refl }

module _ {d l out₀ out : List ℕ} {to i : ℕ} (t : Taking d l out₀ out to i) where
  pub take_below : i < length l → 256 * get_or l i 0 + 256 ≤ length d
  take_below h = t.sectors.within i h

  small : i < length l → get_or l i 0 < 768
  small h = t.sectors.small i h

  pub take_mul : i < length l → Fits w64 (256 * get_or l i 0)
  take_mul h = omega (arith, small h)

  pub take_add : i < length l → Fits w64 (256 * get_or l i 0 + 2)
  take_add h = omega (arith, small h)

  pub take_sum : {r : ℕ} → i < length l → r ≤ 254 → Fits w64 (256 * get_or l i 0 + 2 + r)
  take_sum h e = omega (arith, small h)

  pub take_within : {r : ℕ} → i < length l → r ≤ 254 → 256 * get_or l i 0 + 2 + r ≤ length d
  take_within h e = omega (arith, take_below h)

  module _ (h : i < length l) {r : ℕ} (e : r ≡ length (payload d (get_or l i 0))) where
    abbrev n : ℕ
    n = get_or l i 0

    part : take (256 * n + 2 + r - (256 * n + 2)) (drop (256 * n + 2) d) ≡ payload d n
    part = let k : 256 * n + 2 + r - (256 * n + 2) ≡ length (payload d n) = omega arith in rw k (take_exact (cond (eqb (get_or d (256 * n) 0) 0) (get_or d (256 * n + 1) 0 - 1) 254) (drop (256 * n + 2) d))

    more : to + length (payload d n ++ chain_bytes d (drop (suc i) l)) ≤ length out₀
    unfolding chain_bytes
    more = rw (drop-cons l i 0 h) at t.room

    pub take_room : to + length (take (256 * get_or l i 0 + 2 + r - (256 * get_or l i 0 + 2)) (drop (256 * get_or l i 0 + 2) d)) ≤ length out
    take_room = rw part (omega (arith, more, t.sized, length-append (payload d n) (chain_bytes d (drop (suc i) l))))

    pub take_to : length out₀ < 2 ^ 64 → Fits w64 (to + (256 * get_or l i 0 + 2 + r - (256 * get_or l i 0 + 2)))
    take_to g = omega (arith, more, length-append (payload d n) (chain_bytes d (drop (suc i) l)))

    pub take_turn : {after : List ℕ} → after ≡ sets out to (take (256 * get_or l i 0 + 2 + r - (256 * get_or l i 0 + 2)) (drop (256 * get_or l i 0 + 2) d))
        → Taking d l out₀ after (to + (256 * get_or l i 0 + 2 + r - (256 * get_or l i 0 + 2))) (i + 1)
    unfolding chain_bytes
    take_turn {after} f =
        let rest : List ℕ = chain_bytes d (drop (suc i) l) in
        let g : after ≡ sets out to (payload d n) = rw part at f in
        let k : to + (256 * n + 2 + r - (256 * n + 2)) ≡ to + length (payload d n) = omega arith in
        let s : sets out to (payload d n ++ rest) ≡ sets out₀ 0 (chain_bytes d l) = rw (drop-cons l i 0 h) at t.stores in
        rw (k, add-one i)
        (record {
          sectors = t.sectors;
          sized = ap length g ∙ length-sets out to (payload d n) ∙ t.sized;
          room = omega (arith, more, length-append (payload d n) rest);
          stores =
              ap (λ (b : List ℕ). sets b (to + length (payload d n)) rest) g ∙ sym (sets_append out to (payload d n) rest) ∙ s;
        })

  pub take_end : length l ≤ i → out ≡ sets out₀ 0 (chain_bytes d l)
  unfolding chain_bytes
  take_end h = rw (drop_of_length-le l {i = i} h) at t.stores
