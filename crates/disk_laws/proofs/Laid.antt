-- An image laid out over sectors: its chain is these sectors, and its bytes are the image.
-- Assumes nothing.
use Prim.Native.Nat.{ℕ, zero, suc, ◌+◌, ◌-◌, ◌*◌, ◌≤◌, ◌<◌}
use mathlib.Core.Path.{◌≡◌, refl, sym, ap, ◌∙◌}
use mathlib.Core.Bool.{Bool, true, false, not, cond, ◌||◌}
use mathlib.Core.List.{List, [], ◌∷◌, ◌++◌, append-nil}
use lib.Dec.{eqb}
use lib.ListN.{length, get_or, take, drop, replicate, length-take, length-drop, take-append-drop, get_or-append}
use lib.Seq.{sets, length-sets, ext_get_or, get_or-take, get_or-drop, take_all, length-take-le}
use native.Mathlib.Omega.{arith}
use borrow.Author.Tests.{eq-eqb, ne_eqb, ltb-true, not-true}
use Rattle.base_steps.specs.Again.{again}
use Rattle.disk_rules.specs.Places.{track_of, off_track18}
use Rattle.disk_rules.specs.Lists.{some, is_in, none_twice}
use Rattle.disk_rules.specs.Links.{link_to, link_at}
use Rattle.disk_rules.specs.declared.Link.TheVariants.{Last, To}
use Rattle.disk_rules.specs.Chains.{Chain, broken_chain, may_hold, chain_onward}
use Rattle.disk_rules.specs.CountedHelpers.{chain_within}
use Rattle.disk_rules.specs.Calls.{link_bytes, laid, payload, chain_bytes}
use Rattle.disk_rules.proofs.Counting.{and_left, and_right, or_right}
use Rattle.disk_laws.proofs.Geometry.{place, link_back}
use Rattle.disk_laws.proofs.Elsewhere.{Within, laid_off, link_long}
use Rattle.disk_laws.proofs.Fresh.{sets_at}

-- each sector of a list holds its part of an image, behind its link
pub record Lies (d : List ℕ) (n : ℕ) (ns image : List ℕ) : Type 0 where
  pub byte : (i : ℕ) → i < 256 → get_or d (256 * n + i) 0 ≡ get_or (link_bytes ns (take 254 image) image) i 0

unfoldable pub LieAll : List ℕ → List ℕ → List ℕ → Type 0
LieAll d [] image = Unit
LieAll d (n ∷ ns) image = Lies d n ns image × LieAll d ns (drop 254 image)

part_few : (image : List ℕ) → length (take 254 image) ≤ 254
part_few image = omega (arith, length-take 254 image)

-- a disk that has the bytes of what was laid on these sectors
pub laid_lies : (d ns image d' : List ℕ) → length d ≡ 174848 → ((m : ℕ) → is_in ns m ≡ true → m < 683) → none_twice ns ≡ true
    → ((n j : ℕ) → is_in ns n ≡ true → Within n j → get_or d' j 0 ≡ get_or (laid d ns image) j 0) → LieAll d' ns image
unfolding LieAll laid some none_twice
laid_lies d [] image d' l b t h = tt
laid_lies d (n ∷ ns) image d' l b t h =
    let x : List ℕ = link_bytes ns (take 254 image) image in
    let long : length x ≡ 256 = link_long ns (take 254 image) image (part_few image) in
    let own : is_in ns n ≡ false = not-true (is_in ns n) (and_left (not (is_in ns n)) (none_twice ns) t) in
    let self : (eqb n n || is_in ns n) ≡ true = rw (eq-eqb n n refl) in
    let low : n < 683 = b n self in (
      record {
        byte = λ i g. h n (256 * n + i) self (record { from = omega arith; to = omega arith })
            ∙ laid_off (sets d (256 * n) x) ns (drop 254 image) n (256 * n + i) own (record { from = omega arith; to = omega arith })
            ∙ sets_at d (256 * n) x i (omega arith) (omega arith);
      },
      laid_lies (sets d (256 * n) x) ns (drop 254 image) d' (length-sets d (256 * n) x ∙ l) (λ m e. b m (or_right (eqb m n) (is_in ns m) e))
          (and_right (not (is_in ns n)) (none_twice ns) t) (λ m j e w. h m j (or_right (eqb m n) (is_in ns m) e) w),
    )

-- ---- the chain

module _ (d : List ℕ) (n : ℕ) where
  first_byte : (ns image : List ℕ) → Lies d n ns image → get_or d (256 * n) 0 ≡ get_or (link_bytes ns (take 254 image) image) 0 0
  first_byte ns image y = let e : 256 * n ≡ 256 * n + 0 = omega arith in ap (λ (j : ℕ). get_or d j 0) e ∙ y.byte 0 (omega arith)

  link_last : (image : List ℕ) → Lies d n [] image → link_at d (256 * n) ≡ Last (1 + length image)
  unfolding link_to
  link_last image y =
      ap (λ (t : ℕ). link_to t (get_or d (256 * n + 1) 0)) (first_byte [] image y) ∙ ap (λ (s : ℕ). link_to 0 s) (y.byte 1 (omega arith))

  link_next : (m : ℕ) (ns image : List ℕ) → m < 683 → Lies d n (m ∷ ns) image → link_at d (256 * n) ≡ To m
  link_next m ns image h y =
      ap (λ (t : ℕ). link_to t (get_or d (256 * n + 1) 0)) (first_byte (m ∷ ns) image y)
      ∙ ap (λ (s : ℕ). link_to (track_of m) s) (y.byte 1 (omega arith))
      ∙ link_back m h

held_low : (m : ℕ) → may_hold false m ≡ true → m < 683
held_low m e = ltb-true m 683 (and_left _ (off_track18 m) e)

pub lies_chain : (d : List ℕ) (k n : ℕ) (ns image : List ℕ) → ((m : ℕ) → is_in (n ∷ ns) m ≡ true → may_hold false m ≡ true) → length ns < k
    → LieAll d (n ∷ ns) image → chain_within false k d n ≡ record { sectors = n ∷ ns; ends = true }
unfolding again some LieAll
lies_chain d zero n ns image h g y = absurd (omega arith)
lies_chain d (suc k) n [] image h g y =
    let e : may_hold false n ≡ true = h n (rw (eq-eqb n n refl)) in
    let z : 1 + length image ≡ 0 → ⊥ = λ i. omega arith in
    ap (λ (q : Bool). cond q (chain_onward false n (chain_within false k d) (link_at d (256 * n))) broken_chain) e
    ∙ ap (chain_onward false n (chain_within false k d)) (link_last d n image y.0)
    ∙ ap (λ (q : Bool). record { sectors = n ∷ []; ends = not q }) (ne_eqb (1 + length image) 0 z)
lies_chain d (suc k) n (m ∷ ns) image h g y =
    let e : may_hold false n ≡ true = h n (rw (eq-eqb n n refl)) in
    let f : may_hold false m ≡ true = h m (or_right (eqb m n) (is_in (m ∷ ns) m) (rw (eq-eqb m m refl))) in
    ap (λ (q : Bool). cond q (chain_onward false n (chain_within false k d) (link_at d (256 * n))) broken_chain) e
    ∙ ap (chain_onward false n (chain_within false k d)) (link_next d n m ns image (held_low m f) y.0)
    ∙ ap (λ (c : Chain). record { sectors = n ∷ c.sectors; ends = c.ends })
    (lies_chain d k m ns (drop 254 image) (λ x i. h x (or_right (eqb x n) (is_in (m ∷ ns) x) i)) (omega arith) y.1)

-- ---- the bytes

-- so many bytes of a sector are the image's
module _ (d : List ℕ) (n : ℕ) (l : length d ≡ 174848) (b : n < 683) where
  bytes_are : (bytes : List ℕ) (zeros : List ℕ) → length bytes ≤ 254 → ((i : ℕ) → i < 254 → get_or d (256 * n + 2 + i) 0 ≡ get_or (bytes ++ zeros) i 0)
      → take (length bytes) (drop (256 * n + 2) d) ≡ bytes
  bytes_are bytes zeros few h =
      let room : length (take (length bytes) (drop (256 * n + 2) d)) ≡ length bytes = length-take-le (length bytes) (drop (256 * n + 2) d) (omega (arith, length-drop (256 * n + 2) d)) in
      ext_get_or 0 (take (length bytes) (drop (256 * n + 2) d)) bytes room (λ i g. at i (omega arith)) where
        at : (i : ℕ) → i < length bytes → get_or (take (length bytes) (drop (256 * n + 2) d)) i 0 ≡ get_or bytes i 0
        at i g =
            get_or-take (length bytes) (drop (256 * n + 2) d) i 0 g ∙ get_or-drop (256 * n + 2) d i 0 ∙ h i (omega arith) ∙ get_or-append bytes zeros 0 i g

  -- a sector's part of the image
  part_is : (ns image : List ℕ) → Lies d n ns image → take (length (take 254 image)) (drop (256 * n + 2) d) ≡ take 254 image
  part_is [] image y = bytes_are (take 254 image) (replicate (254 - length (take 254 image)) 0) (part_few image) (λ i g. at i g) where
    at : (i : ℕ) → i < 254 → get_or d (256 * n + 2 + i) 0 ≡ get_or (take 254 image ++ replicate (254 - length (take 254 image)) 0) i 0
    at i g = let e : 256 * n + 2 + i ≡ 256 * n + suc (suc i) = omega arith in ap (λ (j : ℕ). get_or d j 0) e ∙ y.byte (suc (suc i)) (omega arith)
  part_is (m ∷ ns) image y = bytes_are (take 254 image) (replicate (254 - length (take 254 image)) 0) (part_few image) (λ i g. at i g) where
    at : (i : ℕ) → i < 254 → get_or d (256 * n + 2 + i) 0 ≡ get_or (take 254 image ++ replicate (254 - length (take 254 image)) 0) i 0
    at i g = let e : 256 * n + 2 + i ≡ 256 * n + suc (suc i) = omega arith in ap (λ (j : ℕ). get_or d j 0) e ∙ y.byte (suc (suc i)) (omega arith)

  payload_last : (image : List ℕ) → length image ≤ 254 → Lies d n [] image → payload d n ≡ image
  payload_last image h y =
      let z : eqb (get_or d (256 * n) 0) 0 ≡ true = ap (λ (x : ℕ). eqb x 0) (first_byte d n [] image y) in
      let s : get_or d (256 * n + 1) 0 ≡ 1 + length image = y.byte 1 (omega arith) in
      let all : take 254 image ≡ image = take_all 254 image h in
      let k : cond (eqb (get_or d (256 * n) 0) 0) (get_or d (256 * n + 1) 0 - 1) 254 ≡ length (take 254 image) =
      ap (λ (q : Bool). cond q (get_or d (256 * n + 1) 0 - 1) 254) z ∙ let e : get_or d (256 * n + 1) 0 - 1 ≡ length image = omega arith in e ∙ ap length (sym all)
      in
      ap (λ (x : ℕ). take x (drop (256 * n + 2) d)) k ∙ part_is [] image y ∙ all

  payload_next : (m : ℕ) (ns image : List ℕ) → m < 683 → 254 ≤ length image → Lies d n (m ∷ ns) image → payload d n ≡ take 254 image
  payload_next m ns image b' h y =
      let t : track_of m ≡ 0 → ⊥ = λ e. omega (arith, (place m b').low) in
      let z : eqb (get_or d (256 * n) 0) 0 ≡ false = ap (λ (x : ℕ). eqb x 0) (first_byte d n (m ∷ ns) image y) ∙ ne_eqb (track_of m) 0 t in
      let k : cond (eqb (get_or d (256 * n) 0) 0) (get_or d (256 * n + 1) 0 - 1) 254 ≡ length (take 254 image) =
      ap (λ (q : Bool). cond q (get_or d (256 * n + 1) 0 - 1) 254) z ∙ sym (length-take-le 254 image h)
      in
      ap (λ (x : ℕ). take x (drop (256 * n + 2) d)) k ∙ part_is (m ∷ ns) image y

pub lies_bytes : (d : List ℕ) (n : ℕ) (ns image : List ℕ) → length d ≡ 174848 → ((m : ℕ) → is_in (n ∷ ns) m ≡ true → m < 683)
    → 254 * length ns ≤ length image → length image ≤ 254 * length ns + 254 → LieAll d (n ∷ ns) image → chain_bytes d (n ∷ ns) ≡ image
unfolding chain_bytes some LieAll
lies_bytes d n [] image l b low high y =
    ap (λ (x : List ℕ). x ++ []) (payload_last d n l (b n (rw (eq-eqb n n refl))) image (omega arith) y.0) ∙ append-nil image
lies_bytes d n (m ∷ ns) image l b low high y =
    let own : n < 683 = b n (rw (eq-eqb n n refl)) in
    let next : m < 683 = b m (or_right (eqb m n) (is_in (m ∷ ns) m) (rw (eq-eqb m m refl))) in
    ap (λ (x : List ℕ). x ++ chain_bytes d (m ∷ ns)) (payload_next d n l own m ns image next (omega arith) y.0)
    ∙ ap (λ (x : List ℕ). take 254 image ++ x)
    (lies_bytes d m ns (drop 254 image) l (λ x i. b x (or_right (eqb x n) (is_in (m ∷ ns) x) i)) (omega (arith, length-drop 254 image)) (omega (arith, length-drop 254 image)) y.1)
    ∙ take-append-drop 254 image
