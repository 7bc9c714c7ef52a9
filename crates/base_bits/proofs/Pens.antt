-- The pen: a bit, the bits of a field, zero bits to a byte's end; and from these the packing, as callers need it.
-- Assumes nothing.
use Prim.Native.Nat.{ℕ, zero, suc, ◌+◌, ◌-◌, ◌*◌, ◌/◌, ◌%◌, ◌^◌, ◌≤◌, ◌<◌}
use mathlib.Core.Path.{◌≡◌, refl, sym, ap, ◌∙◌}
use mathlib.Core.Bool.{Bool, true, false}
use mathlib.Core.List.{List, [], ◌∷◌, ◌++◌}
use native.Mathlib.Omega.{arith}
use native.Mathlib.Nat.{mul_assoc, mul_left_comm, pow-succ'}
use native.Mathlib.Numerals.{add-one}
use lib.Dec.{eqb}
use lib.ListN.{length, set, length-set}
use lib.Seq.{sets}
use lib.Pow.{pow_mono}
use borrow.Author.Tests.{eq-eqb, ne_eqb, eqb-true, eqb-false}
use Rattle.base_lent.specs.Stores.{Put}
use Rattle.base_lent.proofs.Storing.{put_none}
use Rattle.base_bits.specs.Bits.{bits_of, pack_from}
use Rattle.base_bits.specs.PenHelpers.{Sharp, Drawn, Ready, drawn_bit, drawn}
use Rattle.base_bits.specs.declared.Pen.{Pen}
use Rattle.base_bits.proofs.Bytes.{AreBits, pack_none, pack_last, pack_full, pack_more, pack_some}

-- ---- a bit

pub value_low : {pen : Pen} → Sharp pen → pen.value < 128
value_low {pen} sharp = omega (arith, pow_mono {i = pen.count} {j = 7} sharp.few, sharp.small)

module _ (out : List ℕ) (pen : Pen) (b : ℕ) where
  pub bit_full : pen.count ≡ 7
      → ◌≡◌ {A = Drawn} (record { pen = record { at = pen.at + 1; value = 0; count = 0 }; out = set out pen.at (2 * pen.value + b) }) (drawn_bit out pen b)
  bit_full e = simp (eq-eqb _ _ e)

  pub bit_more : (pen.count ≡ 7 → ⊥) → ◌≡◌ {A = Drawn} (record { pen = record { at = pen.at; value = 2 * pen.value + b; count = pen.count + 1 }; out = out }) (drawn_bit out pen b)
  bit_more e = simp (ne_eqb _ _ e)

-- what is packed from a pen on
abbrev penned : Pen → List ℕ → List ℕ
penned pen bits = pack_from pen.value pen.count bits

module _ {out : List ℕ} {pen : Pen} {b : ℕ} {bs : List ℕ} (r : Ready out pen (b ∷ bs)) where
  pub ready_place : pen.at < length out
  ready_place = go (eqb pen.count 7) refl
    where
      go : (t : Bool) → eqb pen.count 7 ≡ t → pen.at < length out
      go true e =
          let p : length (penned pen (b ∷ bs)) ≡ suc (length (pack_from 0 0 bs)) = ap length (pack_full pen.value pen.count b bs (eqb-true _ _ e)) in
          omega (arith, r.room.room)
      go false e =
          let p : length (penned pen (b ∷ bs)) ≡ length (pack_from (2 * pen.value + b) (pen.count + 1) bs) = ap length (pack_more pen.value pen.count b bs (eqb-false _ _ e)) in
          omega (arith, r.room.room, pack_some bs (2 * pen.value + b) (pen.count + 1) (omega arith))

  -- what one bit does: it keeps the bytes to come, or makes one of them
  pub ready_turn : b ≤ 1 → {d : Drawn} → d ≡ drawn_bit out pen b → Ready d.out d.pen bs
  ready_turn l {d} is = go (eqb pen.count 7) refl
    where
      go : (t : Bool) → eqb pen.count 7 ≡ t → Ready d.out d.pen bs
      go true e =
          let z : pen.count ≡ 7 = eqb-true _ _ e in
          let p : length (penned pen (b ∷ bs)) ≡ suc (length (pack_from 0 0 bs)) = ap length (pack_full pen.value pen.count b bs z) in
          rw (is ∙ sym (bit_full out pen b z)) (record {
            sharp = record { few = omega arith; small = omega arith };
            room = record { room = simp length-set (omega (arith, r.room.room)) };
          })
      go false e =
          let z = eqb-false _ _ e in
          let p : length (penned pen (b ∷ bs)) ≡ length (pack_from (2 * pen.value + b) (pen.count + 1) bs) = ap length (pack_more pen.value pen.count b bs z) in
          let w : 2 ^ (pen.count + 1) ≡ 2 * 2 ^ pen.count = ap (λ (m : ℕ). 2 ^ m) (add-one pen.count) ∙ pow-succ' 2 pen.count in
          let f : pen.count ≡ 7 → ⊥ = z in
          rw (is ∙ sym (bit_more out pen b z)) (record {
            sharp = record { few = omega (arith, r.sharp.few); small = omega (arith, r.sharp.small) };
            room = record { room = omega (arith, r.room.room) };
          })

-- what is stored behind a bit is stored with it
put_bit : {out : List ℕ} (pen : Pen) (b : ℕ) (bs : List ℕ) {d : Drawn} → d ≡ drawn_bit out pen b → {r : ℕ} {after : List ℕ}
    → Put d.out d.pen.at (penned d.pen bs) r after → Put out pen.at (penned pen (b ∷ bs)) r after
put_bit {out} pen b bs {d} is {r} {after} p = go (eqb pen.count 7) refl
  where
    go : (t : Bool) → eqb pen.count 7 ≡ t → Put out pen.at (penned pen (b ∷ bs)) r after
    go true e =
        let z : pen.count ≡ 7 = eqb-true _ _ e in
        let q : Put (set out pen.at (2 * pen.value + b)) (pen.at + 1) (pack_from 0 0 bs) r after = rw (is ∙ sym (bit_full out pen b z)) at p in
        rw (pack_full pen.value pen.count b bs z) (record {
          ends = omega (arith, q.ends);
          stored = q.stored ∙ ap (λ (n : ℕ). sets (set out pen.at (2 * pen.value + b)) n (pack_from 0 0 bs)) (add-one pen.at);
        })
    go false e =
        let z = eqb-false _ _ e in
        rw (pack_more pen.value pen.count b bs z) (rw (is ∙ sym (bit_more out pen b z)) at p)

bit_long : (out : List ℕ) (pen : Pen) (b : ℕ) → length (drawn_bit out pen b).out ≡ length out
bit_long out pen b = go (eqb pen.count 7) refl
  where
    go : (t : Bool) → eqb pen.count 7 ≡ t → length (drawn_bit out pen b).out ≡ length out
    go true e = ap (λ (d : Drawn). length d.out) (sym (bit_full out pen b (eqb-true _ _ e))) ∙ length-set out pen.at _
    go false e = ap (λ (d : Drawn). length d.out) (sym (bit_more out pen b (eqb-false _ _ e)))

-- ---- bits one behind the other

pub drawn_long : (bs out : List ℕ) (pen : Pen) → length (drawn out pen bs).out ≡ length out
unfolding drawn
drawn_long [] out pen = refl
drawn_long (b ∷ bs) out pen = drawn_long bs (drawn_bit out pen b).out (drawn_bit out pen b).pen ∙ bit_long out pen b

-- a buffer stays as long as it was
pub drawn_same : (out : List ℕ) (pen : Pen) (bs : List ℕ) {r : Pen} {after : List ℕ} → record { pen = r; out = after } ≡ drawn out pen bs → length after ≡ length out
drawn_same out pen bs is = ap (λ (d : Drawn). length d.out) is ∙ drawn_long bs out pen

pub drawn_both : (bs cs out : List ℕ) (pen : Pen) → drawn out pen (bs ++ cs) ≡ drawn (drawn out pen bs).out (drawn out pen bs).pen cs
unfolding drawn
drawn_both [] cs out pen = refl
drawn_both (b ∷ bs) cs out pen = drawn_both bs cs (drawn_bit out pen b).out (drawn_bit out pen b).pen

drawn_ready : (bs cs : List ℕ) {out : List ℕ} {pen : Pen} → AreBits bs → Ready out pen (bs ++ cs) → Ready (drawn out pen bs).out (drawn out pen bs).pen cs
unfolding drawn
drawn_ready [] cs a r = r
drawn_ready (b ∷ bs) cs a r = drawn_ready bs cs a.1 (ready_turn r a.0 refl)

drawn_put : (bs cs : List ℕ) {out : List ℕ} (pen : Pen) {r : ℕ} {after : List ℕ}
    → Put (drawn out pen bs).out (drawn out pen bs).pen.at (penned (drawn out pen bs).pen cs) r after → Put out pen.at (penned pen (bs ++ cs)) r after
unfolding drawn
drawn_put [] cs pen p = p
drawn_put (b ∷ bs) cs {out} pen p = put_bit pen b (bs ++ cs) refl (drawn_put bs cs (drawn_bit out pen b).pen p)

-- fewer bits give no more bytes
pack_fewer : (bs cs : List ℕ) (v n : ℕ) → length (pack_from v n bs) ≤ length (pack_from v n (bs ++ cs))
pack_fewer [] cs v n = go (eqb n 0) refl
  where
    go : (t : Bool) → eqb n 0 ≡ t → length (pack_from v n []) ≤ length (pack_from v n cs)
    go true e = rw (pack_none v n (eqb-true n 0 e)) (omega arith)
    go false e = let z = eqb-false n 0 e in rw (pack_last v n z) (pack_some cs v n (omega arith))
pack_fewer (b ∷ bs) cs v n = go (eqb n 7) refl (pack_fewer bs cs)
  where
    go : (t : Bool) → eqb n 7 ≡ t → ((w m : ℕ) → length (pack_from w m bs) ≤ length (pack_from w m (bs ++ cs)))
        → length (pack_from v n (b ∷ bs)) ≤ length (pack_from v n (b ∷ bs ++ cs))
    go true e f = rw (pack_full v n b bs (eqb-true n 7 e), pack_full v n b (bs ++ cs) (eqb-true n 7 e)) (omega (arith, f 0 0))
    go false e f = rw (pack_more v n b bs (eqb-false n 7 e), pack_more v n b (bs ++ cs) (eqb-false n 7 e)) (f (2 * v + b) (n + 1))

-- bits before other bits, as callers of `put_field` need them
module _ (bs cs : List ℕ) {out : List ℕ} {pen : Pen} where
  pub ready_first : Ready out pen (bs ++ cs) → Ready out pen bs
  ready_first r = record { sharp = r.sharp; room = record { room = omega (arith, r.room.room, pack_fewer bs cs pen.value pen.count) } }

  pub ready_behind : AreBits bs → Ready out pen (bs ++ cs) → {d : Drawn} → d ≡ drawn out pen bs → Ready d.out d.pen cs
  ready_behind a r is = rw is (drawn_ready bs cs a r)

-- what is stored behind bits is stored with them
pub put_behind : (bs cs : List ℕ) {out : List ℕ} (pen : Pen) {d : Drawn} → d ≡ drawn out pen bs → {r : ℕ} {after : List ℕ}
    → Put d.out d.pen.at (pack_from d.pen.value d.pen.count cs) r after → Put out pen.at (pack_from pen.value pen.count (bs ++ cs)) r after
put_behind bs cs pen is p = drawn_put bs cs pen (rw is at p)

-- ---- the loop over a field's bits

bits_top : (left value : ℕ) {b : ℕ} → 0 < left → b ≡ value / 2 ^ (left - 1) % 2 → bits_of left value ≡ b ∷ bits_of (left - 1) value
unfolding bits_of
bits_top zero value h e = absurd (omega arith)
bits_top (suc k) value h e =
    let m : suc k - 1 ≡ k = omega arith in
    ap (λ (n : ℕ). value / 2 ^ n % 2 ∷ bits_of n value) (sym m) ∙ ap (λ (x : ℕ). x ∷ bits_of (suc k - 1) value) (sym e)

-- the bits of a field that are left do the rest
pub record Drawing (out₀ : List ℕ) (pen₀ : Pen) (width value : ℕ) (out : List ℕ) (pen : Pen) (left : ℕ) : Type 0 where
  pub few : left ≤ 16
  pub ready : Ready out pen (bits_of left value)
  pub gives : drawn out pen (bits_of left value) ≡ drawn out₀ pen₀ (bits_of width value)

pub drawing_start : {out : List ℕ} {pen : Pen} {width value : ℕ} → width ≤ 16 → Ready out pen (bits_of width value) → Drawing out pen width value out pen width
drawing_start h r = record { few = h; ready = r; gives = refl }

module _ {out₀ : List ℕ} {pen₀ : Pen} {width value : ℕ} {out : List ℕ} {pen : Pen} {left b : ℕ} (k : Drawing out₀ pen₀ width value out pen left)
    (h : 0 < left) (e : b ≡ value / 2 ^ (left - 1) % 2) where
  next : Ready out pen (b ∷ bits_of (left - 1) value)
  next = rw (bits_top left value h e) at k.ready

  pub bit_place : pen.at < length out
  bit_place = ready_place next

  pub drawing_turn : b ≤ 1 → {r : Pen} {after : List ℕ} → record { pen = r; out = after } ≡ drawn_bit out pen b → Drawing out₀ pen₀ width value after r (left - 1)
  unfolding drawn
  drawing_turn l {r} {after} is =
      record {
        few = omega (arith, k.few);
        ready = ready_turn next l is;
        gives = ap (λ (d : Drawn). drawn d.out d.pen (bits_of (left - 1) value)) is ∙ sym (ap (drawn out pen) (bits_top left value h e)) ∙ k.gives;
      }

pub drawing_end : {out₀ : List ℕ} {pen₀ : Pen} {width value : ℕ} {out : List ℕ} {pen : Pen} {left : ℕ} → left ≤ 0 → Drawing out₀ pen₀ width value out pen left
    → record { pen = pen; out = out } ≡ drawn out₀ pen₀ (bits_of width value)
unfolding drawn bits_of
drawing_end {value = value} {out = out} {pen = pen} {left = left} h k =
    let z : left ≡ 0 = omega arith in
    ap (drawn out pen) (ap (λ (n : ℕ). bits_of n value) (sym z)) ∙ k.gives

-- ---- zero bits to the byte's end

pack_zero : (v n : ℕ) → 0 < n → n ≤ 7 → pack_from v n [] ≡ pack_from v n (0 ∷ [])
pack_zero v n h g = go (eqb n 7) refl
  where
    go : (t : Bool) → eqb n 7 ≡ t → pack_from v n [] ≡ pack_from v n (0 ∷ [])
    go true e =
        let z : n ≡ 7 = eqb-true n 7 e in
        pack_last v n (λ q. omega arith) ∙ ap (λ (x : ℕ). x ∷ []) (ap (λ (m : ℕ). v * 2 ^ (8 - m)) z ∙ omega arith)
        ∙ ap (λ (bs : List ℕ). (2 * v + 0) ∷ bs) (sym (pack_none 0 0 refl)) ∙ sym (pack_full v n 0 [] z)
    go false e =
        let z = eqb-false n 7 e in
        let f : n ≡ 7 → ⊥ = z in
        let m : 8 - n ≡ suc (8 - (n + 1)) = omega arith in
        let d : v * 2 ^ (8 - n) ≡ (2 * v + 0) * 2 ^ (8 - (n + 1)) = ap (λ (k : ℕ). v * 2 ^ k) m ∙ ap (λ (x : ℕ). v * x) (pow-succ' 2 (8 - (n + 1)))
        ∙ mul_left_comm v 2 _ ∙ sym (mul_assoc 2 v _) ∙ ap (λ (x : ℕ). x * 2 ^ (8 - (n + 1))) (omega arith) in
        pack_last v n (λ q. omega arith) ∙ ap (λ (x : ℕ). x ∷ []) d ∙ sym (pack_last (2 * v + 0) (n + 1) (λ q. omega arith)) ∙ sym (pack_more v n 0 [] z)

-- the byte that is being filled, when it is full, is all that is left to store
pub record Closing (out₀ : List ℕ) (pen₀ : Pen) (out : List ℕ) (pen : Pen) : Type 0 where
  pub ready : Ready out pen []
  pub gives : {r : ℕ} {after : List ℕ} → Put out pen.at (pack_from pen.value pen.count []) r after → Put out₀ pen₀.at (pack_from pen₀.value pen₀.count []) r after

pub closing_start : {out : List ℕ} {pen : Pen} → Ready out pen [] → Closing out pen out pen
closing_start r = record { ready = r; gives = λ p. p }

module _ {out₀ : List ℕ} {pen₀ : Pen} {out : List ℕ} {pen : Pen} (k : Closing out₀ pen₀ out pen) (h : 0 < pen.count) where
  zero_next : Ready out pen (0 ∷ [])
  zero_next = let e = pack_zero pen.value pen.count h k.ready.sharp.few in record { sharp = k.ready.sharp; room = rw e at k.ready.room }

  pub zero_place : pen.at < length out
  zero_place = ready_place zero_next

  pub closing_turn : {r : Pen} {after : List ℕ} → record { pen = r; out = after } ≡ drawn_bit out pen 0 → Closing out₀ pen₀ after r
  closing_turn is =
      record {
        ready = ready_turn zero_next (omega arith) is;
        gives = λ p. k.gives (rw (pack_zero pen.value pen.count h k.ready.sharp.few) (put_bit pen 0 [] is p));
      }

  pub closing_less : {r : Pen} {after : List ℕ} → record { pen = r; out = after } ≡ drawn_bit out pen 0 → (8 - r.count) % 8 < (8 - pen.count) % 8
  closing_less {r} {after} is = go (eqb pen.count 7) refl
    where
      go : (t : Bool) → eqb pen.count 7 ≡ t → (8 - r.count) % 8 < (8 - pen.count) % 8
      go true e =
          let z : pen.count ≡ 7 = eqb-true _ _ e in
          let c : r.count ≡ 0 = ap (λ (d : Drawn). d.pen.count) (is ∙ sym (bit_full out pen 0 z)) in
          omega arith
      go false e =
          let z : pen.count ≡ 7 → ⊥ = eqb-false _ _ e in
          let c : r.count ≡ pen.count + 1 = ap (λ (d : Drawn). d.pen.count) (is ∙ sym (bit_more out pen 0 z)) in
          omega (arith, k.ready.sharp.few)

pub closing_end : {out₀ : List ℕ} {pen₀ : Pen} {out : List ℕ} {pen : Pen} → pen.count ≤ 0 → Closing out₀ pen₀ out pen
    → Put out₀ pen₀.at (pack_from pen₀.value pen₀.count []) pen.at out
closing_end {out = out} {pen = pen} h k = k.gives (rw (pack_none pen.value pen.count (omega arith)) (put_none out pen.at))
