-- Laws of `sets`, a run of bytes stored from a place on (lib.Seq): runs behind each other, in a part of a buffer, before each other.
-- Assumes nothing.
use Prim.Native.Nat.{ℕ, suc, ◌+◌, ◌-◌, ◌<◌}
use mathlib.Core.Path.{◌≡◌, refl, sym, ap, ◌∙◌}
use mathlib.Core.List.{List, [], ◌∷◌, ◌++◌, append-nil}
use lib.ListN.{length, take, drop, set, take-append-drop, length-append, length-drop, drop_of_length-le}
use lib.Seq.{sets, length-sets, set_comm, drop-set-add, take-set-le, take_all}
use borrow.Rule.Slice.PartMut.{mid_of, put_mid}
use native.Mathlib.Omega.{arith}
use native.Mathlib.Nat.{add-zero}
use Rattle.base_lent.specs.Stores.{Room, Put}

pub put_long : {buffer : List ℕ} {at : ℕ} {text : List ℕ} {behind : ℕ} {after : List ℕ} → Put buffer at text behind after → length after ≡ length buffer
put_long {buffer} {at} {text} p = ap length p.stored ∙ length-sets buffer at text

-- the same text by another name
module _ {t s : List ℕ} (e : t ≡ s) where
  pub room_as : {buffer : List ℕ} {at : ℕ} → Room buffer at s → Room buffer at t
  room_as {buffer} {at} r = rw e r

  pub put_as : {buffer : List ℕ} {at behind : ℕ} {after : List ℕ} → Put buffer at t behind after → Put buffer at s behind after
  put_as p = rw e at p

-- one run behind another is one run
pub sets_append : (l : List ℕ) (i : ℕ) (vs ws : List ℕ) → sets l i (vs ++ ws) ≡ sets (sets l i vs) (i + length vs) ws
sets_append l i [] ws = rw add-zero
sets_append l i (v ∷ vs) ws = sets_append (set l i v) (suc i) vs ws ∙ ap (λ (n : ℕ). sets (sets l i (v ∷ vs)) n ws) (omega arith)

-- a store before a run may come first
pub set_before : (l : List ℕ) (i j a : ℕ) (vs : List ℕ) → i < j → set (sets l j vs) i a ≡ sets (set l i a) j vs
set_before l i j a [] h = refl
set_before l i j a (v ∷ vs) h = set_before (set l j v) i (suc j) a vs (omega arith) ∙ ap (λ (m : List ℕ). sets m (suc j) vs) (set_comm l j i v a (omega arith))

-- a run stored in the part that starts at a is a run of the whole
pub sets_part : (l : List ℕ) (a i : ℕ) (vs : List ℕ) → take a l ++ sets (drop a l) i vs ≡ sets l (a + i) vs
sets_part l a i [] = take-append-drop a l
sets_part l a i (v ∷ vs) =
    rw (← drop-set-add a l i v, ← take-set-le a l (a + i) v (omega arith))
    (sets_part (set l (a + i) v) a (suc i) vs ∙ ap (λ (n : ℕ). sets (set l (a + i) v) n vs) (omega arith))

-- a part up to the end, lent and come back with a run stored in it: the run is stored in the whole
pub tail_put : (xs : List ℕ) (a i : ℕ) (vs : List ℕ) {ys : List ℕ} → ys ≡ sets (mid_of a (length xs - a) xs) i vs → put_mid a (length xs - a) xs ys ≡ sets xs (a + i) vs
tail_put xs a i vs e =
    let m : take (length xs - a) (drop a xs) ≡ drop a xs = take_all (length xs - a) (drop a xs) (omega (arith, length-drop a xs)) in
    let p : drop (length xs - a) (drop a xs) ≡ [] = drop_of_length-le (drop a xs) {i = length xs - a} (omega (arith, length-drop a xs)) in
    rw (e, m, p, append-nil) (sets_part xs a i vs)

-- four stores before a run
pub header : (l : List ℕ) (at a b c d : ℕ) (vs : List ℕ)
    → set (set (set (set (sets l (at + 4) vs) at a) (at + 1) b) (at + 2) c) (at + 3) d ≡ sets l at (a ∷ b ∷ c ∷ d ∷ vs)
header l at a b c d vs =
    let e₁ : at + 1 ≡ suc at = omega arith in
    let e₂ : at + 2 ≡ suc (suc at) = omega arith in
    let e₃ : at + 3 ≡ suc (suc (suc at)) = omega arith in
    let e₄ : at + 4 ≡ suc (suc (suc (suc at))) = omega arith in
    rw (set_before l at (at + 4) a vs (omega arith), set_before _ (at + 1) (at + 4) b vs (omega arith), set_before _ (at + 2) (at + 4) c vs (omega arith), set_before _ (at + 3) (at + 4) d vs (omega arith), e₁, e₂, e₃, e₄)

-- two texts one behind the other
module _ (t s : List ℕ) {buffer : List ℕ} {at : ℕ} where
  pub room_first : Room buffer at (t ++ s) → Room buffer at t
  room_first r = record { room = omega (arith, length-append t s, r.room) }

  pub room_second : {behind : ℕ} {after : List ℕ} → Room buffer at (t ++ s) → Put buffer at t behind after → Room after behind s
  room_second r p = record { room = omega (arith, length-append t s, put_long p, r.room) }

  pub put_both : {mid : ℕ} {half : List ℕ} {behind : ℕ} {after : List ℕ} → Put buffer at t mid half → Put half mid s behind after → Put buffer at (t ++ s) behind after
  put_both {mid} p q =
      record {
        ends = omega (arith, length-append t s, p.ends, q.ends);
        stored =
            q.stored ∙ ap (λ (b : List ℕ). sets b mid s) p.stored ∙ ap (λ (n : ℕ). sets (sets buffer at t) n s) p.ends
            ∙ sym (sets_append buffer at t s);
      }

pub put_none : (buffer : List ℕ) (at : ℕ) → Put buffer at [] at buffer
put_none buffer at = record { ends = omega arith; stored = refl }
