-- A text stored: one byte; its front and its end; or in one copy.
-- Assumes nothing.
use Prim.Native.Nat.{ℕ, zero, suc, ◌+◌, ◌-◌, ◌≤◌}
use mathlib.Core.Path.{◌≡◌, refl, sym, ap, ◌∙◌}
use mathlib.Core.List.{List, [], ◌∷◌, ◌++◌, append_assoc}
use native.Mathlib.Omega.{arith}
use native.Mathlib.Nat.{add-zero}
use lib.ListN.{length, get_or, take, drop, set, length-drop}
use lib.Seq.{sets, sets-eq, set-set, take_all, drop-drop}
use Rattle.std.proofs.lemmas.List.{length-take-le}
use borrow.Rule.Slice.PartMut.{put_mid}
use Rattle.base_lent.specs.Stores.{Room, Put}
use Rattle.base_lent.proofs.Storing.{set_before}

-- a text of one byte
module _ {text : List ℕ} {at : ℕ} {buffer : List ℕ} where
  pub one_put : length text ≡ 1 → Put buffer at text (at + length text) (set buffer at (get_or text 0 0))
  one_put e = record { ends = refl; stored = go text e }
    where
      go : (t : List ℕ) → length t ≡ 1 → set buffer at (get_or t 0 0) ≡ sets buffer at t
      go [] h = absurd (omega arith)
      go (b ∷ []) h = refl
      go (b ∷ (c ∷ t)) h = absurd (omega arith)

-- a text stored by its front and its end
again : (l : List ℕ) (at j : ℕ) (t : List ℕ) → sets (sets l at (take j t)) at t ≡ sets l at t
again l at zero t = refl
again l at (suc j) [] = refl
again l at (suc j) (b ∷ t) =
    ap (λ (m : List ℕ). sets m (suc at) t)
    (set_before (set l at b) at (suc at) b (take j t) (omega arith) ∙ ap (λ (m : List ℕ). sets m (suc at) (take j t)) (set-set l at b b))
    ∙ again (set l at b) (suc at) j t

-- a front and an end that overlap make the whole
overlapping : (l : List ℕ) (at i j : ℕ) (t : List ℕ) → i ≤ j → sets (sets l at (take j t)) (at + i) (drop i t) ≡ sets l at t
overlapping l at zero j t h = rw add-zero (again l at j t)
overlapping l at (suc i) zero t h = absurd (omega arith)
overlapping l at (suc i) (suc j) [] h = refl
overlapping l at (suc i) (suc j) (b ∷ t) h =
    let e : at + suc i ≡ suc at + i = omega arith in
    rw e (overlapping (set l at b) (suc at) i j t (omega arith))

-- a text copied into a part
pub copied : (d t : List ℕ) (at : ℕ) {k : ℕ} {part : List ℕ} → k ≡ length t → at + k ≤ length d → part ≡ t → put_mid at k d part ≡ sets d at t
copied d t at size h e =
    rw (size, e)
    (ap (λ (s : List ℕ). take at d ++ (t ++ s)) (drop-drop (length t) at d) ∙ sym (sets-eq t d at (omega arith) ∙ append_assoc (take at d) t (drop (at + length t) d)))

pub all_stored : {d t part : List ℕ} {at : ℕ} → Room d at t → part ≡ t → Put d at t (at + length t) (put_mid at (at + length t - at) d part)
all_stored {d} {t} {part} {at} r e = record { ends = refl; stored = copied d t at {k = at + length t - at} (omega arith) (omega (arith, r.room)) e }

-- the part at a text's front, and the part at its end
pub front_stored : (d t : List ℕ) (at n : ℕ) {part : List ℕ} → at + n ≤ length d → n ≤ length t → part ≡ take n t → put_mid at (at + n - at) d part ≡ sets d at (take n t)
front_stored d t at n h low e = copied d (take n t) at (omega (arith, length-take-le n t low)) (omega arith) e

pub ends_stored : (d t : List ℕ) (at n : ℕ) → n ≤ length t → length t ≤ n + n
    → sets (sets d at (take n t)) (at + (length t - n)) (take n (take (length t - (length t - n)) (drop (length t - n) t))) ≡ sets d at t
ends_stored d t at n low high =
    let i = length t - n in
    let all = take_all (length t - i) (drop i t) (omega (arith, length-drop i t)) in
    let part = take_all n (drop i t) (omega (arith, length-drop i t)) in
    rw (all, part) (overlapping d at i n t (omega arith))
