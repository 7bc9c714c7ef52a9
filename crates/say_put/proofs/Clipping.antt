-- Laws of texts stored as far as they fit: one behind another, and what is still owed.
-- Assumes nothing.
use Prim.Native.Nat.{ℕ, suc, ◌+◌, ◌-◌, ◌≤◌, ◌<◌, min}
use mathlib.Core.Path.{◌≡◌, refl, sym, ap, ◌∙◌}
use mathlib.Core.Bool.{Bool, true, false}
use mathlib.Core.List.{List, [], ◌∷◌, ◌++◌, append_assoc}
use native.Mathlib.Omega.{arith}
use lib.Dec.{leb}
use lib.ListN.{length, get_or, set, take, drop, length-append, drop_of_length-le, take-append-drop}
use lib.Seq.{sets, sets-eq, length-sets, set_out, length-take-le, drop-drop}
use borrow.Author.Tests.{leb-true, leb-false}
use borrow.Rule.Slice.PartMut.{put_mid}
use Rattle.base_lent.proofs.Storing.{sets_append}
use Rattle.say_put.specs.Clipped.{Clipped}

-- nothing is stored beyond the end
sets_out : (l : List ℕ) (i : ℕ) (vs : List ℕ) → length l ≤ i → sets l i vs ≡ l
sets_out l i [] h = refl
sets_out l i (v ∷ vs) h = ap (λ (m : List ℕ). sets m (suc i) vs) (set_out l i v h) ∙ sets_out l (suc i) vs (omega arith)

sets_clip : (l : List ℕ) (i : ℕ) (vs : List ℕ) → sets l (min i (length l)) vs ≡ sets l i vs
sets_clip l i vs = go (leb i (length l)) refl
  where
    go : (b : Bool) → leb i (length l) ≡ b → sets l (min i (length l)) vs ≡ sets l i vs
    go true e = let h : i ≤ length l = leb-true _ _ e in ap (λ (n : ℕ). sets l n vs) (omega arith)
    go false e = let h : length l < i = leb-false _ _ e in sets_out l (min i (length l)) vs (omega arith) ∙ sym (sets_out l i vs (omega arith))

pub clip_long : {buffer : List ℕ} {at : ℕ} {text : List ℕ} {behind : ℕ} {after : List ℕ} → Clipped buffer at text behind after → length after ≡ length buffer
clip_long {buffer} {at} {text} p = ap length p.stored ∙ length-sets buffer at text

pub clip_within : {buffer : List ℕ} {at : ℕ} {text : List ℕ} {behind : ℕ} {after : List ℕ} → Clipped buffer at text behind after → behind ≤ length after
clip_within p = omega (arith, clip_long p, p.ends)

pub clip_none : {buffer : List ℕ} {at : ℕ} → at ≤ length buffer → Clipped buffer at [] at buffer
clip_none h = record { ends = omega arith; stored = refl }

-- the same text by another name
pub clip_as : {buffer : List ℕ} {at : ℕ} {t s : List ℕ} {behind : ℕ} {after : List ℕ} → t ≡ s → Clipped buffer at t behind after → Clipped buffer at s behind after
clip_as e p = rw e at p

-- one text behind another
pub clip_both : {buffer : List ℕ} {at : ℕ} (s t : List ℕ) {mid : ℕ} {half : List ℕ} {behind : ℕ} {after : List ℕ}
    → Clipped buffer at s mid half → Clipped half mid t behind after → Clipped buffer at (s ++ t) behind after
clip_both {buffer} {at} s t {mid} {half} p q =
    let size : length half ≡ length buffer = clip_long p in
    let place : mid ≡ min (at + length s) (length half) = omega (arith, p.ends) in
    record {
      ends = omega (arith, length-append s t, p.ends, q.ends);
      stored =
          q.stored ∙ ap (λ (n : ℕ). sets half n t) place ∙ sets_clip half (at + length s) t ∙ ap (λ (m : List ℕ). sets m (at + length s) t) p.stored
          ∙ sym (sets_append buffer at s t);
    }

-- of a text that is to be stored, the rest is owed
pub record Owes (buffer : List ℕ) (at : ℕ) (text : List ℕ) (out : List ℕ) (to : ℕ) (rest : List ℕ) : Type 0 where
  pub within : to ≤ length out
  pub sized : length out ≡ length buffer
  pub gives : (behind : ℕ) (after : List ℕ) → Clipped out to rest behind after → Clipped buffer at text behind after

pub owes_all : {buffer : List ℕ} {at : ℕ} (text : List ℕ) → at ≤ length buffer → Owes buffer at text buffer at text
owes_all text h = record { within = h; sized = refl; gives = λ behind after p. p }

module _ {buffer : List ℕ} {at : ℕ} {text out : List ℕ} {to : ℕ} {rest : List ℕ} where
  -- a part of the rest is stored
  pub owes_less : (s t : List ℕ) {mid : ℕ} {half : List ℕ} → Owes buffer at text out to rest → rest ≡ s ++ t → Clipped out to s mid half → Owes buffer at text half mid t
  owes_less s t o e p =
      record { within = clip_within p; sized = clip_long p ∙ o.sized; gives = λ behind after q. o.gives behind after (clip_as (sym e) (clip_both s t p q)) }

  -- nothing is left
  pub owes_none : Owes buffer at text out to rest → rest ≡ [] → Clipped buffer at text to out
  owes_none o e = o.gives to out (clip_as (sym e) (clip_none o.within))

-- ---- a text copied, as much of it as fits

copied : (d t : List ℕ) (at : ℕ) {c : ℕ} {part : List ℕ} → c ≡ length t → at + c ≤ length d → part ≡ t → put_mid at ((at + c) - at) d part ≡ sets d at t
copied d t at {c} {part} size h e =
    let k : (at + c) - at ≡ length t = omega arith in
    rw (k, e)
    (ap (λ (s : List ℕ). take at d ++ (t ++ s)) (drop-drop (length t) at d) ∙ sym (sets-eq t d at (omega arith) ∙ append_assoc (take at d) t (drop (at + length t) d)))

pub clip_copied : (d text : List ℕ) (at : ℕ) {c : ℕ} {part : List ℕ} → at ≤ length d → c ≡ min (length text) (length d - at) → part ≡ take c text
    → Clipped d at text (at + c) (put_mid at ((at + c) - at) d part)
clip_copied d text at {c} {part} h m e =
    let size : c ≡ length (take c text) = sym (length-take-le c text (omega arith)) in
    record { ends = omega arith; stored = copied d (take c text) at size (omega arith) e ∙ sym whole }
  where
    rest : sets (sets d at (take c text)) (at + c) (drop c text) ≡ sets d at (take c text)
    rest = go (leb (length text) c) refl
      where
        go : (b : Bool) → leb (length text) c ≡ b → sets (sets d at (take c text)) (at + c) (drop c text) ≡ sets d at (take c text)
        go true t = rw (drop_of_length-le text (leb-true _ _ t))
        go false t =
            let more : c < length text = leb-false _ _ t in
            sets_out (sets d at (take c text)) (at + c) (drop c text) (omega (arith, length-sets d at (take c text)))

    whole : sets d at text ≡ sets d at (take c text)
    whole =
        let size : length (take c text) ≡ c = length-take-le c text (omega arith) in
        ap (sets d at) (sym (take-append-drop c text)) ∙ sets_append d at (take c text) (drop c text)
        ∙ ap (λ (n : ℕ). sets (sets d at (take c text)) (at + n) (drop c text)) size ∙ rest

-- a text of one byte
pub clip_one : {d text : List ℕ} {at behind : ℕ} {after : List ℕ} → length text ≡ 1 → Clipped d at (get_or text 0 0 ∷ []) behind after → Clipped d at text behind after
clip_one {text = t} e p = clip_as (go t e) p
  where
    go : (s : List ℕ) → length s ≡ 1 → (get_or s 0 0 ∷ []) ≡ s
    go [] h = absurd (omega arith)
    go (b ∷ []) h = refl
    go (b ∷ (a ∷ s)) h = absurd (omega arith)

pub one_full : (d : List ℕ) (at b : ℕ) → at ≤ length d → length d ≤ at → Clipped d at (b ∷ []) at d
one_full d at b h f = record { ends = omega arith; stored = sym (set_out d at b f) }

pub one_put : (d : List ℕ) (at b : ℕ) → at < length d → Clipped d at (b ∷ []) (at + 1) (set d at b)
one_put d at b h = record { ends = omega arith; stored = refl }
