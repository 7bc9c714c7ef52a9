-- A whole text lent: all of it is stored, or nothing.
-- Assumes nothing.
use Prim.Native.Nat.{ℕ, ◌+◌, ◌≤◌, ◌<◌}
use mathlib.Core.Path.{◌≡◌, refl, sym, ap, ◌∙◌}
use mathlib.Core.List.{List, [], ◌∷◌, ◌++◌}
use native.Mathlib.Omega.{arith}
use lib.ListN.{length, take, drop, length-append}
use lib.Seq.{sets-eq, take_at, length-take-le}
use mir.Syntax.{w64}
use mir.Val.{Fits}
use Rattle.base_refusals.specs.Answer.{done, refused}
use Rattle.base_refusals.specs.Numbers.{no_room}
use Rattle.base_lent.specs.Lent.{Lent, into_buffer}
use Rattle.base_lent.proofs.Outcomes.{into_none, into_done}
use Rattle.say_put.specs.Clipped.{Clipped}
use Rattle.say_put.specs.Rows.{filled, row_text}
use Rattle.say_put.proofs.Clipping.{clip_both, clip_within}
use Rattle.say_put.proofs.Filling.{filled_short}

pub lend_none : (text buffer : List ℕ) → length buffer < length text
    → ◌≡◌ {A = Lent} (record { answer = refused (no_room (length text)); buffer = buffer }) (into_buffer (done text) buffer)
lend_none text buffer h = into_none buffer (done text) refl h

pub lend_all : (text : List ℕ) {buffer : List ℕ} {n : ℕ} {after : List ℕ} → length text ≤ length buffer → Clipped buffer 0 text n after
    → ◌≡◌ {A = Lent} (record { answer = done n; buffer = after }) (into_buffer (done text) buffer)
lend_all text {buffer} h p = into_done buffer (done text) refl (record { room = omega arith }) (record { ends = omega (arith, p.ends); stored = p.stored })

-- what was stored in a buffer that has room for it can be read there
pub lent_there : {buffer : List ℕ} (text : List ℕ) {n : ℕ} {after : List ℕ} → length text ≤ length buffer → Clipped buffer 0 text n after → take n after ≡ text
lent_there {buffer} text {n} h p =
    let size : n ≡ length text = omega (arith, p.ends) in
    rw (size, p.stored, sets-eq text buffer 0 (omega arith)) (take_at text (drop (0 + length text) buffer) (length text) refl)

pub stored_taken : {buffer text after : List ℕ} {at n : ℕ} → Clipped buffer at text n after → n ≡ length (take n after)
stored_taken p = sym (length-take-le _ _ (clip_within p))

-- ---- a row, put together in a buffer of 8,192 bytes

module _ (front row : List ℕ) (x y z : ℕ) where
  row_short : Fits w64 x → Fits w64 y → Fits w64 z → length front ≤ 4352 → length row ≤ 128 → length (row_text front row x y z) ≤ 8192
  unfolding row_text
  row_short p q r f g =
      omega (arith, length-append front (filled row x y z ++ (0x0A ∷ [])), length-append (filled row x y z) (0x0A ∷ []), filled_short row p q r)

  row_put : {buffer o1 o2 o3 : List ℕ} {m1 m2 m3 : ℕ} → Clipped buffer 0 front m1 o1 → Clipped o1 m1 (filled row x y z) m2 o2
      → Clipped o2 m2 (0x0A ∷ []) m3 o3 → Clipped buffer 0 (row_text front row x y z) m3 o3
  unfolding row_text
  row_put a b c = clip_both front _ a (clip_both (filled row x y z) (0x0A ∷ []) b c)

  pub row_lent : (out : List ℕ) {buffer o1 o2 o3 : List ℕ} {m1 m2 m3 : ℕ} {l : Lent} → Fits w64 x → Fits w64 y → Fits w64 z → length front ≤ 4352 → length row ≤ 128
      → length buffer ≡ 8192 → Clipped buffer 0 front m1 o1 → Clipped o1 m1 (filled row x y z) m2 o2 → Clipped o2 m2 (0x0A ∷ []) m3 o3
      → l ≡ into_buffer (done (take m3 o3)) out → l ≡ into_buffer (done (row_text front row x y z)) out
  row_lent out p q r f g size a b c e =
      let short : length (row_text front row x y z) ≤ 8192 = row_short p q r f g in
      e ∙ ap (λ (t : List ℕ). into_buffer (done t) out) (lent_there (row_text front row x y z) (omega arith) (row_put a b c))
