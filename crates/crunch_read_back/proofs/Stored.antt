-- An image that was crunched into a lent buffer, and what the reader by links is lent of it.
-- Assumes nothing.
use Prim.Native.Nat.{ℕ, ◌≤◌}
use mathlib.Core.Path.{◌≡◌, refl, sym, ap, ◌∙◌}
use mathlib.Core.Bool.{Bool, true, false, cond}
use mathlib.Core.List.{List}
use native.Mathlib.Omega.{arith}
use lib.Dec.{leb}
use lib.ListN.{length, take}
use lib.Seq.{sets, length-sets, length-take-le}
use borrow.Author.Tests.{leb-true}
use Rattle.base_refusals.specs.Numbers.{no_room}
use Rattle.base_refusals.specs.Answer.{Answer, done, refused, answered}
use Rattle.base_lent.specs.Lent.{Lent, into_buffer, left}
use Rattle.base_refusals.specs.declared.Refusal.{Refusal}
use Rattle.image_readers.specs.Lines.{overview}
use Rattle.image_readers.specs.declared.Overview.{Overview}
use Rattle.image_readers.specs.Links.{link_step}
use Rattle.crunch_read_back.specs.ReadingBack.{reading_back, left_read}
use Rattle.std.specs.Prelude.{Result, Ok, Err}

-- what was stored is no longer than the buffer
stored_fits : (a : Answer (List ℕ)) (buffer : List ℕ) {n : ℕ} {after : List ℕ} → left (Ok n) after ≡ into_buffer a buffer → n ≤ length after
unfolding into_buffer
stored_fits (done bytes) buffer {n} {after} e = go (leb (length bytes) (length buffer)) refl e
  where
    go : (b : Bool) → leb (length bytes) (length buffer) ≡ b
        → ◌≡◌ {A = Lent} (record { answer = done n; buffer = after })
        (cond b (record { answer = done (length bytes); buffer = sets buffer 0 bytes }) (record { answer = refused (no_room (length bytes)); buffer = buffer }))
        → n ≤ length after
    go true h p =
        let q : ◌≡◌ {A = Answer ℕ} (done n) (done (length bytes)) = ap (λ (x : Lent). x.answer) p in
        let s : n ≡ length bytes = cc in
        let t : after ≡ sets buffer 0 bytes = ap (λ (x : Lent). x.buffer) p in
        omega (arith, leb-true (length bytes) (length buffer) h, length-sets buffer 0 bytes, ap length t)
    go false h p = let q : ◌≡◌ {A = Answer ℕ} (done n) (refused (no_room (length bytes))) = ap (λ (x : Lent). x.answer) p in let z : ◌≡◌ {A = ℕ} 0 1 = cc in absurd (omega arith)
stored_fits (refused m) buffer {n} e = let q : ◌≡◌ {A = Answer ℕ} (done n) (refused m) = ap (λ (x : Lent). x.answer) e in let z : ◌≡◌ {A = ℕ} 0 1 = cc in absurd (omega arith)

module _ (a : Answer (List ℕ)) (buffer : List ℕ) {r : (Result ℕ Refusal)} {after : List ℕ} where
  as_told : {x : (Result ℕ Refusal)} → r ≡ x → left r after ≡ into_buffer a buffer → left x after ≡ into_buffer a buffer
  as_told told is = ap (λ (x : Result ℕ Refusal). left x after) (sym told) ∙ is

  -- an image was stored
  module _ {n : ℕ} where
    pub image_fits : r ≡ Ok n → left r after ≡ into_buffer a buffer → n ≤ length after
    image_fits told is = stored_fits a buffer (as_told told is)

    pub image_long : r ≡ Ok n → left r after ≡ into_buffer a buffer → n ≡ length (take n after)
    image_long told is = sym (length-take-le n after (image_fits told is))

    pub image_made : (c : Result Overview Refusal) → answered c ≡ overview link_step (take n after) → r ≡ Ok n → left r after ≡ into_buffer a buffer
        → left_read (Ok (record { length = n; read = c })) after ≡ reading_back (into_buffer a buffer)
    unfolding reading_back
    image_made c read told is =
        ap (λ (o : Answer Overview). record { answer = done (record { size = n; overview = o }); buffer = after }) read
        ∙ ap reading_back (as_told told is)

  -- or none
  pub image_none : {x : Refusal} → r ≡ Err x → left r after ≡ into_buffer a buffer → left_read (Err x) after ≡ reading_back (into_buffer a buffer)
  unfolding reading_back
  image_none told is = ap reading_back (as_told told is)
