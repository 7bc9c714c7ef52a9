-- A listing is at most nine times as long as its image of bytes; so where that much is lent, an image that is read to its end can be listed.
-- Assumes nothing.
use Prim.Native.Nat.{ℕ, ◌+◌, ◌*◌, ◌-◌, ◌/◌, ◌≤◌, ◌<◌}
use mathlib.Core.Path.{◌≡◌, refl, sym, ap, ◌∙◌, subst}
use mathlib.Core.List.{List, ◌∷◌}
use native.Mathlib.Omega.{arith}
use lib.ListN.{length, get_or, length-append}
use mir.Syntax.{w8}
use mir.Val.{Fits}
use Rattle.base_refusals.specs.Answer.{Answer, done, refused, map_done, numbered, answered}
use Rattle.base_refusals.specs.declared.Refusal.{Refusal}
use Rattle.base_lent.specs.Lent.{Lent, into_buffer, room_for}
use Rattle.base_lent.specs.Stores.{HasRoom}
use Rattle.base_lent.proofs.Outcomes.{into_refused}
use Rattle.image_readers.specs.declared.By.{By}
use Rattle.image_readers.specs.declared.Overview.{Overview}
use Rattle.image_readers.specs.declared.Line.{Line}
use Rattle.image_readers.specs.NumberedBody.{NumberedBody}
use Rattle.image_readers.specs.Bodies.{body_of, numbered_body, bodies_from}
use Rattle.image_readers.specs.Lines.{overview, overview_of}
use Rattle.image_readers.specs.Readers.{step_by}
use Rattle.image_readers.proofs.Equations.{LiesAt, by_lines}
use Rattle.base_refusals.proofs.Tight.{told_back}
use Rattle.image_readers.proofs.Reading.{overview_bodies, bodies_line, bodies_end, bodies_refused, body_length_lem}
use Rattle.image_readers.proofs.Steps.{by_sound}
use Rattle.image_units.specs.declared.Rules.{Rules}
use Rattle.list_lines.specs.Body.{line_listing}
use Rattle.list_image.specs.Listing.{lines_listing, listing_by}
use Rattle.list_lines.proofs.Lining.{line_short}
use Rattle.std.specs.Prelude.{Option, Some, None, Result, Ok, Err}

module _ (by : By) (rules : Rules) (image : List ℕ) (bytes : (i : ℕ) → get_or image i 0 < 256) where
  abbrev from : ℕ → Answer (List NumberedBody)
  from p = bodies_from (step_by by) image p

  -- the lines from p on list as at most nine times what is left of the image
  abbrev Short : ℕ → Answer (List NumberedBody) → Type 0
  Short p (done bs) = length (lines_listing rules bs) ≤ 9 * (length image - p)
  Short p (refused n) = Unit {0}

  one_more : (p : ℕ) (l : Line) → LiesAt image p l → (a : Answer (List NumberedBody)) → Short l.next a → Short p (map_done (λ bs. numbered_body image l ∷ bs) a)
  unfolding lines_listing
  one_more p l d (done bs) h =
      let shown = line_listing rules l.number (body_of image l) in
      let small : l.number < 65536 = omega (arith, d.number, bytes (p + 2), bytes (p + 2 + 1)) in
      omega
      (arith, length-append shown (lines_listing rules bs), line_short rules l.number (body_of image l) small, body_length_lem d, d.starts, d.runs, d.ends, d.within)
  one_more p l d (refused n) h = tt

  short_at : (p : ℕ) → ((l : Line) → step_by by image p ≡ done (Some l) → Short l.next (from l.next))
      → (f : Answer (Option Line)) → step_by by image p ≡ f → Short p (from p)
  unfolding lines_listing
  short_at p h (done (Some l)) e =
      subst (Short p) (sym (bodies_line (by_sound by) image p e)) (one_more p l ((by_sound by).lies image p e) (from l.next) (h l e))
  short_at p h (done None) e = subst (Short p) (sym (bodies_end (step_by by) image p e)) (omega arith)
  short_at p h (refused n) e = subst (Short p) (sym (bodies_refused (step_by by) image p e)) tt

  short_from : (p : ℕ) → Short p (from p)
  short_from = by_lines (by_sound by) image (λ p. Short p (from p)) (λ p h. short_at p h (step_by by image p) refl)

  pub listing_short : {text : List ℕ} → listing_by by rules image ≡ done text → length text ≤ 9 * length image
  unfolding listing_by
  listing_short {text} e = go (from 2) e (short_from 2)
    where
      go : (a : Answer (List NumberedBody)) → map_done (lines_listing rules) a ≡ done text → Short 2 a → length text ≤ 9 * length image
      go (done bs) q h = let s : lines_listing rules bs ≡ text = cc in omega (arith, ap length s)
      go (refused n) q h = let z : ◌≡◌ {A = ℕ} 0 1 = cc in absurd (omega arith)

-- ---- in a buffer that holds nine bytes for each byte of the image

overview_by : (by : By) (image : List ℕ) {a : Answer (List NumberedBody)} → bodies_from (step_by by) image 2 ≡ a → overview (step_by by) image ≡ map_done (overview_of image) a
overview_by by image f = overview_bodies (step_by by) image ∙ ap (map_done (overview_of image)) f

module _ (by : By) (rules : Rules) (image buffer : List ℕ) {r : Result Overview Refusal} (e : answered r ≡ overview (step_by by) image) where
  -- an image that was read to its end has a listing, and the buffer has room for it
  pub ninefold_room : {v : Overview} → r ≡ Ok v → length image ≤ length buffer / 9 → ((i : ℕ) → Fits w8 (get_or image i 0)) → HasRoom buffer (listing_by by rules image)
  unfolding listing_by
  ninefold_room is few bytes = go (bodies_from (step_by by) image 2) refl
    where
      go : (a : Answer (List NumberedBody)) → bodies_from (step_by by) image 2 ≡ a → HasRoom buffer (map_done (lines_listing rules) a)
      go (done bs) f = record { room = omega (arith, listing_short by rules image (λ i. omega (arith, (bytes i).fits)) (ap (map_done (lines_listing rules)) f)) }
      go (refused n) f = let z : ◌≡◌ {A = ℕ} 0 1 = cc (overview_by by image f, told_back is e) in absurd (omega arith)

  -- one that was refused has none
  pub ninefold_refused : {n : Refusal} → r ≡ Err n → ◌≡◌ {A = Lent} (record { answer = refused (numbered n); buffer = buffer }) (into_buffer (listing_by by rules image) buffer)
  unfolding listing_by
  ninefold_refused {n} is = into_refused buffer (listing_by by rules image) (go (bodies_from (step_by by) image 2) refl)
    where
      go : (a : Answer (List NumberedBody)) → bodies_from (step_by by) image 2 ≡ a → refused (numbered n) ≡ room_for (map_done (lines_listing rules) a)
      go (done bs) f = let z : ◌≡◌ {A = ℕ} 0 1 = cc (overview_by by image f, told_back is e) in absurd (omega arith)
      go (refused m) f = cc (overview_by by image f, told_back is e)
