-- The loops over the lines of an image: what is left to list at an offset, what was counted, what was stored.
-- Assumes nothing.
use Prim.Native.Nat.{ℕ, ◌+◌, ◌*◌, ◌≤◌, ◌<◌}
use mathlib.Core.Path.{◌≡◌, refl, sym, ap, ◌∙◌, subst}
use mathlib.Core.List.{List, [], ◌∷◌, ◌++◌}
use native.Mathlib.Omega.{arith}
use lib.ListN.{length, length-append}
use mir.Syntax.{w64}
use mir.Val.{Fits}
use Rattle.base_refusals.specs.Answer.{Answer, done, refused, map_done, numbered, answered}
use Rattle.base_refusals.specs.declared.Refusal.{Refusal}
use Rattle.base_refusals.specs.Numbers.{no_room}
use Rattle.base_lent.specs.Lent.{Lent, into_buffer, room_for}
use Rattle.base_lent.specs.Stores.{Room, Put, HasRoom}
use Rattle.base_lent.proofs.Storing.{room_first, room_second, put_both}
use Rattle.base_refusals.proofs.Tight.{told}
use Rattle.base_lent.proofs.Outcomes.{has_room, into_refused, into_none, into_done}
use Rattle.image_readers.specs.declared.By.{By}
use Rattle.image_readers.specs.declared.Line.{Line}
use Rattle.image_readers.specs.NumberedBody.{NumberedBody}
use Rattle.image_readers.specs.Bodies.{body_of, numbered_body, bodies_from}
use Rattle.image_readers.specs.Readers.{step_by}
use Rattle.base_refusals.proofs.Tight.{told_back}
use Rattle.image_readers.proofs.Reading.{bodies_line, bodies_end, bodies_refused, body_length_lem}
use Rattle.image_readers.proofs.Steps.{by_sound, found_lies}
use Rattle.image_units.specs.declared.Rules.{Rules}
use Rattle.list_spelling.proofs.Owed.{Owed, owed_start, owed_room, owed_turn, owed_end}
use Rattle.list_lines.specs.Body.{line_listing}
use Rattle.list_lines.specs.LineHelpers.{head_listing, rest_listing, LineLength}
use Rattle.list_options.specs.Modes.{rules_under, original_options, heeds_prefix}
use Rattle.list_options.specs.declared.ListOptions.{ListOptions}
use Rattle.list_image.specs.Listing.{lines_listing, listing_by, listing, listing_under}
use Rattle.list_lines.proofs.Lining.{line_parts}
use Rattle.std.specs.Prelude.{Result, Ok, Err}
use Rattle.std.specs.Prelude.{Option, Some, None}

-- what is left to list of an image, from an offset on
abbrev left_from : By → Rules → List ℕ → ℕ → Answer (List ℕ)
left_from by rules image p = map_done (lines_listing rules) (bodies_from (step_by by) image p)

-- the listing of a line that was found
abbrev line_shown : Rules → List ℕ → Line → List ℕ
line_shown rules image l = line_listing rules l.number (body_of image l)

module _ (by : By) (rules : Rules) (image : List ℕ) (p : ℕ) {r : Result (Option Line) Refusal} where
  left_end : r ≡ Ok None → answered r ≡ step_by by image p → left_from by rules image p ≡ done []
  unfolding lines_listing
  left_end is e = ap (map_done (lines_listing rules)) (bodies_end (step_by by) image p (told_back is e))

  left_refused : {n : Refusal} → r ≡ Err n → answered r ≡ step_by by image p → left_from by rules image p ≡ refused (numbered n)
  left_refused is e = ap (map_done (lines_listing rules)) (bodies_refused (step_by by) image p (told_back is e))

  module _ {l : Line} (is : r ≡ Ok (Some l)) (e : answered r ≡ step_by by image p) where
    left_line : left_from by rules image p ≡ map_done (λ rest. line_shown rules image l ++ rest) (left_from by rules image l.next)
    unfolding lines_listing
    left_line = ap (map_done (lines_listing rules)) (bodies_line (by_sound by) image p (told_back is e)) ∙ go (bodies_from (step_by by) image l.next)
      where
        go : (a : Answer (List NumberedBody)) → map_done (lines_listing rules) (map_done (λ bs. numbered_body image l ∷ bs) a)
            ≡ map_done (λ rest. line_shown rules image l ++ rest) (map_done (lines_listing rules) a)
        go (done bs) = refl
        go (refused n) = refl

-- a body that was found is no longer than an image
pub found_short : (by : By) (s : List ℕ) (p : ℕ) {r : Result (Option Line) Refusal} {l : Line} → r ≡ Ok (Some l) → answered r ≡ step_by by s p → length (body_of s l) ≤ 1048576
found_short by s p {r} {l} is e =
    let d = found_lies by s p is e in omega (arith, body_length_lem d, d.ends, d.within, (by_sound by).not_too_long s p (told_back is e))

-- ---- counting

-- n bytes are listed before p, and with what is left they make the listing
pub record LinesCounted (by : By) (rules : Rules) (image : List ℕ) (p n : ℕ) : Type 0 where
  pub short : n ≤ 9 * p
  pub gives : map_done (λ rest. n + length rest) (left_from by rules image p) ≡ room_for (listing_by by rules image)

pub counted_start : (by : By) (rules : Rules) (image : List ℕ) → LinesCounted by rules image 2 0
unfolding listing_by
counted_start by rules image = record { short = omega arith; gives = go (left_from by rules image 2) }
  where
    go : (a : Answer (List ℕ)) → map_done (λ rest. 0 + length rest) a ≡ room_for a
    go (done rest) = ap done (omega arith)
    go (refused n) = refl

module _ {by : By} {rules : Rules} {image : List ℕ} {p n : ℕ} (k : LinesCounted by rules image p n) {r : Result (Option Line) Refusal} where
  module _ {l : Line} {m : ℕ} (is : r ≡ Ok (Some l)) (e : answered r ≡ step_by by image p) (long : LineLength rules l.number (body_of image l) m) where
    pub counted_turn : LinesCounted by rules image l.next (n + m)
    counted_turn =
        let d = found_lies by image p is e in
        record {
          short = omega (arith, k.short, long.short, body_length_lem d, d.starts, d.runs, d.ends);
          gives = go (left_from by rules image l.next) ∙ sym (ap (map_done (λ rest. n + length rest)) (left_line by rules image p is e)) ∙ k.gives;
        }
      where
        go : (a : Answer (List ℕ)) → map_done (λ rest. n + m + length rest) a
            ≡ map_done (λ rest. n + length rest) (map_done (λ rest. line_shown rules image l ++ rest) a)
        go (done rest) = ap done (omega (arith, long.is, length-append (line_shown rules image l) rest))
        go (refused q) = refl

    pub counted_fits : Fits w64 (n + m)
    counted_fits =
        let d = found_lies by image p is e in
        record { fits = omega (arith, counted_turn.short, d.within, (by_sound by).not_too_long image p (told_back is e)) }

  pub counted_end : r ≡ Ok None → answered r ≡ step_by by image p → done n ≡ room_for (listing_by by rules image)
  counted_end is e = ap done (omega arith) ∙ sym (ap (map_done (λ rest. n + length rest)) (left_end by rules image p is e)) ∙ k.gives

  pub counted_refused : {q : Refusal} → r ≡ Err q → answered r ≡ step_by by image p → refused (numbered q) ≡ room_for (listing_by by rules image)
  counted_refused is e = sym (ap (map_done (λ rest. n + length rest)) (left_refused by rules image p is e)) ∙ k.gives

-- ---- storing

pub record LinesWritten (by : By) (rules : Rules) (image buffer : List ℕ) (p : ℕ) (out : List ℕ) (at : ℕ) : Type 0 where
  pub whole : List ℕ
  pub left : List ℕ
  pub is_whole : listing_by by rules image ≡ done whole
  pub is_left : left_from by rules image p ≡ done left
  pub owed : Owed buffer 0 whole out at left

pub written_start : (by : By) (rules : Rules) (image buffer : List ℕ) → HasRoom buffer (listing_by by rules image) → LinesWritten by rules image buffer 2 buffer 0
unfolding listing_by
written_start by rules image buffer room = go (listing_by by rules image) refl room
  where
    go : (a : Answer (List ℕ)) → listing_by by rules image ≡ a → HasRoom buffer a → LinesWritten by rules image buffer 2 buffer 0
    go (done bytes) e has = record { whole = bytes; left = bytes; is_whole = e; is_left = e; owed = owed_start has }
    go (refused n) e has = absurd has

module _ {by : By} {rules : Rules} {image buffer : List ℕ} {p : ℕ} {out : List ℕ} {at : ℕ} (k : LinesWritten by rules image buffer p out at) {r : Result (Option Line) Refusal} where
  module _ {l : Line} (is : r ≡ Ok (Some l)) (e : answered r ≡ step_by by image p) where
    -- the line, and what is left behind it
    record Parts : Type 0 where
      rest : List ℕ
      parts : k.left ≡ (head_listing l.number ++ rest_listing rules (body_of image l)) ++ rest
      is_rest : left_from by rules image l.next ≡ done rest

    split : Parts
    split = go (left_from by rules image l.next) refl (sym (left_line by rules image p is e) ∙ k.is_left)
      where
        go : (a : Answer (List ℕ)) → left_from by rules image l.next ≡ a → map_done (λ rest. line_shown rules image l ++ rest) a ≡ done k.left → Parts
        go (done rest) q f =
            let g : k.left ≡ line_shown rules image l ++ rest = cc in
            record { rest = rest; parts = g ∙ ap (λ (x : List ℕ). x ++ rest) (line_parts rules l.number (body_of image l)); is_rest = q }
        go (refused n) q f = let z : ◌≡◌ {A = ℕ} 0 1 = cc in absurd (omega arith)

    abbrev line_text : List ℕ
    line_text = head_listing l.number ++ rest_listing rules (body_of image l)

    line_room : Room out at line_text
    line_room = owed_room k.owed line_text split.rest split.parts

    pub written_head : Room out at (head_listing l.number)
    written_head = room_first (head_listing l.number) (rest_listing rules (body_of image l)) line_room

    module _ {mid : ℕ} {half : List ℕ} (q : Put out at (head_listing l.number) mid half) where
      pub written_rest : Room half mid (rest_listing rules (body_of image l))
      written_rest = room_second (head_listing l.number) (rest_listing rules (body_of image l)) line_room q

      pub written_turn : {at' : ℕ} {out' : List ℕ} → Put half mid (rest_listing rules (body_of image l)) at' out' → LinesWritten by rules image buffer l.next out' at'
      written_turn t =
          record {
            whole = k.whole;
            left = split.rest;
            is_whole = k.is_whole;
            is_left = split.is_rest;
            owed = owed_turn k.owed line_text split.rest split.parts (put_both (head_listing l.number) (rest_listing rules (body_of image l)) q t);
          }

  pub written_end : r ≡ Ok None → answered r ≡ step_by by image p → ◌≡◌ {A = Lent} (record { answer = done at; buffer = out }) (into_buffer (listing_by by rules image) buffer)
  written_end is e =
      let none : k.left ≡ [] = cc (left_end by rules image p is e, k.is_left) in
      into_done buffer (listing_by by rules image) (sym k.is_whole) (subst (HasRoom buffer) (sym k.is_whole) (record { room = k.owed.fits })) (owed_end k.owed none)

  -- an image that has a listing is refused nowhere
  pub written_refused : {n : Refusal} → r ≡ Err n → answered r ≡ step_by by image p → ⊥
  written_refused is e = let z : ◌≡◌ {A = ℕ} 0 1 = cc (left_refused by rules image p is e, k.is_left) in omega arith

pub written_long : {by : By} {rules : Rules} {image buffer : List ℕ} {p : ℕ} {out : List ℕ} {at : ℕ} → LinesWritten by rules image buffer p out at → length out ≡ length buffer
written_long k = k.owed.long

-- ---- what is measured decides

module _ (by : By) (rules : Rules) (image buffer : List ℕ) {r : (Result ℕ Refusal)} (e : answered r ≡ room_for (listing_by by rules image)) where
  pub room_there : {n : ℕ} → r ≡ Ok n → n ≤ length buffer → HasRoom buffer (listing_by by rules image)
  room_there is h = has_room buffer (listing_by by rules image) (told is e) h

  pub no_room_lem : {n : ℕ} → r ≡ Ok n → length buffer < n
      → ◌≡◌ {A = Lent} (record { answer = refused (no_room n); buffer = buffer }) (into_buffer (listing_by by rules image) buffer)
  no_room_lem is h = into_none buffer (listing_by by rules image) (told is e) h

  pub no_listing : {n : Refusal} → r ≡ Err n
      → ◌≡◌ {A = Lent} (record { answer = refused (numbered n); buffer = buffer }) (into_buffer (listing_by by rules image) buffer)
  no_listing is = into_refused buffer (listing_by by rules image) (told is e)

-- ---- as the options ask for it

module _ (o : ListOptions) (image : List ℕ) {rules : Rules} (is : rules ≡ rules_under o) where
  pub room_under : {a : Answer ℕ} → a ≡ room_for (listing_by o.by rules image) → a ≡ room_for (listing_under o image)
  unfolding listing_under
  room_under e = rw is at e

  pub listing_under_lem : (buffer : List ℕ) {a : Lent} → a ≡ into_buffer (listing_by o.by rules image) buffer → a ≡ into_buffer (listing_under o image) buffer
  unfolding listing_under
  listing_under_lem buffer e = rw is at e

-- ---- the original's listing

module _ (image : List ℕ) {o : ListOptions} (is : o ≡ original_options) where
  pub original_room : {a : Answer ℕ} → a ≡ room_for (listing_under o image) → a ≡ room_for (listing image)
  unfolding listing listing_under heeds_prefix
  original_room {a = a} e = subst (λ (x : ListOptions). a ≡ room_for (listing_under x image)) is e

  pub original_listing : (buffer : List ℕ) {a : Lent} → a ≡ into_buffer (listing_under o image) buffer → a ≡ into_buffer (listing image) buffer
  unfolding listing listing_under heeds_prefix
  original_listing buffer {a = a} e = subst (λ (x : ListOptions). a ≡ into_buffer (listing_under x image) buffer) is e
