-- The loop that writes an image: its invariant, a turn, and its end.
-- Assumes nothing.
use Prim.Native.Nat.{ℕ, suc, ◌+◌, ◌-◌, ◌≤◌, ◌<◌}
use mathlib.Core.Path.{◌≡◌, refl, sym, ap, ◌∙◌, subst}
use mathlib.Core.Bool.{false}
use mathlib.Core.List.{List, ◌++◌}
use native.Mathlib.Omega.{arith}
use lib.ListN.{length, drop, length-append}
use Rattle.base_refusals.specs.Answer.{Answer, done, refused, map_done}
use Rattle.base_lent.specs.Lent.{Lent, into_buffer}
use Rattle.base_lent.specs.Stores.{Room, Put, HasRoom}
use Rattle.base_lent.proofs.Storing.{put_long, put_both, put_none, put_as}
use Rattle.base_lent.proofs.Outcomes.{into_done}
use Rattle.text_lines.specs.declared.TextLine.{TextLine}
use Rattle.text_lines.specs.declared.LineRule.TheVariants.{AfterCr}
use Rattle.text_lines.specs.SplitHelpers.{line_from}
use Rattle.text_lines.specs.TextLines.{text_lines}
use Rattle.text_lines.proofs.Splitting.{line_behind_lem}
use Rattle.body_rules.specs.Lexicon.{Lexicon}
use Rattle.image_readers.specs.NumberedBody.{NumberedBody}
use Rattle.image_layout.specs.Layout.{two_bytes, lines_bytes, end_address, image_of}
use Rattle.image_layout.proofs.Laying.{image_length, lines_length, lines_append, end_append, end_above}
use Rattle.crunch_profile.specs.Profile.{least_behind}
use Rattle.crunch_rules.specs.Crunched.{text_line, crunch_lines}
use Rattle.crunch_rules.specs.PassesHelpers.{text_image, address_behind, given}
use borrow.Rule.Slice.PartMut.{mid_of, put_mid}
use mir.Syntax.{w16, w64}
use mir.Val.{Fits}
use Rattle.crunch_write.proofs.Laying.{part_room, part_put}
use Rattle.crunch_rules.proofs.Lining.{Taken, taken, given_is, text_blank, under_plain}
use Rattle.crunch_rules.proofs.Reaching.{Reached, reached_start, reached_turn, turn_before, reached_refused, reached_end, line_at, line_behind}

-- the lines before a text line are stored behind the load address
pub record Written (words : Lexicon) (load : ℕ) (text buffer : List ℕ) (from at : ℕ) (out : List ℕ) (to : ℕ) : Type 0 where
  pub k : ℕ
  pub least : ℕ
  pub address : ℕ
  pub reached : Reached false words load text at k least address
  pub room : HasRoom buffer (text_image false words load text)
  pub begins : from ≡ 2
  pub put : Put buffer from (lines_bytes load reached.before) to out

-- room is a matter of length
room_alike : (buffer other : List ℕ) → length other ≡ length buffer → (a : Answer (List ℕ)) → HasRoom buffer a → HasRoom other a
room_alike buffer other e (done bytes) r = record { room = omega (arith, r.room, e) }
room_alike buffer other e (refused n) r = r

-- a beginning of an image has room where the image has
room_before : (buffer : List ℕ) (load : ℕ) (before : List NumberedBody) (a w : Answer (List NumberedBody)) → map_done (λ ls. before ++ ls) a ≡ w
    → HasRoom buffer (map_done (image_of load) w) → length (lines_bytes load before) + 4 ≤ length buffer
room_before buffer load before (done ls) w e r =
    let h : Room buffer 0 (image_of load (before ++ ls)) = subst (λ (x : Answer (List NumberedBody)). HasRoom buffer (map_done (image_of load) x)) (sym e) r in
    omega (arith, h.room, image_length load (before ++ ls), end_append load before ls, end_above (end_address load before) ls, lines_length load before)
room_before buffer load before (refused n) w e r =
    absurd (subst (λ (x : Answer (List NumberedBody)). HasRoom buffer (map_done (image_of load) x)) (sym e) r)

module _ (words : Lexicon) (load : ℕ) (text buffer : List ℕ) where
  room_reached : {at k least address : ℕ} → HasRoom buffer (text_image false words load text) → (g : Reached false words load text at k least address) → length (lines_bytes load g.before) + 4 ≤ length buffer
  unfolding text_image
  room_reached {at} {k} {least} {address} r g =
      room_before buffer load g.before (crunch_lines false words (suc k) least address (text_lines AfterCr (drop at text))) (crunch_lines false words 1 0 load (text_lines AfterCr text)) g.gives r

  pub room_load : HasRoom buffer (text_image false words load text) → Fits w16 load → Room buffer 0 (two_bytes load)
  unfolding reached_start
  room_load r h = record { room = omega (arith, room_reached r (reached_start false words load text (omega (arith, h.fits)))) }

  pub written_start : {from : ℕ} {out : List ℕ} → Put buffer 0 (two_bytes load) from out → HasRoom buffer (text_image false words load text) → Fits w16 load → Written words load text out from 0 out from
  unfolding reached_start lines_bytes
  written_start {from} {out} p r h =
      record {
        k = 0;
        least = 0;
        address = load;
        reached = reached_start false words load text (omega (arith, h.fits));
        room = room_alike buffer out (put_long p) (text_image false words load text) r;
        begins = omega (arith, p.ends);
        put = put_none out from;
      }

module _ {words : Lexicon} {load : ℕ} {text buffer : List ℕ} {from at : ℕ} {out : List ℕ} {to : ℕ} (w : Written words load text buffer from at out to) where
  stored_long : to ≡ 2 + length (lines_bytes load w.reached.before)
  stored_long = omega (arith, w.put.ends, w.begins)

  -- the address of the next line is known from the place where it goes
  address_is : (2 ≤ load + to) × (load + to - 2 ≡ w.address) × (w.address ≤ 0xFFFF)
  address_is = omega (arith, stored_long, lines_length load w.reached.before, w.reached.stands, w.reached.high)

  pub written_low : 2 ≤ load + to
  written_low = address_is.0

  pub written_high : load + to - 2 ≤ 0xFFFF
  written_high = omega (arith, address_is)

  pub written_long : length out ≡ length buffer
  written_long = put_long w.put

  pub written_room_end : Room out to (two_bytes 0)
  written_room_end = record { room = omega (arith, room_reached words load text buffer w.room w.reached, stored_long, written_long) }

  pub written_within : to ≤ length out
  written_within = omega (arith, written_room_end.room)

  module _ {r : TextLine} (is : r ≡ line_from AfterCr text at) (h : at < length text) where
    -- a text that has an image is refused at no line
    found : (a : Answer ℕ) → address_behind false words (suc w.k) w.least w.address (line_at text at r) ≡ a → (next : ℕ) × Taken false words (suc w.k) w.least w.address (line_at text at r) next
    unfolding text_image
    found (done next) e = (next, taken e)
    found (refused n) e =
        absurd (subst (λ (x : Answer (List NumberedBody)). HasRoom buffer (map_done (image_of load) x)) (sym (reached_refused w.reached h is e)) w.room)

    here : (next : ℕ) × Taken false words (suc w.k) w.least w.address (line_at text at r) next
    here = found (address_behind false words (suc w.k) w.least w.address (line_at text at r)) refl

    next_reached : Reached false words load text r.next (w.k + 1) (least_behind w.least here.1.new) here.0
    next_reached = reached_turn w.reached h is here.1

    -- what the line gives
    new_is : given (text_line words 0 (line_behind text r)) ≡ here.1.new
    new_is = ap given (line_behind_lem (text_line words 0) (text_blank words 0) AfterCr text at is) ∙ given_is words (line_at text at r) (suc w.k) (under_plain false words (suc w.k) w.least (line_at text at r) here.1.line_is)

    bytes_is : lines_bytes (load + to - 2) (given (text_line words 0 (line_behind text r))) ≡ lines_bytes (end_address load w.reached.before) here.1.new
    bytes_is = ap (lines_bytes (load + to - 2)) new_is ∙ ap (λ (a : ℕ). lines_bytes a here.1.new) (address_is.1 ∙ w.reached.stands)

    all_is : lines_bytes load w.reached.before ++ lines_bytes (end_address load w.reached.before) here.1.new ≡ lines_bytes load next_reached.before
    unfolding next_reached
    all_is = sym (lines_append load w.reached.before here.1.new) ∙ ap (lines_bytes load) (sym (turn_before w.reached h is here.1))

    line_room : Room out to (lines_bytes (load + to - 2) (given (text_line words 0 (line_behind text r))))
    line_room =
        let new = lines_bytes (end_address load w.reached.before) here.1.new in
        let e = ap length all_is in
        rw bytes_is
        (record {
          room = omega (arith, room_reached words load text buffer w.room next_reached, e, length-append (lines_bytes load w.reached.before) new, stored_long, written_long);
        })

    pub written_room : Room (mid_of to (length out - to) out) 0 (lines_bytes (load + to - 2) (given (text_line words 0 (line_behind text r))))
    written_room = part_room line_room

    module _ {n : ℕ} {part : List ℕ} (p : Put (mid_of to (length out - to) out) 0 (lines_bytes (load + to - 2) (given (text_line words 0 (line_behind text r)))) n part) where
      pub written_fits : {whole : List ℕ} → Put whole 0 (two_bytes load) from buffer → Fits w64 (length whole) → Fits w64 (to + n)
      written_fits first f = record { fits = omega (arith, f.fits, line_room.room, (part_put {buffer = out} {at = to} p).ends, written_long, put_long first) }

      pub written_turn : Written words load text buffer from r.next (put_mid to (length out - to) out part) (to + n)
      written_turn =
          record {
            k = w.k + 1;
            least = least_behind w.least here.1.new;
            address = here.0;
            reached = next_reached;
            room = w.room;
            begins = w.begins;
            put =
                put_as all_is
                (put_both (lines_bytes load w.reached.before) (lines_bytes (end_address load w.reached.before) here.1.new) w.put (put_as bytes_is (part_put {buffer = out} {at = to} p)));
          }

  pub written_same : {n : ℕ} {after whole : List ℕ} → Put out to (two_bytes 0) n after → Put whole 0 (two_bytes load) from buffer → length after ≡ length whole
  written_same last first = put_long last ∙ written_long ∙ put_long first

  pub written_end : {n : ℕ} {after whole : List ℕ} → Put out to (two_bytes 0) n after → length text ≤ at → Put whole 0 (two_bytes load) from buffer → HasRoom whole (text_image false words load text)
      → ◌≡◌ {A = Lent} (record { answer = done n; buffer = after }) (into_buffer (text_image false words load text) whole)
  unfolding text_image image_of
  written_end {n} {after} {whole} last h first room =
      let lines = lines_bytes load w.reached.before in
      into_done whole (text_image false words load text)
      (ap (map_done (image_of load)) (reached_end w.reached h))
      room
      (put_both (two_bytes load ++ lines) (two_bytes 0) (put_both (two_bytes load) lines first w.put) last)
