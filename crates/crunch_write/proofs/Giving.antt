-- The bytes that a text line gives, stored: none, or its one line.
-- Assumes nothing.
use Prim.Native.Nat.{ℕ, ◌-◌, ◌≤◌}
use mathlib.Core.Path.{◌≡◌, sym, ap, ◌∙◌}
use mathlib.Core.Logic.{◌⊎◌, inl, inr}
use mathlib.Core.List.{List, [], append-nil}
use native.Mathlib.Omega.{arith}
use lib.ListN.{length, take, drop}
use borrow.Rule.Slice.PartMut.{mid_of, put_mid}
use Rattle.base_refusals.specs.Answer.{Answer}
use Rattle.base_lent.specs.Stores.{Room, Put}
use Rattle.base_lent.proofs.Storing.{room_as, put_as, put_none}
use Rattle.text_numbers.specs.declared.Numbering.{Numbering}
use Rattle.text_numbers.specs.declared.Numbering.TheVariants.{Blank, Missing, OutOfRange, Numbered}
use Rattle.text_numbers.specs.NumberHelpers.{numbering, told}
use Rattle.body_rules.specs.Lexicon.{Lexicon}
use Rattle.body.specs.Body.{crunched_body}
use Rattle.image_readers.specs.NumberedBody.{NumberedBody}
use Rattle.image_layout.specs.Layout.{lines_bytes, line_bytes}
use Rattle.crunch_rules.specs.Crunched.{lines_read, text_line}
use Rattle.crunch_rules.specs.PassesHelpers.{given}
use Rattle.crunch_write.specs.FrameHelpers.{FrameRoom, Framed}
use Rattle.crunch_write.proofs.Laying.{line_room, body_room, frame_room, framed_line}
use Rattle.crunch_rules.proofs.Lining.{read_as}

none_put : (words : Lexicon) (address : ℕ) (line : List ℕ) {buffer : List ℕ} → lines_bytes address [] ≡ lines_bytes address (given (text_line words 0 line))
    → Put buffer 0 (lines_bytes address (given (text_line words 0 line))) 0 buffer
unfolding lines_bytes
none_put words address line {buffer} e = put_as e (put_none buffer 0)

module _ (words : Lexicon) (address : ℕ) (line : List ℕ) {m : Numbering} where
  by_given : {x : Numbering} → m ≡ x → m ≡ numbering line → lines_bytes address (given (lines_read words 0 (told line x))) ≡ lines_bytes address (given (text_line words 0 line))
  by_given t e = ap (λ (a : Answer (List NumberedBody)). lines_bytes address (given a)) (read_as words 0 line t e)

  -- none
  module _ {buffer : List ℕ} where
    pub none_given : (m ≡ Blank) ⊎ ((m ≡ Missing) ⊎ ((v : ℕ) × (m ≡ OutOfRange v))) → m ≡ numbering line
        → Put buffer 0 (lines_bytes address (given (text_line words 0 line))) 0 buffer
    none_given (inl t) e = none_put words address line (by_given t e)
    none_given (inr (inl t)) e = none_put words address line (by_given t e)
    none_given (inr (inr (v, t))) e = none_put words address line (by_given t e)

  -- or the one line
  module _ {number from to : ℕ} where
    gives_line : m ≡ Numbered number from to → m ≡ numbering line
        → line_bytes address number (crunched_body words (take (to - from) (drop from line))) ≡ lines_bytes address (given (text_line words 0 line))
    unfolding lines_bytes
    gives_line t e = sym (append-nil (line_bytes address number (crunched_body words (take (to - from) (drop from line))))) ∙ by_given t e

    module _ {buffer : List ℕ} where
      pub four_room : m ≡ Numbered number from to → m ≡ numbering line → Room buffer 0 (lines_bytes address (given (text_line words 0 line))) → 4 ≤ length buffer
      four_room t e r = omega (arith, line_room address number (crunched_body words (take (to - from) (drop from line))) (room_as (gives_line t e) r))

      pub given_room : m ≡ Numbered number from to → m ≡ numbering line → Room buffer 0 (lines_bytes address (given (text_line words 0 line)))
          → Room (mid_of 4 (length buffer - 4) buffer) 0 (crunched_body words (take (to - from) (drop from line)))
      given_room t e r = body_room address number _ (room_as (gives_line t e) r)

      module _ {n : ℕ} {part : List ℕ} (p : Put (mid_of 4 (length buffer - 4) buffer) 0 (crunched_body words (take (to - from) (drop from line))) n part) where
        pub given_frame : m ≡ Numbered number from to → m ≡ numbering line → Room buffer 0 (lines_bytes address (given (text_line words 0 line))) → address ≤ 0xFFFF
            → FrameRoom address n (put_mid 4 (length buffer - 4) buffer part)
        given_frame t e r low = frame_room address number _ p (room_as (gives_line t e) r) low

        pub given_put : {i : ℕ} {after : List ℕ} → Framed address number n (put_mid 4 (length buffer - 4) buffer part) i after → m ≡ Numbered number from to → m ≡ numbering line
            → Put buffer 0 (lines_bytes address (given (text_line words 0 line))) i after
        given_put f t e = put_as (gives_line t e) (framed_line address number _ p f)
