-- A line stored at the start of a lent part of a buffer: its body first, behind its link and number.
-- Assumes nothing.
use Prim.Native.Nat.{ℕ, ◌+◌, ◌-◌, ◌≤◌}
use mathlib.Core.Path.{◌≡◌, ap, ◌∙◌}
use mathlib.Core.List.{List}
use native.Mathlib.Omega.{arith}
use lib.ListN.{length, take, drop, length-drop}
use lib.Seq.{sets, take_all, length-sets}
use borrow.Rule.Slice.PartMut.{mid_of, put_mid}
use Rattle.base_lent.specs.Stores.{Room, Put}
use Rattle.base_lent.proofs.Storing.{tail_put}
use Rattle.image_layout.specs.Layout.{link_of, line_bytes}
use Rattle.image_layout.proofs.Laying.{line_length_lem}
use Rattle.image_layout.proofs.Writing.{line_stored}
use Rattle.crunch_write.specs.FrameHelpers.{FrameRoom, Framed}

-- ---- the part of a buffer from a place on, lent

module _ {buffer : List ℕ} {at : ℕ} {bytes : List ℕ} where
  pub part_room : Room buffer at bytes → Room (mid_of at (length buffer - at) buffer) 0 bytes
  part_room r =
      let whole : take (length buffer - at) (drop at buffer) ≡ drop at buffer = take_all (length buffer - at) (drop at buffer) (omega (arith, length-drop at buffer)) in
      record { room = rw whole (omega (arith, r.room, length-drop at buffer)) }

  pub part_put : {n : ℕ} {part : List ℕ} → Put (mid_of at (length buffer - at) buffer) 0 bytes n part → Put buffer at bytes (at + n) (put_mid at (length buffer - at) buffer part)
  part_put p =
      let z : at + 0 ≡ at = omega arith in
      record { ends = omega (arith, p.ends); stored = tail_put buffer at 0 bytes p.stored ∙ ap (λ (i : ℕ). sets buffer i bytes) z }

-- ---- a line around its body

module _ (address number : ℕ) (body : List ℕ) {buffer : List ℕ} where
  pub line_room : Room buffer 0 (line_bytes address number body) → 5 + length body ≤ length buffer
  line_room r = omega (arith, r.room, line_length_lem (link_of address body) number body)

  pub body_room : Room buffer 0 (line_bytes address number body) → Room (mid_of 4 (length buffer - 4) buffer) 0 body
  body_room r = part_room {buffer = buffer} {at = 4} (record { room = omega (arith, line_room r) })

  module _ {n : ℕ} {part : List ℕ} (p : Put (mid_of 4 (length buffer - 4) buffer) 0 body n part) where
    pub frame_room : Room buffer 0 (line_bytes address number body) → address ≤ 0xFFFF → FrameRoom address n (put_mid 4 (length buffer - 4) buffer part)
    frame_room r low =
        let q = part_put {buffer = buffer} {at = 4} p in
        record { low = low; room = rw q.stored (omega (arith, line_room r, p.ends, length-sets buffer 4 body)) }

    pub framed_line : {m : ℕ} {after : List ℕ} → Framed address number n (put_mid 4 (length buffer - 4) buffer part) m after → Put buffer 0 (line_bytes address number body) m after
    framed_line f =
        let q = part_put {buffer = buffer} {at = 4} p in
        let size : n ≡ length body = omega (arith, p.ends) in
        let end : length body + 4 ≡ 0 + 4 + length body = omega arith in
        record {
          ends = omega (arith, line_length_lem (link_of address body) number body, f.ends);
          stored = f.stored ∙ rw (q.stored, size, end) (line_stored buffer 0 (link_of address body) number body);
        }
