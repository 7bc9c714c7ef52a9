-- A line that stands at an offset of an image, as it was laid out: both readers find it there.
-- Assumes nothing.
use Prim.Native.Nat.{ℕ, suc, ◌+◌, ◌-◌, ◌/◌, ◌%◌, ◌≤◌, ◌<◌}
use mathlib.Core.Path.{◌≡◌, refl, sym, ap, ◌∙◌}
use mathlib.Core.List.{List, [], ◌∷◌, ◌++◌, append_assoc}
use native.Mathlib.Omega.{arith}
use lib.ListN.{length, get_or, take, drop, length-append, length-drop}
use borrow.Author.Tests.{ne_eqb}
use lib.Seq.{get_or-drop, drop-drop, get_or-append_seam, take-append_seam, drop-append_seam}
use Rattle.base_refusals.specs.Answer.{done}
use Rattle.image_readers.specs.NumberedBody.{NumberedBody}
use Rattle.image_bytes.specs.ImageBytes.{low_first_at, address_at, before_zero, body_end}
use Rattle.image_readers.specs.Image.{line_at}
use Rattle.image_readers.specs.Bodies.{numbered_body}
use Rattle.image_readers.specs.Links.{link_step}
use Rattle.image_readers.specs.Terminators.{terminator_step}
use Rattle.image_readers.proofs.ByLinks.{link_end, link_line}
use Rattle.image_readers.proofs.ByTerminators.{terminator_end, terminator_line}
use Rattle.image_layout.specs.Layout.{linked_bytes}
use Rattle.image_layout.specs.Reads.{placed_line, NoZero}
use Rattle.image_layout.proofs.Laying.{line_length_lem}
use Rattle.std.specs.Prelude.{Some, None}

-- from an offset on an image holds these bytes
pub record Holds (s : List ℕ) (p : ℕ) (bytes : List ℕ) : Type 0 where
  pub there : drop p s ≡ bytes

module _ {s : List ℕ} {p : ℕ} {bytes : List ℕ} (h : Holds s p bytes) where
  pub holds_at : (n : ℕ) → get_or s (p + n) 0 ≡ get_or bytes n 0
  holds_at n = sym (get_or-drop p s n 0) ∙ ap (λ (b : List ℕ). get_or b n 0) h.there

  pub holds_long : 0 < length bytes → length s ≡ p + length bytes
  holds_long some = omega (arith, length-drop p s, ap length h.there)

pub holds_on : {s : List ℕ} {p : ℕ} (front : List ℕ) {rest : List ℕ} → Holds s p (front ++ rest) → Holds s (p + length front) rest
holds_on {s} {p} front {rest} h =
    record { there = sym (drop-drop (length front) p s) ∙ ap (drop (length front)) h.there ∙ drop-append_seam front rest }

-- an image of a right length, at its end marker
module _ {s : List ℕ} {p : ℕ} (long : length s ≤ 1048576) (h : Holds s p (0 ∷ 0 ∷ [])) where
  pub end_by_links : link_step s p ≡ done None
  end_by_links = let n : length s ≡ p + 2 = holds_long h (omega arith) in sym (link_end s p long (omega arith) (omega arith) (holds_at h 1))

  pub end_by_terminators : terminator_step s p ≡ done None
  end_by_terminators =
      let n : length s ≡ p + 2 = holds_long h (omega arith) in sym (terminator_end s p long (omega arith) (omega arith) (omega arith) (holds_at h 1))

-- no byte before the 00 behind a body without one
pub before_zero_lem : (body rest : List ℕ) → NoZero body → before_zero (body ++ 0 ∷ rest) ≡ length body
unfolding before_zero
before_zero_lem [] rest none = refl
before_zero_lem (b ∷ body) rest none = rw (ne_eqb b 0 none.0, before_zero) (ap suc (before_zero_lem body rest none.1))

-- at an offset a line stands, and then a rest
pub record Stands (s : List ℕ) (p link : ℕ) (l : NumberedBody) (rest : List ℕ) : Type 0 where
  pub holds : Holds s p (linked_bytes link l.number l.body ++ rest)

module _ {s : List ℕ} {p link : ℕ} {l : NumberedBody} {rest : List ℕ} (k : Stands s p link l rest) where
  pub byte : (n : ℕ) → get_or s (p + n) 0 ≡ get_or (linked_bytes link l.number l.body ++ rest) n 0
  byte n = holds_at k.holds n

  pub stands_next : Holds s (p + 5 + length l.body) rest
  stands_next =
      let e : p + 5 + length l.body ≡ p + length (linked_bytes link l.number l.body) = omega (arith, line_length_lem link l.number l.body) in
      rw e (holds_on (linked_bytes link l.number l.body) k.holds)

  pub body_there : drop (p + 4) s ≡ l.body ++ 0 ∷ rest
  unfolding linked_bytes
  body_there = sym (drop-drop 4 p s) ∙ ap (drop 4) k.holds.there ∙ append_assoc l.body (0 ∷ []) rest

  pub long_as : length s ≡ p + 5 + length l.body + length rest
  long_as = omega (arith, length-drop (p + 4) s, ap length body_there, length-append l.body (0 ∷ rest))

  high_byte : get_or s (p + 1) 0 ≡ link / 256 % 256
  unfolding linked_bytes
  high_byte = byte 1

  pub link_there_lem : link ≤ 0xFFFF → low_first_at s p ≡ link
  unfolding linked_bytes
  link_there_lem fits = let low : get_or s p 0 ≡ link % 256 = rw (let e : p ≡ p + 0 = omega arith in e) (byte 0) in omega (arith, high_byte)

  pub number_there : l.number ≤ 65535 → low_first_at s (p + 2) ≡ l.number
  unfolding linked_bytes
  number_there fits =
      let low : get_or s (p + 2) 0 ≡ l.number % 256 = byte 2 in
      let high : get_or s (p + 2 + 1) 0 ≡ l.number / 256 % 256 = rw (let e : p + 2 + 1 ≡ p + 3 = omega arith in e) (byte 3) in
      omega arith

  pub zero_there : get_or s (p + 4 + length l.body) 0 ≡ 0
  zero_there =
      sym (get_or-drop (p + 4) s (length l.body) 0)
      ∙ ap (λ (b : List ℕ). get_or b (length l.body) 0) body_there
      ∙ get_or-append_seam l.body 0 rest 0

  pub body_read : (a : ℕ) → numbered_body s (placed_line a link p l) ≡ l
  body_read a =
      let e : p + 4 + length l.body - (p + 4) ≡ length l.body = omega arith in
      let b : take (p + 4 + length l.body - (p + 4)) (drop (p + 4) s) ≡ l.body = rw (e, body_there) (take-append_seam l.body (0 ∷ rest)) in
      ap (λ (x : List ℕ). record { number = l.number; body = x }) b

  -- by links, where the link's high byte is 0
  pub stands_end : length s ≤ 1048576 → link < 0x0100 → link_step s p ≡ done None
  stands_end long low =
      let z : get_or s (p + 1) 0 ≡ 0 = omega (arith, high_byte) in
      sym (link_end s p long (omega (arith, long_as)) (omega (arith, long_as)) z)

  module _ (long : length s ≤ 1048576) (up : 0x0100 ≤ link) (fits : link ≤ 0xFFFF) (number : l.number ≤ 65535) {a : ℕ} (here : a ≡ address_at s p) where
    at_place : {to next : ℕ} → to ≡ p + 4 + length l.body → next ≡ p + 5 + length l.body → line_at s p to next ≡ placed_line a link p l
    at_place t n = rw (here, link_there_lem fits, number_there number, t, n)

    no_end : get_or s (p + 1) 0 ≡ 0 → ⊥
    no_end z = omega (arith, high_byte)

    -- by links, where the link leads behind the Some
    pub found_by_links : link + 2 ≡ low_first_at s 0 + (p + 5 + length l.body) → link_step s p ≡ done (Some (placed_line a link p l))
    found_by_links leads =
        let t = p + 5 + length l.body in
        let z : get_or s (t - 1) 0 ≡ 0 = rw (let e : t - 1 ≡ p + 4 + length l.body = omega arith in e) zero_there in
        sym (link_line s p long (omega (arith, long_as)) (omega (arith, long_as)) no_end (omega arith) (omega (arith, long_as)) z (omega (arith, link_there_lem fits)) (sym (at_place (omega arith) refl)))

    -- by terminators, where no byte of the body is 00
    pub found_by_terminators : NoZero l.body → terminator_step s p ≡ done (Some (placed_line a link p l))
    found_by_terminators none =
        let e : body_end s p ≡ p + 4 + length l.body = ap (λ (b : List ℕ). p + 4 + before_zero b) body_there ∙ ap (λ (n : ℕ). p + 4 + n) (before_zero_lem l.body rest none) in
        sym (terminator_line s p long (omega (arith, long_as)) (omega (arith, long_as)) (omega (arith, long_as)) no_end (omega (arith, long_as)) (sym (at_place e (omega (arith, long_as, e)))))
