-- Laws of an image's bytes, for whoever writes them line by line from the front: a line more, the address that follows, the length.
-- Assumes nothing.
use Prim.Native.Nat.{ℕ, ◌+◌, ◌≤◌}
use mathlib.Core.Path.{◌≡◌, refl, sym, ap, ◌∙◌}
use mathlib.Core.List.{List, [], ◌∷◌, ◌++◌, append_assoc, append-nil}
use native.Mathlib.Omega.{arith}
use lib.ListN.{length, length-append}
use Rattle.image_readers.specs.NumberedBody.{NumberedBody}
use Rattle.image_layout.specs.Layout.{linked_bytes, link_of, line_bytes, lines_bytes, image_of, end_address, Fits}

pub line_length_lem : (link number : ℕ) (body : List ℕ) → length (linked_bytes link number body) ≡ 5 + length body
unfolding linked_bytes
line_length_lem link number body = simp length-append (omega arith)

-- the address behind the lines is as far from the first line's as the lines are long
pub lines_length : (a : ℕ) (ls : List NumberedBody) → a + length (lines_bytes a ls) ≡ end_address a ls
unfolding lines_bytes end_address
lines_length a [] = omega arith
lines_length a (l ∷ ls) =
    let b = link_of a l.body in
    omega (arith, lines_length b ls, length-append (line_bytes a l.number l.body) (lines_bytes b ls), line_length_lem b l.number l.body)

pub image_length : (load : ℕ) (ls : List NumberedBody) → load + length (image_of load ls) ≡ end_address load ls + 4
unfolding image_of
image_length load ls = omega (arith, lines_length load ls, length-append (lines_bytes load ls) (0 ∷ 0 ∷ []))

-- links rise, so a line's link is allowed if the last one is
pub end_above : (a : ℕ) (ls : List NumberedBody) → a ≤ end_address a ls
end_above a ls = omega (arith, lines_length a ls)

pub first_fits : (a : ℕ) (l : NumberedBody) (ls : List NumberedBody) → Fits a (l ∷ ls) → link_of a l.body ≤ 0xFFFF
unfolding end_address
first_fits a l ls f = omega (arith, end_above (link_of a l.body) ls)

-- ---- lines behind lines

pub end_append : (a : ℕ) (ls ms : List NumberedBody) → end_address a (ls ++ ms) ≡ end_address (end_address a ls) ms
unfolding end_address
end_append a [] ms = refl
end_append a (l ∷ ls) ms = end_append (link_of a l.body) ls ms

pub lines_append : (a : ℕ) (ls ms : List NumberedBody) → lines_bytes a (ls ++ ms) ≡ lines_bytes a ls ++ lines_bytes (end_address a ls) ms
unfolding lines_bytes end_address
lines_append a [] ms = refl
lines_append a (l ∷ ls) ms =
    let b = link_of a l.body in
    ap (λ (r : List ℕ). line_bytes a l.number l.body ++ r) (lines_append b ls ms)
    ∙ sym (append_assoc (line_bytes a l.number l.body) (lines_bytes b ls) (lines_bytes (end_address b ls) ms))

-- one line more
module _ (a : ℕ) (ls : List NumberedBody) (l : NumberedBody) where
  pub end_one_more : end_address a (ls ++ l ∷ []) ≡ link_of (end_address a ls) l.body
  unfolding end_address
  end_one_more = end_append a ls (l ∷ [])

  pub lines_one_more : lines_bytes a (ls ++ l ∷ []) ≡ lines_bytes a ls ++ line_bytes (end_address a ls) l.number l.body
  unfolding lines_bytes
  lines_one_more =
      lines_append a ls (l ∷ [])
      ∙ ap (λ (r : List ℕ). lines_bytes a ls ++ r) (append-nil (line_bytes (end_address a ls) l.number l.body))
