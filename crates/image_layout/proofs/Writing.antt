-- Laws for whoever writes an image into a lent buffer, from the front: what is still owed before and after each line.
-- Assumes nothing.
use Prim.Native.Nat.{ℕ, suc, ◌+◌, ◌/◌, ◌%◌}
use mathlib.Core.Path.{◌≡◌, refl, sym, ap, ◌∙◌}
use mathlib.Core.List.{List, [], ◌∷◌, ◌++◌, append_assoc}
use native.Mathlib.Omega.{arith}
use lib.ListN.{length, set}
use lib.Seq.{sets}
use Rattle.image_readers.specs.NumberedBody.{NumberedBody}
use Rattle.base_lent.proofs.Storing.{sets_append, header}
use Rattle.image_layout.specs.Layout.{linked_bytes, link_of, line_bytes, lines_bytes, image_of}
use Rattle.image_layout.proofs.Laying.{line_length_lem}

-- what is left of an image to be stored from a place on: lines, the first at an address, and the end
abbrev pub owed : List ℕ → ℕ → ℕ → List NumberedBody → List ℕ
owed buffer at a ls = sets buffer at (lines_bytes a ls ++ 0 ∷ 0 ∷ [])

-- the load address is stored
pub owed_start : (buffer : List ℕ) (load : ℕ) (ls : List NumberedBody)
    → owed (set (set buffer 0 (load % 256)) 1 (load / 256 % 256)) 2 load ls ≡ sets buffer 0 (image_of load ls)
unfolding image_of
owed_start buffer load ls = refl

-- a line is stored
pub owed_line : (buffer : List ℕ) (at a : ℕ) (l : NumberedBody) (ls : List NumberedBody)
    → owed (sets buffer at (line_bytes a l.number l.body)) (at + 5 + length l.body) (link_of a l.body) ls ≡ owed buffer at a (l ∷ ls)
unfolding lines_bytes
owed_line buffer at a l ls =
    let bytes = line_bytes a l.number l.body in
    let rest : List ℕ = lines_bytes (link_of a l.body) ls ++ 0 ∷ 0 ∷ [] in
    let e : at + 5 + length l.body ≡ at + length bytes = omega (arith, line_length_lem (link_of a l.body) l.number l.body) in
    ap (λ (i : ℕ). sets (sets buffer at bytes) i rest) e
    ∙ sym (sets_append buffer at bytes rest)
    ∙ ap (sets buffer at) (sym (append_assoc bytes (lines_bytes (link_of a l.body) ls) (0 ∷ 0 ∷ [])))

-- the end is stored
pub owed_end : (buffer : List ℕ) (at a : ℕ) → set (set buffer at 0) (at + 1) 0 ≡ owed buffer at a []
unfolding lines_bytes
owed_end buffer at a = rw (let e : at + 1 ≡ suc at = omega arith in e)

-- a line whose body was stored first, then its link and number before it, and last its 00
pub line_stored : (buffer : List ℕ) (at link number : ℕ) (body : List ℕ)
    → set (set (set (set (set (sets buffer (at + 4) body) at (link % 256)) (at + 1) (link / 256 % 256)) (at + 2) (number % 256)) (at + 3) (number / 256 % 256)) (at + 4 + length body) 0
    ≡ sets buffer at (linked_bytes link number body)
unfolding linked_bytes
line_stored buffer at link number body =
    let front : List ℕ = link % 256 ∷ link / 256 % 256 ∷ number % 256 ∷ number / 256 % 256 ∷ body in
    let e : at + 4 + length body ≡ at + length front = omega arith in
    ap (λ (b : List ℕ). set b (at + 4 + length body) 0) (header buffer at (link % 256) (link / 256 % 256) (number % 256) (number / 256 % 256) body)
    ∙ ap (λ (i : ℕ). sets (sets buffer at front) i (0 ∷ [])) e
    ∙ sym (sets_append buffer at front (0 ∷ []))
