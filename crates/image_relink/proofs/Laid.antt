-- The reason of No. 1's limits: an image that is laid out at 0x0100 or above from lines whose bodies have 1 to 250 bytes and no zero is left
-- as it is by the machine's relinking.
-- Assumes nothing.
use Prim.Native.Nat.{ℕ, zero, suc, ◌+◌, ◌-◌, ◌/◌, ◌%◌, ◌≤◌, ◌<◌}
use mathlib.Core.Path.{◌≡◌, refl, sym, ap, ◌∙◌}
use mathlib.Core.Bool.{true}
use mathlib.Core.Logic.{◌⊎◌, inl, inr}
use mathlib.Core.List.{List, [], ◌∷◌, ◌++◌, append_assoc}
use native.Mathlib.Omega.{arith}
use native.Mathlib.Nat.{eq-or-lt_of_le}
use lib.ListN.{length, get_or, length-append, get_or-append}
use lib.Seq.{get_or-append_seam}
use borrow.Author.Tests.{lt-ltb, eq-eqb, ne_eqb}
use Rattle.base_refusals.specs.Answer.{done}
use Rattle.image_bytes.specs.ImageBytes.{low_first_at, address_at}
use Rattle.image_readers.specs.NumberedBody.{NumberedBody}
use Rattle.image_readers.proofs.Finding.{sized_right}
use Rattle.base_steps.specs.Each.{Each}
use Rattle.image_layout.specs.Layout.{linked_bytes, link_of, line_bytes, lines_bytes, image_of, end_address, Fits, Laid}
use Rattle.image_layout.specs.Reads.{NoZero}
use Rattle.image_layout.proofs.Laying.{image_length, line_length_lem, end_above, first_fits}
use Rattle.image_layout.proofs.Standing.{Holds, holds_at, holds_long, Stands, stands_next}
use Rattle.image_relink.specs.declared.Zero.TheVariants.{At}
use Rattle.image_relink.specs.declared.Passed.TheVariants.{End, Kept as KeptLink}
use Rattle.image_relink.specs.Relinking.{come_round, in_memory, zero_sought, stored, relink_step, same, relink_by, relink_from, relinking}
use Rattle.image_relink.proofs.Following.{relink_from_lem}

-- a body that the machine's relinking can pass
pub record Passable (l : NumberedBody) : Type 0 where
  pub some : 1 ≤ length l.body
  pub few : length l.body ≤ 250
  pub none : NoZero l.body

no_zero_at : (body : List ℕ) → NoZero body → (j : ℕ) → j < length body → get_or body j 0 ≡ 0 → ⊥
no_zero_at [] n j h = absurd (omega arith)
no_zero_at (b ∷ body) n zero h = n.0
no_zero_at (b ∷ body) n (suc j) h = no_zero_at body n.1 j (omega arith)

-- the first 00 that is looked at, from y on, stands at z
module _ (s : List ℕ) (p z : ℕ) (small : z < 256) (flat : (i : ℕ) → i ≤ z → come_round (p + i) ≡ p + i) (there : (i : ℕ) → i ≤ z → in_memory s (p + i) ≡ true)
    (is : get_or s (p + z) 0 ≡ 0) where
  zero_found : (n y : ℕ) → y ≤ z → z < n + y → ((i : ℕ) → y ≤ i → i < z → get_or s (p + i) 0 ≡ 0 → ⊥) → zero_sought s p n y ≡ At z
  unfolding zero_sought
  zero_found zero y h l other = absurd (omega arith)
  zero_found (suc n) y h l other = go (λ m. zero_found n (y + 1) m (omega arith) (λ i a b. other i (omega arith) b)) (eq-or-lt_of_le h)
    where
      go : (y + 1 ≤ z → zero_sought s p n (y + 1) ≡ At z) → (y ≡ z) ⊎ (y < z) → zero_sought s p (suc n) y ≡ At z
      go on (inl e) = rw (e, flat z (omega arith), there z (omega arith), eq-eqb (get_or s (p + z) 0) 0 is)
      go on (inr m) =
          let next : (y + 1) % 256 ≡ y + 1 = omega arith in
          rw (flat y (omega arith), there y (omega arith), ne_eqb (get_or s (p + y) 0) 0 (other y (omega arith) m), next) (on (omega arith))

-- a line that stands at p, and at the address a
module _ {s : List ℕ} {p a : ℕ} {l : NumberedBody} {rest : List ℕ} (k : Stands s p (link_of a l.body) l rest) (m : a + 2 ≡ low_first_at s 0 + p)
    (two : 2 ≤ p) (short : length s ≤ 65538) (up : 0x0100 ≤ a) (fits : link_of a l.body ≤ 0xFFFF) (q : Passable l) where
  line_long : p + 5 + length l.body ≤ length s
  line_long =
      let b = linked_bytes (link_of a l.body) l.number l.body in
      let e : length (b ++ rest) ≡ length b + length rest = length-append b rest in
      omega (arith, line_length_lem (link_of a l.body) l.number l.body, holds_long k.holds (omega (arith, line_length_lem (link_of a l.body) l.number l.body)))

  in_image : (i : ℕ) → i ≤ 4 + length l.body → in_memory s (p + i) ≡ true
  unfolding in_memory
  in_image i h =
      let near : p + i < length s = omega (arith, line_long) in
      rw (lt-ltb (p + i) (length s) near, lt-ltb (length s) 65539 (omega arith))

  flat : (i : ℕ) → i ≤ 4 + length l.body → come_round (p + i) ≡ p + i
  flat i h = omega (arith, line_long)

  body_at : (j : ℕ) → get_or s (p + (4 + j)) 0 ≡ get_or (l.body ++ 0 ∷ rest) j 0
  unfolding linked_bytes
  body_at j =
      let e : p + (4 + j) ≡ p + suc (suc (suc (suc j))) = omega arith in
      rw e (holds_at k.holds (suc (suc (suc (suc j)))) ∙ ap (λ (b : List ℕ). get_or b j 0) (append_assoc l.body (0 ∷ []) rest))

  no_zero : (i : ℕ) → 5 ≤ i → i < 4 + length l.body → get_or s (p + i) 0 ≡ 0 → ⊥
  no_zero i h b z =
      let e : i ≡ 4 + (i - 4) = omega arith in
      let inside : i - 4 < length l.body = omega arith in
      no_zero_at l.body q.none (i - 4) inside
      (sym (get_or-append l.body (0 ∷ rest) 0 (i - 4) inside) ∙ sym (body_at (i - 4)) ∙ ap (λ (n : ℕ). get_or s (p + n) 0) (sym e) ∙ z)

  high_byte : get_or s (p + 1) 0 ≡ link_of a l.body / 256 % 256
  unfolding linked_bytes
  high_byte = holds_at k.holds 1

  link_there_lem : low_first_at s p ≡ link_of a l.body
  unfolding linked_bytes
  link_there_lem = let low : get_or s p 0 ≡ link_of a l.body % 256 = rw (let e : p ≡ p + 0 = omega arith in e) (holds_at k.holds 0) in omega (arith, high_byte)

  sought : zero_sought s p 256 5 ≡ At (4 + length l.body)
  sought =
      zero_found s p (4 + length l.body) (omega (arith, q.few)) flat in_image
      (body_at (length l.body) ∙ get_or-append_seam l.body 0 rest 0) 256 5 (omega (arith, q.some)) (omega (arith, q.few)) no_zero

  pub line_kept : relink_step s p ≡ KeptLink (p + (5 + length l.body))
  unfolding relink_step stored
  line_kept =
      let n = length l.body in
      let high : get_or s (p + 1) 0 ≡ 0 → ⊥ = λ z. omega (arith, high_byte) in
      let count : (4 + n + 1) % 256 ≡ 5 + n = omega (arith, q.few) in
      let stays : (address_at s p + (5 + n)) % 65536 ≡ low_first_at s p = omega (arith, link_there_lem) in
      let some : 5 + n ≡ 0 → ⊥ = λ z. omega arith in
      let here : come_round p ≡ p = omega (arith, line_long) in
      let begins : in_memory s p ≡ true = ap (in_memory s) (let e : p ≡ p + 0 = omega arith in e) ∙ in_image 0 (omega arith) in
      rw (flat 1 (omega arith), in_image 1 (omega arith), ne_eqb (get_or s (p + 1) 0) 0 high, sought, count, here, begins)
      (rw (flat 1 (omega arith), eq-eqb ((address_at s p + (5 + n)) % 65536) (low_first_at s p) stays, ne_eqb (5 + n) 0 some))

-- lines one behind the other, and the end
lines_kept : {s : List ℕ} → length s ≤ 65538 → (ls : List NumberedBody) (a p : ℕ) → 2 ≤ p → Holds s p (lines_bytes a ls ++ 0 ∷ 0 ∷ []) → a + 2 ≡ low_first_at s 0 + p → 0x0100 ≤ a
    → Fits a ls → Each Passable ls → relink_from s p ≡ same
unfolding lines_bytes end_address relink_step in_memory
lines_kept {s} short [] a p two h m up f q =
    let long : length s ≡ p + 2 = holds_long h (omega arith) in
    let ends : relink_step s p ≡ End =
    rw (let e : come_round (p + 1) ≡ p + 1 = omega arith in e, lt-ltb (p + 1) (length s) (omega arith), lt-ltb (length s) 65539 (omega arith), eq-eqb (get_or s (p + 1) 0) 0 (holds_at h 1)) in
    relink_from_lem s p ∙ ap (relink_by (relink_from s) p) ends
lines_kept {s} short (l ∷ ls) a p two h m up f q =
    let b = link_of a l.body in
    let k : Stands s p b l (lines_bytes b ls ++ 0 ∷ 0 ∷ []) =
    record { holds = record { there = h.there ∙ append_assoc (line_bytes a l.number l.body) (lines_bytes b ls) (0 ∷ 0 ∷ []) } } in
    let e : p + (5 + length l.body) ≡ p + 5 + length l.body = omega arith in
    relink_from_lem s p
    ∙ ap (relink_by (relink_from s) p) (line_kept k m two short up (first_fits a l ls f) q.0 ∙ ap KeptLink e)
    ∙ lines_kept short ls b (p + 5 + length l.body) (omega arith) (stands_next k) (omega arith) (omega arith) f q.1

-- "the image .. at 0x0100 or above is left byte for byte as it is by that relinking", of any lines within the limits
pub laid_kept : {load : ℕ} {ls : List NumberedBody} → Laid load ls → 0x0100 ≤ load → Each Passable ls → relinking (image_of load ls) ≡ done same
unfolding relinking image_of
laid_kept {load} {ls} laid up q =
    let s = image_of load ls in
    let short : length s ≤ 65538 = omega (arith, image_length load ls, laid.fits) in
    let first : low_first_at s 0 ≡ load = omega (arith, end_above load ls, laid.fits) in
    sym (sized_right s (done (relink_from s 2)) (omega arith) (omega (arith, image_length load ls, end_above load ls)))
    ∙ ap done (lines_kept short ls load 2 (omega arith) (record { there = refl }) (omega (arith, first)) up laid.fits q)
