-- The index of every image reads back as it was: all its numbers fit their fields.
-- Assumes nothing.
use Prim.Native.Nat.{ℕ, ◌+◌, ◌≤◌, ◌<◌}
use mathlib.Core.Path.{◌≡◌, refl, sym, ap, ◌∙◌, subst}
use mathlib.Core.Bool.{Bool, true, false, cond, ◌||◌}
use mathlib.Core.List.{List, [], ◌∷◌, ◌++◌, map}
use native.Mathlib.Omega.{arith}
use lib.Dec.{ltb}
use lib.ListN.{length, get_or, length-map}
use borrow.Author.Tests.{ltb-false}
use Rattle.base_refusals.specs.Numbers.{too_many_lines, target_too_high}
use Rattle.base_refusals.specs.Answer.{Answer, done, refused, and_then}
use Rattle.image_readers.specs.declared.Line.{Line}
use Rattle.image_readers.specs.Bodies.{body_of}
use Rattle.image_readers.specs.Chain.{Chain, here, on, Leads}
use Rattle.image_readers.specs.Lines.{lines_of}
use Rattle.image_readers.specs.Links.{link_step}
use Rattle.image_readers.proofs.ByLinks.{link_sound}
use Rattle.image_readers.proofs.Reading.{lines_lead}
use Rattle.image_jumps.specs.Jumps.{jumps_of}
use Rattle.base_bits.specs.Bits.{packed}
use Rattle.image_readers.specs.IndexLines.{index_line}
use Rattle.image_index.specs.Index.{IndexJump, LineIndex, jump_to, jumps_in, any_too_high, index_lines, indexed, index_fields}
use Rattle.image_index.proofs.Fitting.{offset_fits, number_fits}
use Rattle.image_index_entries.specs.Entries.{lines_held, jumps_held, first_line, look_up}
use Rattle.image_index_entries.proofs.Back.{Fit, Fits, line_two, jump_two, lines_back, jumps_back, look_up_searches}

-- ---- lines

lines_fit : (s : List ℕ) → ((i : ℕ) → get_or s i 0 < 256) → {p q : ℕ} {ls : List Line} → Chain (link_step s) p ls q → Fit 16 (map line_two (map index_line ls))
unfolding Fit
lines_fit s bytes here = tt
lines_fit s bytes (on {p = p} e k) = (number_fits s bytes p e, offset_fits s bytes p e, lines_fit s bytes k)

-- ---- jumps

high_parts : (j : IndexJump) (js : List IndexJump) → any_too_high (j ∷ js) ≡ false → (j.target < 65536) × (any_too_high js ≡ false)
unfolding any_too_high
high_parts j js e = go (ltb 65535 j.target) refl e
  where
    go : (b : Bool) → ltb 65535 j.target ≡ b → (b || any_too_high js) ≡ false → (j.target < 65536) × (any_too_high js ≡ false)
    go true f g = let z : ◌≡◌ {A = ℕ} 1 0 = ap (λ (b : Bool). cond b 1 0) g in absurd (omega arith)
    go false f g = let h = ltb-false 65535 j.target f in (omega arith, g)

body_fits : (place : ℕ) (ts : List ℕ) (js : List IndexJump) → place < 8192 → any_too_high (map (jump_to place) ts ++ js) ≡ false
    → (any_too_high js ≡ false → Fit 13 (map jump_two js)) → Fit 13 (map jump_two (map (jump_to place) ts ++ js))
unfolding Fit
body_fits place [] js h e f = f e
body_fits place (t ∷ ts) js h e f =
    let parts = high_parts (jump_to place t) (map (jump_to place) ts ++ js) e in
    (h, parts.0, body_fits place ts js h parts.1 f)

jumps_fit : (s : List ℕ) (v : ℕ) (ls : List Line) → v + length ls ≤ 8191 → any_too_high (jumps_in s v ls) ≡ false → Fit 13 (map jump_two (jumps_in s v ls))
unfolding jumps_in Fit
jumps_fit s v [] h e = tt
jumps_fit s v (l ∷ ls) h e = body_fits (v + 1) (jumps_of (body_of s l)) (jumps_in s (v + 1) ls) (omega arith) e (jumps_fit s (v + 1) ls (omega arith))

-- ---- the image

module _ (s : List ℕ) (bytes : (i : ℕ) → get_or s i 0 < 256) {y : LineIndex} (e : indexed s ≡ done y) where
  index_fits : Fits y
  unfolding indexed
  index_fits = go (lines_of link_step s) refl (lines_lead link_sound s 2) e
    where
      small : (ls : List Line) (m h : Bool) → ltb 8191 (length ls) ≡ m → any_too_high (jumps_in s 0 ls) ≡ h → Leads link_step s 2 (done ls)
          → cond m (refused too_many_lines) (cond h (refused target_too_high) (done (record { lines = map index_line ls; jumps = jumps_in s 0 ls }))) ≡ done y → Fits y
      small ls true h f g k q = let z : ◌≡◌ {A = ℕ} 0 1 = cc in absurd (omega arith)
      small ls false true f g k q = let z : ◌≡◌ {A = ℕ} 0 1 = cc in absurd (omega arith)
      small ls false false f g k q =
          let few = ltb-false 8191 (length ls) f in
          let same : ◌≡◌ {A = LineIndex} (record { lines = map index_line ls; jumps = jumps_in s 0 ls }) y = cc in
          subst Fits same
          (record { count = omega (arith, length-map ls index_line); lines = lines_fit s bytes k.1; jumps = jumps_fit s 0 ls (omega arith) g })

      go : (a : Answer (List Line)) → lines_of link_step s ≡ a → Leads link_step s 2 (lines_of link_step s) → and_then (lines_of link_step s) (index_lines s) ≡ done y → Fits y
      go (done ls) f k q =
          small ls (ltb 8191 (length ls)) (any_too_high (jumps_in s 0 ls)) refl refl (subst (Leads link_step s 2) f k)
          (ap (λ (a : Answer (List Line)). and_then a (index_lines s)) (sym f) ∙ q)
      go (refused m) f k q =
          let w : refused m ≡ done y = ap (λ (a : Answer (List Line)). and_then a (index_lines s)) (sym f) ∙ q in
          let z : ◌≡◌ {A = ℕ} 0 1 = cc in
          absurd (omega arith)

  pub image_lines_back : lines_held (packed (index_fields y)) ≡ y.lines
  image_lines_back = lines_back y index_fits

  pub image_jumps_back : jumps_held (packed (index_fields y)) ≡ y.jumps
  image_jumps_back = jumps_back y index_fits

  pub image_look_up : (number : ℕ) → look_up number (packed (index_fields y)) ≡ first_line number 0 y.lines
  image_look_up = look_up_searches y index_fits
