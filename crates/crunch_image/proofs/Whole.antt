-- From the check of a text to its image: what was measured, and what is then stored.
-- Assumes nothing.
use Prim.Native.Nat.{ℕ, ◌≤◌, ◌<◌}
use mathlib.Core.Path.{◌≡◌, refl, sym, ap, ◌∙◌}
use mathlib.Core.Bool.{Bool, true, false}
use mathlib.Core.List.{List}
use native.Mathlib.Omega.{arith}
use lib.ListN.{length}
use Rattle.base_refusals.specs.Answer.{Answer, done, refused, map_done, and_then, answered}
use Rattle.base_refusals.specs.declared.Refusal.{Refusal}
use Rattle.base_refusals.specs.declared.Refusal.TheVariants.{NoRoom}
use Rattle.base_lent.specs.Lent.{into_buffer, room_for, left}
use Rattle.base_lent.specs.Stores.{HasRoom}
use Rattle.base_refusals.proofs.Tight.{told}
use Rattle.base_lent.proofs.Outcomes.{has_room, into_refused, into_none}
use Rattle.word_match.specs.Sets.{with_forms}
use Rattle.word_match.specs.declared.sets.Sets.{Sets}
use Rattle.text_lines.specs.declared.LineRule.TheVariants.{AfterCr}
use Rattle.text_domain.specs.Domain.{checked_text}
use Rattle.text_lines.specs.TextLines.{text_lines}
use Rattle.guess.specs.Guess.{word_sets}
use Rattle.body_rules.specs.Lexicon.{Lexicon, lexicon}
use Rattle.image_readers.specs.NumberedBody.{NumberedBody}
use Rattle.image_layout.specs.Layout.{image_of}
use Rattle.image_layout.specs.Reads.{lines_at}
use Rattle.crunch_rules.specs.Crunched.{crunch_lines, text_lexicon, crunched_lines, crunched}
use Rattle.crunch_rules.specs.Measured.{nonblank_lines, with_text_lines, entry_from, measured_lines, line_measured}
use Rattle.crunch_rules.specs.PassesHelpers.{text_image}
use Rattle.crunch_measure.specs.MeasureHelpers.{text_placed, PassedAs, room_of, line_of}
use Rattle.crunch_image.specs.CallHelpers.{MeasuredAs, FitsIf}
use Rattle.crunch_measure.specs.declared.Pass.{Pass}
use Rattle.crunch_rules.specs.declared.Options.{Options}
use Rattle.crunch_rules.proofs.Lining.{lines_plain}
use Rattle.std.specs.Prelude.{Result, Ok, Err}

-- ---- what is measured

mapped_twice : {A B C : Type 0} (f : B → C) (g : A → B) (a : Answer A) → map_done (λ x. f (g x)) a ≡ map_done f (map_done g a)
mapped_twice f g (done x) = refl
mapped_twice f g (refused n) = refl

module _ (o : Options) (place : ℕ) (text : List ℕ) where
  -- the lines of the text, by what its bytes are
  lines_by : {c x : (Result (Unit {0}) Refusal)} → c ≡ x → answered c ≡ checked_text text
      → and_then (answered x) (λ _. crunch_lines o.profile (text_lexicon o text) 1 0 o.load (text_lines AfterCr text)) ≡ crunched_lines o text
  unfolding crunched_lines
  lines_by told is =
      ap (λ (a : Answer (Unit {0})). and_then a (λ _. crunch_lines o.profile (text_lexicon o text) 1 0 o.load (text_lines AfterCr text))) (ap answered (sym told) ∙ is)

  image_by : {a : Answer (List NumberedBody)} → a ≡ crunched_lines o text → map_done (image_of o.load) a ≡ crunched o text
  unfolding crunched
  image_by e = ap (map_done (image_of o.load)) e

  placed_by : {a : Answer (List NumberedBody)} → a ≡ crunched_lines o text → map_done (λ ls. entry_from place 1 (with_text_lines (lines_at o.load 2 ls) (nonblank_lines text))) a ≡ line_measured o place text
  unfolding line_measured measured_lines
  placed_by {a} e =
      mapped_twice (entry_from place 1) (λ ls. with_text_lines (lines_at o.load 2 ls) (nonblank_lines text)) a
      ∙ ap (λ (x : Answer (List NumberedBody)). map_done (entry_from place 1) (map_done (λ ls. with_text_lines (lines_at o.load 2 ls) (nonblank_lines text)) x)) e

  module _ {c : (Result (Unit {0}) Refusal)} where
    lines_fine : {sets : Sets} → sets ≡ with_forms o.forms (word_sets o.dialect text) → c ≡ (Ok tt) → answered c ≡ checked_text text
        → crunch_lines o.profile (lexicon sets) 1 0 o.load (text_lines AfterCr text) ≡ crunched_lines o text
    lines_fine s t e = ap (λ (x : Sets). crunch_lines o.profile (lexicon x) 1 0 o.load (text_lines AfterCr text)) s ∙ lines_by t e

    pub measured_fine : {sets : Sets} {r : Result Pass Refusal} → PassedAs o.profile (lexicon sets) o.load place text r → sets ≡ with_forms o.forms (word_sets o.dialect text)
        → c ≡ (Ok tt) → answered c ≡ checked_text text → MeasuredAs o place text r
    unfolding text_image text_placed
    measured_fine r s t e = record { sized = r.sized ∙ ap room_for (image_by (lines_fine s t e)); placed = r.placed ∙ placed_by (lines_fine s t e) }

    pub measured_outside : {x : Refusal} → c ≡ Err x → answered c ≡ checked_text text → MeasuredAs o place text (Err x)
    measured_outside t e = record { sized = ap room_for (image_by (lines_by t e)); placed = placed_by (lines_by t e) }

  -- what is told of it
  module _ {r x : Result Pass Refusal} (t : r ≡ x) (k : MeasuredAs o place text r) where
    pub room_told : answered (room_of x) ≡ room_for (crunched o text)
    room_told = told (ap room_of t) k.sized

    pub line_told : answered (line_of x) ≡ line_measured o place text
    line_told = told (ap line_of t) k.placed

-- ---- what is stored

module _ (o : Options) (text buffer : List ℕ) {c : (Result (Unit {0}) Refusal)} where
  pub whole_fine : {sets : Sets} (r : Result ℕ Refusal) {after : List ℕ} → left r after ≡ into_buffer (text_image o.profile (lexicon sets) o.load text) buffer
      → sets ≡ with_forms o.forms (word_sets o.dialect text) → c ≡ (Ok tt) → answered c ≡ checked_text text → left r after ≡ into_buffer (crunched o text) buffer
  unfolding text_image
  whole_fine r q s t e = q ∙ ap (λ (a : Answer (List ℕ)). into_buffer a buffer) (image_by o 0 text (lines_fine o 0 text s t e))

  pub whole_outside : {x : Refusal} → c ≡ Err x → answered c ≡ checked_text text → left (Err x) buffer ≡ into_buffer (crunched o text) buffer
  whole_outside t e = into_refused buffer (crunched o text) (ap room_for (image_by o 0 text (lines_by o 0 text t e)))

module _ (words : Lexicon) (load : ℕ) (text buffer : List ℕ) where
  -- the bound settles it
  pub fits_room : {r : Bool} → r ≡ true → FitsIf r (length buffer) (text_image false words load text) → HasRoom buffer (text_image false words load text)
  fits_room t f = go (text_image false words load text) (rw t at f)
    where
      go : (a : Answer (List ℕ)) → FitsIf true (length buffer) a → HasRoom buffer a
      go (done bytes) h = record { room = omega (arith, h) }
      go (refused n) h = absurd h

module _ (profile : Bool) (words : Lexicon) (load : ℕ) (text buffer : List ℕ) where
  -- so is the image, where there is one
  image_plain : {n : ℕ} → done n ≡ room_for (text_image profile words load text) → text_image false words load text ≡ text_image profile words load text
  unfolding text_image
  image_plain {n} e = go (crunch_lines profile words 1 0 load (text_lines AfterCr text)) refl e
    where
      go : (a : Answer (List NumberedBody)) → crunch_lines profile words 1 0 load (text_lines AfterCr text) ≡ a → done n ≡ room_for (map_done (image_of load) a)
          → map_done (image_of load) (crunch_lines false words 1 0 load (text_lines AfterCr text)) ≡ map_done (image_of load) (crunch_lines profile words 1 0 load (text_lines AfterCr text))
      go (done ls) p q = ap (map_done (image_of load)) (lines_plain profile words (text_lines AfterCr text) 1 0 load p ∙ sym p)
      go (refused m) p q = let z : ◌≡◌ {A = ℕ} 0 1 = cc in absurd (omega arith)

  -- the bound has settled it
  pub fits_put : (r : Result ℕ Refusal) {after : List ℕ} → left r after ≡ into_buffer (text_image false words load text) buffer → profile ≡ false
      → left r after ≡ into_buffer (text_image profile words load text) buffer
  fits_put r q f = q ∙ ap (λ (b : Bool). into_buffer (text_image b words load text) buffer) (sym f)

  -- or the length that was measured
  module _ {place : ℕ} {m : Result Pass Refusal} (k : PassedAs profile words load place text m) where
    module _ {p : Pass} (is : m ≡ Ok p) where
      needs : done p.room ≡ room_for (text_image profile words load text)
      needs = told (ap room_of is) k.sized

      pub room_short : length buffer < p.room → left (Err (NoRoom p.room)) buffer ≡ into_buffer (text_image profile words load text) buffer
      room_short h = into_none buffer (text_image profile words load text) needs h

      pub room_enough : p.room ≤ length buffer → HasRoom buffer (text_image false words load text)
      room_enough h = rw (image_plain needs) (has_room buffer (text_image profile words load text) needs h)

      pub room_put : (r : Result ℕ Refusal) {after : List ℕ} → left r after ≡ into_buffer (text_image false words load text) buffer
          → left r after ≡ into_buffer (text_image profile words load text) buffer
      room_put r q = q ∙ ap (λ (a : Answer (List ℕ)). into_buffer a buffer) (image_plain needs)

    pub room_refused : {x : Refusal} → m ≡ Err x → left (Err x) buffer ≡ into_buffer (text_image profile words load text) buffer
    room_refused is = into_refused buffer (text_image profile words load text) (told (ap room_of is) k.sized)
