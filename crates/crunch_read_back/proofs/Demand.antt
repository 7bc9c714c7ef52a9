-- The third demand, of texts: "An image crunched at 0x0100 or above, read by its links, gives back its address and every nonblank line's
-- number and crunched body, zeros included", and by terminators where no body holds a zero; and what is read of a damaged image (document
-- 02, No. 14). The lines of a text are laid out for any lexicon, so no dialect is looked at.
-- Assumes nothing.
use Prim.Native.Nat.{ℕ, suc, ◌+◌, ◌≤◌}
use mathlib.Core.Path.{◌≡◌, refl, sym, ap, ◌∙◌, subst}
use mathlib.Core.Bool.{Bool}
use mathlib.Core.List.{List, [], ◌∷◌, ◌++◌}
use native.Mathlib.Omega.{arith}
use lib.ListN.{length, take, drop}
use lib.Seq.{sets, sets-eq, take_at}
use borrow.Author.Tests.{le-leb}
use Rattle.base_refusals.specs.Answer.{Answer, done, refused, map_done, and_then}
use Rattle.base_lent.specs.Lent.{into_buffer}
use Rattle.text_lines.specs.declared.LineRule.TheVariants.{AfterCr}
use Rattle.text_domain.specs.Domain.{checked_text}
use Rattle.text_numbers.specs.Numbering.{ReadLine, blank_line, missing_number, number_too_high, numbered_text, read_line}
use Rattle.text_lines.specs.TextLines.{text_lines}
use Rattle.text_numbers.proofs.Numbers.{number_fits}
use Rattle.body.specs.Body.{crunched_body}
use Rattle.body_rules.specs.Lexicon.{Lexicon}
use Rattle.image_readers.specs.NumberedBody.{NumberedBody}
use Rattle.image_readers.specs.Lines.{Reader, overview}
use Rattle.image_readers.specs.declared.Overview.{Overview}
use Rattle.image_readers.specs.Bodies.{bodies_of}
use Rattle.image_readers.specs.Links.{link_step}
use Rattle.image_readers.specs.Terminators.{terminator_step}
use Rattle.base_steps.specs.Each.{Each}
use Rattle.base_steps.proofs.Each.{each_append}
use Rattle.image_layout.specs.Layout.{end_address, image_of, Laid}
use Rattle.image_layout.specs.Reads.{ReadAs, NoZeros, least_load, lines_found}
use Rattle.image_layout.specs.Changed.{ChangedLines, ChangedLinks, lines_now}
use Rattle.image_layout.proofs.Laying.{end_append}
use Rattle.image_layout.proofs.ReadBack.{read_back_by_links, read_back_by_terminators, all_or_none, all_found}
use Rattle.image_layout.proofs.Damage.{changed_outside, changed_places, damage_by_links, damage_by_terminators, links_changed, same_image, same_program}
use Rattle.crunch_profile.specs.Profile.{least_behind}
use Rattle.crunch_rules.specs.Crunched.{lines_read, text_line, crunch_lines, text_lexicon, crunched_lines, crunched}
use Rattle.crunch_rules.specs.PassesHelpers.{address_behind}
use Rattle.crunch_rules.specs.declared.Options.{Options}
use Rattle.crunch_rules.proofs.Lining.{Taken, taken, under_plain, cons_taken, cons_refused}
use Rattle.crunch_read_back.specs.ReadsBack.{ReadsBack, ReadsDamaged}
use Rattle.crunch_read_back.specs.ReadingBack.{LentRead, reading_back, left_read}
use Rattle.crunch_read_back.specs.declared.ReadBack.{ReadBack}
use Rattle.base_refusals.specs.declared.Refusal.{Refusal}
use Rattle.std.specs.Prelude.{Result, Ok}
use Rattle.crunch_read_back.proofs.Tight.{read_back_tight}

-- ---- the lines of a text are laid out

abbrev FitEach : List NumberedBody → Type 0
FitEach = Each (λ l. l.number ≤ 65535)

new_fit : (words : Lexicon) (k : ℕ) (line : List ℕ) (new : List NumberedBody) → text_line words k line ≡ done new → FitEach new
unfolding text_line
new_fit words k line new q = go (read_line line) refl q
  where
    go : (r : ReadLine) → read_line line ≡ r → lines_read words k r ≡ done new → FitEach new
    go blank_line e p = let s : [] ≡ new = cc in subst FitEach s tt
    go missing_number e p = let z : ◌≡◌ {A = ℕ} 0 1 = cc in absurd (omega arith)
    go (number_too_high v) e p = let z : ◌≡◌ {A = ℕ} 0 1 = cc in absurd (omega arith)
    go (numbered_text n t) e p =
        let s : record { number = n; body = crunched_body words t } ∷ [] ≡ new = cc in subst FitEach s (number_fits line e, tt)

-- what is put in front of an answer's lines
pub record Behind (new ls : List NumberedBody) (a : Answer (List NumberedBody)) : Type 0 where
  pub rest : List NumberedBody
  pub answer : a ≡ done rest
  pub whole : ls ≡ new ++ rest

pub behind : (new ls : List NumberedBody) (a : Answer (List NumberedBody)) → map_done (λ r. new ++ r) a ≡ done ls → Behind new ls a
behind new ls (done rest) e = let s : ls ≡ new ++ rest = cc in record { rest = rest; answer = refl; whole = s }
behind new ls (refused n) e = let z : ◌≡◌ {A = ℕ} 0 1 = cc in absurd (omega arith)

-- for any words
pub lines_laid : (profile : Bool) (words : Lexicon) (lines : List (List ℕ)) (k least address : ℕ) (ls : List NumberedBody) → address ≤ 0xFFFF
    → crunch_lines profile words k least address lines ≡ done ls → Laid address ls
unfolding crunch_lines end_address
lines_laid profile words [] k least address ls h e =
    let s : [] ≡ ls = cc in subst (Laid address) s (record { fits = h; numbers = tt })
lines_laid profile words (line ∷ lines) k least address ls h e = go (address_behind profile words k least address line) refl (lines_laid profile words lines (suc k))
  where
    go : (a : Answer ℕ) → address_behind profile words k least address line ≡ a
        → ((more next : ℕ) (rest : List NumberedBody) → next ≤ 0xFFFF → crunch_lines profile words (suc k) more next lines ≡ done rest → Laid next rest) → Laid address ls
    go (done next) p more =
        let t : Taken profile words k least address line next = taken p in
        let b = behind t.new ls (crunch_lines profile words (suc k) (least_behind least t.new) next lines) (sym (cons_taken profile words k least address line lines t) ∙ e) in
        let r : Laid next b.rest = more (least_behind least t.new) next b.rest t.high b.answer in
        subst (Laid address) (sym b.whole)
        (record {
          fits = rw (end_append address t.new b.rest, sym t.next_is) r.fits;
          numbers = each_append (λ (l : NumberedBody). l.number ≤ 65535) t.new b.rest (new_fit words k line t.new (under_plain profile words k least line t.line_is)) r.numbers;
        })
    go (refused n) p more = let c : refused n ≡ done ls = sym (cons_refused profile words k least address line lines p) ∙ e in let z : ◌≡◌ {A = ℕ} 0 1 = cc in absurd (omega arith)

module _ (o : Options) (text : List ℕ) {ls : List NumberedBody} (low : o.load ≤ 0xFFFF) (e : crunched_lines o text ≡ done ls) where
  pub crunched_laid : Laid o.load ls
  unfolding crunched_lines
  crunched_laid = go (checked_text text) e
    where
      go : (a : Answer (Unit {0})) → and_then a (λ _. crunch_lines o.profile (text_lexicon o text) 1 0 o.load (text_lines AfterCr text)) ≡ done ls → Laid o.load ls
      go (done u) p = lines_laid o.profile (text_lexicon o text) (text_lines AfterCr text) 1 0 o.load ls low p
      go (refused n) p = let z : ◌≡◌ {A = ℕ} 0 1 = cc in absurd (omega arith)

  crunched_image : crunched o text ≡ done (image_of o.load ls)
  unfolding crunched
  crunched_image = ap (map_done (image_of o.load)) e

  -- ---- what a text's image reads back as; the third demand's 0x0100 is above the least load address

  module _ (up : least_load ≤ o.load) where
    -- by links, whatever the bodies hold
    pub read_back : ReadsBack link_step o text ls
    read_back = record { image = crunched_image; reads = read_back_by_links crunched_laid up }

    -- by terminators, where no body holds a zero
    pub read_back_terminators : NoZeros ls → ReadsBack terminator_step o text ls
    read_back_terminators none = record { image = crunched_image; reads = read_back_by_terminators crunched_laid up none }

  pub demand_three : 0x0100 ≤ o.load → ReadsBack link_step o text ls
  demand_three h = read_back (omega arith)

-- ---- damaged (document 02, No. 14)

module _ (o : Options) (text : List ℕ) {ls : List NumberedBody} (low : o.load ≤ 0xFFFF) (e : crunched_lines o text ≡ done ls) {set : ℕ → Bool} {s : List ℕ} where
  -- with bytes of numbers and bodies changed in any set of lines
  module _ (up : least_load ≤ o.load) (c : ChangedLines set o.load ls s) where
    damaged : {step : Reader} → ReadAs step o.load (lines_now o.load ls s) s → ReadsDamaged step set o.load ls s
    damaged reads = record { reads = reads; outside = changed_outside (crunched_laid o text low e) c; places = changed_places (crunched_laid o text low e) c }

    pub damage : ReadsDamaged link_step set o.load ls s
    damage = damaged (damage_by_links (crunched_laid o text low e) c up)

    pub damage_terminators : NoZeros (lines_now o.load ls s) → ReadsDamaged terminator_step set o.load ls s
    damage_terminators none = damaged (damage_by_terminators (crunched_laid o text low e) c up none)

  -- with links changed in any set of lines, where no body holds a zero
  pub damaged_links : NoZeros ls → ChangedLinks set o.load ls s → bodies_of terminator_step s ≡ done ls
  damaged_links none c = links_changed (crunched_laid o text low e) none c

-- ---- same bytes, same program

-- two texts have the same image exactly when their load addresses and their lines are the same
module _ (o o' : Options) (text text' : List ℕ) {ls ls' : List NumberedBody} (low : o.load ≤ 0xFFFF) (low' : o'.load ≤ 0xFFFF)
    (e : crunched_lines o text ≡ done ls) (e' : crunched_lines o' text' ≡ done ls') where
  pub same_lines_same_bytes : o.load ≡ o'.load → ls ≡ ls' → crunched o text ≡ crunched o' text'
  same_lines_same_bytes h f = crunched_image o text low e ∙ ap done (same_image h f) ∙ sym (crunched_image o' text' low' e')

  pub same_bytes_same_program : crunched o text ≡ crunched o' text' → (o.load ≡ o'.load) × (ls ≡ ls')
  same_bytes_same_program f =
      let same : done (image_of o.load ls) ≡ done (image_of o'.load ls') = sym (crunched_image o text low e) ∙ f ∙ crunched_image o' text' low' e' in
      same_program (crunched_laid o text low e) (crunched_laid o' text' low' e') (let image : image_of o.load ls ≡ image_of o'.load ls' = cc in image)

-- ---- as a call

-- what was stored at a buffer's start stands there
stored_there : (bytes buffer : List ℕ) → length bytes ≤ length buffer → take (length bytes) (sets buffer 0 bytes) ≡ bytes
stored_there bytes buffer h = ap (take (length bytes)) (sets-eq bytes buffer 0 (omega arith)) ∙ take_at bytes (drop (0 + length bytes) buffer) (length bytes) refl

-- a text with these lines, crunched into a buffer that has the room, and what `crunch_and_read` answers and leaves
module _ (o : Options) (text : List ℕ) {ls : List NumberedBody} (low : o.load ≤ 0xFFFF) (e : crunched_lines o text ≡ done ls)
    (buffer : List ℕ) (room : length (image_of o.load ls) ≤ length buffer) where
  abbrev made : List ℕ
  made = image_of o.load ls

  -- that image was made, and so many lines are found in it
  abbrev found : ℕ → Result ReadBack Refusal
  found n = Ok (record { length = length made; read = Ok (record { load = o.load; lines = n }) })

  image_stored : into_buffer (crunched o text) buffer ≡ record { answer = done (length made); buffer = sets buffer 0 made }
  unfolding into_buffer
  image_stored =
      ap (λ (a : Answer (List ℕ)). into_buffer a buffer) (crunched_image o text low e)
      ∙ simp (le-leb _ _ room)

  -- the definition's answer: this length, this address, and as many lines as the reader finds
  read_back_is : reading_back (into_buffer (crunched o text) buffer) ≡ left_read (found (lines_found o.load ls)) (sets buffer 0 made)
  unfolding reading_back
  read_back_is =
      ap reading_back image_stored
      ∙ ap (λ (s : List ℕ). record { answer = done (record { size = length made; overview = overview link_step s }); buffer = sets buffer 0 made })
      (stored_there made buffer room)
      ∙ ap (λ (v : Answer Overview). record { answer = done (record { size = length made; overview = v }); buffer = sets buffer 0 made })
      (all_or_none ls (crunched_laid o text low e))

  -- whatever a call that keeps the contract answers and leaves
  module _ (r : Result ReadBack Refusal) {after : List ℕ} (keeps : left_read r after ≡ reading_back (into_buffer (crunched o text) buffer)) where
    -- at any load address: an image that the reader takes, with all lines or none
    pub call_answer : r ≡ found (lines_found o.load ls)
    call_answer = (read_back_tight _ r _ after _ keeps (sym read_back_is)).0

    -- from the least load address on: every line, and these lines in the buffer
    module _ (up : least_load ≤ o.load) where
      pub call_count : r ≡ found (length ls)
      call_count = call_answer ∙ ap found (all_found ls up)

      pub call_lines : bodies_of link_step (take (length made) after) ≡ done ls
      call_lines =
          ap (λ (x : LentRead). bodies_of link_step (take (length made) x.buffer)) (keeps ∙ read_back_is)
          ∙ ap (bodies_of link_step) (stored_there made buffer room)
          ∙ (read_back o text low e up).reads.bodies
