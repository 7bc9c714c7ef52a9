-- The lines that are measured of a text: which text lines they come from, and that they are the lines read back (document 02, No. 8).
-- Assumes nothing.
use Prim.Native.Nat.{ℕ, suc, ◌-◌, ◌≤◌}
use mathlib.Core.Path.{◌≡◌, refl, sym, ap, ◌∙◌, subst}
use mathlib.Core.Bool.{Bool}
use mathlib.Core.List.{List, [], ◌∷◌, ◌++◌}
use native.Mathlib.Omega.{arith}
use lib.ListN.{length, length-append}
use Rattle.base_refusals.specs.Answer.{Answer, done, refused, map_done, and_then}
use Rattle.base_ascii.specs.Trim.{trim}
use Rattle.text_lines.specs.declared.LineRule.TheVariants.{AfterCr}
use Rattle.text_domain.specs.Domain.{checked_text}
use Rattle.text_lines.specs.TextLines.{text_lines}
use Rattle.body_rules.specs.Lexicon.{Lexicon}
use Rattle.image_bytes.specs.ImageBytes.{address_at}
use Rattle.image_readers.specs.declared.Line.{Line}
use Rattle.image_readers.specs.NumberedBody.{NumberedBody}
use Rattle.image_layout.specs.Layout.{image_of}
use Rattle.image_layout.specs.Reads.{least_load, lines_at, LinksLead}
use Rattle.image_layout.proofs.ReadBack.{links_lead, marker_read, end_marker}
use Rattle.crunch_profile.specs.Profile.{least_behind}
use Rattle.crunch_rules.specs.Crunched.{crunch_lines, text_lexicon, crunched_lines, crunched}
use Rattle.crunch_rules.specs.PassesHelpers.{address_behind}
use Rattle.crunch_rules.specs.Measured.{unless_blank, nonblank_from, nonblank_lines, with_text_lines, measured_lines}
use Rattle.crunch_rules.specs.declared.MeasuredLine.{MeasuredLine}
use Rattle.crunch_rules.specs.declared.Options.{Options}
use Rattle.crunch_rules.proofs.Lining.{Taken, taken, under_plain, cons_taken, cons_refused}
use Rattle.crunch_rules.proofs.Placing.{lines_at_length, as_many}
use Rattle.crunch_read_back.specs.MeasuredBack.{AscendFrom, image_lines, origins, ComeFrom, MeasuredBack}
use Rattle.crunch_read_back.proofs.Demand.{behind, crunched_laid, read_back}

-- ---- the places of nonblank lines ascend

ascend_below : (m : ℕ) (ns : List ℕ) → AscendFrom (suc m) ns → AscendFrom m ns
ascend_below m [] a = tt
ascend_below m (n ∷ ns) a = (omega (arith, a.0), a.1)

ascend_line : (k : ℕ) (t ns : List ℕ) → AscendFrom (suc k) ns → AscendFrom k (unless_blank k t ++ ns)
ascend_line k [] ns a = ascend_below k ns a
ascend_line k (b ∷ t) ns a = (omega arith, a)

ascending : (k : ℕ) (lines : List (List ℕ)) → AscendFrom k (nonblank_from k lines)
unfolding nonblank_from
ascending k [] = tt
ascending k (line ∷ lines) = ascend_line k (trim line) (nonblank_from (suc k) lines) (ascending (suc k) lines)

-- ---- there is one for each line of the image

counted : (profile : Bool) (words : Lexicon) (lines : List (List ℕ)) (k least address : ℕ) {ls : List NumberedBody} → crunch_lines profile words k least address lines ≡ done ls
    → length (nonblank_from k lines) ≡ length ls
unfolding crunch_lines nonblank_from
counted profile words [] k least address {ls} e = let s : [] ≡ ls = cc in ap length s
counted profile words (line ∷ lines) k least address {ls} e = go (address_behind profile words k least address line) refl (λ more next rest q. counted profile words lines (suc k) more next q)
  where
    go : (a : Answer ℕ) → address_behind profile words k least address line ≡ a
        → ((more next : ℕ) (rest : List NumberedBody) → crunch_lines profile words (suc k) more next lines ≡ done rest → length (nonblank_from (suc k) lines) ≡ length rest)
        → length (unless_blank k (trim line) ++ nonblank_from (suc k) lines) ≡ length ls
    go (done next) p more =
        let t : Taken profile words k least address line next = taken p in
        let b = behind t.new ls (crunch_lines profile words (suc k) (least_behind least t.new) next lines) (sym (cons_taken profile words k least address line lines t) ∙ e) in
        omega (arith, length-append (unless_blank k (trim line)) (nonblank_from (suc k) lines), length-append t.new b.rest, ap length b.whole, as_many words k line (under_plain profile words k least line t.line_is), more (least_behind least t.new) next b.rest b.answer)
    go (refused n) p more = let c : refused n ≡ done ls = sym (cons_refused profile words k least address line lines p) ∙ e in let z : ◌≡◌ {A = ℕ} 0 1 = cc in absurd (omega arith)

lines_kept : (ls : List Line) (ts : List ℕ) → length ts ≡ length ls → image_lines (with_text_lines ls ts) ≡ ls
unfolding with_text_lines
lines_kept [] ts e = refl
lines_kept (l ∷ ls) [] e = absurd (omega arith)
lines_kept (l ∷ ls) (t ∷ ts) e = ap (λ (xs : List Line). l ∷ xs) (lines_kept ls ts (omega arith))

places_kept : (ls : List Line) (ts : List ℕ) → length ts ≡ length ls → origins (with_text_lines ls ts) ≡ ts
unfolding with_text_lines
places_kept [] [] e = refl
places_kept [] (t ∷ ts) e = absurd (omega arith)
places_kept (l ∷ ls) [] e = absurd (omega arith)
places_kept (l ∷ ls) (t ∷ ts) e = ap (λ (xs : List ℕ). t ∷ xs) (places_kept ls ts (omega arith))

-- ---- of a text

module _ (o : Options) (text : List ℕ) {ls : List NumberedBody} (e : crunched_lines o text ≡ done ls) where
  abbrev told : List MeasuredLine
  told = with_text_lines (lines_at o.load 2 ls) (nonblank_lines text)

  told_is : measured_lines o text ≡ done told
  unfolding measured_lines
  told_is = ap (map_done (λ x. with_text_lines (lines_at o.load 2 x) (nonblank_lines text))) e

  paired : length (nonblank_lines text) ≡ length (lines_at o.load 2 ls)
  unfolding crunched_lines
  paired = go (checked_text text) e
    where
      go : (a : Answer (Unit {0})) → and_then a (λ _. crunch_lines o.profile (text_lexicon o text) 1 0 o.load (text_lines AfterCr text)) ≡ done ls
          → length (nonblank_lines text) ≡ length (lines_at o.load 2 ls)
      go (done u) p = counted o.profile (text_lexicon o text) (text_lines AfterCr text) 1 0 o.load p ∙ sym (lines_at_length ls o.load 2)
      go (refused n) p = let z : ◌≡◌ {A = ℕ} 0 1 = cc in absurd (omega arith)

  come_from : ComeFrom text told
  come_from =
      let same = places_kept (lines_at o.load 2 ls) (nonblank_lines text) paired in
      record { nonblank = same; ascend = subst (AscendFrom 1) (sym same) (ascending 1 (text_lines AfterCr text)) }

  module _ (low : o.load ≤ 0xFFFF) (up : least_load ≤ o.load) where
    back : MeasuredBack told (image_of o.load ls)
    back =
        let same = lines_kept (lines_at o.load 2 ls) (nonblank_lines text) paired in
        let laid = crunched_laid o text low e in
        let s = image_of o.load ls in
        record {
          read = (read_back o text low e up).reads.places ∙ ap done (sym same);
          marker = marker_read laid;
          lead = subst (λ (xs : List Line). LinksLead xs (address_at s (length s - 2))) (sym same) (subst (LinksLead (lines_at o.load 2 ls)) (sym (end_marker laid)) (links_lead ls o.load 2));
        }

module _ (o : Options) (text : List ℕ) {ms : List MeasuredLine} (e : measured_lines o text ≡ done ms) where
  -- a text that is measured has lines, and these are theirs
  record Lines : Type 0 where
    ls : List NumberedBody
    lines : crunched_lines o text ≡ done ls
    told_is_ms : told o text lines ≡ ms

  lines : Lines
  unfolding measured_lines
  lines = go (crunched_lines o text) refl e
    where
      go : (a : Answer (List NumberedBody)) → crunched_lines o text ≡ a → map_done (λ x. with_text_lines (lines_at o.load 2 x) (nonblank_lines text)) a ≡ done ms → Lines
      go (done ls) p q = let s : with_text_lines (lines_at o.load 2 ls) (nonblank_lines text) ≡ ms = cc in record { ls = ls; lines = p; told_is_ms = s }
      go (refused n) p q = let z : ◌≡◌ {A = ℕ} 0 1 = cc in absurd (omega arith)

  -- at any load address
  pub text_lines_ascend : ComeFrom text ms
  text_lines_ascend = subst (ComeFrom text) lines.told_is_ms (come_from o text lines.lines)

  -- the request's 0x0100 is above the least load address
  pub measured_back : {s : List ℕ} → o.load ≤ 0xFFFF → least_load ≤ o.load → crunched o text ≡ done s → MeasuredBack ms s
  unfolding crunched
  measured_back {s} low up c =
      let i : done (image_of o.load lines.ls) ≡ done s = sym (ap (map_done (image_of o.load)) lines.lines) ∙ c in
      let q : image_of o.load lines.ls ≡ s = cc in
      subst (MeasuredBack ms) q (subst (λ (x : List MeasuredLine). MeasuredBack x (image_of o.load lines.ls)) lines.told_is_ms (back o text lines.lines low up))
