-- A text that the machine profile accepts: its image is the plain one, its lines fit the machine, both readers return the same lines, and the
-- machine's relinking leaves its image as it is.
-- Assumes nothing.
use Prim.Native.Nat.{ℕ, suc, ◌≤◌}
use mathlib.Core.Path.{◌≡◌, refl, sym, ap, ◌∙◌, subst}
use mathlib.Core.Bool.{Bool, true, false, cond, ◌||◌}
use mathlib.Core.List.{List, [], ◌∷◌, ◌++◌}
use native.Mathlib.Omega.{arith}
use lib.Dec.{eqb, ltb}
use lib.ListN.{length}
use borrow.Author.Tests.{ltb-false, le-ltb, eq-eqb, ne_eqb}
use Rattle.base_refusals.specs.Numbers.{Numbered, line_number_too_high, not_ascending, zero_in_body, body_length}
use Rattle.base_refusals.specs.Answer.{Answer, done, refused, map_done, and_then}
use Rattle.text_lines.specs.declared.LineRule.TheVariants.{AfterCr}
use Rattle.text_domain.specs.Domain.{checked_text}
use Rattle.text_lines.specs.TextLines.{text_lines}
use Rattle.body_rules.specs.Lexicon.{Lexicon}
use Rattle.body.specs.Zero.{holds_zero}
use Rattle.image_limits.specs.Limits.{c64, is_too_high, is_not_ascending, is_bad_length}
use Rattle.image_limits.proofs.Asking.{good_length}
use Rattle.image_readers.specs.NumberedBody.{NumberedBody}
use Rattle.base_steps.specs.Each.{Each}
use Rattle.image_layout.specs.Layout.{image_of}
use Rattle.image_layout.specs.Reads.{least_load, NoZero, NoZeros, lines_at}
use Rattle.crunch_profile.specs.Profile.{profile_says, line_allowed, allowed, least_behind}
use Rattle.crunch_rules.specs.Crunched.{text_line, line_under, last_link, crunch_lines, text_lexicon, crunched_lines, crunched}
use Rattle.crunch_rules.specs.declared.Options.{Options}
use Rattle.crunch_rules.proofs.Lining.{under_plain, lines_plain}
use Rattle.crunch_read_back.proofs.Demand.{behind, crunched_laid, read_back, read_back_terminators}
use Rattle.image_relink.specs.Relinking.{same, relinking}
use Rattle.image_relink.proofs.Laid.{Passable, laid_kept}
use Rattle.crunch_laws.specs.ProfileAccepted.{FitsMachine, FitMachine, ReadAlike}

-- ---- one line

no_zero : (body : List ℕ) → holds_zero body ≡ false → NoZero body
unfolding holds_zero
no_zero [] e = tt
no_zero (b ∷ s) e = go (eqb b 0) refl (no_zero s) e
  where
    go : (r : Bool) → eqb b 0 ≡ r → (holds_zero s ≡ false → NoZero s) → r || holds_zero s ≡ false → NoZero (b ∷ s)
    go true q more p = let z : ◌≡◌ {A = ℕ} 0 1 = cc in absurd (omega arith)
    go false q more p = ((λ h. let t : true ≡ false = sym (eq-eqb b 0 h) ∙ q in let z : ◌≡◌ {A = ℕ} 0 1 = cc in omega arith), more p)

-- the test was not met
passed : {A : Type 0} (b : Bool) (n : Numbered) (a : Answer A) {x : A} → cond b (refused n) a ≡ done x → (b ≡ false) × (a ≡ done x)
passed true n a e = let z : ◌≡◌ {A = ℕ} 0 1 = cc in absurd (omega arith)
passed false n a e = (refl, e)

line_fits : (k least : ℕ) (l : NumberedBody) {u : Unit {0}} → line_allowed k least l ≡ done u → (least ≤ l.number) × FitsMachine l
unfolding line_allowed profile_says
line_fits k least l e =
    let a = passed (is_too_high c64 l.number) (line_number_too_high k) _ e in
    let b = passed (is_not_ascending least l.number) (not_ascending k) _ a.1 in
    let c = passed (holds_zero l.body) (zero_in_body k) _ b.1 in
    let d = good_length c64 (length l.body) (passed (is_bad_length c64 (length l.body)) (body_length k) _ c.1).0 in (
      ltb-false l.number least b.0,
      record { number = ltb-false c64.highest l.number a.0; none = no_zero l.body c.0; some = d.0; few = omega (arith, d.1) },
    )

-- ---- and a line that fits is allowed

zero_free : (body : List ℕ) → NoZero body → holds_zero body ≡ false
unfolding holds_zero
zero_free [] n = refl
zero_free (b ∷ s) n = rw (ne_eqb b 0 n.0) (zero_free s n.1)

line_allowed_lem : (k least : ℕ) (l : NumberedBody) → least ≤ l.number → FitsMachine l → line_allowed k least l ≡ done tt
unfolding line_allowed profile_says
line_allowed_lem k least l up f =
    let low : ltb 63999 l.number ≡ false = le-ltb 63999 l.number f.number in
    let some : ltb (length l.body) 1 ≡ false = le-ltb (length l.body) 1 f.some in
    let few : ltb 250 (length l.body) ≡ false = le-ltb 250 (length l.body) f.few in
    rw (low, le-ltb l.number least up, zero_free l.body f.none, some, few)

-- ---- lines one after the other

-- a result that was taken further
then_done : {A B : Type 0} (a : Answer A) (f : A → Answer B) {b : B} → and_then a f ≡ done b → (x : A) × (a ≡ done x) × (f x ≡ done b)
then_done (done x) f e = (x, refl, e)
then_done (refused n) f e = let z : ◌≡◌ {A = ℕ} 0 1 = cc in absurd (omega arith)

allowed_fit : (k least : ℕ) (ls : List NumberedBody) {u : Unit {0}} → allowed k least ls ≡ done u → FitMachine least ls
allowed_fit k least [] e = tt
allowed_fit k least (l ∷ ls) e =
    let a = then_done (line_allowed k least l) (λ _. allowed k (suc l.number) ls) e in
    let f = line_fits k least l a.1 in
    (f.0, f.1, allowed_fit k (suc l.number) ls a.2)

fit_append : (least : ℕ) (ls ms : List NumberedBody) → FitMachine least ls → FitMachine (least_behind least ls) ms → FitMachine least (ls ++ ms)
fit_append least [] ms f g = g
fit_append least (l ∷ ls) ms f g = (f.0, f.1, fit_append (suc l.number) ls ms f.2 g)

-- what a text line gives
new_fit : (words : Lexicon) (k least : ℕ) (line : List ℕ) {new : List NumberedBody} → line_under true words k least line ≡ done new → FitMachine least new
unfolding line_under
new_fit words k least line {new} e = go (text_line words k line) e
  where
    fit : (ls : List NumberedBody) (b : Answer (Unit {0})) → allowed k least ls ≡ b → map_done (λ _. ls) b ≡ done new → FitMachine least new
    fit ls (done u) p q = let s : ls ≡ new = cc in subst (FitMachine least) s (allowed_fit k least ls p)
    fit ls (refused n) p q = let z : ◌≡◌ {A = ℕ} 0 1 = cc in absurd (omega arith)

    go : (a : Answer (List NumberedBody)) → and_then a (λ ls. map_done (λ _. ls) (cond true (allowed k least ls) (done tt))) ≡ done new → FitMachine least new
    go (done ls) q = fit ls (allowed k least ls) refl q
    go (refused n) q = let z : ◌≡◌ {A = ℕ} 0 1 = cc in absurd (omega arith)

lines_fit : (words : Lexicon) (lines : List (List ℕ)) (k least address : ℕ) {ls : List NumberedBody} → crunch_lines true words k least address lines ≡ done ls → FitMachine least ls
unfolding crunch_lines
lines_fit words [] k least address {ls} e = let s : [] ≡ ls = cc in subst (FitMachine least) s tt
lines_fit words (line ∷ lines) k least address {ls} e =
    let t = then_done (line_under true words k least line) _ e in
    let new = t.0 in
    let n = then_done (last_link address new) _ t.2 in
    let b = behind new ls (crunch_lines true words (suc k) (least_behind least new) n.0 lines) n.2 in
    subst (FitMachine least) (sym b.whole)
    (fit_append least new b.rest (new_fit words k least line t.1) (lines_fit words lines (suc k) (least_behind least new) n.0 b.answer))

-- the same lines, where they fit

fit_allowed : (k least : ℕ) (ls : List NumberedBody) → FitMachine least ls → allowed k least ls ≡ done tt
fit_allowed k least [] f = refl
fit_allowed k least (l ∷ ls) f =
    ap (λ (a : Answer (Unit {0})). and_then a (λ _. allowed k (suc l.number) ls)) (line_allowed_lem k least l f.0 f.1)
    ∙ fit_allowed k (suc l.number) ls f.2

fit_split : (least : ℕ) (ls ms : List NumberedBody) → FitMachine least (ls ++ ms) → FitMachine least ls × FitMachine (least_behind least ls) ms
fit_split least [] ms f = (tt, f)
fit_split least (l ∷ ls) ms f = let g = fit_split (suc l.number) ls ms f.2 in ((f.0, f.1, g.0), g.1)

new_allowed : (words : Lexicon) (k least : ℕ) (line : List ℕ) {new : List NumberedBody} → text_line words k line ≡ done new → FitMachine least new
    → line_under true words k least line ≡ done new
unfolding line_under
new_allowed words k least line {new} e f =
    ap (λ (a : Answer (List NumberedBody)). and_then a (λ ls. map_done (λ _. ls) (allowed k least ls))) e
    ∙ ap (map_done (λ _. new)) (fit_allowed k least new f)

lines_allowed : (words : Lexicon) (lines : List (List ℕ)) (k least address : ℕ) {ls : List NumberedBody} → crunch_lines false words k least address lines ≡ done ls → FitMachine least ls
    → crunch_lines true words k least address lines ≡ done ls
unfolding crunch_lines
lines_allowed words [] k least address e f = e
lines_allowed words (line ∷ lines) k least address {ls} e f =
    let t = then_done (line_under false words k least line) _ e in
    let new = t.0 in
    let n = then_done (last_link address new) _ t.2 in
    let b = behind new ls (crunch_lines false words (suc k) (least_behind least new) n.0 lines) n.2 in
    let fit = fit_split least new b.rest (subst (FitMachine least) b.whole f) in
    ap (λ (a : Answer (List NumberedBody)). and_then a (λ new. and_then (last_link address new) (λ next.
    map_done (λ ls. new ++ ls) (crunch_lines true words (suc k) (least_behind least new) next lines))))
    (new_allowed words k least line (under_plain false words k least line t.1) fit.0)
    ∙ ap (λ (a : Answer ℕ). and_then a (λ next. map_done (λ ls. new ++ ls) (crunch_lines true words (suc k) (least_behind least new) next lines))) n.1
    ∙ ap (map_done (λ ls. new ++ ls)) (lines_allowed words lines (suc k) (least_behind least new) n.0 b.answer fit.1)
    ∙ ap done (sym b.whole)

no_zeros : (least : ℕ) (ls : List NumberedBody) → FitMachine least ls → NoZeros ls
no_zeros least [] f = tt
no_zeros least (l ∷ ls) f = (f.1.none, no_zeros (suc l.number) ls f.2)

passable : (least : ℕ) (ls : List NumberedBody) → FitMachine least ls → Each Passable ls
passable least [] f = tt
passable least (l ∷ ls) f = (record { some = f.1.some; few = f.1.few; none = f.1.none }, passable (suc l.number) ls f.2)

-- ---- of a text

-- the same options without the profile
abbrev plain : Options → Options
plain o = record { load = o.load; dialect = o.dialect; profile = false; forms = o.forms }

-- and with it
abbrev profiled : Options → Options
profiled o = record { load = o.load; dialect = o.dialect; profile = true; forms = o.forms }

-- lines that are read plainly and fit the machine are accepted under the profile
pub fits_accepted : (o : Options) (text : List ℕ) {ls : List NumberedBody} → crunched_lines (plain o) text ≡ done ls → FitMachine 0 ls → crunched_lines (profiled o) text ≡ done ls
unfolding crunched_lines
fits_accepted o text e f =
    let c = then_done (checked_text text) _ e in
    ap (λ (x : Answer (Unit {0})). and_then x (λ _. crunch_lines true (text_lexicon o text) 1 0 o.load (text_lines AfterCr text))) c.1
    ∙ lines_allowed (text_lexicon o text) (text_lines AfterCr text) 1 0 o.load c.2 f

module _ (o : Options) (text : List ℕ) {ls : List NumberedBody} (e : crunched_lines o text ≡ done ls) where
  -- "An accepted text has the same image as before"
  pub accepted_plain : crunched_lines (plain o) text ≡ done ls
  unfolding crunched_lines
  accepted_plain =
      let c = then_done (checked_text text) _ e in
      ap (λ (x : Answer (Unit {0})). and_then x (λ _. crunch_lines false (text_lexicon o text) 1 0 o.load (text_lines AfterCr text))) c.1
      ∙ lines_plain o.profile (text_lexicon o text) (text_lines AfterCr text) 1 0 o.load c.2

  pub accepted_image : crunched (plain o) text ≡ crunched o text
  unfolding crunched
  accepted_image = ap (map_done (image_of o.load)) (accepted_plain ∙ sym e)

  module _ (asked : o.profile ≡ true) where
    pub accepted_fits : FitMachine 0 ls
    unfolding crunched_lines
    accepted_fits =
        let c = then_done (checked_text text) _ e in
        lines_fit (text_lexicon o text) (text_lines AfterCr text) 1 0 o.load
        (ap (λ (b : Bool). crunch_lines b (text_lexicon o text) 1 0 o.load (text_lines AfterCr text)) (sym asked) ∙ c.2)

    -- "For such an image at 0x0100 or above, both readers return the same lines"; 0x0100 is above the least load address
    pub read_alike : o.load ≤ 0xFFFF → least_load ≤ o.load → ReadAlike (image_of o.load ls)
    read_alike low up =
        record {
          lines = lines_at o.load 2 ls;
          links = (read_back o text low e up).reads.places;
          terminators = (read_back_terminators o text low e up (no_zeros 0 ls accepted_fits)).reads.places;
        }

    -- and the machine's relinking leaves it byte for byte as it is
    pub relinking_keeps : o.load ≤ 0xFFFF → 0x0100 ≤ o.load → relinking (image_of o.load ls) ≡ done same
    relinking_keeps low up = laid_kept (crunched_laid o text low e) up (passable 0 ls accepted_fits)
