-- The steps of the evidence scan, case by case; how far a step goes; and the loop over a line.
-- Assumes nothing.
use Prim.Native.Nat.{ℕ, zero, suc, ◌+◌, ◌≤◌, ◌<◌}
use mathlib.Core.Path.{◌≡◌, refl, sym, ap, ◌∙◌, subst}
use mathlib.Core.Bool.{Bool, true, false, ◌&&◌, false≢true}
use mathlib.Core.List.{List, [], ◌∷◌}
use native.Mathlib.Nat.{add-zero}
use native.Mathlib.Omega.{arith}
use lib.Dec.{eqb}
use lib.ListN.{length, get_or, drop, drop_of_length-le, length-drop}
use lib.Seq.{drop-drop, get_or-drop}
use borrow.Author.Tests.{eq-eqb, ne_eqb, eqb-true}
use mir.Syntax.{w64}
use mir.Val.{Fits}
use Rattle.base_steps.specs.Again.{again}
use Rattle.base_steps.proofs.Nearer.{Nearer, again_on}
use Rattle.base_ascii.specs.Bytes.{between, upper, is_digit, is_letter}
use Rattle.base_ascii.specs.Search.{is_white, is_blank, front, past}
use Rattle.base_ascii.proofs.Searching.{tail, front_le, front_more}
use Rattle.word_search.specs.Compare.{begins}
use Rattle.word_search.specs.Find.{word_in}
use Rattle.word_search.specs.declared.Match.{Match}
use Rattle.word_search.specs.Spelling.{bytes_of}
use Rattle.word_tables.specs.Tsb.{tsb_words}
use Rattle.text_lines.proofs.Blanks.{blank_white}
use Rattle.base_ascii.proofs.Choice.{taken, left, either}
use Rattle.guess_uses.specs.Proving.{proves}
use Rattle.guess_evidence.specs.Evidence.{word_proves, word_step, statement_step, evidence_step, evidence_on, evidence_from, number_length, line_evidence, deciding_on, deciding_from, deciding_place, list_place, deciding_word, decides}
use Rattle.guess_places.specs.Places.{is_plain, is_start, aside}
use Rattle.guess_places.specs.PlaceHelpers.{stays}
use Rattle.guess_places.specs.declared.place.Place.{Place}
use Rattle.guess_places.specs.declared.place.Place.TheVariants.{Start, Within, Quoted, Data}
use Rattle.guess_evidence.specs.declared.EvidenceStep.{EvidenceStep}
use Rattle.guess_evidence.specs.declared.EvidenceStep.TheVariants.{Proved, Remark, On}
use Rattle.guess_evidence.specs.declared.DecidingWord.{DecidingWord}
use Rattle.guess_uses.proofs.Behind.{rest, rest_long}
use Rattle.guess_places.proofs.Places.{Same, stretch}
use Rattle.guess_places.proofs.Words.{begins_long, word_bounds, no_letter, not_rem, not_data, letter_high, letter_not_white}
use Rattle.std.specs.Prelude.{Option, Some, None, is_some}

-- ---- what a word proves

module _ (place : Place) (t : List ℕ) {m : Option Match} where
  pub word_proves_lem : {n : Match} {s y : Bool} → y ≡ proves s t n.used → s ≡ is_start place → m ≡ Some n → m ≡ word_in tsb_words t → y ≡ word_proves place t
  unfolding word_proves
  word_proves_lem {n} r q e p = r ∙ ap (λ (b : Bool). proves b t n.used) q ∙ rw (sym p ∙ e)

  pub no_word_proves : m ≡ None → m ≡ word_in tsb_words t → false ≡ word_proves place t
  unfolding word_proves
  no_word_proves e p = rw (sym p ∙ e)

pub word_within : (t : List ℕ) {m : Option Match} {n : Match} → m ≡ Some n → m ≡ word_in tsb_words t → n.used ≤ length t
word_within t e p = (word_bounds t (sym p ∙ e)).within

-- ---- a step on through a statement

module _ (place : Place) (t : List ℕ) where
  word_colon : {s : EvidenceStep} → s ≡ On 1 Start → get_or t 0 0 ≡ 0x3A → s ≡ word_step place t
  unfolding word_step
  word_colon q e = q ∙ sym (taken _ _ (eq-eqb _ _ e))

  module _ {w : Bool} where
    word_white : {s : EvidenceStep} → s ≡ On 1 place → w ≡ true → w ≡ is_white (get_or t 0 0) → (get_or t 0 0 ≡ 0x3A → ⊥) → s ≡ word_step place t
    unfolding word_step
    word_white q e v k = q ∙ sym (left _ _ (ne_eqb _ _ k) ∙ taken _ _ (sym v ∙ e))

    word_proved : {x : Bool} → x ≡ true → x ≡ word_proves place t → w ≡ false → w ≡ is_white (get_or t 0 0) → (get_or t 0 0 ≡ 0x3A → ⊥) → Proved ≡ word_step place t
    unfolding word_step
    word_proved e u n v k = sym (left _ _ (ne_eqb _ _ k) ∙ left _ _ (sym v ∙ n) ∙ taken _ _ (sym u ∙ e))

    word_other : {s : EvidenceStep} {x : Bool} → s ≡ On 1 Within → x ≡ false → x ≡ word_proves place t → w ≡ false → w ≡ is_white (get_or t 0 0) → (get_or t 0 0 ≡ 0x3A → ⊥)
        → s ≡ word_step place t
    unfolding word_step
    word_other q e u n v k = q ∙ sym (left _ _ (ne_eqb _ _ k) ∙ left _ _ (sym v ∙ n) ∙ left _ _ (sym u ∙ e))

-- ---- a step outside strings and DATA

space_step : (place : Place) (t : List ℕ) → get_or t 0 0 ≡ 0x20 → On 1 place ≡ statement_step place t
unfolding statement_step word_step begins upper between
space_step place [] e = absurd (omega arith)
space_step place (b ∷ s) e = rw e

module _ (place : Place) (t : List ℕ) where
  pub statement_quote : {s : EvidenceStep} → s ≡ On 1 Quoted → get_or t 0 0 ≡ 0x22 → s ≡ statement_step place t
  unfolding statement_step
  statement_quote q e = q ∙ sym (taken _ _ (eq-eqb _ _ e))

  module _ {r : Bool} where
    statement_remark : r ≡ true → r ≡ begins (bytes_of "REM") t → (get_or t 0 0 ≡ 0x22 → ⊥) → Remark ≡ statement_step place t
    unfolding statement_step
    statement_remark e p n = sym (left _ _ (ne_eqb _ _ n) ∙ taken _ _ (sym p ∙ e))

    module _ {d : Bool} {s : EvidenceStep} where
      statement_data : s ≡ On 4 Data → d ≡ true → d ≡ begins (bytes_of "DATA") t → r ≡ false → r ≡ begins (bytes_of "REM") t → (get_or t 0 0 ≡ 0x22 → ⊥) → s ≡ statement_step place t
      unfolding statement_step
      statement_data q f u e p n = q ∙ sym (left _ _ (ne_eqb _ _ n) ∙ left _ _ (sym p ∙ e) ∙ taken _ _ (sym u ∙ f))

      statement_word : s ≡ word_step place t → d ≡ false → d ≡ begins (bytes_of "DATA") t → r ≡ false → r ≡ begins (bytes_of "REM") t → (get_or t 0 0 ≡ 0x22 → ⊥) → s ≡ statement_step place t
      unfolding statement_step
      statement_word q f u e p n = q ∙ sym (left _ _ (ne_eqb _ _ n) ∙ left _ _ (sym p ∙ e) ∙ left _ _ (sym u ∙ f))

-- at a letter: REM, DATA or a word
no_quote : (b : ℕ) → is_letter b ≡ true → b ≡ 0x22 → ⊥
no_quote b l e = omega (arith, letter_high b l)

no_colon : (b : ℕ) → is_letter b ≡ true → b ≡ 0x3A → ⊥
no_colon b l e = omega (arith, letter_high b l)

module _ (place : Place) (t : List ℕ) (l : is_letter (get_or t 0 0) ≡ true) {r : Bool} where
  pub letter_remark : r ≡ true → r ≡ begins (bytes_of "REM") t → Remark ≡ statement_step place t
  letter_remark e p = statement_remark place t e p (no_quote _ l)

  module _ {d : Bool} {s : EvidenceStep} where
    pub letter_data : s ≡ On 4 Data → d ≡ true → d ≡ begins (bytes_of "DATA") t → r ≡ false → r ≡ begins (bytes_of "REM") t → s ≡ statement_step place t
    letter_data q f u e p = statement_data place t q f u e p (no_quote _ l)

    pub letter_on : {x : Bool} → s ≡ On 1 Within → x ≡ false → x ≡ word_proves place t → d ≡ false → d ≡ begins (bytes_of "DATA") t → r ≡ false → r ≡ begins (bytes_of "REM") t
        → s ≡ statement_step place t
    letter_on q y z f u e p = statement_word place t (word_other place t q y z refl (sym (letter_not_white (get_or t 0 0) l)) (no_colon _ l)) f u e p (no_quote _ l)

  pub letter_proved : {d x : Bool} → x ≡ true → x ≡ word_proves place t → d ≡ false → d ≡ begins (bytes_of "DATA") t → r ≡ false → r ≡ begins (bytes_of "REM") t
      → Proved ≡ statement_step place t
  letter_proved y z f u e p = statement_word place t (word_proved place t y z refl (sym (letter_not_white (get_or t 0 0) l)) (no_colon _ l)) f u e p (no_quote _ l)

-- at another byte: none of them
module _ (place : Place) (t : List ℕ) (n : is_letter (get_or t 0 0) ≡ false) {s : EvidenceStep} where
  passes : s ≡ word_step place t → (get_or t 0 0 ≡ 0x22 → ⊥) → s ≡ statement_step place t
  passes q d = statement_word place t q refl (sym (not_data t n)) refl (sym (not_rem t n)) d

  pub other_colon : s ≡ On 1 Start → get_or t 0 0 ≡ 0x3A → s ≡ statement_step place t
  other_colon q e = passes (word_colon place t q e) (λ f. omega arith)

  module _ {w : Bool} where
    pub other_white : s ≡ On 1 place → w ≡ true → w ≡ is_white (get_or t 0 0) → (get_or t 0 0 ≡ 0x3A → ⊥) → (get_or t 0 0 ≡ 0x22 → ⊥) → s ≡ statement_step place t
    other_white q e v k d = passes (word_white place t q e v k) d

    pub other_on : s ≡ On 1 Within → w ≡ false → w ≡ is_white (get_or t 0 0) → (get_or t 0 0 ≡ 0x3A → ⊥) → (get_or t 0 0 ≡ 0x22 → ⊥) → s ≡ statement_step place t
    other_on q e v k d = passes (word_other place t q refl (no_word_proves place t refl (no_letter t refl (sym n))) e v k) d

module _ (place : Place) (t : List ℕ) {x : Bool} {s : EvidenceStep} where
  pub step_plain : s ≡ statement_step place t → x ≡ true → x ≡ is_plain place → s ≡ evidence_step place t
  unfolding evidence_step
  step_plain q e p = q ∙ sym (taken _ _ (sym p ∙ e))

  pub step_aside : {n : Place} → s ≡ On 1 n → n ≡ aside place (get_or t 0 0) → x ≡ false → x ≡ is_plain place → s ≡ evidence_step place t
  unfolding evidence_step
  step_aside r q e p = r ∙ ap (On 1) q ∙ sym (left _ _ (sym p ∙ e))

-- ---- how far a step goes: one byte at least, and not past the line

abbrev Far : ℕ → EvidenceStep → Type 0
Far l Proved = Unit {0}
Far l Remark = Unit {0}
Far l (On used next) = (0 < used) × (used ≤ l)

module _ (place : Place) (t : List ℕ) (h : 0 < length t) where
  far_one : (next : Place) → Far (length t) (On 1 next)
  far_one next = (omega arith, omega arith)

  far_statement : Far (length t) (statement_step place t)
  unfolding statement_step word_step
  far_statement =
      either (Far (length t)) (eqb (get_or t 0 0) 0x22) _ _ (λ _. far_one Quoted) (λ _.
      either (Far (length t)) (begins (bytes_of "REM") t) _ _ (λ _. tt) (λ _.
      either (Far (length t)) (begins (bytes_of "DATA") t) _ _ (λ e. (omega arith, begins_long (bytes_of "DATA") t e)) (λ _.
      either (Far (length t)) (eqb (get_or t 0 0) 0x3A) _ _ (λ _. far_one Start) (λ _.
      either (Far (length t)) (is_white (get_or t 0 0)) _ _ (λ _. far_one place) (λ _.
      either (Far (length t)) (word_proves place t) _ _ (λ _. tt) (λ _. far_one Within))))))

  far_step : Far (length t) (evidence_step place t)
  unfolding evidence_step
  far_step =
      either (Far (length t)) (is_plain place) _ _ (λ _. far_statement) (λ _. far_one (aside place (get_or t 0 0)))

-- ---- the loop over a line

-- where a scan stands: so many bytes into the line, in a place, with what is left
abbrev Standing : Type 0
Standing = ℕ × Place × List ℕ

-- what is answered behind a step
abbrev behind_step : (Standing → Option ℕ) → ℕ → List ℕ → EvidenceStep → Option ℕ
behind_step more i t Proved = Some i
behind_step more i t Remark = None
behind_step more i t (On used next) = more (i + used, next, drop used t)

on_some : (more : Standing → Option ℕ) (i : ℕ) (place : Place) (t : List ℕ) → 0 < length t → deciding_on more (i, place, t) ≡ behind_step more i t (evidence_step place t)
unfolding deciding_on
on_some more i place [] h = absurd (omega arith)
on_some more i place (b ∷ s) h = go (evidence_step place (b ∷ s))
  where
    go : (x : EvidenceStep) → elim x [ Proved ↦ Some i | Remark ↦ None | On used next ↦ more (i + used, next, drop used (b ∷ s)) ] ≡ behind_step more i (b ∷ s) x
    go Proved = refl
    go Remark = refl
    go (On used next) = refl

near : Nearer {S = Standing} {R = (Option ℕ)} (λ x. length x.2) deciding_on
unfolding deciding_on
near x f g h = go x.0 x.1 x.2 h
  where
    go : (i : ℕ) (place : Place) (t : List ℕ) → ((y : Standing) → length y.2 < length t → f y ≡ g y) → deciding_on f (i, place, t) ≡ deciding_on g (i, place, t)
    go i place [] k = refl
    go i place (b ∷ s) k = on_some f i place (b ∷ s) (omega arith) ∙ same (evidence_step place (b ∷ s)) (far_step place (b ∷ s) (omega arith)) ∙ sym (on_some g i place (b ∷ s) (omega arith))
      where
        same : (y : EvidenceStep) → Far (suc (length s)) y → behind_step f i (b ∷ s) y ≡ behind_step g i (b ∷ s) y
        same Proved q = refl
        same Remark q = refl
        same (On used next) q = k (i + used, next, drop used (b ∷ s)) (omega (arith, q.0, length-drop used (b ∷ s)))

abbrev from : Standing → Option ℕ
from y = deciding_from y.0 y.1 y.2

once : (i : ℕ) (place : Place) (t : List ℕ) → deciding_from i place t ≡ deciding_on from (i, place, t)
unfolding deciding_from
once i place t = again_on near None (λ y. suc (length y.2)) (λ y. omega arith) (i, place, t)

none_left : (i : ℕ) (place : Place) → deciding_from i place [] ≡ None
unfolding deciding_on
none_left i place = once i place []

-- a step that is known, and what it comes to
stepped : (i : ℕ) (place : Place) (t : List ℕ) {s x : EvidenceStep} → s ≡ x → s ≡ evidence_step place t → 0 < length t → deciding_from i place t ≡ behind_step from i t x
stepped i place t e q h = once i place t ∙ on_some from i place t h ∙ ap (behind_step from i t) (sym q ∙ e)

-- what is left of the line answers what the line does, w
pub record Scanned (line : List ℕ) (w : Option ℕ) (place : Place) (i : ℕ) : Type 0 where
  pub within : i ≤ length line
  pub gives : deciding_from i place (drop i line) ≡ w

number_le : (l : List ℕ) → number_length l ≤ length l
unfolding number_length
number_le l = omega (arith, front_le is_white l, front_le is_digit (past is_white l), length-drop (front is_white l) l)

pub number_is : (l : List ℕ) {a n : ℕ} → n ≡ front is_digit (rest l a) → a ≡ front is_white l → a + n ≡ number_length l
unfolding number_length
number_is l {a} {n} q p =
    let e : n ≡ front is_digit (past is_white l) = q ∙ ap (front is_digit) (tail l a ∙ ap (λ (k : ℕ). drop k l) p) in
    cc

pub number_fits : (l : List ℕ) {a n : ℕ} → n ≡ front is_digit (rest l a) → a ≡ front is_white l → Fits w64 (length l) → Fits w64 (a + n)
number_fits l q p f = record { fits = omega (arith, f.fits, number_is l q p, number_le l) }

pub scanned_start : (l : List ℕ) {i : ℕ} → i ≡ number_length l → Scanned l (deciding_place l) Start i
unfolding deciding_place
scanned_start l {i} e = record { within = omega (arith, number_le l); gives = ap (λ (n : ℕ). deciding_from n Start (drop n l)) e }

pub scanned_end : {line : List ℕ} {w : (Option ℕ)} {place : Place} {i : ℕ} → length line ≤ i → Scanned line w place i → None ≡ w
scanned_end {line} {w} {place} {i} h k = sym (none_left i place) ∙ (rw (drop_of_length-le line h) at k.gives)

pub empty_nowhere : (line : List ℕ) → length line ≡ 0 → None ≡ deciding_place line
empty_nowhere line h = scanned_end {i = number_length line} (omega arith) (scanned_start line refl)

module _ (line : List ℕ) (place : Place) (i : ℕ) {s : EvidenceStep} where
  there : {x : EvidenceStep} → s ≡ x → s ≡ evidence_step place (rest line i) → i < length line → deciding_from i place (drop i line) ≡ behind_step from i (drop i line) x
  there e q h = stepped i place (drop i line) e (q ∙ ap (evidence_step place) (tail line i)) (omega (arith, length-drop i line))

  pub scanned_proved : {w : (Option ℕ)} → s ≡ Proved → s ≡ evidence_step place (rest line i) → i < length line → Scanned line w place i → Some i ≡ w
  scanned_proved e q h k = sym (there e q h) ∙ k.gives

  pub scanned_remark : {w : (Option ℕ)} → s ≡ Remark → s ≡ evidence_step place (rest line i) → i < length line → Scanned line w place i → None ≡ w
  scanned_remark e q h k = sym (there e q h) ∙ k.gives

  module _ {used : ℕ} {next : Place} (e : s ≡ On used next) (q : s ≡ evidence_step place (rest line i)) (h : i < length line) where
    far : (0 < used) × (i + used ≤ length line)
    far =
        let f : Far (length (rest line i)) (evidence_step place (rest line i)) = far_step place (rest line i) (omega (arith, rest_long line i)) in
        let g : Far (length (rest line i)) (On used next) = subst (Far (length (rest line i))) (sym q ∙ e) f in
        (g.0, omega (arith, g.1, rest_long line i))

    pub on_fits : Fits w64 (length line) → Fits w64 (i + used)
    on_fits f = record { fits = omega (arith, f.fits, far.1) }

    scanned_turn : {w : (Option ℕ)} → Scanned line w place i → Scanned line w next (i + used)
    scanned_turn k =
        record { within = far.1; gives = ap (deciding_from (i + used) next) (sym (drop-drop used i line)) ∙ sym (there e q h) ∙ k.gives }

first_there : (line : List ℕ) (j : ℕ) → get_or (rest line j) 0 0 ≡ get_or line j 0
first_there line j = ap (λ (t : List ℕ). get_or t 0 0) (tail line j) ∙ get_or-drop j line 0 0 ∙ ap (λ (n : ℕ). get_or line n 0) (add-zero j)

-- a space outside strings and DATA
module _ (place : Place) (b : ℕ) where
  pub no_gap : (b ≡ 0x20 → ⊥) → false ≡ (eqb b 0x20 && is_plain place)
  no_gap n = simp (ne_eqb _ _ n)

  pub gap : {r : Bool} → r ≡ is_plain place → b ≡ 0x20 → r ≡ (eqb b 0x20 && is_plain place)
  gap p e = p ∙ simp (eq-eqb _ _ e)

pub gap_turn : (line : List ℕ) (place : Place) (i : ℕ) {w : (Option ℕ)} {r : Bool} → r ≡ true → r ≡ (eqb (get_or line i 0) 0x20 && is_plain place) → i < length line
    → Scanned line w place i → Scanned line w place (i + 1)
unfolding evidence_step
gap_turn line place i {w} {r} e g h k = go (eqb (get_or line i 0) 0x20) refl (is_plain place) refl (sym g ∙ e)
  where
    go : (a : Bool) → eqb (get_or line i 0) 0x20 ≡ a → (b : Bool) → is_plain place ≡ b → (a && b) ≡ true → Scanned line w place (i + 1)
    go true p true q f =
        let s : On 1 place ≡ evidence_step place (rest line i) =
        space_step place (rest line i) (first_there line i ∙ eqb-true _ _ p) ∙ sym (taken _ _ q) in
        scanned_turn line place i {s = On 1 place} refl s h k
    go true p false q f = absurd (false≢true f)
    go false p b q f = absurd (false≢true f)

-- ---- a step, and the bytes of a string or of DATA behind it

same_turn : (line : List ℕ) (place : Place) (j : ℕ) {w : (Option ℕ)} → j < length line → Same place (get_or line j 0) → Scanned line w place j → Scanned line w place (j + 1)
unfolding evidence_step
same_turn line place j h s k =
    let q : On 1 place ≡ evidence_step place (rest line j) = sym (left _ _ s.apart ∙ ap (On 1) (ap (aside place) (first_there line j) ∙ s.same)) in
    scanned_turn line place j {s = On 1 place} refl q h k

module _ (line : List ℕ) (place : Place) (i : ℕ) {s : EvidenceStep} {used : ℕ} {next : Place} (e : s ≡ On used next) (q : s ≡ evidence_step place (rest line i)) (h : i < length line) where
  pub behind_some : 0 < used
  behind_some = (far line place i e q h).0

  pub behind_within : i + used ≤ length line
  behind_within = (far line place i e q h).1

  pub scanned_stretch : {w : (Option ℕ)} {n : ℕ} → n ≡ front (stays next) (rest line (i + used)) → Scanned line w place i → Scanned line w next (i + used + n)
  scanned_stretch {w} p k = stretch line next i used p behind_within (Scanned line w next) (λ j g o. same_turn line next j g o) (scanned_turn line place i e q h k)

-- ---- a word decides exactly where there is evidence, and stands within the line

same_walk : (k i : ℕ) (place : Place) (t : List ℕ) → is_some (again None deciding_on k (i, place, t)) ≡ again false evidence_on k (place, t)
unfolding again deciding_on evidence_on
same_walk zero i place t = refl
same_walk (suc k) i place [] = refl
same_walk (suc k) i place (b ∷ s) = go (evidence_step place (b ∷ s)) (λ j next u. same_walk k j next u)
  where
    go : (x : EvidenceStep) → ((j : ℕ) (next : Place) (u : List ℕ) → is_some (again None deciding_on k (j, next, u)) ≡ again false evidence_on k (next, u))
        → is_some (elim x [ Proved ↦ Some i | Remark ↦ None | On used next ↦ again None deciding_on k (i + used, next, drop used (b ∷ s)) ])
        ≡ elim x [ Proved ↦ true | Remark ↦ false | On used next ↦ again false evidence_on k (next, drop used (b ∷ s)) ]
    go Proved f = refl
    go Remark f = refl
    go (On used next) f = f (i + used) next (drop used (b ∷ s))

place_by_evidence : (l : List ℕ) → is_some (deciding_place l) ≡ line_evidence l
unfolding deciding_place deciding_from line_evidence evidence_from
place_by_evidence l = same_walk (suc (length (drop (number_length l) l))) (number_length l) Start (drop (number_length l) l)

pub word_by_evidence : (l : List ℕ) → decides (deciding_word l) ≡ line_evidence l
unfolding deciding_word decides
word_by_evidence l = go (deciding_place l) ∙ place_by_evidence l
  where
    go : (f : Option ℕ) → decides (elim f [ Some i ↦ Some (record { offset = i; word = list_place (drop i l) }) | None ↦ None ]) ≡ is_some f
    go (Some i) = refl
    go None = refl

walk_within : (k i : ℕ) (place : Place) (t : List ℕ) {j : ℕ} → again None deciding_on k (i, place, t) ≡ Some j → j ≤ i + length t
unfolding again deciding_on
walk_within zero i place t {j} e = let z : ◌≡◌ {A = ℕ} 0 1 = cc in absurd (omega arith)
walk_within (suc k) i place [] {j} e = let z : ◌≡◌ {A = ℕ} 0 1 = cc in absurd (omega arith)
walk_within (suc k) i place (b ∷ s) {j} e = go (evidence_step place (b ∷ s)) (far_step place (b ∷ s) (omega arith)) (λ n next u q. walk_within k n next u q) e
  where
    go : (x : EvidenceStep) → Far (suc (length s)) x → ((n : ℕ) (next : Place) (u : List ℕ) → again None deciding_on k (n, next, u) ≡ Some j → j ≤ n + length u)
        → elim x [ Proved ↦ Some i | Remark ↦ None | On used next ↦ again None deciding_on k (i + used, next, drop used (b ∷ s)) ] ≡ Some j
        → j ≤ i + suc (length s)
    go Proved d f q = let p : i ≡ j = cc in omega arith
    go Remark d f q = let z : ◌≡◌ {A = ℕ} 0 1 = cc in absurd (omega arith)
    go (On used next) d f q = omega (arith, f (i + used) next (drop used (b ∷ s)) q, length-drop used (b ∷ s), d.1)

module _ (l : List ℕ) {f : (Option ℕ)} where
  pub evidence_told : {x : Bool} → x ≡ is_some f → f ≡ deciding_place l → x ≡ line_evidence l
  evidence_told e q = e ∙ ap is_some q ∙ place_by_evidence l

  pub place_within : {i : ℕ} → f ≡ Some i → f ≡ deciding_place l → i ≤ length l
  unfolding deciding_place deciding_from
  place_within e q =
      omega (arith, walk_within (suc (length (drop (number_length l) l))) (number_length l) Start (drop (number_length l) l) (sym q ∙ e), length-drop (number_length l) l, number_le l)

  pub word_told : {i n : ℕ} → n ≡ list_place (rest l i) → f ≡ Some i → f ≡ deciding_place l → ◌≡◌ {A = Option DecidingWord} (Some (record { offset = i; word = n })) (deciding_word l)
  unfolding deciding_word
  word_told {i} p e q = rw (deciding_word, sym q ∙ e) (ap (λ (k : ℕ). Some (record { offset = i; word = k })) (p ∙ ap list_place (tail l i)))

  pub no_word_told : f ≡ None → f ≡ deciding_place l → None ≡ deciding_word l
  unfolding deciding_word
  no_word_told e q = rw (deciding_word, sym q ∙ e)

module _ (t : List ℕ) {m : Option Match} where
  pub place_listed : {n : Match} → m ≡ Some n → m ≡ word_in tsb_words t → n.index ≡ list_place t
  unfolding list_place
  place_listed e q = rw (sym q ∙ e)

  pub place_none : m ≡ None → m ≡ word_in tsb_words t → 0 ≡ list_place t
  unfolding list_place
  place_none e q = rw (sym q ∙ e)

-- ---- a blank in front of a line is passed before the first step

module _ (b : ℕ) (l : List ℕ) (q : is_blank b ≡ true) where
  number_more : number_length (b ∷ l) ≡ suc (number_length l)
  unfolding number_length
  number_more = rw (front_more is_white b l (blank_white b q)) (omega arith)

  pub evidence_blank : line_evidence (b ∷ l) ≡ line_evidence l
  unfolding line_evidence
  evidence_blank = ap (λ (n : ℕ). evidence_from Start (drop n (b ∷ l))) number_more
