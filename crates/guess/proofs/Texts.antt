-- The scans over the lines of a text, the resolved dialect, and the words that are live.
-- Assumes nothing.
use Prim.Native.Nat.{ℕ, ◌-◌, ◌≤◌, ◌<◌}
use mathlib.Core.Path.{◌≡◌, refl, sym, ap, ◌∙◌}
use mathlib.Core.Bool.{Bool, true, false}
use mathlib.Core.List.{List}
use native.Mathlib.Omega.{arith}
use lib.ListN.{length, take, drop}
use Rattle.base_refusals.specs.Answer.{done, refused, numbered, answered}
use Rattle.base_refusals.specs.declared.Refusal.{Refusal}
use Rattle.word_match.specs.declared.sets.Sets.{Sets}
use Rattle.word_dialects.specs.declared.Dialect.{Dialect}
use Rattle.word_dialects.specs.declared.Dialect.TheVariants.{Auto, BasicV2, Tsb, Basic35}
use Rattle.text_domain.specs.Domain.{checked_text}
use Rattle.text_lines.specs.SplitHelpers.{line_from}
use Rattle.text_lines.specs.TextLines.{text_lines}
use Rattle.text_lines.specs.declared.LineRule.{LineRule}
use Rattle.text_lines.specs.declared.LineRule.TheVariants.{AsGiven, AfterCr}
use Rattle.text_lines.specs.declared.TextLine.{TextLine}
use Rattle.text_lines.proofs.Splitting.{line_step, lines_end, line_behind_lem}
use Rattle.base_ascii.proofs.Choice.{taken, left}
use Rattle.guess_evidence.specs.Evidence.{line_evidence}
use Rattle.guess_variables.specs.Variables.{line_names}
use Rattle.guess.specs.Guess.{any_evidence, evidence, all_names, none_demoted, names, guessed_dialect, resolved, word_sets}
use Rattle.guess_evidence.proofs.Steps.{evidence_blank}
use Rattle.std.specs.Prelude.{Result, Ok, Err}

-- ---- evidence

-- the lines passed prove nothing: what is left proves what the text does, w
pub record Unproved (rule : LineRule) (t : List ℕ) (w : Bool) (at : ℕ) : Type 0 where
  pub gives : any_evidence (text_lines rule (drop at t)) ≡ w

pub unproved_start : (rule : LineRule) (t : List ℕ) → Unproved rule t (evidence rule t) 0
unfolding evidence
unproved_start rule t = record { gives = refl }

told : (rule : LineRule) (t : List ℕ) (at : ℕ) {r : TextLine} {x : Bool} → x ≡ line_evidence (take (r.end - r.begin) (drop r.begin t)) → r ≡ line_from rule t at
    → x ≡ line_evidence (take (r.end - at) (drop at t))
told rule t at p q = p ∙ line_behind_lem line_evidence evidence_blank rule t at q

module _ {rule : LineRule} {t : List ℕ} {w : Bool} {at : ℕ} where
  pub unproved_end : length t ≤ at → Unproved rule t w at → false ≡ w
  unfolding any_evidence
  unproved_end h k = rw (lines_end rule t at h) at k.gives

  module _ {r : TextLine} {x : Bool} where
    pub unproved_found : x ≡ true → x ≡ line_evidence (take (r.end - r.begin) (drop r.begin t)) → r ≡ line_from rule t at → at < length t → Unproved rule t w at → true ≡ w
    unfolding any_evidence
    unproved_found e p q h k = sym (ap any_evidence (line_step rule t at h q).lines ∙ taken _ _ (sym (told rule t at p q) ∙ e)) ∙ k.gives

    pub unproved_turn : x ≡ false → x ≡ line_evidence (take (r.end - r.begin) (drop r.begin t)) → r ≡ line_from rule t at → at < length t → Unproved rule t w at → Unproved rule t w r.next
    unfolding any_evidence
    unproved_turn e p q h k =
        record { gives = sym (ap any_evidence (line_step rule t at h q).lines ∙ left _ _ (sym (told rule t at p q) ∙ e)) ∙ k.gives }

-- ---- variables

-- the lines that are left add to the words found what makes w of them
pub record Gathered (rule : LineRule) (t : List ℕ) (w : List Bool) (size : ℕ) (found : List Bool) (at : ℕ) : Type 0 where
  pub room : 123 ≤ size
  pub sized : length found ≡ size
  pub gives : all_names (text_lines rule (drop at t)) found ≡ w

pub gathered_start : (rule : LineRule) (t : List ℕ) (found : List Bool) → 123 ≤ length found
    → Gathered rule t (all_names (text_lines rule t) found) (length found) found 0
gathered_start rule t found h = record { room = h; sized = refl; gives = refl }

pub gathered_room : {rule : LineRule} {t : List ℕ} {w found : List Bool} {size at : ℕ} → Gathered rule t w size found at → 123 ≤ length found
gathered_room k = omega (arith, k.room, k.sized)

module _ {rule : LineRule} {t : List ℕ} {w found : List Bool} {size at : ℕ} where
  pub gathered_end : length t ≤ at → Gathered rule t w size found at → found ≡ w
  unfolding all_names
  gathered_end h k = rw (lines_end rule t at h) at k.gives

  pub gathered_turn : {r : TextLine} {f : List Bool} → f ≡ line_names (take (r.end - at) (drop at t)) found → length f ≡ length found → r ≡ line_from rule t at → at < length t
      → Gathered rule t w size found at → Gathered rule t w size f r.next
  unfolding all_names
  gathered_turn {r} {f} e n q h k =
      record {
        room = k.room;
        sized = n ∙ k.sized;
        gives = ap (all_names (text_lines rule (drop r.next t))) e ∙ sym (ap (λ (ls : List (List ℕ)). all_names ls found) (line_step rule t at h q).lines) ∙ k.gives;
      }

-- ---- the resolved dialect

module _ {d : Dialect} (t : List ℕ) where
  module _ {x : Bool} where
    pub auto_tsb : x ≡ true → x ≡ evidence AsGiven t → d ≡ Auto → Tsb ≡ guessed_dialect d t
    unfolding guessed_dialect
    auto_tsb e p a = rw a (sym (taken _ _ (sym p ∙ e)))

    pub auto_v2 : x ≡ false → x ≡ evidence AsGiven t → d ≡ Auto → BasicV2 ≡ guessed_dialect d t
    unfolding guessed_dialect
    auto_v2 e p a = rw a (sym (left _ _ (sym p ∙ e)))

pub as_given : (d : Dialect) (t : List ℕ) → (d ≡ Auto → ⊥) → d ≡ guessed_dialect d t
unfolding guessed_dialect
as_given Auto t n = absurd (n refl)
as_given BasicV2 t n = refl
as_given Tsb t n = refl
as_given Basic35 t n = refl

module _ (d : Dialect) (t : List ℕ) {c : (Result (Unit {0}) Refusal)} where
  pub resolved_fine : {r : Dialect} → r ≡ guessed_dialect d t → c ≡ (Ok tt) → answered c ≡ checked_text t → done r ≡ resolved d t
  unfolding resolved
  resolved_fine q e p = rw (← p, e) (ap done q)

  pub resolved_refused : {x : Refusal} → c ≡ Err x → answered c ≡ checked_text t → refused (numbered x) ≡ resolved d t
  unfolding resolved
  resolved_refused e p = rw (← p, e)

-- ---- the words that are live, and those that are demoted

-- no word is live
abbrev pub quiet_sets : Sets
quiet_sets = record { tsb = false; demoted = none_demoted; basic35 = false; forms = false }

module _ (t : List ℕ) {d : Dialect} where
  pub sets_v2 : d ≡ BasicV2 → quiet_sets ≡ word_sets d t
  unfolding word_sets
  sets_v2 e = rw e

  pub sets_tsb : d ≡ Tsb → record { tsb = true; demoted = none_demoted; basic35 = false; forms = false } ≡ word_sets d t
  unfolding word_sets
  sets_tsb e = rw e

  pub sets_basic35 : d ≡ Basic35 → record { tsb = false; demoted = none_demoted; basic35 = true; forms = false } ≡ word_sets d t
  unfolding word_sets
  sets_basic35 e = rw e

  module _ {x : Bool} where
    pub sets_quiet : x ≡ false → x ≡ evidence AfterCr t → d ≡ Auto → quiet_sets ≡ word_sets d t
    unfolding word_sets
    sets_quiet f r e = rw e (sym (left _ _ (sym r ∙ f)))

    pub sets_guessed : {m : List Bool} → m ≡ all_names (text_lines AfterCr t) none_demoted → x ≡ true → x ≡ evidence AfterCr t → d ≡ Auto
        → record { tsb = true; demoted = m; basic35 = false; forms = false } ≡ word_sets d t
    unfolding word_sets names
    sets_guessed q f r e = rw e (ap (λ (s : List Bool). record { tsb = true; demoted = s; basic35 = false; forms = false }) q ∙ sym (taken _ _ (sym r ∙ f)))

-- ---- the lines of a text, one after the other

module _ (rule : LineRule) (t : List ℕ) {from : ℕ} {r : TextLine} (q : r ≡ line_from rule t from) (h : from < length t) where
  pub line_up : r.begin ≤ r.end
  line_up = (line_step rule t from h q).begins

  pub line_low : from ≤ r.end
  line_low = (line_step rule t from h q).low

  pub line_high : r.end ≤ length t
  line_high = (line_step rule t from h q).high

  pub line_less : length t - r.next < length t - from
  line_less = let s = line_step rule t from h q in omega arith
