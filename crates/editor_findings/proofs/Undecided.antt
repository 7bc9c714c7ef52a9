-- The loop over the lines of a text up to the one that decides; and that there is one exactly where the text's evidence holds.
-- Assumes nothing.
use Prim.Native.Nat.{ℕ, ◌+◌, ◌-◌, ◌≤◌, ◌<◌}
use mathlib.Core.Path.{◌≡◌, refl, sym, ap, ◌∙◌}
use mathlib.Core.Bool.{Bool, true, false}
use mathlib.Core.List.{List, [], ◌∷◌}
use native.Mathlib.Omega.{arith}
use lib.ListN.{length, take, drop}
use mir.Syntax.{w64}
use mir.Val.{Fits}
use Rattle.text_lines.specs.SplitHelpers.{line_from}
use Rattle.text_lines.specs.TextLines.{text_lines}
use Rattle.text_lines.specs.declared.LineRule.{LineRule}
use Rattle.text_lines.specs.declared.TextLine.{TextLine}
use Rattle.text_lines.proofs.Splitting.{line_step, lines_end}
use Rattle.base_ascii.proofs.Choice.{taken, left}
use Rattle.guess_evidence.specs.Evidence.{line_evidence}
use Rattle.guess.specs.Guess.{any_evidence, evidence}
use Rattle.word_search.specs.Find.{word_in}
use Rattle.word_search.specs.declared.Match.{Match}
use Rattle.std.specs.Prelude.{Option, Some, None, is_some}
use Rattle.word_tables.specs.Tsb.{tsb_words}
use Rattle.editor_findings.specs.Deciding.{decided_behind, deciding_line, tsb_length}

-- k lines are passed that decide nothing: those from a place on decide what the text's do, w
pub record Undecided (rule : LineRule) (t : List ℕ) (w : Option ℕ) (at k : ℕ) : Type 0 where
  pub gives : decided_behind k (text_lines rule (drop at t)) ≡ w
  pub few : k ≤ at

pub undecided_start : (rule : LineRule) (t : List ℕ) → Undecided rule t (deciding_line rule t) 0 0
unfolding deciding_line
undecided_start rule t = record { gives = refl; few = omega arith }

module _ {rule : LineRule} {t : List ℕ} {w : Option ℕ} {at k : ℕ} where
  pub undecided_end : length t ≤ at → Undecided rule t w at k → None ≡ w
  unfolding decided_behind
  undecided_end h u = rw (lines_end rule t at h) at u.gives

  pub count_fits : at < length t → Undecided rule t w at k → Fits w64 (length t) → Fits w64 (k + 1)
  count_fits h u f = record { fits = omega (arith, f.fits, u.few) }

  module _ {r : TextLine} {x : Bool} where
    pub undecided_found : x ≡ true → x ≡ line_evidence (take (r.end - at) (drop at t)) → r ≡ line_from rule t at → at < length t → Undecided rule t w at k → Some (k + 1) ≡ w
    unfolding decided_behind
    undecided_found e p q h u = sym (ap (decided_behind k) (line_step rule t at h q).lines ∙ taken _ _ (sym p ∙ e)) ∙ u.gives

    pub undecided_turn : x ≡ false → x ≡ line_evidence (take (r.end - at) (drop at t)) → r ≡ line_from rule t at → at < length t → Undecided rule t w at k → Undecided rule t w r.next (k + 1)
    unfolding decided_behind
    undecided_turn e p q h u =
        record {
          gives = sym (ap (decided_behind k) (line_step rule t at h q).lines ∙ left _ _ (sym p ∙ e)) ∙ u.gives;
          few = let s = line_step rule t at h q in omega (arith, u.few);
        }

-- ---- a line decides exactly where the evidence holds

any_decided : (k : ℕ) (ls : List (List ℕ)) → is_some (decided_behind k ls) ≡ any_evidence ls
unfolding decided_behind any_evidence
any_decided k [] = refl
any_decided k (l ∷ ls) = go (any_decided (k + 1) ls) (line_evidence l)
  where
    go : is_some (decided_behind (k + 1) ls) ≡ any_evidence ls → (x : Bool)
        → is_some (elim x [ true ↦ Some (k + 1) | false ↦ decided_behind (k + 1) ls ]) ≡ elim x [ true ↦ true | false ↦ any_evidence ls ]
    go e true = refl
    go e false = e

pub decided_by_evidence : (rule : LineRule) (t : List ℕ) → is_some (deciding_line rule t) ≡ evidence rule t
unfolding deciding_line evidence
decided_by_evidence rule t = any_decided 0 (text_lines rule t)

-- ---- the length of a TSB word

module _ (t : List ℕ) {m : Option Match} where
  pub length_found : {n : Match} → m ≡ Some n → m ≡ word_in tsb_words t → n.used ≡ tsb_length t
  unfolding tsb_length
  length_found e q = rw (sym q ∙ e)

  pub length_none : m ≡ None → m ≡ word_in tsb_words t → 0 ≡ tsb_length t
  unfolding tsb_length
  length_none e q = rw (sym q ∙ e)
