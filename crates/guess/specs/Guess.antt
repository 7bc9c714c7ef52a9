-- The dialect of a text and the TSB words that are live in it (document 01, "Guessing the dialect"; document 02, No. 5: "Auto never guesses
-- it", "No TSB word is live under it").
-- Assumes nothing.
use Rattle.std.specs.Prelude.{ℕ, Bool, true, false, List, [], ◌∷◌, replicate}
use Rattle.base_refusals.specs.Answer.{Answer, done, and_then}
use Rattle.word_dialects.specs.declared.Dialect.{Dialect}
use Rattle.word_dialects.specs.declared.Dialect.TheVariants.{Auto, BasicV2, Tsb, Basic35}
use Rattle.word_match.specs.declared.sets.Sets.{Sets}
use Rattle.text_domain.specs.Domain.{checked_text}
use Rattle.text_lines.specs.TextLines.{text_lines}
use Rattle.text_lines.specs.declared.LineRule.{LineRule}
use Rattle.text_lines.specs.declared.LineRule.TheVariants.{AsGiven, AfterCr}
use Rattle.guess_evidence.specs.Evidence.{line_evidence}
use Rattle.guess_variables.specs.Variables.{line_names}

-- ---- over the lines of a text

-- the first line that proves it decides
unfoldable pub any_evidence : List (List ℕ) → Bool
unfolding line_evidence
any_evidence [] = false
any_evidence (l ∷ ls) = elim (line_evidence l) [ true ↦ true | false ↦ any_evidence ls ]

unfoldable pub evidence : LineRule → List ℕ → Bool
unfolding any_evidence text_lines
evidence rule t = any_evidence (text_lines rule t)

-- each line adds to the words found before it
unfoldable pub all_names : List (List ℕ) → List Bool → List Bool
unfolding line_names
all_names [] found = found
all_names (l ∷ ls) found = all_names ls (line_names l found)

-- no word is demoted
abbrev pub none_demoted : List Bool
none_demoted = replicate 123 false

unfoldable pub names : LineRule → List ℕ → List Bool
unfolding all_names text_lines
names rule t = all_names (text_lines rule t) none_demoted

-- ---- the resolved dialect: the text as given

unfoldable pub guessed_dialect : Dialect → List ℕ → Dialect
unfolding evidence
guessed_dialect Auto t = elim (evidence AsGiven t) [ true ↦ Tsb | false ↦ BasicV2 ]
guessed_dialect BasicV2 t = BasicV2
guessed_dialect Tsb t = Tsb
guessed_dialect Basic35 t = Basic35

unfoldable pub resolved : Dialect → List ℕ → Answer Dialect
unfolding checked_text guessed_dialect
resolved d t = and_then (checked_text t) (λ _. done (guessed_dialect d t))

-- ---- the words that are live, and those that are demoted: the text after CR handling (document 01: "Tsb makes every TSB word live,
-- BasicV2 none. Auto makes none live unless tsb_statement_evidence holds; then words found by tsb_words_used_as_variables are demoted
-- and the others live."; document 02, No. 7: "The dialect guess never uses short forms")

unfoldable pub word_sets : Dialect → List ℕ → Sets
unfolding evidence names
word_sets Tsb t = record { tsb = true; demoted = none_demoted; basic35 = false; forms = false }
word_sets BasicV2 t = record { tsb = false; demoted = none_demoted; basic35 = false; forms = false }
word_sets Basic35 t = record { tsb = false; demoted = none_demoted; basic35 = true; forms = false }
word_sets Auto t =
    elim (evidence AfterCr t) [
      | true ↦ record { tsb = true; demoted = names AfterCr t; basic35 = false; forms = false }
      | false ↦ record { tsb = false; demoted = none_demoted; basic35 = false; forms = false }
    ]
