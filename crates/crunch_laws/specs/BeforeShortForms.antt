-- Crunching as it was before there were short forms: document 01's steps, with the words of BASIC 3.5 (document 02, No. 5), and over them the same bodies, lines and image
-- (document 02, No. 7: "With the option off, each answer is what it was").
-- Assumes nothing.
use Rattle.std.specs.Prelude.{ℕ, suc, Bool, true, false, cond, List, [], ◌∷◌, ◌++◌, eqb, length}
use Rattle.base_steps.specs.Again.{again}
use Rattle.base_refusals.specs.Answer.{Answer, done, refused, map_done, and_then}
use Rattle.base_refusals.specs.Numbers.{missing_line_number, line_number_out_of_range}
use Rattle.std.specs.Prelude.{Some, None}
use Rattle.word_match.specs.Sets.{live_word, plain_word}
use Rattle.word_dialects.specs.declared.Dialect.{Dialect}
use Rattle.text_lines.specs.declared.LineRule.TheVariants.{AfterCr}
use Rattle.text_domain.specs.Domain.{checked_text}
use Rattle.text_numbers.specs.Numbering.{ReadLine, blank_line, missing_number, number_too_high, numbered_text, read_line}
use Rattle.text_lines.specs.TextLines.{text_lines}
use Rattle.guess.specs.Guess.{word_sets}
use Rattle.body.specs.Body.{move_then}
use Rattle.body_rules.specs.Lexicon.{Lexicon, lexicon}
use Rattle.body_rules.specs.Steps.{first, one, token, opened, sign_step, string_step, data_step, data_quote_step}
use Rattle.body_rules.specs.declared.Mode.{Mode}
use Rattle.body_rules.specs.declared.Mode.TheVariants.{Plain, String, Remark, Data, DataQuote}
use Rattle.body_rules.specs.declared.Move.{Move}
use Rattle.image_readers.specs.NumberedBody.{NumberedBody}
use Rattle.crunch_profile.specs.Profile.{line_allowed, allowed, least_behind}
use Rattle.crunch_rules.specs.Crunched.{last_link}

-- "Plain, first that applies: a quote opens a string; a live TSB word ..; a V2 word ..; one of + - * / ^ > = <; pi; ?; a-z raised; else
-- copied" (document 01, "Crunching one body")
unfoldable pub plain_before : Lexicon → List ℕ → Move
unfolding live_word plain_word opened sign_step
plain_before l t =
    elim (eqb (first t) 0x22) [
      | true ↦ one 0x22 String
      | false ↦ elim (live_word l.sets l.tsb t) [
        | Some m ↦ token true m.token Plain m.used
        | None ↦ elim (plain_word l.sets l.v2 l.basic35 t) [ Some m ↦ token false m.token (opened m.token) m.used | None ↦ sign_step l t ]
      ]
    ]

unfoldable pub step_before : Lexicon → Mode → List ℕ → Move
unfolding plain_before string_step data_step data_quote_step
step_before l Plain t = plain_before l t
step_before l String t = string_step t
step_before l Remark t = one (first t) Remark
step_before l Data t = data_step (first t)
step_before l DataQuote t = data_quote_step (first t)

-- a body
unfoldable pub on_before : Lexicon → (Mode × List ℕ → List ℕ) → Mode × List ℕ → List ℕ
unfolding step_before
on_before l more x = elim x.1 [ [] ↦ [] | b ∷ s ↦ move_then more x.1 (step_before l x.0 x.1) ]

unfoldable pub body_before : Lexicon → List ℕ → List ℕ
unfolding again on_before
body_before l t = again [] (on_before l) (suc (length t)) (Plain, t)

-- the lines of a text
abbrev pub line_before : Lexicon → ℕ → ReadLine → Answer (List NumberedBody)
line_before words k blank_line = done []
line_before words k missing_number = refused (missing_line_number k)
line_before words k (number_too_high value) = refused (line_number_out_of_range k value)
line_before words k (numbered_text number text) = done (record { number = number; body = body_before words text } ∷ [])

-- where the machine profile is asked for, if it allows them
unfoldable pub line_under_before : Bool → Lexicon → ℕ → ℕ → List ℕ → Answer (List NumberedBody)
unfolding read_line body_before line_allowed
line_under_before profile words k least line =
    and_then (line_before words k (read_line line)) (λ new. map_done (λ _. new) (cond profile (allowed k least new) (done tt)))

unfoldable pub lines_before : Bool → Lexicon → ℕ → ℕ → ℕ → List (List ℕ) → Answer (List NumberedBody)
unfolding line_under_before last_link
lines_before profile words k least address [] = done []
lines_before profile words k least address (line ∷ lines) =
    and_then (line_under_before profile words k least line) (λ new.
    and_then (last_link address new) (λ next.
    map_done (λ ls. new ++ ls) (lines_before profile words (suc k) (least_behind least new) next lines)))

unfoldable pub crunched_before : Bool → ℕ → Dialect → List ℕ → Answer (List NumberedBody)
unfolding checked_text lines_before text_lines word_sets
crunched_before profile load dialect text =
    and_then (checked_text text) (λ _. lines_before profile (lexicon (word_sets dialect text)) 1 0 load (text_lines AfterCr text))
