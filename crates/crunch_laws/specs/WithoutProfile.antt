-- Crunching in which no profile occurs (document 02, No. 1: "demand 2 is unchanged outside the profile"): document 01's lines one behind the other,
-- with their links.
-- Assumes nothing.
use Rattle.std.specs.Prelude.{ℕ, suc, Bool, List, [], ◌∷◌, ◌++◌}
use Rattle.base_refusals.specs.Answer.{Answer, done, map_done, and_then}
use Rattle.word_match.specs.Sets.{with_forms}
use Rattle.word_dialects.specs.declared.Dialect.{Dialect}
use Rattle.text_lines.specs.declared.LineRule.TheVariants.{AfterCr}
use Rattle.text_domain.specs.Domain.{checked_text}
use Rattle.text_lines.specs.TextLines.{text_lines}
use Rattle.guess.specs.Guess.{word_sets}
use Rattle.body_rules.specs.Lexicon.{Lexicon, lexicon}
use Rattle.image_readers.specs.NumberedBody.{NumberedBody}
use Rattle.crunch_rules.specs.Crunched.{text_line, last_link}

-- the lines of the image from the k-th text line on, at an address
unfoldable pub plain_lines : Lexicon → ℕ → ℕ → List (List ℕ) → Answer (List NumberedBody)
unfolding text_line last_link
plain_lines words k address [] = done []
plain_lines words k address (line ∷ lines) =
    and_then (text_line words k line) (λ new.
    and_then (last_link address new) (λ next.
    map_done (λ ls. new ++ ls) (plain_lines words (suc k) next lines)))

-- by load address and dialect, with short forms or without
unfoldable pub crunched_plain : ℕ → Dialect → Bool → List ℕ → Answer (List NumberedBody)
unfolding checked_text plain_lines text_lines word_sets
crunched_plain load dialect forms text =
    and_then (checked_text text) (λ _. plain_lines (lexicon (with_forms forms (word_sets dialect text))) 1 load (text_lines AfterCr text))
