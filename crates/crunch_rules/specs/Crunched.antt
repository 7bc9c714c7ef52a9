-- A text, crunched (document 01, "Text lines", "Numbers of refusal": "Crunching checks 1, 2, then text lines in order, each for 3, 4, 5,
-- and last 6"; document 02, No. 1: under the machine profile 15 to 18 "in this order after 4 at each text line .., then 5"): the numbers and
-- bodies of its nonblank lines, and the image laid out from them.
-- Assumes nothing.
use Rattle.std.specs.Prelude.{ℕ, suc, Bool, true, false, cond, List, [], ◌∷◌, ◌++◌, leb}
use Rattle.base_refusals.specs.Answer.{Answer, done, refused, map_done, and_then}
use Rattle.base_refusals.specs.Numbers.{missing_line_number, line_number_out_of_range, address_overflow}
use Rattle.word_match.specs.Sets.{with_forms}
use Rattle.text_lines.specs.declared.LineRule.TheVariants.{AfterCr}
use Rattle.text_domain.specs.Domain.{checked_text}
use Rattle.text_numbers.specs.Numbering.{ReadLine, blank_line, missing_number, number_too_high, numbered_text, read_line}
use Rattle.text_lines.specs.TextLines.{text_lines}
use Rattle.guess.specs.Guess.{word_sets}
use Rattle.body_rules.specs.Lexicon.{Lexicon, lexicon}
use Rattle.body.specs.Body.{crunched_from, crunched_body}
use Rattle.image_readers.specs.NumberedBody.{NumberedBody}
use Rattle.image_layout.specs.Layout.{end_address, image_of}
use Rattle.crunch_profile.specs.Profile.{line_allowed, allowed, least_behind}
use Rattle.crunch_rules.specs.declared.Options.{Options}

-- the lines of the image that the k-th text line gives: one, or none where it is blank
abbrev pub lines_read : Lexicon → ℕ → ReadLine → Answer (List NumberedBody)
lines_read words k blank_line = done []
lines_read words k missing_number = refused (missing_line_number k)
lines_read words k (number_too_high value) = refused (line_number_out_of_range k value)
lines_read words k (numbered_text number text) = done (record { number = number; body = crunched_body words text } ∷ [])

unfoldable pub text_line : Lexicon → ℕ → List ℕ → Answer (List NumberedBody)
unfolding read_line crunched_from
text_line words k line = lines_read words k (read_line line)

-- "0xFFFF is the last link allowed": the address behind lines that stand at an address
unfoldable pub last_link : ℕ → List NumberedBody → Answer ℕ
unfolding end_address
last_link address ls = elim (leb (end_address address ls) 0xFFFF) [ true ↦ done (end_address address ls) | false ↦ refused address_overflow ]

-- the same lines, or the profile's refusal where it is asked for; `least` is the least number that may stand there
unfoldable pub line_under : Bool → Lexicon → ℕ → ℕ → List ℕ → Answer (List NumberedBody)
unfolding text_line line_allowed
line_under profile words k least line =
    and_then (text_line words k line) (λ new. map_done (λ _. new) (cond profile (allowed k least new) (done tt)))

-- the lines of the image from the k-th text line on: the next one stands at an address, and may have this least number
unfoldable pub crunch_lines : Bool → Lexicon → ℕ → ℕ → ℕ → List (List ℕ) → Answer (List NumberedBody)
unfolding line_under last_link
crunch_lines profile words k least address [] = done []
crunch_lines profile words k least address (line ∷ lines) =
    and_then (line_under profile words k least line) (λ new.
    and_then (last_link address new) (λ next.
    map_done (λ ls. new ++ ls) (crunch_lines profile words (suc k) (least_behind least new) next lines)))

-- the words that are looked for in a text, and whether their short forms are (document 02, No. 7)
abbrev pub text_lexicon : Options → List ℕ → Lexicon
text_lexicon o text = lexicon (with_forms o.forms (word_sets o.dialect text))

-- the numbers and bodies of a text's nonblank lines
unfoldable pub crunched_lines : Options → List ℕ → Answer (List NumberedBody)
unfolding checked_text crunch_lines text_lines word_sets
crunched_lines o text =
    and_then (checked_text text) (λ _. crunch_lines o.profile (text_lexicon o text) 1 0 o.load (text_lines AfterCr text))

-- the image of a text
unfoldable pub crunched : Options → List ℕ → Answer (List ℕ)
unfolding image_of crunched_lines
crunched o text = map_done (image_of o.load) (crunched_lines o text)
