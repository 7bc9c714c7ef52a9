-- For helpers of the passes over a text alone: what a text in the domain and a line of it give, for any words.
-- Assumes nothing.
use Rattle.std.specs.Prelude.{ℕ, Bool, List, []}
use Rattle.base_refusals.specs.Answer.{Answer, done, refused, map_done, and_then}
use Rattle.text_lines.specs.declared.LineRule.TheVariants.{AfterCr}
use Rattle.text_lines.specs.TextLines.{text_lines}
use Rattle.body_rules.specs.Lexicon.{Lexicon}
use Rattle.image_readers.specs.NumberedBody.{NumberedBody}
use Rattle.image_layout.specs.Layout.{image_of}
use Rattle.crunch_rules.specs.Crunched.{line_under, last_link, crunch_lines}

-- the image of a text that is in the domain
unfoldable pub text_image : Bool → Lexicon → ℕ → List ℕ → Answer (List ℕ)
text_image profile words load text = map_done (image_of load) (crunch_lines profile words 1 0 load (text_lines AfterCr text))

-- the address behind the k-th text line
unfoldable pub address_behind : Bool → Lexicon → ℕ → ℕ → ℕ → List ℕ → Answer ℕ
address_behind profile words k least address line = and_then (line_under profile words k least line) (last_link address)

-- the lines that a text line gives where it is not refused
abbrev pub given : Answer (List NumberedBody) → List NumberedBody
given (done ls) = ls
given (refused n) = []
