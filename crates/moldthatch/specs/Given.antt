-- What callers in other languages ask for: options as numbers, a dialect by its number.
-- Assumes nothing.
use Rattle.std.specs.Prelude.{ℕ, List}
use Rattle.std.specs.Prelude.{Option}
use Rattle.base_refusals.specs.Answer.{Answer, and_then}
use Rattle.word_dialects.specs.Dialects.{by_number}
use Rattle.word_dialects.specs.declared.Dialect.{Dialect}
use Rattle.guess.specs.Guess.{resolved}
use Rattle.list_image.specs.Listing.{listing_under}
use Rattle.crunch_rules.specs.declared.MeasuredLine.{MeasuredLine}
use Rattle.crunch_rules.specs.Crunched.{crunched}
use Rattle.crunch_rules.specs.Measured.{line_measured}
use Rattle.library_numbers.specs.declared.CrunchNumbers.{CrunchNumbers}
use Rattle.library_numbers.specs.declared.ListNumbers.{ListNumbers}
use Rattle.library_numbers.specs.Choices.{crunch_options, list_options}

abbrev pub crunched_with : CrunchNumbers → List ℕ → Answer (List ℕ)
crunched_with o text = and_then (by_number o.dialect) (λ d. crunched (crunch_options o d) text)

-- without the profile and without short forms
abbrev pub crunched_by : ℕ → ℕ → List ℕ → Answer (List ℕ)
crunched_by dialect load text = crunched_with (record { load = load; dialect = dialect; profile = 0; forms = 0 }) text

-- the line at a place of the image that a text would have
abbrev pub measured_with : CrunchNumbers → ℕ → List ℕ → Answer (Option MeasuredLine)
measured_with o place text = and_then (by_number o.dialect) (λ d. line_measured (crunch_options o d) place text)

abbrev pub listed_with : ListNumbers → List ℕ → Answer (List ℕ)
listed_with o image = and_then (by_number o.dialect) (λ d. listing_under (list_options o d) image)

-- as document 02, No. 5, has it: remarks are bytes like others
abbrev pub listed_by : ℕ → List ℕ → Answer (List ℕ)
listed_by dialect image = listed_with (record { dialect = dialect; remarks = 0; links = 0 }) image

-- the dialect by which a text is taken
abbrev pub resolved_by : ℕ → List ℕ → Answer Dialect
resolved_by dialect text = and_then (by_number dialect) (λ d. resolved d text)
