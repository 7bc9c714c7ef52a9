-- The listing of an image (document 01, "Reading and listing", "Numbers of refusal": "Listing checks 7, 8, 9, then 6"): the listings of
-- the lines that a reader finds, one behind the other.
-- Assumes nothing.
use Rattle.std.specs.Prelude.{ℕ, true, false, List, [], ◌∷◌, ◌++◌}
use Rattle.base_refusals.specs.Answer.{Answer, map_done}
use Rattle.image_readers.specs.declared.By.{By}
use Rattle.image_readers.specs.declared.By.TheVariants.{Terminators}
use Rattle.image_readers.specs.Bodies.{bodies_from, bodies_of}
use Rattle.image_readers.specs.NumberedBody.{NumberedBody}
use Rattle.image_readers.specs.Readers.{step_by}
use Rattle.image_units.specs.declared.Rules.{Rules}
use Rattle.list_options.specs.Modes.{heeds_prefix, rules_under}
use Rattle.list_options.specs.declared.ListOptions.{ListOptions}
use Rattle.list_lines.specs.Body.{line_listing}

unfoldable pub lines_listing : Rules → List NumberedBody → List ℕ
unfolding line_listing
lines_listing rules [] = []
lines_listing rules (l ∷ ls) = line_listing rules l.number l.body ++ lines_listing rules ls

-- the lines that a reader finds, and what a walk over a body heeds
unfoldable pub listing_by : By → Rules → List ℕ → Answer (List ℕ)
unfolding lines_listing bodies_from step_by
listing_by by rules image = map_done (lines_listing rules) (bodies_of (step_by by) image)

-- 64 is a prefix; remarks and DATA are bytes like others
abbrev pub original_rules : Rules
original_rules = record { prefix = true; remarks = false; items = false; basic35 = false }

-- the listing of the original: the lines by terminators
unfoldable pub listing : List ℕ → Answer (List ℕ)
unfolding listing_by
listing image = listing_by Terminators original_rules image

-- as the options ask for it
unfoldable pub listing_under : ListOptions → List ℕ → Answer (List ℕ)
unfolding listing_by heeds_prefix
listing_under o image = listing_by o.by (rules_under o) image
