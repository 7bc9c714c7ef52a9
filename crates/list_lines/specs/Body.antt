-- The listing of a body and of a line (document 01, "Reading and listing": "A listed line is the number, a space, the body, LF"). What a
-- walk over a body heeds is data.
-- Assumes nothing.
use Rattle.std.specs.Prelude.{ℕ, List, [], ◌∷◌, ◌++◌}
use Rattle.image_units.specs.declared.Rules.{Rules}
use Rattle.image_units.specs.Units.{units_from, units_of}
use Rattle.list_spelling.specs.Pieces.{spelt}
use Rattle.base_steps.specs.Decimal.{decimal}

unfoldable pub body_listing : Rules → List ℕ → List ℕ
unfolding units_from spelt
body_listing rules body = spelt (units_of rules body)

unfoldable pub line_listing : Rules → ℕ → List ℕ → List ℕ
unfolding decimal body_listing
line_listing rules number body = decimal number ++ (0x20 ∷ (body_listing rules body ++ (0x0A ∷ [])))
