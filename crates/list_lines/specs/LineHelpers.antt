-- For `measure_line`, `put_head` and `put_rest` alone: a line's listing in two parts, and how long it can be.
-- Assumes nothing.
use Rattle.std.specs.Prelude.{ℕ, ◌+◌, ◌*◌, ◌≤◌, ◌≡◌, List, [], ◌∷◌, ◌++◌, length}
use Rattle.image_units.specs.declared.Rules.{Rules}
use Rattle.list_lines.specs.Body.{body_listing, line_listing}
use Rattle.base_steps.specs.Decimal.{decimal}

-- the number and the space
unfoldable pub head_listing : ℕ → List ℕ
unfolding decimal
head_listing number = decimal number ++ (0x20 ∷ [])

-- the body and the line's end
unfoldable pub rest_listing : Rules → List ℕ → List ℕ
unfolding body_listing
rest_listing rules body = body_listing rules body ++ (0x0A ∷ [])

-- n is the length of a line's listing, and not too long
pub record LineLength (rules : Rules) (number : ℕ) (body : List ℕ) (n : ℕ) : Type 0 where
  pub is : n ≡ length (line_listing rules number body)
  pub short : n ≤ 7 + 9 * length body
