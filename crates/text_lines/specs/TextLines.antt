-- The lines of a text (document 01, "Text lines": "CR LF, then a lone CR, becomes LF. A final LF opens no further line."; "Guessing the
-- dialect": "Crunching scans the text after CR handling; resolved_dialect scans it as given").
-- A text as given is split as the Rust's str::lines does: a lone CR stays in its line.
-- Assumes nothing.
use Rattle.std.specs.Prelude.{ℕ, true, false, cond, ◌&&◌, List, [], ◌∷◌, map, eqb}
use Rattle.base_ascii.specs.Search.{starts_with}
use Rattle.text_lines.specs.declared.LineRule.{LineRule}
use Rattle.text_lines.specs.declared.LineRule.TheVariants.{AsGiven, AfterCr}

-- CR LF becomes LF
unfoldable pub cr_lf : List ℕ → List ℕ
unfolding starts_with
cr_lf [] = []
cr_lf (b ∷ s) = elim (eqb b 0x0D && starts_with 0x0A s) [ true ↦ cr_lf s | false ↦ b ∷ cr_lf s ]

-- a lone CR becomes LF, where the rule says so
unfoldable pub lone_cr : LineRule → ℕ → ℕ
lone_cr AsGiven b = b
lone_cr AfterCr b = cond (eqb b 0x0D) 0x0A b

-- a byte in front of the first line
unfoldable pub onto : ℕ → List (List ℕ) → List (List ℕ)
onto b [] = (b ∷ []) ∷ []
onto b (l ∷ ls) = (b ∷ l) ∷ ls

-- LF ends a line, and a final LF opens no further one
unfoldable pub at_lf : List ℕ → List (List ℕ)
unfolding onto
at_lf [] = []
at_lf (b ∷ s) = elim (eqb b 0x0A) [ true ↦ [] ∷ at_lf s | false ↦ onto b (at_lf s) ]

unfoldable pub text_lines : LineRule → List ℕ → List (List ℕ)
unfolding cr_lf lone_cr at_lf
text_lines rule t = at_lf (map (lone_cr rule) (cr_lf t))
