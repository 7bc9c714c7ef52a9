-- The line and the column of an offset in a text, both from 1. Lines end as in crunching: CR LF, LF and a lone CR end
-- one. A column is a character, so the second byte of the letter pi, CF 80, takes none.
-- Assumes nothing.
use Rattle.std.specs.Prelude.{ℕ, zero, suc, ◌+◌, Bool, cond, not, ◌&&◌, ◌||◌, List, [], ◌∷◌, eqb, get_or}
use Rattle.text_places.specs.declared.Place.{Place}

-- a byte ends a line in front of s: LF, and CR with no LF past it
unfoldable pub ends_line : ℕ → List ℕ → Bool
ends_line b s = eqb b 0x0A || (eqb b 0x0D && not (eqb (get_or s 0 0) 0x0A))

-- the place behind a byte, which stands in front of s
unfoldable pub place_behind : Place → ℕ → List ℕ → Place
unfolding ends_line
place_behind p b s =
    cond (ends_line b s) (record { line = p.line + 1; column = 1 })
    (cond (eqb b 0x80) p (record { line = p.line; column = p.column + 1 }))

-- the place so many bytes on
unfoldable pub place_from : Place → ℕ → List ℕ → Place
unfolding place_behind
place_from p zero t = p
place_from p (suc n) [] = p
place_from p (suc n) (b ∷ s) = place_from (place_behind p b s) n s

unfoldable pub text_place : List ℕ → ℕ → Place
unfolding place_from
text_place t offset = place_from (record { line = 1; column = 1 }) offset t
