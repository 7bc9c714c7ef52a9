-- The sentence of a refusal, and the line that a person reads.
-- Assumes nothing.
use Rattle.std.specs.Prelude.{ℕ, zero, suc, true, false, cond, List, [], ◌∷◌, ◌++◌, eqb}
use Rattle.base_refusals.specs.declared.Code.{Code}
use Rattle.word_search.specs.Spelling.{bytes_of}
use Rattle.base_steps.specs.Decimal.{decimal}
use Rattle.text_places.specs.Place.{text_place}
use Rattle.say_put.specs.Rows.{filled}
use Rattle.say_sentences.specs.Rows.{rows, placed_row}

-- what stands behind so many lines
unfoldable pub behind_rows : ℕ → List ℕ → List ℕ
behind_rows zero t = t
behind_rows (suc n) [] = []
behind_rows (suc n) (b ∷ s) = elim (eqb b 0x0A) [ true ↦ behind_rows n s | false ↦ behind_rows (suc n) s ]

-- the sentence of a number, with two values; 0, a result, has none
unfoldable pub sentence_of : ℕ → ℕ → ℕ → List ℕ
sentence_of zero a b = []
sentence_of (suc n) a b = filled (behind_rows n rows) a b 0

unfoldable pub sentence : Code → List ℕ
sentence c = sentence_of c.number c.first c.second

-- the sentence where the text is at hand: an offset in it is told as a line and a column
unfoldable pub placed_sentence : List ℕ → Code → List ℕ
placed_sentence text c = cond (eqb c.number 2) (filled placed_row (text_place text c.first).line (text_place text c.first).column 0) (sentence c)

-- what was read stands in front, the refusal's number behind
unfoldable pub name_first : List ℕ → List ℕ
name_first name = name ++ bytes_of ": "

unfoldable pub number_last : ℕ → List ℕ
number_last n = bytes_of " (refusal " ++ (decimal n ++ (0x29 ∷ 0x0A ∷ []))

-- the line that a person reads
unfoldable pub message : List ℕ → List ℕ → Code → List ℕ
message name text c = name_first name ++ (placed_sentence text c ++ number_last c.number)
