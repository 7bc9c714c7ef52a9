-- The line that decides the dialect of a text (document 01, "Guessing the dialect").
-- Assumes nothing.
use Rattle.std.specs.Prelude.{ℕ, ◌+◌, true, false, List, [], ◌∷◌}
use Rattle.word_search.specs.Find.{word_in}
use Rattle.std.specs.Prelude.{Option, Some, None}
use Rattle.word_tables.specs.Tsb.{tsb_words}
use Rattle.text_lines.specs.TextLines.{text_lines}
use Rattle.text_lines.specs.declared.LineRule.{LineRule}
use Rattle.guess_evidence.specs.Evidence.{line_evidence}

-- the first line that proves it, where so many lines stand before them
unfoldable pub decided_behind : ℕ → List (List ℕ) → Option ℕ
unfolding line_evidence
decided_behind k [] = None
decided_behind k (l ∷ ls) = elim (line_evidence l) [ true ↦ Some (k + 1) | false ↦ decided_behind (k + 1) ls ]

unfoldable pub deciding_line : LineRule → List ℕ → Option ℕ
unfolding decided_behind text_lines
deciding_line rule t = decided_behind 0 (text_lines rule t)

-- how many bytes the TSB word takes that a text begins with; 0 where there is none
unfoldable pub tsb_length : List ℕ → ℕ
unfolding word_in tsb_words
tsb_length t = elim (word_in tsb_words t) [ Some m ↦ m.used | None ↦ 0 ]
