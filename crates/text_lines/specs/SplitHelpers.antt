-- For the contracts of `end_mark`, `behind_run`, `long_run`, `behind_fours` and `next_line` alone: the lines where they stand. proofs/Splitting.antt
-- shows that these are the lines of TextLines.antt, one after the other.
-- Assumes nothing.
use Rattle.std.specs.Prelude.{ℕ, zero, suc, ◌+◌, ◌≤◌, ◌<◌, cond, List, [], ◌∷◌, length, get_or, drop}
use Rattle.base_ascii.specs.Search.{equals, starts_with, is_blank, front}
use Rattle.text_lines.specs.declared.LineRule.{LineRule}
use Rattle.text_lines.specs.declared.LineRule.TheVariants.{AsGiven, AfterCr}
use Rattle.text_lines.specs.declared.TextLine.{TextLine}

-- how many bytes the line end in front takes, 0 where there is none
unfoldable pub end_mark : LineRule → List ℕ → ℕ
unfolding starts_with
end_mark rule t =
    cond (starts_with 0x0A t) 1
    (cond (starts_with 0x0D t) (cond (starts_with 0x0A (drop 1 t)) 2 (elim rule [ AsGiven ↦ 0 | AfterCr ↦ 1 ]))
    0)

-- how many bytes stand before the first line end
unfoldable pub line_length : LineRule → List ℕ → ℕ
unfolding end_mark
line_length rule [] = 0
line_length rule (b ∷ s) = elim (end_mark rule (b ∷ s)) [ zero ↦ suc (line_length rule s) | suc n ↦ 0 ]

-- how many bytes the first line takes with its end
abbrev pub line_used : LineRule → List ℕ → ℕ
line_used rule t = line_length rule t + end_mark rule (drop (line_length rule t) t)

-- the line that begins at a place: where its blanks in front end, where it ends, and where the next one begins
unfoldable pub line_from : LineRule → List ℕ → ℕ → TextLine
unfolding line_length front
line_from rule t from =
    record { begin = from + front is_blank (drop from t); end = from + line_length rule (drop from t); next = from + line_used rule (drop from t) }

-- where the run of one byte ends that stands from a place on
abbrev pub run_end : ℕ → List ℕ → ℕ → ℕ
run_end b t i = i + front (equals b) (drop i t)

-- each byte from a place up to another is above CR, so that none ends a line
pub record AboveCr (t : List ℕ) (from to : ℕ) : Type 0 where
  pub up : from ≤ to
  pub above : (k : ℕ) → from ≤ k → k < to → (k < length t) × (0x0D < get_or t k 0)
