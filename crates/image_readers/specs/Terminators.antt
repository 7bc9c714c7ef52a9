-- The reader by terminators (document 01, "Reading and listing": "By terminators").
-- Assumes nothing.
use Rattle.std.specs.Prelude.{ℕ, ◌+◌, min, cond, List, length, get_or, leb, ltb, eqb}
use Rattle.image_bytes.specs.ImageBytes.{body_end}
use Rattle.base_refusals.specs.Answer.{Answer, done, refused}
use Rattle.base_refusals.specs.Numbers.{unexpected_eof}
use Rattle.image_readers.specs.declared.Line.{Line}
use Rattle.image_readers.specs.Image.{line_at, sized}
use Rattle.std.specs.Prelude.{Option, Some, None}

-- "the next offset being behind it", or the image's end
abbrev pub terminated_line : List ℕ → ℕ → Line
terminated_line s p = line_at s p (body_end s p) (min (body_end s p + 1) (length s))

-- "The end is the image's end or a link whose high byte is 0. One lone byte, or a number cut short, is 9"; an offset beyond the
-- length is the end
unfoldable pub terminator_step : List ℕ → ℕ → Answer (Option Line)
terminator_step s p =
    sized s
    (cond (leb (length s) p) (done None)
    (cond (ltb (length s) (p + 2)) (refused unexpected_eof)
    (cond (eqb (get_or s (p + 1) 0) 0) (done None)
    (cond (ltb (length s) (p + 4)) (refused unexpected_eof)
    (done (Some (terminated_line s p)))))))
