-- The reader by links (document 01, "Reading and listing": "By links").
-- Assumes nothing.
use Rattle.std.specs.Prelude.{ℕ, ◌+◌, ◌-◌, cond, List, length, get_or, ltb, eqb}
use Rattle.image_bytes.specs.ImageBytes.{target_at}
use Rattle.base_refusals.specs.Answer.{Answer, done, refused}
use Rattle.base_refusals.specs.Numbers.{missing_end, link_backward, link_outside, link_no_end}
use Rattle.image_readers.specs.declared.Line.{Line}
use Rattle.image_readers.specs.Image.{line_at, sized}
use Rattle.std.specs.Prelude.{Option, Some, None}

-- "The body is the bytes from p + 4 up to t - 1, and t is the next offset"
abbrev pub linked_line : List ℕ → ℕ → ℕ → Line
linked_line s p t = line_at s p (t - 1) t

-- "t below p + 5 is 11; t beyond the image's length is 12; byte t - 1 not 00 is 13"
abbrev pub follow : List ℕ → ℕ → ℕ → Answer (Option Line)
follow s p t =
    cond (ltb t (p + 5)) (refused (link_backward p))
    (cond (ltb (length s) t) (refused (link_outside p))
    (cond (eqb (get_or s (t - 1) 0) 0) (done (Some (linked_line s p t)))
    (refused (link_no_end p))))

-- "at offset p, fewer than two bytes left is 10; high byte 0 is the end"
unfoldable pub link_step : List ℕ → ℕ → Answer (Option Line)
link_step s p =
    sized s
    (cond (ltb (length s) (p + 2)) (refused (missing_end p))
    (cond (eqb (get_or s (p + 1) 0) 0) (done None)
    (follow s p (target_at s p))))
