-- The bodies of an image's lines (document 01, "Reading and listing": "A line's body is handed back as that part of the caller's
-- image, or an empty part where no line is"), and the list of an image's numbers and bodies, by either reader.
-- Assumes nothing.
use Rattle.std.specs.Prelude.{ℕ, ◌-◌, List, [], map, take, drop}
use Rattle.base_refusals.specs.Answer.{Answer, done, refused, map_done}
use Rattle.image_readers.specs.declared.Line.{Line}
use Rattle.image_readers.specs.Lines.{Reader, lines_from}
use Rattle.image_readers.specs.NumberedBody.{NumberedBody}
use Rattle.std.specs.Prelude.{Option, Some, None}

-- the bytes of an image from a body's first offset up to the one behind its last
abbrev pub body_of : List ℕ → Line → List ℕ
body_of s l = take (l.to - l.from) (drop l.from s)

abbrev pub numbered_body : List ℕ → Line → NumberedBody
numbered_body s l = record { number = l.number; body = body_of s l }

-- the body of what a step found, and nothing where it found no line
abbrev pub body_found : List ℕ → Answer (Option Line) → List ℕ
body_found s (done (Some l)) = body_of s l
body_found s (done None) = []
body_found s (refused n) = []

-- the body of the line at p
abbrev pub body_at : Reader → List ℕ → ℕ → List ℕ
body_at step s p = body_found s (step s p)

-- the numbers and bodies from p on
unfoldable pub bodies_from : Reader → List ℕ → ℕ → Answer (List NumberedBody)
unfolding lines_from
bodies_from step s p = map_done (map (numbered_body s)) (lines_from step s p)

-- the numbers and bodies of an image
abbrev pub bodies_of : Reader → List ℕ → Answer (List NumberedBody)
bodies_of step s = bodies_from step s 2
