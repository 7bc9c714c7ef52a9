-- A line as callers in other languages are told it: what is said beside it, and the line, or that there is none.
-- Assumes nothing.
use Rattle.std.specs.Prelude.{[], ◌∷◌}
use Rattle.std.specs.Prelude.{Option, None, Some}
use Rattle.base_refusals.specs.Answer.{Answer, done, refused}
use Rattle.base_refusals.specs.Code.{answer_code}
use Rattle.base_refusals.specs.declared.Code.{Code}
use Rattle.image_readers.specs.declared.Line.{Line}
use Rattle.image_find.specs.Sought.{Visit, at, nowhere}
use Rattle.crunch_rules.specs.declared.MeasuredLine.{MeasuredLine}
use Rattle.moldthatch.specs.declared.lines.LineCode.{LineCode}

abbrev pub line_code : Code → Line → LineCode
line_code code l =
    record {
      code = code;
      found = 1;
      link = l.link;
      number = l.number;
      address = l.address;
      from = l.from;
      to = l.to;
      next = l.next;
    }

abbrev pub no_line : Code → LineCode
no_line code = record { code = code; found = 0; link = 0; number = 0; address = 0; from = 0; to = 0; next = 0 }

-- a step: a line, or the end
abbrev pub step_code : Answer (Option Line) → LineCode
step_code (done (Some l)) = line_code (answer_code (done [])) l
step_code (done None) = no_line (answer_code (done []))
step_code (refused n) = no_line (answer_code (refused n))

-- a search, with the headers visited
abbrev pub visit_code : Answer Visit → LineCode
visit_code (done (at visited l)) = line_code (answer_code (done (visited ∷ []))) l
visit_code (done (nowhere visited)) = no_line (answer_code (done (visited ∷ [])))
visit_code (refused n) = no_line (answer_code (refused n))

-- a line of the image that a text would have, with its text line
abbrev pub measured_code : Answer (Option MeasuredLine) → LineCode
measured_code (done (Some m)) = line_code (answer_code (done (m.origin ∷ []))) m.line
measured_code (done None) = no_line (answer_code (done []))
measured_code (refused n) = no_line (answer_code (refused n))
