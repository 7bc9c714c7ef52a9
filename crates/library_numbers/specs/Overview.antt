-- What callers in other languages are told of a whole image: one code (crates/base_refusals/specs/Code.antt).
-- Assumes nothing.
use Rattle.std.specs.Prelude.{[], ◌∷◌}
use Rattle.base_refusals.specs.Answer.{Answer, done, refused}
use Rattle.base_refusals.specs.Code.{answer_code}
use Rattle.base_refusals.specs.declared.Code.{Code}
use Rattle.image_readers.specs.declared.Overview.{Overview}

-- the load address and the line count
abbrev pub overview_code : Answer Overview → Code
overview_code (done o) = answer_code (done (o.load ∷ o.lines ∷ []))
overview_code (refused n) = answer_code (refused n)
