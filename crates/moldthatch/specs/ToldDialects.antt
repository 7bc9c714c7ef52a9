-- Dialects and escapes as callers in other languages are told them.
-- Assumes nothing.
use Rattle.std.specs.Prelude.{ℕ, [], ◌∷◌}
use Rattle.base_refusals.specs.Answer.{Answer, done, refused}
use Rattle.base_refusals.specs.Code.{answer_code}
use Rattle.base_refusals.specs.declared.Code.{Code}
use Rattle.word_dialects.specs.Dialects.{default_load}
use Rattle.word_dialects.specs.declared.Dialect.{Dialect}
use Rattle.word_dialects.specs.declared.Dialect.TheVariants.{Auto, BasicV2, Tsb, Basic35}
use Rattle.escape_bytes.specs.declared.Escape.{Escape}
use Rattle.std.specs.Prelude.{Option, Some, None}

-- the number that `by_number` takes for the dialect (`number_back`, proofs/TellingDialects.antt)
abbrev pub dialect_number : Dialect → ℕ
dialect_number Auto = 0
dialect_number BasicV2 = 1
dialect_number Tsb = 2
dialect_number Basic35 = 3

abbrev pub dialect_code : Answer Dialect → Code
dialect_code (done d) = answer_code (done (dialect_number d ∷ []))
dialect_code (refused n) = answer_code (refused n)

-- the load address of a dialect where no other is asked for
abbrev pub load_code : Answer Dialect → Code
load_code (done d) = answer_code (done (default_load d ∷ []))
load_code (refused n) = answer_code (refused n)

-- a byte and how often it is repeated, or nothing
abbrev pub escape_code : Option Escape → Code
escape_code (Some e) = answer_code (done (e.byte ∷ e.count ∷ []))
escape_code None = answer_code (done [])
