-- An answer as the numbers that are handed to other languages.
-- Assumes nothing.
use Rattle.std.specs.Prelude.{ℕ, List, [], ◌∷◌, length, get_or}
use Rattle.base_refusals.specs.Numbers.{Numbered}
use Rattle.base_refusals.specs.Answer.{Answer, done, refused}
use Rattle.base_refusals.specs.declared.Code.{Code}

abbrev pub code_of : Numbered → Code
code_of n = record { number = n.number; count = length n.carries; first = get_or n.carries 0 0; second = get_or n.carries 1 0 }

-- a result is numbered 0 and carries its values
abbrev pub answer_code : Answer (List ℕ) → Code
answer_code (done values) = code_of (record { number = 0; carries = values })
answer_code (refused n) = code_of n

-- a result that is one length
abbrev pub length_code : Answer ℕ → Code
length_code (done n) = answer_code (done (n ∷ []))
length_code (refused n) = answer_code (refused n)
