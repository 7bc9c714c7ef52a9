-- A number in decimal (document 01, "Reading and listing": "A listed line is the number, a space, the body, LF"; the programs write "a refusal
-- as its decimal number"). Right for every number; `decimal_digit` and `decimal_more` (proofs/Digits.antt) are the equations without the count.
-- Assumes nothing.
use Rattle.std.specs.Prelude.{ℕ, suc, ◌+◌, ◌/◌, ◌%◌, Bool, true, false, List, [], ◌∷◌, ◌++◌, ltb}
use Rattle.base_steps.specs.Again.{again}

-- one digit; or the digits that f gives of a tenth, and the last one
abbrev pub digits_by : Bool → (ℕ → List ℕ) → ℕ → List ℕ
digits_by true f n = (48 + n) ∷ []
digits_by false f n = f (n / 10) ++ ((48 + n % 10) ∷ [])

abbrev pub digits_on : (ℕ → List ℕ) → ℕ → List ℕ
digits_on f n = digits_by (ltb n 10) f n

unfoldable pub decimal : ℕ → List ℕ
unfolding again
decimal n = again [] digits_on (suc n) n
