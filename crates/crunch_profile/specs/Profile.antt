-- The machine profile (document 02, No. 1: "numbers at most 63999 and strictly ascending, no zero in any body, bodies of 1 to 250 bytes";
-- "Refusals, in this order after 4 at each text line, each with that line: 15 NumberTooHigh, 16 NotAscending, 17 ZeroInBody, 18 BodyLength,
-- then 5"). Where it is asked, before 5, is in crates/crunch_rules/specs/Crunched.antt.
-- Assumes nothing.
use Rattle.std.specs.Prelude.{ℕ, suc, Bool, cond, List, [], ◌∷◌, length}
use Rattle.base_refusals.specs.Numbers.{line_number_too_high, not_ascending, zero_in_body, body_length}
use Rattle.base_refusals.specs.Answer.{Answer, done, refused, and_then}
use Rattle.body.specs.Zero.{holds_zero}
use Rattle.image_limits.specs.Limits.{c64, is_too_high, is_not_ascending, is_bad_length}
use Rattle.image_readers.specs.NumberedBody.{NumberedBody}

-- a line that the k-th text line gives, by its number and the least that may stand there, whether its body holds a zero, and the body's length
unfoldable pub profile_says : ℕ → ℕ → ℕ → Bool → ℕ → Answer (Unit {0})
profile_says k least number zero size =
    cond (is_too_high c64 number) (refused (line_number_too_high k))
    (cond (is_not_ascending least number) (refused (not_ascending k))
    (cond zero (refused (zero_in_body k))
    (cond (is_bad_length c64 size) (refused (body_length k))
    (done tt))))

unfoldable pub line_allowed : ℕ → ℕ → NumberedBody → Answer (Unit {0})
unfolding profile_says holds_zero
line_allowed k least l = profile_says k least l.number (holds_zero l.body) (length l.body)

-- all lines that it gives; behind a line the least number is the next above that line's, and in front of all lines it is 0
abbrev pub allowed : ℕ → ℕ → List NumberedBody → Answer (Unit {0})
allowed k least [] = done tt
allowed k least (l ∷ ls) = and_then (line_allowed k least l) (λ _. allowed k (suc l.number) ls)

-- the least number that may stand behind lines
abbrev pub least_behind : ℕ → List NumberedBody → ℕ
least_behind least [] = least
least_behind least (l ∷ ls) = least_behind (suc l.number) ls
