-- What both readers read alike in an image (document 01, "Reading and listing"), and what they check before they look at an offset
-- ("Numbers of refusal": "A single step of either reader checks 7 and 8 before it looks at its offset").
-- Assumes nothing.
use Rattle.std.specs.Prelude.{ℕ, ◌+◌, cond, List, length, ltb}
use Rattle.image_bytes.specs.ImageBytes.{low_first_at, address_at}
use Rattle.base_refusals.specs.Answer.{Answer, refused}
use Rattle.base_refusals.specs.Numbers.{image_too_long, too_short}
use Rattle.image_readers.specs.declared.Line.{Line}

-- the line at p, whose body starts behind its link and number and ends at an offset; what follows the line stands at another
abbrev pub line_at : List ℕ → ℕ → ℕ → ℕ → Line
line_at s p to next =
    record {
      address = address_at s p;
      link = low_first_at s p;
      number = low_first_at s (p + 2);
      from = p + 4;
      to = to;
      next = next;
    }

-- an image of more than 1,048,576 bytes is 7, one of fewer than two bytes is 8, and of any other the answer is a
abbrev pub sized : {A : Type 0} → List ℕ → Answer A → Answer A
sized s a = cond (ltb 1048576 (length s)) (refused (image_too_long (length s))) (cond (ltb (length s) 2) (refused too_short) a)
