-- The bytes of an image (document 01, "Text lines": "A line is link, number (both low byte first), body, 00. Its link is its own
-- address plus 5 plus the body's length. 0xFFFF is the last link allowed. The image is load address, lines, 00 00.").
-- Assumes nothing.
use Rattle.std.specs.Prelude.{ℕ, ◌+◌, ◌/◌, ◌%◌, ◌≤◌, List, [], ◌∷◌, ◌++◌, length}
use Rattle.image_readers.specs.NumberedBody.{NumberedBody}
use Rattle.base_steps.specs.Each.{Each}

-- a 16-bit number, low byte first
abbrev pub two_bytes : ℕ → List ℕ
two_bytes n = n % 256 ∷ n / 256 % 256 ∷ []

-- "A line is link, number (both low byte first), body, 00"
unfoldable pub linked_bytes : ℕ → ℕ → List ℕ → List ℕ
linked_bytes link number body = two_bytes link ++ two_bytes number ++ body ++ 0 ∷ []

-- "Its link is its own address plus 5 plus the body's length": the address of what follows the line
abbrev pub link_of : ℕ → List ℕ → ℕ
link_of address body = address + 5 + length body

-- the line at an address
abbrev pub line_bytes : ℕ → ℕ → List ℕ → List ℕ
line_bytes address number body = linked_bytes (link_of address body) number body

-- lines one behind the other, the first at an address
unfoldable pub lines_bytes : ℕ → List NumberedBody → List ℕ
unfolding linked_bytes
lines_bytes address [] = []
lines_bytes address (l ∷ ls) = line_bytes address l.number l.body ++ lines_bytes (link_of address l.body) ls

-- "The image is load address, lines, 00 00"
unfoldable pub image_of : ℕ → List NumberedBody → List ℕ
unfolding lines_bytes
image_of load ls = two_bytes load ++ lines_bytes load ls ++ 0 ∷ 0 ∷ []

-- the address behind the lines: the last link, or the load address where there is none
unfoldable pub end_address : ℕ → List NumberedBody → ℕ
end_address address [] = address
end_address address (l ∷ ls) = end_address (link_of address l.body) ls

-- "0xFFFF is the last link allowed": links rise, so that the last one is
abbrev pub Fits : ℕ → List NumberedBody → Type 0
Fits load ls = end_address load ls ≤ 0xFFFF

-- lines that have an image at a load address
pub record Laid (load : ℕ) (ls : List NumberedBody) : Type 0 where
  pub fits : Fits load ls
  pub numbers : Each (λ l. l.number ≤ 65535) ls
