-- For helpers of the passes over a text alone: what is measured of a text line.
-- Assumes nothing.
use Rattle.std.specs.Prelude.{ℕ, ◌+◌, ◌≤◌, ◌≡◌, cond, List, [], ◌∷◌, ltb}
use Rattle.std.specs.Prelude.{Option, Some, None, Result, Ok, Err}
use Rattle.base_refusals.specs.declared.Refusal.{Refusal}
use Rattle.base_refusals.specs.declared.Refusal.TheVariants.{AddressOverflow}
use Rattle.base_refusals.specs.Answer.{Answer, done, refused, numbered, and_then}
use Rattle.body_rules.specs.Lexicon.{Lexicon}
use Rattle.image_readers.specs.NumberedBody.{NumberedBody}
use Rattle.image_layout.specs.Layout.{link_of, end_address}
use Rattle.crunch_rules.specs.Crunched.{text_line, last_link}
use Rattle.crunch_sizes.specs.declared.SizedLine.{SizedLine}
use Rattle.crunch_rules.specs.PassesHelpers.{given}

-- a text line gives one line, with this number; behind it is this address
pub record LineSized (address : ℕ) (a : Answer (List NumberedBody)) (number behind : ℕ) : Type 0 where
  pub body : List ℕ
  pub gives : a ≡ done (record { number = number; body = body } ∷ [])
  pub behind_is : behind ≡ link_of address body
  pub high : behind ≤ 0xFFFF

-- what was measured of a text line that gives a, at an address
unfoldable pub SizedAs : ℕ → Answer (List NumberedBody) → Result (Option SizedLine) Refusal → Type 0
SizedAs address a (Ok None) = a ≡ done []
SizedAs address a (Ok (Some l)) = LineSized address a l.number l.behind
SizedAs address a (Err r) = and_then a (last_link address) ≡ refused (numbered r)

-- a line at an address, whose body has so many bytes
abbrev pub sized_at : ℕ → ℕ → ℕ → Result SizedLine Refusal
sized_at address number size = cond (ltb 0xFFFF (address + 5 + size)) (Err AddressOverflow) (Ok (record { number = number; behind = address + 5 + size }))

-- r is no lower than the address; where it is at most FFFF, the text line is not refused, whatever its place, and the lines that it gives from
-- the address on end at r at the latest
pub record Bounded (words : Lexicon) (address : ℕ) (line : List ℕ) (r : ℕ) : Type 0 where
  pub low : address ≤ r
  pub gives : r ≤ 0xFFFF → (k : ℕ) → text_line words k line ≡ done (given (text_line words k line))
  pub below : r ≤ 0xFFFF → end_address address (given (text_line words 0 line)) ≤ r
