-- What comes of a text that is crunched into a lent buffer and read back by links (document 01, "Reading and listing": "one call checks the
-- whole image and returns the load address with the line count, or the refusal"; "Numbers of refusal": "A refusal changes nothing lent").
-- Assumes nothing.
use Rattle.std.specs.Prelude.{ℕ, List, take, Result}
use Rattle.base_refusals.specs.Answer.{Answer, map_done, answered}
use Rattle.base_refusals.specs.declared.Refusal.{Refusal}
use Rattle.base_lent.specs.Lent.{Lent}
use Rattle.image_readers.specs.Lines.{overview}
use Rattle.image_readers.specs.declared.Overview.{Overview}
use Rattle.image_readers.specs.Links.{link_step}
use Rattle.crunch_read_back.specs.declared.ReadBack.{ReadBack}

-- an image's length, and what the reader by links answers of it
pub record ImageRead : Type 0 where
  pub size : ℕ
  pub overview : Answer Overview

-- what a call answers, and what the buffer that it was lent holds then
pub record LentRead : Type 0 where
  pub answer : Answer ImageRead
  pub buffer : List ℕ

-- so many bytes at a buffer's start, read by links
abbrev pub image_read : List ℕ → ℕ → ImageRead
image_read buffer n = record { size = n; overview = overview link_step (take n buffer) }

-- what was crunched into a buffer, read back
unfoldable pub reading_back : Lent → LentRead
reading_back l = record { answer = map_done (image_read l.buffer) l.answer; buffer = l.buffer }

abbrev pub read_back_answer : Result ReadBack Refusal → Answer ImageRead
read_back_answer r = map_done (λ b. record { size = b.length; overview = answered b.read }) (answered r)

-- an answer, and the buffer as it was left
abbrev pub left_read : Result ReadBack Refusal → List ℕ → LentRead
left_read r buffer = record { answer = read_back_answer r; buffer = buffer }
