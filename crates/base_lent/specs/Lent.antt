-- A result that goes into a lent buffer (document 01, "Numbers of refusal": "A refusal changes nothing lent. A success returns the
-- length and changes only that many bytes at the buffer's start"; 6 is "given exactly when the text has an image and the buffer is shorter").
-- Assumes nothing.
use Rattle.std.specs.Prelude.{ℕ, cond, List, leb, length, Result}
use Rattle.std.proofs.lemmas.List.Edits.{sets}
use Rattle.base_refusals.specs.Numbers.{no_room}
use Rattle.base_refusals.specs.Answer.{Answer, done, refused, map_done, answered}
use Rattle.base_refusals.specs.declared.Refusal.{Refusal}

-- what a call answers, and what the buffer that it was lent holds then
pub record Lent : Type 0 where
  pub answer : Answer ℕ
  pub buffer : List ℕ

-- a result of some length, or a refusal, and a lent buffer
unfoldable pub into_buffer : Answer (List ℕ) → List ℕ → Lent
into_buffer (done bytes) buffer =
    cond (leb (length bytes) (length buffer))
    (record { answer = done (length bytes); buffer = sets buffer 0 bytes })
    (record { answer = refused (no_room (length bytes)); buffer = buffer })
into_buffer (refused n) buffer = record { answer = refused n; buffer = buffer }

-- the room that a result needs
abbrev pub room_for : Answer (List ℕ) → Answer ℕ
room_for = map_done length

-- a call's result, and the buffer as it was left
abbrev pub left : Result ℕ Refusal → List ℕ → Lent
left r buffer = record { answer = answered r; buffer = buffer }
