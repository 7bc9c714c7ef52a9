-- What helpers say of bytes stored in a lent buffer, with `sets` (lib.Seq), which stores a run of bytes from a place on. No entry point's
-- promise uses these; proofs/Storing.antt and proofs/Outcomes.antt carry them to `into_buffer` (Lent.antt).
-- Assumes nothing.
use Rattle.std.specs.Prelude.{ℕ, ◌+◌, ◌≤◌, ◌≡◌, List, length}
use Rattle.std.proofs.lemmas.List.Edits.{sets}
use Rattle.base_refusals.specs.Answer.{Answer, done, refused}

-- a text has room in a buffer from a place on
pub record Room (buffer : List ℕ) (at : ℕ) (text : List ℕ) : Type 0 where
  pub room : at + length text ≤ length buffer

-- a text was stored in a buffer from a place on: the place behind it, and what the buffer then holds
pub record Put (buffer : List ℕ) (at : ℕ) (text : List ℕ) (behind : ℕ) (after : List ℕ) : Type 0 where
  pub ends : behind ≡ at + length text
  pub stored : after ≡ sets buffer at text

-- there is a result, and the buffer has room for it
abbrev pub HasRoom : List ℕ → Answer (List ℕ) → Type 0
HasRoom buffer (done bytes) = Room buffer 0 bytes
HasRoom buffer (refused n) = ⊥
