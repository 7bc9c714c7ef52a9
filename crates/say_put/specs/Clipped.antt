-- A text stored in a lent buffer from a place on, as much of it as fits: `sets` (lib.Seq) stores nothing beyond a buffer's end.
-- Assumes nothing.
use Rattle.std.specs.Prelude.{ℕ, ◌+◌, min, ◌≡◌, List, length}
use Rattle.std.proofs.lemmas.List.Edits.{sets}

-- the place behind what was stored, and what the buffer then holds
pub record Clipped (buffer : List ℕ) (at : ℕ) (text : List ℕ) (behind : ℕ) (after : List ℕ) : Type 0 where
  pub ends : behind ≡ min (at + length text) (length buffer)
  pub stored : after ≡ sets buffer at text
