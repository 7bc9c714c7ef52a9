-- A message in pieces, and what the state of its digest says of the message so far.
-- Assumes nothing.
use Rattle.std.specs.Prelude.{◌≡◌, ℕ, ◌*◌, ◌/◌, ◌%◌, ◌^◌, List, [], ◌∷◌, ◌++◌, length, take, drop}
use Rattle.digest_sha256.specs.Sha256.{hashed, initial_hash}
use Rattle.digest_sha256.specs.declared.State.{State}

-- the hash value of the message's whole blocks, the bytes behind them at the buffer's start, and the message's length modulo 2 ^ 64
pub record HoldsMessage (s : State) (m : List ℕ) : Type 0 where
  pub hash : s.words ≡ hashed initial_hash m (length m / 64)
  pub rest : take (length m % 64) s.buffer ≡ drop (64 * (length m / 64)) m
  pub count : s.length ≡ length m % 2 ^ 64

-- pieces, one behind the other
abbrev pub joined_pieces : List (List ℕ) → List ℕ
joined_pieces [] = []
joined_pieces (p ∷ ps) = p ++ joined_pieces ps
