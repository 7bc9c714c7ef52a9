-- What helpers' contracts say: a schedule that is being filled, some turns behind others, and the padding in an array.
-- Assumes nothing.
use Rattle.std.specs.Prelude.{◌≡◌, ℕ, zero, suc, ◌+◌, ◌≤◌, List, length, take, slice_index}
use Rattle.digest_sha256.specs.Sha256.{padding, scheduled, turned}
use Rattle.digest_sha256.specs.declared.compress.Words.{Words}

-- an array whose first t words are those of a block's schedule
pub record Filled (b : List ℕ) (t : ℕ) (w : List ℕ) : Type 0 where
  pub long : length w ≡ 64
  pub filled : take t w ≡ scheduled b t

-- n turns from turn t on, by the constants k and the schedule w
unfoldable pub turns_from : List ℕ → List ℕ → Words → ℕ → ℕ → Words
turns_from k w v t zero = v
turns_from k w v t (suc n) = turned (turns_from k w v t n) (slice_index k (t + n)) (slice_index w (t + n))

-- an array whose first bytes are the padding of a message of so many bytes
pub record Pads (bytes : List ℕ) (count n : ℕ) : Type 0 where
  pub within : count ≤ length bytes
  pub pads : take count bytes ≡ padding n
