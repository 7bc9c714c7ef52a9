-- For what the programs read, and for no promise of an entry point: a count lies within the buffer.
-- Assumes nothing.
use Rattle.std.specs.Prelude.{ℕ, ◌<◌, List, length, Option, None, Some, Result, Ok, Err}
use Rattle.io.specs.Counts.{IsPrefixLen}

module _ {E : Type 0} where
  -- where the input ended too soon, a byte of the buffer at least was not reached
  abbrev pub LeavesSome : Result (Option ℕ) E → ℕ → Type 0
  LeavesSome (Ok None) size = Unit {0}
  LeavesSome (Ok (Some count)) size = count < size
  LeavesSome (Err why) size = Unit {0}

  pub record PartWithin (r : Result (Option ℕ) E) (buf : List ℕ) : Type 0 where
    pub short : LeavesSome r (length buf)

  -- the count of a whole input, and 0 where there is none
  abbrev pub input_count : Result (Option ℕ) E → ℕ
  input_count (Ok (Some count)) = count
  input_count (Ok None) = 0
  input_count (Err why) = 0

  pub record InputWithin (r : Result (Option ℕ) E) (buf : List ℕ) : Type 0 where
    pub counts : IsPrefixLen (input_count r) buf
