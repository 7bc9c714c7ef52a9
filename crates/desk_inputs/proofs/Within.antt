-- The counts of readings lie within the buffer. Callers cite these laws for the part `&buf[..n]`.
-- Assumes nothing.
use Prim.Native.Nat.{ℕ, ◌≤◌, ◌<◌}
use mathlib.Core.Path.{◌≡◌, subst}
use mathlib.Core.List.{List}
use lib.ListN.{length}
use Rattle.std.specs.Prelude.{Option, Some, Result, Ok}
use Rattle.io.specs.Counts.{IsPrefixLen}
use Rattle.desk_inputs.specs.CountedHelpers.{PartWithin, LeavesSome, InputWithin, input_count}

module _ {E : Type 0} {buf : List ℕ} {n : ℕ} where
  pub part_count : {r : Result (Option ℕ) E} → PartWithin r buf → r ≡ Ok (Some n) → n < length buf
  part_count k e = subst (λ (r : Result (Option ℕ) E). LeavesSome r (length buf)) e k.short

  pub input_within : {r : Result (Option ℕ) E} → r ≡ Ok (Some n) → InputWithin r buf → n ≤ length buf
  input_within e k = (subst (λ (r : Result (Option ℕ) E). IsPrefixLen (input_count r) buf) e k.counts).0
