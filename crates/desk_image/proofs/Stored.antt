-- What a call stored lies within the buffer that it was lent.
-- Assumes nothing.
use Prim.Native.Nat.{ℕ, ◌≤◌}
use mathlib.Core.Path.{◌≡◌, sym}
use mathlib.Core.List.{List}
use lib.ListN.{length, take}
use lib.Seq.{length-take-le}
use Rattle.base_refusals.specs.Answer.{Answer}
use Rattle.base_lent.specs.Lent.{into_buffer, left}
use Rattle.desk.proofs.Results.{result_held, result_count}
use Rattle.std.specs.Prelude.{Result, Ok}
use Rattle.base_refusals.specs.declared.Refusal.{Refusal}

pub stored_within : (a : Answer (List ℕ)) (buffer : List ℕ) {r : (Result ℕ Refusal)} {n : ℕ} {after : List ℕ} → r ≡ Ok n → left r after ≡ into_buffer a buffer → n ≤ length after
stored_within a buffer {r} {after = after} e h = result_count after e (result_held a buffer r h)

-- so the part up to there has that many bytes
pub stored_count : (a : Answer (List ℕ)) (buffer : List ℕ) {r : Result ℕ Refusal} {n : ℕ} {after : List ℕ} → r ≡ Ok n → left r after ≡ into_buffer a buffer → n ≡ length (take n after)
stored_count a buffer {n = n} {after = after} e h = sym (length-take-le n after (stored_within a buffer e h))
