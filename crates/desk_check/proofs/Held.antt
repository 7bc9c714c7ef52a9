-- A file that was read from a disk lies within its buffer.
-- Assumes nothing.
use Prim.Native.Nat.{ℕ, ◌≤◌}
use mathlib.Core.Path.{◌≡◌, sym}
use mathlib.Core.List.{List}
use lib.ListN.{length, take}
use lib.Seq.{length-take-le}
use Rattle.base_refusals.specs.Answer.{Answer}
use Rattle.base_lent.specs.Lent.{into_buffer, left}
use Rattle.desk.proofs.Results.{result_held, result_count}
use Rattle.std.specs.Prelude.{Result, Ok}
use Rattle.base_refusals.specs.declared.Refusal.{Refusal}

pub read_within : (a : Answer (List ℕ)) (buffer : List ℕ) {r : (Result ℕ Refusal)} {n : ℕ} {after : List ℕ} → r ≡ Ok n → left r after ≡ into_buffer a buffer → n ≤ length after
read_within a buffer {r} {after = after} is e = result_count after is (result_held a buffer r e)

pub read_whole : (a : Answer (List ℕ)) (buffer : List ℕ) {r : (Result ℕ Refusal)} {n : ℕ} {after : List ℕ} → r ≡ Ok n → left r after ≡ into_buffer a buffer → n ≡ length (take n after)
read_whole a buffer {after = after} is e = sym (length-take-le _ after (read_within a buffer is e))
