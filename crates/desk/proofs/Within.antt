-- The count of what was stored lies within the buffer. Callers cite this law for the part `&buf[..n]`.
-- Assumes nothing.
use Prim.Native.Nat.{ℕ}
use mathlib.Core.Path.{◌≡◌}
use mathlib.Core.List.{List}
use lib.ListN.{length, take}
use Rattle.io.proofs.Counting.{prefix_len_of_le}
use Rattle.say_put.specs.Clipped.{Clipped}
use Rattle.say_put.proofs.Clipping.{clip_within}

pub stored_count : {buffer text after : List ℕ} {at n : ℕ} → Clipped buffer at text n after → n ≡ length (take n after)
stored_count {after = after} {n = n} p = (prefix_len_of_le n after (clip_within p)).1
