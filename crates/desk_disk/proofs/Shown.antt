-- A directory's text lies within the buffer that was lent for it.
-- Assumes nothing.
use Prim.Native.Nat.{ℕ}
use mathlib.Core.List.{List}
use Rattle.say_put.proofs.Clipping.{clip_within}
use Rattle.disk_directory.specs.Listing.{Shows}
use Rattle.desk.specs.ResultHelpers.{Holds}
use Rattle.std.specs.Prelude.{Result, Ok, Err}
use Rattle.base_refusals.specs.declared.Refusal.{Refusal}

pub shown_held : (disk out : List ℕ) (r : Result ℕ Refusal) (after : List ℕ) → Shows disk out r after → Holds r after
shown_held disk out (Ok n) after k = clip_within k.1
shown_held disk out (Err r) after k = tt
