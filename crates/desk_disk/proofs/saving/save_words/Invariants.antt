-- `desk_disk::saving::save_words` is safe and ends. The disk keeps its length.
-- Assumes nothing.
use mathlib.Core.Path.{◌≡◌}
use lib.ListN.{length}
use Rattle.desk_disk.proofs.saving.save_words.Given as goal

abbrev pub invariant-loop-i : goal.invariant-loop-i
invariant-loop-i l = length l.disk ≡ length l.initial.disk
