-- What the contract of `save_new`, which saves behind the other tests, says.
-- Assumes nothing.
use Rattle.std.specs.Prelude.{cond, List, ℕ, ltb, length}
use Rattle.base_refusals.specs.Numbers.{disk_full}
use Rattle.base_refusals.specs.Answer.{Answer, refused}
use Rattle.disk_rules.specs.Free.{free_sectors}
use Rattle.disk_rules.specs.Calls.{sectors_for, taken, with_file}

-- "25 if fewer sectors are free off track 18 than ..", or the disk with the file
unfoldable pub saved_new : List ℕ → List ℕ → List ℕ → Answer (List ℕ)
saved_new disk name image =
    cond (ltb (length (free_sectors disk)) (sectors_for image)) (refused disk_full) (with_file disk name image (taken disk image))
