-- A disk's directory as the desk reads it (docs/DECISIONS.md, "The desk's disks"): "a line for each listed file, in the directory's order: the number of sectors
-- in its chain, a space, its name; and behind them the number of free sectors off track 18".
-- Assumes nothing.
use Rattle.std.specs.Prelude.{ℕ, ◌≡◌, true, false, List, [], ◌∷◌, ◌++◌, length}
use Rattle.base_refusals.specs.Numbers.{bad_disk}
use Rattle.base_refusals.specs.Answer.{numbered}
use Rattle.word_search.specs.Spelling.{bytes_of}
use Rattle.base_steps.specs.Decimal.{decimal}
use Rattle.say_put.specs.Clipped.{Clipped}
use Rattle.disk_rules.specs.Entries.{listed, name_at, chain_of}
use Rattle.disk_rules.specs.Free.{free_sectors}
use Rattle.disk_rules.specs.Check.{sound}
use Rattle.disk_names.specs.Names.{name_shown}
use Rattle.std.specs.Prelude.{Result, Ok, Err}
use Rattle.base_refusals.specs.declared.Refusal.{Refusal}

-- the line of the entry p
unfoldable pub file_line : List ℕ → ℕ → List ℕ
unfolding decimal name_at name_shown
file_line disk p = decimal (length (chain_of disk p).sectors) ++ (0x20 ∷ (name_shown (name_at disk p) ++ (0x0A ∷ [])))

unfoldable pub file_lines : List ℕ → List ℕ → List ℕ
unfolding file_line
file_lines disk [] = []
file_lines disk (p ∷ ps) = file_line disk p ++ file_lines disk ps

unfoldable pub free_line : List ℕ → List ℕ
unfolding decimal free_sectors
free_line disk = decimal (length (free_sectors disk)) ++ (bytes_of " sectors free" ++ (0x0A ∷ []))

abbrev pub directory_text : List ℕ → List ℕ
directory_text disk = file_lines disk (listed disk) ++ free_line disk

-- what is answered and stored: the text of a sound disk, or 20 and nothing
abbrev pub Shows : List ℕ → List ℕ → Result ℕ Refusal → List ℕ → Type 0
Shows disk out (Ok n) after = (sound disk ≡ true) × Clipped out 0 (directory_text disk) n after
Shows disk out (Err r) after = (sound disk ≡ false) × (numbered r ≡ bad_disk) × (after ≡ out)
