-- What callers in other languages are told: each answer as one code (crates/base_refusals/specs/Code.antt).
-- Assumes nothing.
use Rattle.std.specs.Prelude.{ℕ, Option, Some, None, min, cond, List, [], ◌∷◌, length}
use Rattle.std.proofs.lemmas.List.Edits.{sets}
use Rattle.base_refusals.specs.Answer.{Answer, done, refused}
use Rattle.base_refusals.specs.Code.{code_of, answer_code, length_code}
use Rattle.base_refusals.specs.Numbers.{bad_disk}
use Rattle.base_lent.specs.Lent.{Lent}
use Rattle.base_refusals.specs.declared.Code.{Code}
use Rattle.disk_rules.specs.Calls.{After}
use Rattle.disk_rules.specs.declared.Holding.{Holding}
use Rattle.disk_rules.specs.Check.{sound}
use Rattle.disk_directory.specs.Listing.{directory_text}
use Rattle.image_index_entries.specs.declared.Numbers.{Numbers}
use Rattle.image_relink.specs.Relinking.{Relinking, same, changed, leaves, endless}
use Rattle.count_images.specs.Carried.{Fate, counted, counted_apart, no_totals, Kept}

-- a call's code, and what the buffer that it was lent holds then
pub record Told : Type 0 where
  pub code : Code
  pub buffer : List ℕ

abbrev pub told_code : Lent → Told
told_code l = record { code = length_code l.answer; buffer = l.buffer }

-- a result without values
abbrev pub bare_code : Answer Unit → Code
bare_code (done u) = answer_code (done [])
bare_code (refused n) = answer_code (refused n)

-- a call's code, and the disk that it was lent
abbrev pub told_disk : After → Told
told_disk a = record { code = bare_code a.answer; buffer = a.disk }

-- the files, and the free sectors
abbrev pub holding_code : Answer Holding → Code
holding_code (done h) = answer_code (done (h.files ∷ h.free ∷ []))
holding_code (refused n) = answer_code (refused n)

-- the text of a sound disk's directory, as much of it as fits
abbrev pub shown_directory : List ℕ → List ℕ → Told
shown_directory disk buffer =
    cond (sound disk)
    (record { code = length_code (done (min (length (directory_text disk)) (length buffer))); buffer = sets buffer 0 (directory_text disk) })
    (record { code = code_of bad_disk; buffer = buffer })

-- an index's two numbers, or none
abbrev pub held_code : Option Numbers → Code
held_code None = answer_code (done [])
held_code (Some e) = answer_code (done (e.first ∷ e.second ∷ []))

-- nothing where every link is as it was; the offset and the new link of the first that is changed; 0 where the routine leaves the image, 1
-- where it never ends
abbrev pub relinking_code : Answer Relinking → Code
relinking_code (done same) = answer_code (done [])
relinking_code (done (changed offset link)) = answer_code (done (offset ∷ link ∷ []))
relinking_code (done leaves) = answer_code (done (0 ∷ []))
relinking_code (done endless) = answer_code (done (1 ∷ []))
relinking_code (refused n) = answer_code (refused n)

-- 0 where an image is counted; the number of the refusal for which it is counted apart; 255 where the numbers are no totals
abbrev pub fate_code : Answer Fate → Code
fate_code (done counted) = answer_code (done (0 ∷ []))
fate_code (done (counted_apart n)) = answer_code (done (n.number ∷ []))
fate_code (done no_totals) = answer_code (done (255 ∷ []))
fate_code (refused n) = answer_code (refused n)

abbrev pub told_totals : Kept → Told
told_totals k = record { code = fate_code k.answer; buffer = k.totals }
