-- A crunched image that was saved, and is read back from a worn disk (document 02, No. 14).
-- Assumes nothing.
use Prim.Native.Nat.{ℕ, ◌-◌, ◌≤◌, ◌<◌}
use mathlib.Core.Path.{◌≡◌, subst}
use mathlib.Core.Bool.{Bool, true}
use mathlib.Core.List.{List}
use lib.ListN.{get_or}
use Rattle.base_refusals.specs.Answer.{done}
use Rattle.image_readers.specs.NumberedBody.{NumberedBody}
use Rattle.image_readers.specs.Bodies.{bodies_of}
use Rattle.image_readers.specs.Links.{link_step}
use Rattle.image_readers.specs.Terminators.{terminator_step}
use Rattle.image_layout.specs.Layout.{image_of}
use Rattle.image_layout.specs.Reads.{lines_at, NoZeros, least_load}
use Rattle.base_steps.specs.Each.{Each}
use Rattle.image_layout.specs.Changed.{ChangedAt, in_some, number_or_body, link_byte, lines_now}
use Rattle.crunch_rules.specs.Crunched.{crunched_lines}
use Rattle.crunch_rules.specs.declared.Options.{Options}
use Rattle.crunch_read_back.specs.ReadsBack.{ReadsDamaged}
use Rattle.crunch_read_back.proofs.Demand.{damage, damage_terminators, damaged_links}
use Rattle.disk_rules.specs.Calls.{file_bytes, saved}
use Rattle.disk_laws.specs.Runs.{Call, after_calls, all_spare}
use Rattle.disk_laws.proofs.ReadBack.{reads_back_later}
use Rattle.disk_damage.specs.Worn.{Worn, ReadsWorn}
use Rattle.disk_damage.proofs.Reading.{worn_file}

-- the image of a text, saved, and the disk behind calls that leave the file there
module _ (o : Options) (text : List ℕ) {ls : List NumberedBody} (low : o.load ≤ 0xFFFF) (e : crunched_lines o text ≡ done ls) (up : least_load ≤ o.load)
    (d name made : List ℕ) (s : saved d name (image_of o.load ls) ≡ done made) (cs : List Call) (spare : all_spare name cs ≡ true) where
  pub saved_reads_back : file_bytes (after_calls made cs) name ≡ done (image_of o.load ls)
  saved_reads_back = reads_back_later d name (image_of o.load ls) made s cs spare

  -- a byte of the disk may change wherever it is a file's, and of this file only in some places
  module _ {changes : ℕ → Bool} {now : List ℕ} (w : Worn changes (after_calls made cs) name now) where
    pub worn_reads : ReadsWorn changes (image_of o.load ls) name now
    worn_reads = worn_file (after_calls made cs) name now (image_of o.load ls) saved_reads_back w

    -- so whatever reading back returns is the image, changed there
    changed_there : {image : List ℕ} → file_bytes now name ≡ done image → ChangedAt changes (image_of o.load ls) image
    changed_there {image} read = subst (ChangedAt changes (image_of o.load ls)) (let z : worn_reads.image ≡ image = same worn_reads.read in z) worn_reads.changed where
      same : file_bytes now name ≡ done worn_reads.image → worn_reads.image ≡ image
      same e = cc

  module _ (set : ℕ → Bool) {now image : List ℕ} (read : file_bytes now name ≡ done image) where
    -- the numbers and bodies of any set of lines
    module _ (w : Worn (in_some number_or_body set (lines_at o.load 2 ls)) (after_calls made cs) name now) where
      pub worn_lines : ReadsDamaged link_step set o.load ls image
      worn_lines = damage o text low e up (record { changed = changed_there w read })

      pub worn_terminators : NoZeros (lines_now o.load ls image) → ReadsDamaged terminator_step set o.load ls image
      worn_terminators none = damage_terminators o text low e up (record { changed = changed_there w read }) none

    -- the links of any set of lines, each high byte above 0, where no body holds a zero
    pub worn_links : NoZeros ls → Worn (in_some link_byte set (lines_at o.load 2 ls)) (after_calls made cs) name now
        → Each (λ l. 0 < get_or image (l.from - 3) 0) (lines_at o.load 2 ls) → bodies_of terminator_step image ≡ done ls
    worn_links none w high = damaged_links o text low e none (record { changed = changed_there w read; high = high })
