-- Each line is the one that its definition has: by the fault, and by the tests.
-- Assumes nothing.
use Prim.Native.Nat.{ℕ, ◌≤◌, ◌<◌}
use mathlib.Core.Path.{◌≡◌}
use mathlib.Core.Bool.{Bool, true, false}
use mathlib.Core.List.{List}
use borrow.Author.Tests.{eq-eqb, ne_eqb, lt-ltb, le-ltb}
use Rattle.base_refusals.specs.Answer.{done}
use Rattle.base_lent.specs.Lent.{Lent, into_buffer}
use Rattle.say_put.specs.Rows.{row_text}
use Rattle.image_faults.specs.declared.Fault.{Fault}
use Rattle.image_sentences.specs.Sentences.{target_row, target_sentence, fault_sentence, program_row, program_sentence, disk_row, disk_sentence}

module _ (name out : List ℕ) {l : Lent} where
  pub tells_fault : {fault x : Fault} → fault ≡ x → l ≡ into_buffer (done (fault_sentence name x)) out → l ≡ into_buffer (done (fault_sentence name fault)) out
  tells_fault e p = rw e p

  module _ (n target : ℕ) where
    pub tells_high : 65535 < target → l ≡ into_buffer (done (row_text name (target_row true) n target 0)) out → l ≡ into_buffer (done (target_sentence name n target)) out
    unfolding target_sentence
    tells_high h p = rw (lt-ltb _ _ h) p

    pub tells_missing : target ≤ 65535 → l ≡ into_buffer (done (row_text name (target_row false) n target 0)) out → l ≡ into_buffer (done (target_sentence name n target)) out
    unfolding target_sentence
    tells_missing h p = rw (le-ltb _ _ h) p

  module _ (load lines : ℕ) {fit f : Bool} where
    pub tells_line : fit ≡ f → lines ≡ 1 → l ≡ into_buffer (done (row_text name (program_row f true) load lines 0)) out → l ≡ into_buffer (done (program_sentence name load lines fit)) out
    unfolding program_sentence
    tells_line e h p = rw (e, eq-eqb _ _ h) p

    pub tells_lines : fit ≡ f → (lines ≡ 1 → ⊥) → l ≡ into_buffer (done (row_text name (program_row f false) load lines 0)) out → l ≡ into_buffer (done (program_sentence name load lines fit)) out
    unfolding program_sentence
    tells_lines e h p = rw (e, ne_eqb _ _ h) p

  module _ (files : ℕ) {fit f : Bool} where
    pub tells_file : fit ≡ f → files ≡ 1 → l ≡ into_buffer (done (row_text name (disk_row f true) files 0 0)) out → l ≡ into_buffer (done (disk_sentence name files fit)) out
    unfolding disk_sentence
    tells_file e h p = rw (e, eq-eqb _ _ h) p

    pub tells_files : fit ≡ f → (files ≡ 1 → ⊥) → l ≡ into_buffer (done (row_text name (disk_row f false) files 0 0)) out → l ≡ into_buffer (done (disk_sentence name files fit)) out
    unfolding disk_sentence
    tells_files e h p = rw (e, ne_eqb _ _ h) p
