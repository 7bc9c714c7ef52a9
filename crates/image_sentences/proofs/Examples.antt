-- Lines as docs/DESK.md shows them, computed.
-- Assumes nothing.
use mathlib.Core.Path.{◌≡◌, refl}
use mathlib.Core.Bool.{false}
use mathlib.Core.List.{[], ◌∷◌, ◌++◌}
use Rattle.word_search.specs.Spelling.{bytes_of}
use Rattle.image_faults.specs.declared.Fault.TheVariants.{ZeroInBody, NoTarget}
use Rattle.image_sentences.specs.Sentences.{fault_sentence, program_sentence, disk_sentence}

zero_told : fault_sentence (bytes_of "accident.prg") (ZeroInBody 10 2056)
    ≡ bytes_of "accident.prg: line 10: it holds a zero at address 2056: the machine ends it there, and the two readers part" ++ (0x0A ∷ [])
unfolding fault_sentence
zero_told = refl

target_told : fault_sentence (bytes_of "accident.prg") (NoTarget 20 30) ≡ bytes_of "accident.prg: line 20: it jumps to line 30, which is not there" ++ (0x0A ∷ [])
unfolding fault_sentence
target_told = refl

one_line_told : program_sentence (bytes_of "jump.bas") 2049 1 false ≡ bytes_of "jump.bas: not fit for the master; it loads at 2049 and has 1 line" ++ (0x0A ∷ [])
unfolding program_sentence
one_line_told = refl

files_told : disk_sentence (bytes_of "cover.d64") 2 false ≡ bytes_of "cover.d64: not fit for the master; 2 files" ++ (0x0A ∷ [])
unfolding disk_sentence
files_told = refl
