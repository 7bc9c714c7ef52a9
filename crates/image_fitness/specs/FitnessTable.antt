-- Small programs and their faults.
-- Assumes nothing.
use Rattle.std.specs.Prelude.{ℕ, ◌≡◌, List, [], ◌∷◌}
use Rattle.base_refusals.specs.Answer.{done}
use Rattle.image_readers.specs.NumberedBody.{NumberedBody}
use Rattle.image_layout.specs.Layout.{image_of}
use Rattle.image_faults.specs.declared.Fault.{Fault}
use Rattle.image_faults.specs.declared.Fault.TheVariants.{OutsideMemory, NumberTooHigh, NotAscending, ZeroInBody, BodyLength, NoTarget, LinkChanges}
use Rattle.image_faults.specs.Faults.{fitness}

abbrev short_line : ℕ → List ℕ → NumberedBody
short_line number body = record { number = number; body = body }

-- the lines at a load address have these faults
abbrev pub FaultsAre : ℕ → List NumberedBody → List Fault → Type 0
FaultsAre load ls faults = fitness (image_of load ls) ≡ done faults

abbrev pub FitnessTable : Type 0
FitnessTable =
    -- 10 PRINT, 20 GOTO 10
    FaultsAre 0x0801 (short_line 10 (0x99 ∷ []) ∷ short_line 20 (0x89 ∷ 0x31 ∷ 0x30 ∷ []) ∷ []) []
    -- 10 PRINT "{0}": the accident
    × FaultsAre 0x0801 (short_line 10 (0x99 ∷ 0x20 ∷ 0x22 ∷ 0x00 ∷ 0x22 ∷ []) ∷ []) (ZeroInBody 10 0x0808 ∷ LinkChanges 10 0x0809 ∷ [])
    -- 64000 PRINT, and twice 10 PRINT
    × FaultsAre 0x0801 (short_line 64000 (0x99 ∷ []) ∷ []) (NumberTooHigh 64000 ∷ [])
    × FaultsAre 0x0801 (short_line 10 (0x99 ∷ []) ∷ short_line 10 (0x99 ∷ []) ∷ []) (NotAscending 10 ∷ [])
    -- an empty body
    × FaultsAre 0x0801 (short_line 10 [] ∷ []) (BodyLength 10 0 ∷ LinkChanges 10 0x0807 ∷ [])
    -- 10 GOTO 2
    × FaultsAre 0x0801 (short_line 10 (0x89 ∷ 0x32 ∷ []) ∷ []) (NoTarget 10 2 ∷ [])
    -- at 0800
    × FaultsAre 0x0800 (short_line 10 (0x99 ∷ []) ∷ []) (OutsideMemory 0x0800 10 ∷ [])
