-- Jumps of bodies, by computation (document 02, No. 13).
-- Assumes nothing.
use Prim.Native.Nat.{ℕ}
use mathlib.Core.Path.{◌≡◌, refl}
use mathlib.Core.List.{List, [], ◌∷◌}
use Rattle.image_jumps.specs.Jumps.{jumps_from, jumps_of}

infix 60 ◌jumps◌
abbrev pub ◌jumps◌ : List ℕ → List ℕ → Type 0
body jumps targets = jumps_of body ≡ targets

pub jump-table :
    -- GOTO 1 0,,20: spaces are skipped in a number, and an empty place gives none
    ((0x89 ∷ 0x20 ∷ 0x31 ∷ 0x20 ∷ 0x30 ∷ 0x2C ∷ 0x2C ∷ 0x32 ∷ 0x30 ∷ []) jumps (10 ∷ 20 ∷ []))
    -- THEN GOTO 10 jumps once
    × ((0xA7 ∷ 0x20 ∷ 0x89 ∷ 0x31 ∷ 0x30 ∷ []) jumps (10 ∷ []))
    -- GO TO 7; GO alone is no jump
    × ((0xCB ∷ 0x20 ∷ 0x20 ∷ 0xA4 ∷ 0x37 ∷ []) jumps (7 ∷ []))
    × ((0xCB ∷ 0x20 ∷ 0x37 ∷ []) jumps [])
    -- GOSUB 65536, behind 00
    × ((0x8D ∷ 0x30 ∷ 0x30 ∷ 0x36 ∷ 0x35 ∷ 0x35 ∷ 0x33 ∷ 0x36 ∷ []) jumps (65536 ∷ []))
    -- quoted, in a pair, in a remark: none
    × ((0x22 ∷ 0x89 ∷ 0x31 ∷ 0x22 ∷ 0x64 ∷ 0x89 ∷ 0x31 ∷ 0x8F ∷ 0x89 ∷ 0x31 ∷ []) jumps [])
    -- DATA up to a colon, a REM in it being none, and then GOTO 2
    × ((0x83 ∷ 0x89 ∷ 0x31 ∷ 0x8F ∷ 0x3A ∷ 0x89 ∷ 0x32 ∷ []) jumps (2 ∷ []))
unfolding jumps_from
jump-table = (refl, refl, refl, refl, refl, refl, refl)
