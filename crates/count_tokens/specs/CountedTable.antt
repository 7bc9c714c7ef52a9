-- Bodies and images with what is counted in them (document 02, No. 12).
-- Assumes nothing.
use Rattle.std.specs.Prelude.{◌≡◌, [], ◌∷◌}
use Rattle.base_refusals.specs.Answer.{done, refused}
use Rattle.base_refusals.specs.Numbers.{unexpected_eof}
use Rattle.count_tokens.specs.Tokens.{tokens_of, tokens_in}

abbrev pub CountedTable : Type 0
CountedTable =
    -- in quotes nothing counts
    (tokens_of (0x99 ∷ 0x22 ∷ 0x99 ∷ 0x22 ∷ 0x3A ∷ 0x80 ∷ []) ≡ 0x99 ∷ 0x80 ∷ [])
    -- a remark's token counts; what stands in the remark does not, tokens and pairs alike
    × (tokens_of (0x99 ∷ 0x8F ∷ 0x99 ∷ 0x64 ∷ 0x01 ∷ 0x22 ∷ 0x99 ∷ []) ≡ 0x99 ∷ 0x8F ∷ [])
    -- 64 takes the next byte with it, even a quote, which is DO, or 8F, which is no TSB word and counts as nothing; a last 64 is nothing
    × (tokens_of (0x64 ∷ 0x22 ∷ 0x99 ∷ 0x64 ∷ 0x8F ∷ 0x64 ∷ 0x01 ∷ 0x64 ∷ []) ≡ 0x22 ∷ 0x99 ∷ 0x01 ∷ [])
    -- B1, B2, B3 behind 64 count at 3E, 3D, 3C, and alone at themselves
    × (tokens_of (0x64 ∷ 0xB1 ∷ 0x64 ∷ 0xB2 ∷ 0x64 ∷ 0xB3 ∷ 0xB1 ∷ []) ≡ 0x3E ∷ 0x3D ∷ 0x3C ∷ 0xB1 ∷ [])
    -- DATA counts like the rest; CC and pi count as nothing
    × (tokens_of (0x83 ∷ 0x80 ∷ 0xCB ∷ 0xCC ∷ 0xFF ∷ []) ≡ 0x83 ∷ 0x80 ∷ 0xCB ∷ [])
    -- an image; one whose second line is cut short is refused, and its first line is not counted
    × (tokens_in (0x01 ∷ 0x08 ∷ 0x07 ∷ 0x08 ∷ 0x0A ∷ 0x00 ∷ 0x99 ∷ 0x00 ∷ 0x00 ∷ 0x00 ∷ []) ≡ done (0x99 ∷ []))
    × (tokens_in (0x01 ∷ 0x08 ∷ 0x07 ∷ 0x08 ∷ 0x0A ∷ 0x00 ∷ 0x99 ∷ 0x00 ∷ 0x0D ∷ 0x08 ∷ 0x14 ∷ []) ≡ refused unexpected_eof)
