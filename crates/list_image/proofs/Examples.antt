-- What the two modes make of a body, worked out from the definitions (document 02, No. 6: "`10 rem do` lists as `10 REM TEXT`"), and BASIC 3.5
-- (No. 5).
-- Assumes nothing.
use Prim.Native.Nat.{ℕ}
use mathlib.Core.Path.{◌≡◌, refl}
use mathlib.Core.Bool.{true, false}
use mathlib.Core.List.{List, [], ◌∷◌, ◌++◌}
use Rattle.base_refusals.specs.Answer.{done}
use Rattle.base_ascii.specs.Bytes.{between}
use Rattle.word_tables.specs.Rom.{rom_words}
use Rattle.word_search.specs.Spelling.{bytes_of}
use Rattle.list_bytes.specs.ByteTexts.{hex_byte, hex_digits, byte_text, remark_text}
use Rattle.list_texts.specs.Texts.{token_text, text_of, text_of35}
use Rattle.word_tables.specs.Basic35.{basic35_spellings}
use Rattle.word_tables.specs.Tsb.{tsb_words, with_token, tsb_id, tsb_text}
use Rattle.word_dialects.specs.declared.Dialect.{Dialect}
use Rattle.word_dialects.specs.declared.Dialect.TheVariants.{Auto, BasicV2, Tsb, Basic35}
use Rattle.image_readers.specs.declared.By.TheVariants.{Terminators, Links}
use Rattle.image_readers.specs.Bodies.{bodies_from}
use Rattle.image_readers.specs.Readers.{step_by}
use Rattle.image_readers.specs.Links.{link_step}
use Rattle.image_bytes.specs.ImageBytes.{before_zero}
use Rattle.image_readers.specs.Terminators.{terminator_step}
use Rattle.image_units.specs.Units.{units_from}
use Rattle.list_spelling.specs.Pieces.{unknown_pair, pair_text, unit_text, spelt}
use Rattle.base_steps.specs.Decimal.{decimal}
use Rattle.list_lines.specs.Body.{body_listing}
use Rattle.list_image.specs.Listing.{listing_by, original_rules}
use Rattle.list_options.specs.Modes.{heeds_prefix, rules_under}
use Rattle.list_image.specs.Listing.{listing_under}

-- a body in the second mode
abbrev second : Dialect → List ℕ → List ℕ
second d body = body_listing (rules_under (record { dialect = d; remarks = true; by = Terminators })) body

-- a body in the old mode under BASIC 3.5
abbrev under35 : List ℕ → List ℕ
under35 body = body_listing (rules_under (record { dialect = Basic35; remarks = false; by = Terminators })) body

-- the image of `10 PRINT "{0}"` at 0801
abbrev holds_zero : List ℕ
holds_zero = 0x01 ∷ 0x08 ∷ 0x0B ∷ 0x08 ∷ 0x0A ∷ 0x00 ∷ 0x99 ∷ 0x20 ∷ 0x22 ∷ 0x00 ∷ 0x22 ∷ 0x00 ∷ 0x00 ∷ 0x00 ∷ []

pub examples :
    -- `rem do`, in either mode
    (body_listing original_rules (0x8F ∷ 0x20 ∷ 0x64 ∷ 0x6F ∷ []) ≡ bytes_of "REM TEXT")
    × (second Auto (0x8F ∷ 0x20 ∷ 0x64 ∷ 0x6F ∷ []) ≡ bytes_of "REM do")
    -- quotes are quotes, and change nothing; a token is none; letters of either case
    × (second Tsb (0x8F ∷ 0x22 ∷ 0x61 ∷ 0x22 ∷ 0x99 ∷ 0xC1 ∷ []) ≡ bytes_of "REM\"a\"{$99}A")
    -- a quoted 8F opens no remark, nor does the second byte of a pair; one behind DATA does
    × (second Tsb (0x22 ∷ 0x8F ∷ 0x22 ∷ 0x64 ∷ 0x6F ∷ []) ≡ bytes_of "\"{$8F}\"TEXT")
    × (second Tsb (0x64 ∷ 0x8F ∷ 0x64 ∷ 0x6F ∷ []) ≡ bytes_of "{64}{8F}TEXT")
    × (second Tsb (0x83 ∷ 0x8F ∷ 0x64 ∷ []) ≡ bytes_of "DATAREMd")
    -- 64 is no prefix under BasicV2
    × (second BasicV2 (0x64 ∷ 0x6F ∷ []) ≡ bytes_of "{$64}{$6F}")
    -- BASIC 3.5: CC to FD are words, FE and FF are not, and 64 takes no byte with it; quoted bytes and remarks are as elsewhere
    × (under35 (0xEB ∷ 0x3A ∷ 0xEC ∷ 0xFD ∷ 0xFE ∷ 0xFF ∷ 0xCB ∷ []) ≡ bytes_of "DO:LOOPWHILE{FE}{PI}GO")
    × (under35 (0x64 ∷ 0xCC ∷ 0x22 ∷ 0xCC ∷ 0x22 ∷ 0x64 ∷ []) ≡ bytes_of "{$64}RGR\"L\"{$64}")
    × (second Basic35 (0xEE ∷ 0x3A ∷ 0x8F ∷ 0x64 ∷ 0xEE ∷ []) ≡ bytes_of "DIRECTORY:REMd{$EE}")
    × (body_listing original_rules (0xEB ∷ []) ≡ bytes_of "{EB}")
    -- a 00 in a body: the lines by terminators and by links
    × (listing_under (record { dialect = Auto; remarks = true; by = Links }) holds_zero ≡ done (bytes_of "10 PRINT \"{null}\"" ++ 0x0A ∷ []))
unfolding body_listing listing_under listing_by heeds_prefix units_from spelt unit_text pair_text unknown_pair text_of text_of35 basic35_spellings token_text byte_text remark_text hex_byte hex_digits rom_words tsb_words with_token tsb_id tsb_text between decimal bodies_from step_by link_step terminator_step before_zero
examples = (refl, refl, refl, refl, refl, refl, refl, refl, refl, refl, refl, refl)
