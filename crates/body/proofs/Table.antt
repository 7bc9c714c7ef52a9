-- The bodies of document 01, "Proved table", and others that are easy to get wrong, each by computation.
-- Assumes nothing.
use Prim.Native.Nat.{ℕ}
use Prim.Native.String.{String}
use mathlib.Core.Path.{◌≡◌, refl}
use mathlib.Core.Bool.{Bool, true, false}
use mathlib.Core.List.{List, [], ◌∷◌, ◌++◌, map}
use Rattle.base_ascii.specs.Bytes.{between, upper}
use Rattle.base_ascii.specs.Search.{before, last, front}
use Rattle.base_ascii.specs.Trim.{trim}
use Rattle.word_search.specs.Compare.{same}
use Rattle.word_search.specs.Find.{name_in, meaning}
use Rattle.word_search.specs.Spelling.{bytes_of}
use Rattle.word_tables.specs.Escapes.{escape_names}
use Rattle.escape_bytes.specs.KeyCodes.{cbm_letters, ctrl_digits}
use Rattle.word_tables.specs.Rom.{v2_words, operators}
use Rattle.word_match.specs.Sets.{live_word, plain_word}
use Rattle.word_tables.specs.Basic35.{basic35_words}
use Rattle.word_match.specs.declared.sets.Sets.{Sets}
use Rattle.word_tables.specs.Tsb.{tsb_words}
use Rattle.escape_numbers.specs.Numbers.{digit_of, number_after, number_of, hex_of, unsigned, count_of}
use Rattle.escape_bytes.specs.Keys.{key_names, control_byte, key_with, keyed, key_escape}
use Rattle.escape_bytes.specs.Escape.{name_escape, repeated, starred, counted_name, escape_of}
use Rattle.body_short_forms.specs.Forms.{form_word}
use Rattle.body.specs.Body.{crunched_from, crunched_body}
use Rattle.body_rules.specs.Lexicon.{Lexicon, lexicon}

-- no TSB word is live
abbrev pub v2_lexicon : Lexicon
v2_lexicon = lexicon (record { tsb = false; demoted = []; basic35 = false; forms = false })

-- every TSB word is live but one, which is demoted
abbrev pub sets_but : List ℕ → Bool → Sets
sets_but w forms = record { tsb = true; demoted = map (λ e. same w e.word) tsb_words; basic35 = false; forms = forms }

abbrev pub all_but : List ℕ → Lexicon
all_but w = lexicon (sets_but w false)

-- the words of BASIC 3.5, and no TSB word
abbrev pub basic35_lexicon : Lexicon
basic35_lexicon = lexicon (record { tsb = false; demoted = []; basic35 = true; forms = false })

infix 60 ◌gives◌
abbrev pub ◌gives◌ : String → List ℕ → Type 0
text gives bytes = crunched_body v2_lexicon (bytes_of text) ≡ bytes

pub body-table :
    -- the cases of document 01
    ("\"{sh *}\"" gives 0x22 ∷ 0xC0 ∷ 0x22 ∷ [])
    × ("\"{space*0}\"" gives 0x22 ∷ 0x7B ∷ 0x53 ∷ 0x50 ∷ 0x41 ∷ 0x43 ∷ 0x45 ∷ 0x2A ∷ 0x30 ∷ 0x7D ∷ 0x22 ∷ [])
    × ("PRINT \"{0}\"" gives 0x99 ∷ 0x20 ∷ 0x22 ∷ 0x00 ∷ 0x22 ∷ [])
    -- a byte 22 that an escape makes ends nothing; the first later } counts, even beyond a quote
    × ("\"{34}A" gives 0x22 ∷ 0x22 ∷ 0xC1 ∷ [])
    × ("\"{ctrl \"}" gives 0x22 ∷ 0x02 ∷ [])
    × ("\"{re\"d}" gives 0x22 ∷ 0x7B ∷ 0x52 ∷ 0x45 ∷ 0x22 ∷ 0x44 ∷ 0x7D ∷ [])
    × ("\"{foo{red}" gives 0x22 ∷ 0x7B ∷ 0x46 ∷ 0x4F ∷ 0x4F ∷ 0x1C ∷ [])
    × ("\"{sh **2}" gives 0x22 ∷ 0xC0 ∷ 0xC0 ∷ [])
    × ("\"{g}" gives 0x22 ∷ 0x7B ∷ 0x47 ∷ 0x7D ∷ [])
    × ("\"{CBM_A}\"A\"" gives 0x22 ∷ 0xB0 ∷ 0x22 ∷ 0x41 ∷ 0x22 ∷ [])
    -- no escapes in DATA, nothing raised in a remark
    × ("data \"{red}a:\":a" gives 0x83 ∷ 0x20 ∷ 0x22 ∷ 0x7B ∷ 0x52 ∷ 0x45 ∷ 0x44 ∷ 0x7D ∷ 0x41 ∷ 0x3A ∷ 0x22 ∷ 0x3A ∷ 0x41 ∷ [])
    × ("rem \"{red}ab:" gives 0x8F ∷ 0x20 ∷ 0x22 ∷ 0x7B ∷ 0x72 ∷ 0x65 ∷ 0x64 ∷ 0x7D ∷ 0x61 ∷ 0x62 ∷ 0x3A ∷ [])
    -- the longest word, ? for PRINT, operators, letters raised
    × ("go to 1:goto1" gives 0xCB ∷ 0x20 ∷ 0xA4 ∷ 0x20 ∷ 0x31 ∷ 0x3A ∷ 0x89 ∷ 0x31 ∷ [])
    × ("?a>=b" gives 0x99 ∷ 0x41 ∷ 0xB1 ∷ 0xB2 ∷ 0x42 ∷ [])
    × ("input#1,a$" gives 0x84 ∷ 0x31 ∷ 0x2C ∷ 0x41 ∷ 0x24 ∷ [])
    -- pi is a constant in plain alone
    × (crunched_body v2_lexicon (0xCF ∷ 0x80 ∷ []) ≡ 0xFF ∷ [])
    × (crunched_body v2_lexicon (bytes_of "\"" ++ (0xCF ∷ 0x80 ∷ [])) ≡ 0x22 ∷ 0xCF ∷ 0x80 ∷ [])
    × (crunched_body v2_lexicon (bytes_of "data" ++ (0xCF ∷ 0x80 ∷ [])) ≡ 0x83 ∷ 0xCF ∷ 0x80 ∷ [])
    × (crunched_body v2_lexicon (bytes_of "rem" ++ (0xCF ∷ 0x80 ∷ [])) ≡ 0x8F ∷ 0xCF ∷ 0x80 ∷ [])
    -- a live word is crunched, a demoted one is not, and blocks a live one that begins with it
    × (crunched_body (all_but (bytes_of "DIR")) (bytes_of "DIR=5:HIRES 0,1")
    ≡ 0x44 ∷ 0x49 ∷ 0x52 ∷ 0xB2 ∷ 0x35 ∷ 0x3A ∷ 0x64 ∷ 0x01 ∷ 0x20 ∷ 0x30 ∷ 0x2C ∷ 0x31 ∷ [])
    × (crunched_body (all_but (bytes_of "DO")) (bytes_of "downb:dir") ≡ 0x44 ∷ 0x4F ∷ 0x57 ∷ 0x4E ∷ 0x42 ∷ 0x3A ∷ 0x64 ∷ 0x4A ∷ [])
    × (crunched_body (all_but []) (bytes_of "do:downb:on key") ≡ 0x64 ∷ 0x22 ∷ 0x3A ∷ 0x64 ∷ 0x15 ∷ 0x3A ∷ 0x64 ∷ 0x37 ∷ [])
    -- document 02, No. 5: the words of BASIC 3.5 beside those of V2, and END LOOP and HIRES are no words
    × (crunched_body basic35_lexicon (bytes_of "do:end loop") ≡ 0xEB ∷ 0x3A ∷ 0x80 ∷ 0x20 ∷ 0xEC ∷ [])
    × (crunched_body basic35_lexicon (bytes_of "hires:rem do") ≡ 0x48 ∷ 0x49 ∷ 0x52 ∷ 0x45 ∷ 0x53 ∷ 0x3A ∷ 0x8F ∷ 0x20 ∷ 0x64 ∷ 0x6F ∷ [])
    × (crunched_body basic35_lexicon (bytes_of "?hex$(\"do\")") ≡ 0x99 ∷ 0xD2 ∷ 0x28 ∷ 0x22 ∷ 0x44 ∷ 0x4F ∷ 0x22 ∷ 0x29 ∷ [])
    × ("do" gives 0x44 ∷ 0x4F ∷ [])
unfolding crunched_from live_word plain_word v2_words basic35_words operators tsb_words name_in meaning escape_of counted_name starred repeated name_escape key_escape keyed key_with control_byte key_names count_of unsigned hex_of number_of number_after digit_of escape_names cbm_letters ctrl_digits last before trim upper between same
body-table = (refl, refl, refl, refl, refl, refl, refl, refl, refl, refl, refl, refl, refl, refl, refl, refl, refl, refl, refl, refl, refl, refl, refl, refl, refl, refl)

-- short forms, where they are taken (document 02, No. 7)

infix 60 ◌shortened_gives◌
abbrev pub ◌shortened_gives◌ : String → List ℕ → Type 0
text shortened_gives bytes = crunched_body (lexicon (record { tsb = false; demoted = []; basic35 = false; forms = true })) (bytes_of text) ≡ bytes

pub shortened-table :
    ("pO1,pE2" shortened_gives 0x97 ∷ 0x31 ∷ 0x2C ∷ 0xC2 ∷ 0x32 ∷ [])
    -- a whole word comes first, whatever follows
    × ("gO:goS" shortened_gives 0xCB ∷ 0x3A ∷ 0xCB ∷ 0x53 ∷ [])
    × ("lOop" shortened_gives 0x93 ∷ 0x4F ∷ 0x50 ∷ [])
    -- 83 opens DATA; in DATA, in a string and in a remark there are none
    × ("dApO:pO" shortened_gives 0x83 ∷ 0x50 ∷ 0x4F ∷ 0x3A ∷ 0x97 ∷ [])
    × ("\"pO\"" shortened_gives 0x22 ∷ 0x50 ∷ 0xCF ∷ 0x22 ∷ [])
    × ("rempO" shortened_gives 0x8F ∷ 0x70 ∷ 0x4F ∷ [])
    -- letters of no word
    × ("xY" shortened_gives 0x58 ∷ 0x59 ∷ [])
    -- a demoted word stands in the way, and so does a live one
    × (crunched_body (lexicon (sets_but (bytes_of "DIR") true)) (bytes_of "dIr:dI:lOop") ≡ 0x44 ∷ 0x49 ∷ 0x52 ∷ 0x3A ∷ 0x86 ∷ 0x3A ∷ 0x64 ∷ 0x3A ∷ [])
    -- under BASIC 3.5 its own words stand in the way too
    × (crunched_body (lexicon (record { tsb = false; demoted = []; basic35 = true; forms = true })) (bytes_of "dO:pO") ≡ 0xEB ∷ 0x3A ∷ 0x97 ∷ [])
    -- with the option off they are letters
    × ("pO" gives 0x50 ∷ 0x4F ∷ [])
unfolding crunched_from live_word plain_word form_word v2_words basic35_words operators tsb_words upper between same front
shortened-table = (refl, refl, refl, refl, refl, refl, refl, refl, refl, refl)
