-- Short forms by computation: the place of the word in the list, the letters used up, and the token.
-- Assumes nothing.
use Prim.Native.String.{String}
use mathlib.Core.Path.{◌≡◌, refl}
use mathlib.Core.Bool.{true, false}
use mathlib.Core.List.{[]}
use Rattle.base_ascii.specs.Bytes.{between, upper}
use Rattle.base_ascii.specs.Search.{front}
use Rattle.word_search.specs.Spelling.{bytes_of}
use Rattle.word_search.specs.declared.Match.{Match}
use Rattle.word_tables.specs.Rom.{v2_words}
use Rattle.word_tables.specs.Tsb.{tsb_words}
use Rattle.std.specs.Prelude.{ℕ, Option, Some, None}
use Rattle.body_short_forms.specs.Forms.{short_form, form_word}

abbrev word : ℕ → ℕ → ℕ → Option Match
word index used token = Some (record { index = index; used = used; token = token })

infix 60 ◌is_short_for◌
abbrev ◌is_short_for◌ : String → Option Match → Type 0
text is_short_for w = short_form v2_words (bytes_of text) ≡ w

stands-table :
    -- POKE, INPUT# and PRINT#, the first of their letters in table order; READ is one before RESTORE
    ("pO" is_short_for word 23 2 0x97)
    × ("iN" is_short_for word 4 2 0x84)
    × ("pR" is_short_for word 24 2 0x98)
    × ("rE" is_short_for word 7 2 0x87)
    × ("reS" is_short_for word 12 3 0x8C)
    -- all but the last letter of the longest word; the letters are used up, and no more
    × ("restoR" is_short_for word 12 6 0x8C)
    × ("pOKE" is_short_for word 23 2 0x97)
    -- small letters alone, a capital alone, a word's own length, letters of no word
    × ("po" is_short_for None)
    × ("PO" is_short_for None)
    × ("oN" is_short_for None)
    × ("xY" is_short_for None)
unfolding short_form v2_words between upper front
stands-table = (refl, refl, refl, refl, refl, refl, refl, refl, refl, refl, refl)

-- a TSB word stands in the way where TSB words are in force
force-table :
    (form_word (record { tsb = false; demoted = []; basic35 = false; forms = true }) tsb_words v2_words (bytes_of "lOop") ≡ word 19 2 0x93)
    × (form_word (record { tsb = true; demoted = []; basic35 = false; forms = true }) tsb_words v2_words (bytes_of "lOop") ≡ None)
    × (form_word (record { tsb = false; demoted = []; basic35 = false; forms = false }) tsb_words v2_words (bytes_of "lOop") ≡ None)
unfolding form_word tsb_words v2_words between upper front
force-table = (refl, refl, refl)
