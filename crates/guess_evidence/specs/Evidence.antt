-- Whether a line proves that a text is TSB, step for step from source.rs, tsb_statement_evidence (document 01, "Guessing the dialect":
-- "The first skips white space 09 0A 0C 0D 20 and moves one byte after a word that proves nothing").
-- Assumes nothing.
use Rattle.std.specs.Prelude.{ℕ, suc, ◌+◌, Bool, true, false, List, [], ◌∷◌, eqb, length, get_or, drop}
use Rattle.base_steps.specs.Again.{again}
use Rattle.base_ascii.specs.Bytes.{is_digit}
use Rattle.base_ascii.specs.Search.{is_white, front, past}
use Rattle.word_search.specs.Compare.{begins}
use Rattle.word_search.specs.Find.{word_in}
use Rattle.std.specs.Prelude.{Option, Some, None}
use Rattle.word_search.specs.Spelling.{bytes_of}
use Rattle.word_tables.specs.Tsb.{tsb_words}
use Rattle.guess_uses.specs.Proving.{proves}
use Rattle.guess_places.specs.Places.{is_plain, is_start, aside}
use Rattle.guess_places.specs.declared.place.Place.{Place}
use Rattle.guess_places.specs.declared.place.Place.TheVariants.{Start, Within, Quoted, Data}
use Rattle.guess_evidence.specs.declared.EvidenceStep.{EvidenceStep}
use Rattle.guess_evidence.specs.declared.EvidenceStep.TheVariants.{Proved, Remark, On}
use Rattle.guess_evidence.specs.declared.DecidingWord.{DecidingWord}

-- a TSB word in front of a text proves it
unfoldable pub word_proves : Place → List ℕ → Bool
unfolding is_start word_in tsb_words proves
word_proves place t = elim (word_in tsb_words t) [ Some m ↦ proves (is_start place) t m.used | None ↦ false ]

-- a step on through a statement: a colon ends it, white space leaves the place as it is, a TSB word may prove it
unfoldable pub word_step : Place → List ℕ → EvidenceStep
unfolding word_proves
word_step place t =
    elim (eqb (get_or t 0 0) 0x3A) [
      | true ↦ On 1 Start
      | false ↦
          elim (is_white (get_or t 0 0)) [
            | true ↦ On 1 place
            | false ↦ elim (word_proves place t) [ true ↦ Proved | false ↦ On 1 Within ]
          ]
    ]

-- a step outside strings and DATA, at the front of what is left of the line
unfoldable pub statement_step : Place → List ℕ → EvidenceStep
unfolding begins word_step
statement_step place t =
    elim (eqb (get_or t 0 0) 0x22) [
      | true ↦ On 1 Quoted
      | false ↦
          elim (begins (bytes_of "REM") t) [
            | true ↦ Remark
            | false ↦ elim (begins (bytes_of "DATA") t) [ true ↦ On 4 Data | false ↦ word_step place t ]
          ]
    ]

unfoldable pub evidence_step : Place → List ℕ → EvidenceStep
unfolding is_plain aside statement_step
evidence_step place t = elim (is_plain place) [ true ↦ statement_step place t | false ↦ On 1 (aside place (get_or t 0 0)) ]

-- a step where the scan stands, with what is left of the line; then on from behind it
unfoldable pub evidence_on : (Place × List ℕ → Bool) → Place × List ℕ → Bool
unfolding evidence_step
evidence_on more x =
    elim x.1 [
      | [] ↦ false
      | b ∷ s ↦ elim (evidence_step x.0 x.1) [ Proved ↦ true | Remark ↦ false | On used next ↦ more (next, drop used x.1) ]
    ]

unfoldable pub evidence_from : Place → List ℕ → Bool
unfolding again evidence_on
evidence_from place t = again false evidence_on (suc (length t)) (place, t)

-- white space and digits before the first statement
unfoldable pub number_length : List ℕ → ℕ
unfolding front
number_length l = front is_white l + front is_digit (past is_white l)

unfoldable pub line_evidence : List ℕ → Bool
unfolding evidence_from number_length
line_evidence l = evidence_from Start (drop (number_length l) l)

-- ---- the same walk, which answers where the word that proves it stands

-- a step so many bytes into the line; then on from behind it
unfoldable pub deciding_on : (ℕ × Place × List ℕ → Option ℕ) → ℕ × Place × List ℕ → Option ℕ
unfolding evidence_step
deciding_on more x =
    elim x.2 [
      | [] ↦ None
      | b ∷ s ↦ elim (evidence_step x.1 x.2) [ Proved ↦ Some x.0 | Remark ↦ None | On used next ↦ more (x.0 + used, next, drop used x.2) ]
    ]

unfoldable pub deciding_from : ℕ → Place → List ℕ → Option ℕ
unfolding again deciding_on
deciding_from i place t = again None deciding_on (suc (length t)) (i, place, t)

unfoldable pub deciding_place : List ℕ → Option ℕ
unfolding deciding_from number_length
deciding_place l = deciding_from (number_length l) Start (drop (number_length l) l)

-- the place in the list of the TSB word that a text begins with; 0 where there is none
unfoldable pub list_place : List ℕ → ℕ
unfolding word_in tsb_words
list_place t = elim (word_in tsb_words t) [ Some m ↦ m.index | None ↦ 0 ]

unfoldable pub deciding_word : List ℕ → Option DecidingWord
unfolding deciding_place list_place
deciding_word l = elim (deciding_place l) [ Some i ↦ Some (record { offset = i; word = list_place (drop i l) }) | None ↦ None ]

-- a word decides
unfoldable pub decides : Option DecidingWord → Bool
decides (Some word) = true
decides None = false
