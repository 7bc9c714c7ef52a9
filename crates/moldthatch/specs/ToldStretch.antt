-- A stretch of a line's listing (crates/list_stretches/specs/Stretch.antt) in numbers, and what is left of the line.
-- Assumes nothing.
use Rattle.std.specs.Prelude.{ℕ, zero, suc, List, [], ◌∷◌, length}
use Rattle.std.proofs.lemmas.List.Edits.{sets}
use Rattle.base_refusals.specs.Answer.{Answer, done, refused, and_then}
use Rattle.base_refusals.specs.Code.{code_of, answer_code}
use Rattle.word_dialects.specs.Dialects.{by_number}
use Rattle.library_numbers.specs.FaultNumbers.{mode_number, mode_of}
use Rattle.list_options.specs.Modes.{rules_under}
use Rattle.list_stretches.specs.Stretch.{Stretched, stretch_of, stretch_answer}
use Rattle.list_stretches.specs.declared.Place.{Place}
use Rattle.list_stretches.specs.declared.Place.TheVariants.{Number, Body, Over}
use Rattle.list_stretches.specs.declared.Stretch.{Stretch}
use Rattle.library_numbers.specs.declared.ListNumbers.{ListNumbers}
use Rattle.library_numbers.specs.Choices.{list_options}
use Rattle.moldthatch.specs.declared.stretch.PlaceNumbers.{PlaceNumbers}
use Rattle.moldthatch.specs.declared.stretch.StretchCode.{StretchCode}

-- what is left of a line in numbers, and back (`place_back`, proofs/TellingStretch.antt)
abbrev pub place_numbers : Place → PlaceNumbers
place_numbers (Number n) = record { kind = 0; mode = 0; number = n; at = 0 }
place_numbers (Body at mode) = record { kind = 1; mode = mode_number mode; number = 0; at = at }
place_numbers Over = record { kind = 2; mode = 0; number = 0; at = 0 }

unfoldable pub place_of_kind : ℕ → PlaceNumbers → Place
unfolding mode_of
place_of_kind zero x = Number x.number
place_of_kind (suc zero) x = Body x.at (mode_of x.mode)
place_of_kind (suc (suc n)) x = Over

abbrev pub stretch_place : PlaceNumbers → Place
stretch_place x = place_of_kind x.kind x

abbrev pub stretch_code : Stretch → StretchCode
stretch_code s = record { code = answer_code (done (s.length ∷ [])); place = place_numbers s.place }

-- what is told, and what the buffer that was lent holds then
pub record StretchTold : Type 0 where
  pub told : StretchCode
  pub buffer : List ℕ

-- a stretch at the buffer's start; a refusal leaves the buffer and the place as they were
abbrev pub stretch_told : PlaceNumbers → List ℕ → Answer Stretched → StretchTold
stretch_told x buffer (done s) = record { told = stretch_code (stretch_answer s); buffer = sets buffer 0 s.text }
stretch_told x buffer (refused n) = record { told = record { code = code_of n; place = x }; buffer = buffer }

abbrev pub stretched_with : ListNumbers → List ℕ → PlaceNumbers → List ℕ → StretchTold
stretched_with o body x buffer =
    stretch_told x buffer (and_then (by_number o.dialect) (λ d. done (stretch_of (rules_under (list_options o d)) body (length buffer) (stretch_place x))))
