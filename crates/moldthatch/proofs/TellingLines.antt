-- What is told of lines.
-- Assumes nothing.
use Prim.Native.Nat.{ℕ}
use mathlib.Core.Path.{◌≡◌, sym, ap, ◌∙◌}
use mathlib.Core.List.{List}
use Rattle.base_refusals.specs.Answer.{Answer, numbered, answered}
use Rattle.base_refusals.specs.Code.{code_of}
use Rattle.base_refusals.specs.declared.Code.{Code}
use Rattle.base_refusals.specs.declared.Refusal.{Refusal}
use Rattle.word_dialects.specs.Dialects.{by_number}
use Rattle.word_dialects.specs.declared.Dialect.{Dialect}
use Rattle.image_find.specs.Sought.{Visit, sought_answer}
use Rattle.image_find.specs.declared.Sought.{Sought}
use Rattle.crunch_rules.specs.declared.Options.{Options}
use Rattle.crunch_rules.specs.declared.MeasuredLine.{MeasuredLine}
use Rattle.crunch_rules.specs.Measured.{line_measured}
use Rattle.library_numbers.specs.declared.CrunchNumbers.{CrunchNumbers}
use Rattle.library_numbers.specs.Choices.{crunch_options}
use Rattle.moldthatch.specs.declared.lines.LineCode.{LineCode}
use Rattle.moldthatch.specs.Given.{measured_with}
use Rattle.moldthatch.specs.ToldLines.{no_line, step_code, visit_code, measured_code}
use Rattle.moldthatch.proofs.TellingOptions.{of_known, of_unknown}
use Rattle.std.specs.Prelude.{Result, Ok, Err}
use Rattle.std.specs.Prelude.{Option}
use Rattle.image_readers.specs.declared.Line.{Line}

-- a result whose value is read again from the result itself
pub inner_read : {A E : Type 0} {r : Result A E} {f g a : A} → r ≡ Ok f → g ≡ a → f ≡ g → r ≡ Ok a
inner_read is e read = is ∙ ap Ok (read ∙ e)

-- none, for a refusal
pub tells_none : (r : Refusal) {k : Code} → k ≡ code_of (numbered r) → {c : LineCode} → c ≡ no_line k → c ≡ no_line (code_of (numbered r))
tells_none r code made = made ∙ ap no_line code

module _ {c : LineCode} where
  pub tells_step : (r : Result (Option Line) Refusal) {m : Result (Option Line) Refusal} → r ≡ m → c ≡ step_code (answered m) → c ≡ step_code (answered r)
  tells_step r e code = code ∙ ap (λ (x : Result (Option Line) Refusal). step_code (answered x)) (sym e)

  pub tells_found : (r : Result (Option Line) Refusal) → c ≡ step_code (answered r) → {a : Answer (Option Line)} → answered r ≡ a → c ≡ step_code a
  tells_found r code q = code ∙ ap step_code q

  pub tells_sought : (r : Result Sought Refusal) {m : Result Sought Refusal} → r ≡ m → c ≡ visit_code (sought_answer m) → c ≡ visit_code (sought_answer r)
  tells_sought r e code = code ∙ ap (λ (x : Result Sought Refusal). visit_code (sought_answer x)) (sym e)

  pub tells_visit : (r : Result Sought Refusal) → c ≡ visit_code (sought_answer r) → {a : Answer Visit} → sought_answer r ≡ a → c ≡ visit_code a
  tells_visit r code q = code ∙ ap visit_code q

  pub tells_measured : (r : Result (Option MeasuredLine) Refusal) {m : Result (Option MeasuredLine) Refusal} → r ≡ m → c ≡ measured_code (answered m) → c ≡ measured_code (answered r)
  tells_measured r e code = code ∙ ap (λ (x : Result (Option MeasuredLine) Refusal). measured_code (answered x)) (sym e)

-- the line at a place of the image that a text would have
module _ (g : CrunchNumbers) (place : ℕ) (text : List ℕ) {n : (Result Dialect Refusal)} (answer : answered n ≡ by_number g.dialect) {c : LineCode} where
  pub tells_there : {d : Dialect} → n ≡ Ok d → {p : Options} → p ≡ crunch_options g d → (r : Result (Option MeasuredLine) Refusal) → c ≡ measured_code (answered r)
      → answered r ≡ line_measured p place text → c ≡ measured_code (measured_with g place text)
  tells_there e is r code q =
      code
      ∙ ap measured_code (q ∙ ap (λ (x : Options). line_measured x place text) is ∙ of_known (λ d. line_measured (crunch_options g d) place text) g.dialect answer e)

  pub tells_unmeasured : {r : Refusal} → n ≡ Err r → c ≡ no_line (code_of (numbered r)) → c ≡ measured_code (measured_with g place text)
  tells_unmeasured e code = code ∙ ap measured_code (of_unknown (λ d. line_measured (crunch_options g d) place text) g.dialect answer e)
