-- What is told of stretches.
-- Assumes nothing.
use Prim.Native.Nat.{ℕ, zero, suc}
use mathlib.Core.Path.{◌≡◌, refl, sym, ap, ◌∙◌}
use mathlib.Core.List.{List}
use lib.ListN.{length}
use lib.Seq.{sets}
use Rattle.base_refusals.specs.Answer.{done, numbered, answered}
use Rattle.base_refusals.specs.Code.{code_of}
use Rattle.base_refusals.specs.declared.Code.{Code}
use Rattle.base_refusals.specs.declared.Refusal.{Refusal}
use Rattle.word_dialects.specs.Dialects.{by_number}
use Rattle.word_dialects.specs.declared.Dialect.{Dialect}
use Rattle.image_units.specs.declared.Mode.{Mode}
use Rattle.library_numbers.specs.FaultNumbers.{mode_number, mode_of}
use Rattle.library_numbers.proofs.Walking.{mode_back}
use Rattle.list_options.specs.declared.ListOptions.{ListOptions}
use Rattle.list_options.specs.Modes.{rules_under}
use Rattle.list_stretches.specs.Stretch.{Stretched, stretch_of, stretch_answer}
use Rattle.list_stretches.specs.declared.Place.{Place}
use Rattle.list_stretches.specs.declared.Place.TheVariants.{Number, Body, Over}
use Rattle.list_stretches.specs.declared.Stretch.{Stretch}
use Rattle.library_numbers.specs.declared.ListNumbers.{ListNumbers}
use Rattle.library_numbers.specs.Choices.{list_options}
use Rattle.moldthatch.specs.declared.stretch.PlaceNumbers.{PlaceNumbers}
use Rattle.moldthatch.specs.declared.stretch.StretchCode.{StretchCode}
use Rattle.moldthatch.specs.ToldStretch.{place_numbers, place_of_kind, stretch_place, stretch_code, StretchTold, stretch_told, stretched_with}
use Rattle.moldthatch.proofs.TellingOptions.{of_known, of_unknown}
use Rattle.std.specs.Prelude.{Result, Ok, Err}

-- ---- numbers name the place that they were made from

pub place_back : (p : Place) → stretch_place (place_numbers p) ≡ p
unfolding place_of_kind
place_back (Number n) = refl
place_back (Body at mode) = ap (Body at) (mode_back mode)
place_back Over = refl

-- ---- places

module _ (x : PlaceNumbers) where
  pub place_number : x.kind ≡ 0 → Number x.number ≡ stretch_place x
  unfolding place_of_kind
  place_number e = ap (λ (k : ℕ). place_of_kind k x) (sym e)

  pub place_body : x.kind ≡ 1 → {m : Mode} → m ≡ mode_of x.mode → Body x.at m ≡ stretch_place x
  unfolding place_of_kind
  place_body e is = ap (Body x.at) is ∙ ap (λ (k : ℕ). place_of_kind k x) (sym e)

  pub place_over : (k : ℕ) → (k ≡ 0 → ⊥) → (k ≡ 1 → ⊥) → Over ≡ place_of_kind k x
  unfolding place_of_kind
  place_over zero a b = absurd (a refl)
  place_over (suc zero) a b = absurd (b refl)
  place_over (suc (suc n)) a b = refl

pub tells_place : (p : Place) {q : Place} → p ≡ q → {n : PlaceNumbers} → n ≡ place_numbers q → n ≡ place_numbers p
tells_place p e is = is ∙ ap place_numbers (sym e)

pub tells_body : (p : Place) {at : ℕ} {mode : Mode} → p ≡ Body at mode → {k : ℕ} → k ≡ mode_number mode → record { kind = 1; mode = k; number = 0; at = at } ≡ place_numbers p
tells_body p {at} e is = tells_place p e (ap (λ (x : ℕ). record { kind = 1; mode = x; number = 0; at = at }) is)

-- ---- stretches

pub tells_length : (s : Stretch) {c : Code} → c ≡ record { number = 0; count = 1; first = s.length; second = 0 } → {x : PlaceNumbers} → x ≡ place_numbers s.place → ◌≡◌ {A = StretchCode} (record { code = c; place = x }) (stretch_code s)
tells_length s {c} code place = ap (λ (x : PlaceNumbers). record { code = c; place = x }) place ∙ ap (λ (x : Code). record { code = x; place = place_numbers s.place }) code

pub tells_no_stretch : (r : Refusal) (x : PlaceNumbers) {c : Code} → c ≡ code_of (numbered r) → ◌≡◌ {A = StretchCode} (record { code = c; place = x }) (record { code = code_of (numbered r); place = x })
tells_no_stretch r x code = ap (λ (y : Code). record { code = y; place = x }) code

-- what a buffer holds of a body from a place on
abbrev held_by : List ℕ → List ℕ → ListOptions → Place → Stretched
held_by body buffer p q = stretch_of (rules_under p) body (length buffer) q

module _ (g : ListNumbers) (body : List ℕ) (x : PlaceNumbers) (buffer : List ℕ) {n : (Result Dialect Refusal)} (answer : answered n ≡ by_number g.dialect) {c : StretchCode} where
  pub tells_stretch : {d : Dialect} → n ≡ Ok d → {p : ListOptions} → p ≡ list_options g d → {q : Place} → q ≡ stretch_place x → (r : Stretch) → c ≡ stretch_code r → {b : List ℕ}
      → (r ≡ stretch_answer (stretch_of (rules_under p) body (length buffer) q)) × (b ≡ sets buffer 0 (stretch_of (rules_under p) body (length buffer) q).text)
      → ◌≡◌ {A = StretchTold} (record { told = c; buffer = b }) (stretched_with g body x buffer)
  tells_stretch {d} e {p} is {q} at r code {b} meets =
      ap (λ (y : StretchCode). record { told = y; buffer = b }) (code ∙ ap stretch_code meets.0)
      ∙ ap (λ (y : List ℕ). record { told = stretch_code (stretch_answer (held_by body buffer p q)); buffer = y }) meets.1
      ∙ ap (λ (y : ListOptions). stretch_told x buffer (done (held_by body buffer y q))) is
      ∙ ap (λ (y : Place). stretch_told x buffer (done (held_by body buffer (list_options g d) y))) at
      ∙ ap (stretch_told x buffer) (of_known (λ k. done (held_by body buffer (list_options g k) (stretch_place x))) g.dialect answer e)

  pub tells_unstretched : {r : Refusal} → n ≡ Err r → c ≡ record { code = code_of (numbered r); place = x } → ◌≡◌ {A = StretchTold} (record { told = c; buffer = buffer }) (stretched_with g body x buffer)
  tells_unstretched e code =
      ap (λ (y : StretchCode). record { told = y; buffer = buffer }) code
      ∙ ap (stretch_told x buffer) (of_unknown (λ k. done (held_by body buffer (list_options g k) (stretch_place x))) g.dialect answer e)
