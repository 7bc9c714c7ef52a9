-- What is told of dialects and escapes.
-- Assumes nothing.
use Prim.Native.Nat.{ℕ}
use mathlib.Core.Path.{◌≡◌, refl, sym, ap, ◌∙◌}
use mathlib.Core.List.{List}
use Rattle.base_refusals.specs.Answer.{Answer, done, numbered, answered}
use Rattle.base_refusals.specs.Code.{code_of}
use Rattle.base_refusals.specs.declared.Code.{Code}
use Rattle.base_refusals.specs.declared.Refusal.{Refusal}
use Rattle.word_dialects.specs.Dialects.{by_number, default_load}
use Rattle.word_dialects.specs.declared.Dialect.{Dialect}
use Rattle.word_dialects.specs.declared.Dialect.TheVariants.{Auto, BasicV2, Tsb, Basic35}
use Rattle.guess.specs.Guess.{resolved}
use Rattle.escape_bytes.specs.declared.Escape.{Escape}
use Rattle.moldthatch.specs.Given.{resolved_by}
use Rattle.moldthatch.specs.ToldDialects.{dialect_number, dialect_code, load_code, escape_code}
use Rattle.moldthatch.proofs.TellingOptions.{of_known, of_unknown}
use Rattle.std.specs.Prelude.{Option, Some, Result, Ok, Err}

-- the number of a dialect names it
pub number_back : (d : Dialect) → by_number (dialect_number d) ≡ done d
unfolding by_number
number_back Auto = refl
number_back BasicV2 = refl
number_back Tsb = refl
number_back Basic35 = refl

module _ {c : Code} where
  pub tells_dialect : (d : Dialect) {m : Dialect} → d ≡ m → c ≡ dialect_code (done m) → c ≡ dialect_code (done d)
  tells_dialect d e code = code ∙ ap (λ (x : Dialect). dialect_code (done x)) (sym e)

  pub tells_named : (r : Result Dialect Refusal) {m : (Result Dialect Refusal)} → r ≡ m → c ≡ dialect_code (answered m) → c ≡ dialect_code (answered r)
  tells_named r e code = code ∙ ap (λ (x : Result Dialect Refusal). dialect_code (answered x)) (sym e)

  pub tells_name : (r : Result Dialect Refusal) → c ≡ dialect_code (answered r) → {a : Answer Dialect} → answered r ≡ a → c ≡ dialect_code a
  tells_name r code q = code ∙ ap dialect_code q

  pub tells_no_load : (r : Result Dialect Refusal) {m : (Result Dialect Refusal)} → r ≡ m → c ≡ load_code (answered m) → c ≡ load_code (answered r)
  tells_no_load r e code = code ∙ ap (λ (x : Result Dialect Refusal). load_code (answered x)) (sym e)

  pub tells_load : (r : Result Dialect Refusal) {d : Dialect} → r ≡ Ok d → {l : ℕ} → l ≡ default_load d → {n : ℕ} → n ≡ l → c ≡ record { number = 0; count = 1; first = n; second = 0 } → c ≡ load_code (answered r)
  tells_load r e load wide made = tells_no_load r e (made ∙ ap (λ (x : ℕ). record { number = 0; count = 1; first = x; second = 0 }) (wide ∙ load))

  pub tells_default : (r : Result Dialect Refusal) → c ≡ load_code (answered r) → {a : Answer Dialect} → answered r ≡ a → c ≡ load_code a
  tells_default r code q = code ∙ ap load_code q

  pub tells_coded : (r : Option Escape) {m : Option Escape} → r ≡ m → c ≡ escape_code m → c ≡ escape_code r
  tells_coded r e code = code ∙ ap escape_code (sym e)

  pub tells_escape : (r : Option Escape) → c ≡ escape_code r → {e : Option Escape} → r ≡ e → c ≡ escape_code e
  tells_escape r code q = code ∙ ap escape_code q

-- a byte and how often it is repeated
pub tells_byte : {r : Option Escape} {e : Escape} → r ≡ Some e → {first second : ℕ} → first ≡ e.byte → second ≡ e.count
    → record { number = 0; count = 2; first = first; second = second } ≡ escape_code r
tells_byte {r} {e} is {first} {second} byte count =
    ap (λ (x : ℕ). record { number = 0; count = 2; first = x; second = second }) byte
    ∙ ap (λ (x : ℕ). record { number = 0; count = 2; first = e.byte; second = x }) count
    ∙ ap escape_code (sym is)

-- the dialect by which a text is taken
module _ (number : ℕ) (text : List ℕ) {n : (Result Dialect Refusal)} (answer : answered n ≡ by_number number) {c : Code} where
  pub tells_taken : {d : Dialect} → n ≡ Ok d → (r : Result Dialect Refusal) → c ≡ dialect_code (answered r) → answered r ≡ resolved d text → c ≡ dialect_code (resolved_by number text)
  tells_taken e r code q = code ∙ ap dialect_code (q ∙ of_known (λ d. resolved d text) number answer e)

  pub tells_untaken : {r : Refusal} → n ≡ Err r → c ≡ code_of (numbered r) → c ≡ dialect_code (resolved_by number text)
  tells_untaken e code = code ∙ ap dialect_code (of_unknown (λ d. resolved d text) number answer e)
