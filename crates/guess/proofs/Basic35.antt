-- BASIC 3.5 is taken where it is asked for, and nowhere else (document 02, No. 5: "Auto never guesses it"); and no TSB word is live or demoted
-- under it, whatever the text.
-- Assumes nothing.
use Prim.Native.Nat.{ℕ}
use mathlib.Core.Path.{◌≡◌, refl}
use mathlib.Core.Bool.{Bool, true, false}
use mathlib.Core.List.{List}
use native.Mathlib.Omega.{arith}
use Rattle.base_refusals.specs.Answer.{Answer, done, refused, and_then}
use Rattle.word_dialects.specs.Dialects.{is_basic35}
use Rattle.word_dialects.specs.declared.Dialect.{Dialect}
use Rattle.word_dialects.specs.declared.Dialect.TheVariants.{Auto, BasicV2, Tsb, Basic35}
use Rattle.word_match.specs.declared.sets.Sets.{Sets}
use Rattle.text_domain.specs.Domain.{checked_text}
use Rattle.text_lines.specs.declared.LineRule.TheVariants.{AsGiven, AfterCr}
use Rattle.guess.specs.Guess.{evidence, none_demoted, guessed_dialect, resolved, word_sets}

either : {A : Type 0} (P : A → Type 0) (b : Bool) (x y : A) → P x → P y → P (elim b [ true ↦ x | false ↦ y ])
either P true x y h k = h
either P false x y h k = k

-- the dialect that a text is taken by is BASIC 3.5 exactly where that was asked for
pub guessed_own : (d : Dialect) (t : List ℕ) → is_basic35 (guessed_dialect d t) ≡ is_basic35 d
unfolding guessed_dialect
guessed_own Auto t = either (λ (r : Dialect). is_basic35 r ≡ false) (evidence AsGiven t) Tsb BasicV2 refl refl
guessed_own BasicV2 t = refl
guessed_own Tsb t = refl
guessed_own Basic35 t = refl

pub auto_never : (t : List ℕ) → resolved Auto t ≡ done Basic35 → ⊥
unfolding resolved guessed_dialect
auto_never t e = go (checked_text t) (evidence AsGiven t) e
  where
    go : (a : Answer (Unit {0})) (b : Bool) → and_then a (λ _. done (elim b [ true ↦ Tsb | false ↦ BasicV2 ])) ≡ done Basic35 → ⊥
    go (done x) true q = let z : ◌≡◌ {A = ℕ} 0 1 = cc in absurd (omega arith)
    go (done x) false q = let z : ◌≡◌ {A = ℕ} 0 1 = cc in absurd (omega arith)
    go (refused n) b q = let z : ◌≡◌ {A = ℕ} 0 1 = cc in absurd (omega arith)

-- its words are looked for exactly where it was asked for
pub own_words : (d : Dialect) (t : List ℕ) → (word_sets d t).basic35 ≡ is_basic35 d
unfolding word_sets
own_words Auto t = either (λ (s : Sets). s.basic35 ≡ false) (evidence AfterCr t) _ _ refl refl
own_words BasicV2 t = refl
own_words Tsb t = refl
own_words Basic35 t = refl

pub no_tsb : (t : List ℕ) → ((word_sets Basic35 t).tsb ≡ false) × ((word_sets Basic35 t).demoted ≡ none_demoted)
unfolding word_sets
no_tsb t = (refl, refl)
