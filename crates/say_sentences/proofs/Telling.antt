-- Laws of sentences and of the line that a person reads.
-- Assumes nothing.
use Prim.Native.Nat.{ℕ, zero, suc, ◌-◌, ◌≤◌, ◌<◌}
use mathlib.Core.Path.{◌≡◌, sym, ap, ◌∙◌}
use mathlib.Core.List.{List, [], ◌∷◌}
use native.Mathlib.Omega.{arith}
use lib.ListN.{length}
use borrow.Author.Tests.{eq-eqb, ne_eqb}
use Rattle.base_refusals.specs.declared.Code.{Code}
use Rattle.word_search.specs.Spelling.{bytes_of}
use Rattle.say_put.specs.Clipped.{Clipped}
use Rattle.say_put.specs.Rows.{filled}
use Rattle.base_steps.specs.Decimal.{decimal}
use Rattle.text_places.specs.Place.{text_place}
use Rattle.text_places.specs.declared.Place.{Place}
use Rattle.say_sentences.specs.Rows.{rows, placed_row}
use Rattle.say_sentences.specs.Sentence.{behind_rows, sentence_of, sentence, placed_sentence, name_first, number_last, message}
use Rattle.say_put.proofs.Clipping.{clip_as, clip_none, clip_both}

some : (k a b : ℕ) → 0 < k → filled (behind_rows (k - 1) rows) a b 0 ≡ sentence_of k a b
unfolding sentence_of
some zero a b h = absurd (omega arith)
some (suc n) a b h = let e : suc n - 1 ≡ n = omega arith in ap (λ (m : ℕ). filled (behind_rows m rows) a b 0) e

pub tells_nothing : {buffer : List ℕ} {at : ℕ} (c : Code) {k : ℕ} → k ≡ c.number → k ≤ 0 → at ≤ length buffer → Clipped buffer at (sentence c) at buffer
unfolding sentence sentence_of
tells_nothing c {k} e h room = let none : c.number ≡ 0 = omega arith in clip_as (sym (ap (λ (n : ℕ). sentence_of n c.first c.second) none)) (clip_none room)

module _ {buffer : List ℕ} {at behind : ℕ} {after : List ℕ} (c : Code) where
  pub tells_sentence : {k : ℕ} {row : List ℕ} → k ≡ c.number → 0 < k → row ≡ behind_rows (k - 1) rows → Clipped buffer at (filled row c.first c.second 0) behind after
      → Clipped buffer at (sentence c) behind after
  unfolding sentence
  tells_sentence {k} {row} e h r p =
      clip_as (ap (λ (s : List ℕ). filled s c.first c.second 0) r ∙ some k c.first c.second h ∙ ap (λ (n : ℕ). sentence_of n c.first c.second) e) p

  pub tells_place : (text : List ℕ) {p : Place} → c.number ≡ 2 → p ≡ text_place text c.first → Clipped buffer at (filled placed_row p.line p.column 0) behind after
      → Clipped buffer at (placed_sentence text c) behind after
  unfolding placed_sentence
  tells_place text e f p = clip_as (rw (eq-eqb _ _ e, f)) p

  pub tells_otherwise : (text : List ℕ) → (c.number ≡ 2 → ⊥) → Clipped buffer at (sentence c) behind after → Clipped buffer at (placed_sentence text c) behind after
  unfolding placed_sentence
  tells_otherwise text e p = clip_as (rw (ne_eqb _ _ e)) p

pub tells_name : (name : List ℕ) {buffer half after : List ℕ} {mid behind : ℕ} → Clipped buffer 0 name mid half → Clipped half mid (bytes_of ": ") behind after
    → Clipped buffer 0 (name_first name) behind after
unfolding name_first
tells_name name p q = clip_both _ _ p q

pub tells_number : (n : ℕ) {buffer h₁ h₂ after : List ℕ} {at m₁ m₂ behind : ℕ} → Clipped buffer at (bytes_of " (refusal ") m₁ h₁ → Clipped h₁ m₁ (decimal n) m₂ h₂
    → Clipped h₂ m₂ (0x29 ∷ 0x0A ∷ []) behind after → Clipped buffer at (number_last n) behind after
unfolding number_last
tells_number n p q r = clip_both _ _ p (clip_both _ _ q r)

pub tells_message : (name text : List ℕ) (c : Code) {buffer h₁ h₂ after : List ℕ} {m₁ m₂ behind k : ℕ}
    → Clipped buffer 0 (name_first name) m₁ h₁ → Clipped h₁ m₁ (placed_sentence text c) m₂ h₂ → k ≡ c.number → Clipped h₂ m₂ (number_last k) behind after
    → Clipped buffer 0 (message name text c) behind after
unfolding message
tells_message name text c p q e r = clip_both _ _ p (clip_both _ _ q (clip_as (ap number_last e) r))
