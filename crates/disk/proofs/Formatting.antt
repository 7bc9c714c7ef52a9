-- A disk cleared, and a fresh one.
-- Assumes nothing.
use Prim.Native.Nat.{ℕ, ◌+◌, ◌≤◌, ◌<◌}
use mathlib.Core.Path.{◌≡◌, refl, sym, ap, ◌∙◌}
use mathlib.Core.Bool.{Bool, cond}
use mathlib.Core.List.{List, [], ◌∷◌, ◌++◌, append-nil}
use lib.ListN.{length, drop, set, replicate, length-set, drop_of_length-le}
use lib.Seq.{sets}
use native.Mathlib.Omega.{arith}
use borrow.Author.Fill.{fill_none, fill_more}
use borrow.Author.Tests.{eq-eqb, ne_eqb}
use Rattle.base_refusals.specs.Numbers.{bad_disk}
use Rattle.base_refusals.specs.Answer.{done, refused}
use Rattle.disk_rules.specs.Calls.{fresh_header, fresh, formatted, After, onto_disk}

fresh_made : {a b c : List ℕ} {n : ℕ} → n ≡ 174848 → a ≡ replicate n 0 → b ≡ sets a 91392 fresh_header → c ≡ sets b 91648 (0x00 ∷ 0xFF ∷ []) → c ≡ fresh
unfolding fresh
fresh_made e f g h =
    h
    ∙ ap (λ (x : List ℕ). sets x 91648 (0x00 ∷ 0xFF ∷ [])) g
    ∙ ap (λ (x : List ℕ). sets (sets x 91392 fresh_header) 91648 (0x00 ∷ 0xFF ∷ [])) f
    ∙ ap (λ (k : ℕ). sets (sets (replicate k 0) 91392 fresh_header) 91648 (0x00 ∷ 0xFF ∷ [])) e

module _ (d : List ℕ) where
  pub format_long : (length d ≡ 174848 → ⊥) → ◌≡◌ {A = After} (record { answer = refused bad_disk; disk = d }) (onto_disk (formatted d) d)
  format_long z = simp (ne_eqb (length d) 174848 z)

  pub format_done : {a b c : List ℕ} → length d ≡ 174848 → a ≡ replicate (length d) 0 → b ≡ sets a 91392 fresh_header → c ≡ sets b 91648 (0x00 ∷ 0xFF ∷ [])
      → ◌≡◌ {A = After} (record { answer = done tt; disk = c }) (onto_disk (formatted d) d)
  format_done e f g h =
      ap (λ (x : List ℕ). record { answer = done tt; disk = x }) (fresh_made e f g h)
      ∙ ap (λ (b : Bool). onto_disk (cond b (done fresh) (refused bad_disk)) d) (sym (eq-eqb (length d) 174848 e))
