-- What is told of a step, test by test.
-- Assumes nothing.
use Prim.Native.Nat.{ℕ}
use mathlib.Core.Path.{◌≡◌, sym, ◌∙◌}
use mathlib.Core.Bool.{Bool, true, false}
use borrow.Author.Tests.{eq-eqb, ne_eqb}
use Rattle.body_rules.specs.declared.Mode.{Mode}
use Rattle.body_rules.specs.declared.Move.{Move}
use Rattle.editor_steps.specs.StepFindings.{is_code, is_control, is_kept, finding_of}
use Rattle.editor_steps.specs.declared.Finding.TheVariants.{Usual, TsbWord, Zero, Brace, Control}

-- ---- what a step is

module _ (m : Mode) (b : ℕ) (o : Move) where
  pub found_word : o.prefixed ≡ true → TsbWord ≡ finding_of m b o
  unfolding finding_of
  found_word e = rw e

  pub found_zero : o.byte ≡ 0 → o.prefixed ≡ false → Zero ≡ finding_of m b o
  unfolding finding_of
  found_zero z e = rw (e, eq-eqb _ _ z)

  module _ {x : Bool} where
    pub found_brace : x ≡ true → x ≡ is_kept m b o.used → (o.byte ≡ 0 → ⊥) → o.prefixed ≡ false → Brace ≡ finding_of m b o
    unfolding finding_of
    found_brace t k z e = rw (e, ne_eqb _ _ z, sym k ∙ t)

    module _ {y : Bool} where
      pub found_aside : y ≡ false → y ≡ is_code m → x ≡ false → x ≡ is_kept m b o.used → (o.byte ≡ 0 → ⊥) → o.prefixed ≡ false → Usual ≡ finding_of m b o
      unfolding finding_of
      found_aside n q f k z e = rw (e, ne_eqb _ _ z, sym k ∙ f, sym q ∙ n)

      module _ {z : Bool} where
        pub found_control : z ≡ true → z ≡ is_control b → y ≡ true → y ≡ is_code m → x ≡ false → x ≡ is_kept m b o.used → (o.byte ≡ 0 → ⊥) → o.prefixed ≡ false
            → Control ≡ finding_of m b o
        unfolding finding_of
        found_control t c n q f k d e = rw (e, ne_eqb _ _ d, sym k ∙ f, sym q ∙ n, sym c ∙ t)

        pub found_usual : z ≡ false → z ≡ is_control b → y ≡ true → y ≡ is_code m → x ≡ false → x ≡ is_kept m b o.used → (o.byte ≡ 0 → ⊥) → o.prefixed ≡ false
            → Usual ≡ finding_of m b o
        unfolding finding_of
        found_usual t c n q f k d e = rw (e, ne_eqb _ _ d, sym k ∙ f, sym q ∙ n, sym c ∙ t)
