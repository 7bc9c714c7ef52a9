-- What a word proves, case by case.
-- Assumes nothing.
use Prim.Native.Nat.{ℕ, ◌≤◌}
use mathlib.Core.Path.{◌≡◌, sym, ap, ◌∙◌}
use mathlib.Core.Bool.{Bool, true, false, not, ◌&&◌}
use mathlib.Core.List.{List}
use lib.Dec.{eqb}
use lib.ListN.{length, drop}
use borrow.Author.Tests.{eq-eqb, ne_eqb}
use Rattle.base_ascii.specs.Search.{is_white, starts_with, front}
use Rattle.base_ascii.specs.declared.search.Kind.TheVariants.{White}
use Rattle.base_ascii.proofs.Searching.{tail}
use Rattle.base_ascii.proofs.Choice.{taken, left}
use Rattle.word_search.specs.Compare.{begins}
use Rattle.word_search.specs.Spelling.{bytes_of}
use Rattle.guess_uses.specs.Ahead.{assigns}
use Rattle.guess_uses.specs.Proving.{is_else, assigned, called, proves}
use Rattle.guess_uses.proofs.Behind.{rest, opens}

module _ (used : ℕ) (t : List ℕ) where
  pub else_other : (used ≡ 4 → ⊥) → eqb used 4 ≡ is_else used t
  unfolding is_else
  else_other n = ne_eqb _ _ n ∙ ap (λ (r : Bool). r && begins (bytes_of "ELSE") t) (sym (ne_eqb _ _ n))

  pub else_four : {x : Bool} → x ≡ begins (bytes_of "ELSE") t → used ≡ 4 → x ≡ is_else used t
  unfolding is_else
  else_four e n = e ∙ ap (λ (r : Bool). r && begins (bytes_of "ELSE") t) (sym (eq-eqb _ _ n))

-- a text that one of two tests says to start with a byte has one
pub opens_as : (b : ℕ) (s : List ℕ) {v x : Bool} → v ≡ true → v ≡ x → x ≡ starts_with b s → 1 ≤ length s
opens_as b s e q p = opens b s (sym q ∙ e) p

module _ (t : List ℕ) {x y : Bool} where
  pub assigned_percent : {v : Bool} → y ≡ assigns White (rest t 1) → v ≡ true → v ≡ x → x ≡ starts_with 0x25 t → y ≡ assigned t
  unfolding assigned
  assigned_percent q e r p = q ∙ ap (assigns White) (tail t 1) ∙ sym (taken _ _ (sym p ∙ sym r ∙ e))

  pub assigned_dollar : {v z : Bool} → y ≡ assigns White (rest t 1) → v ≡ true → v ≡ z → z ≡ starts_with 0x24 t → x ≡ false → x ≡ starts_with 0x25 t → y ≡ assigned t
  unfolding assigned
  assigned_dollar q f r s e p = q ∙ ap (assigns White) (tail t 1) ∙ sym (left _ _ (sym p ∙ e) ∙ taken _ _ (sym s ∙ sym r ∙ f))

  pub assigned_bare : {v z : Bool} → y ≡ assigns White t → v ≡ false → v ≡ z → z ≡ starts_with 0x24 t → x ≡ false → x ≡ starts_with 0x25 t → y ≡ assigned t
  unfolding assigned
  assigned_bare q f r s e p = q ∙ sym (left _ _ (sym p ∙ e) ∙ left _ _ (sym s ∙ sym r ∙ f))

pub called_is : (t : List ℕ) {a : ℕ} {y : Bool} → y ≡ starts_with 0x28 (rest t a) → a ≡ front is_white t → y ≡ called t
unfolding called
called_is t {a} q p = q ∙ ap (starts_with 0x28) (tail t a ∙ ap (λ (n : ℕ). drop n t) p)

module _ (start : Bool) (t : List ℕ) (used : ℕ) {x : Bool} where
  pub proves_else : x ≡ true → x ≡ is_else used t → true ≡ proves start t used
  unfolding proves
  proves_else e p = rw (← p, e)

  module _ {y : Bool} where
    pub proves_start : y ≡ assigned (rest t used) → start ≡ true → x ≡ false → x ≡ is_else used t → not y ≡ proves start t used
    unfolding proves
    proves_start q s e p = rw (← p, e, s) (ap not (q ∙ ap assigned (tail t used)))

    pub proves_call : y ≡ called (rest t used) → start ≡ false → x ≡ false → x ≡ is_else used t → y ≡ proves start t used
    unfolding proves
    proves_call q s e p = rw (← p, e, s) (q ∙ ap called (tail t used))
