-- The rule that no word stands behind a beginning of itself, carried from the computed test to each two entries; and what follows:
-- the first word that matches is the longest.
-- Assumes nothing.
use Prim.Native.Nat.{ℕ, zero, suc, ◌+◌, ◌≤◌, ◌<◌}
use mathlib.Core.Path.{◌≡◌, refl, sym, ap, ◌∙◌}
use mathlib.Core.Bool.{Bool, true, false, not, false≢true}
use mathlib.Core.List.{List, [], ◌∷◌}
use mathlib.Core.Logic.{◌⊎◌, inl, inr}
use native.Mathlib.Nat.{not-suc-le-zero, le_of_suc-le-suc, le_of_eq, eq-or-lt_of_le}
use native.Mathlib.Decide.{dec_le, dec_lt}
use native.Mathlib.Omega.{arith}
use lib.Dec.{T, eqb}
use lib.ListN.{length}
use borrow.Author.Tests.{eq-eqb, eqb-true}
use Rattle.base_ascii.specs.Bytes.{upper}
use Rattle.word_search.specs.Compare.{begins}
use Rattle.word_search.specs.Find.{Entry, first_that, word_in}
use Rattle.word_search.specs.Order.{begins_none, ordered, word_at, Longest}
use Rattle.word_search.specs.declared.Match.{Match}
use Rattle.std.specs.Prelude.{Option, Some, None}
use Rattle.word_search.proofs.Search.{and_left, and_right}

not_T : (b : Bool) → T (not b) → b ≡ false
not_T true t = absurd t
not_T false t = refl

none_at : (w : List ℕ) (es : List Entry) → T (begins_none w es) → (j : ℕ) → j < length es → begins w (word_at es j) ≡ false
unfolding begins_none
none_at w [] t j h = absurd (not-suc-le-zero h)
none_at w (e ∷ es) t zero h = not_T _ (and_left (not (begins w e.word)) _ t)
none_at w (e ∷ es) t (suc j) h = none_at w es (and_right (not (begins w e.word)) _ t) j (le_of_suc-le-suc h)

-- the rule at each two entries
pub ordered_at : (es : List Entry) → T (ordered es) → (k j : ℕ) → k < j → j < length es → begins (word_at es k) (word_at es j) ≡ false
unfolding ordered
ordered_at [] t k j l h = absurd (not-suc-le-zero h)
ordered_at (e ∷ es) t k zero l h = absurd (not-suc-le-zero l)
ordered_at (e ∷ es) t zero (suc j) l h = none_at e.word es (and_left (begins_none e.word es) _ t) j (le_of_suc-le-suc h)
ordered_at (e ∷ es) t (suc k) (suc j) l h = ordered_at es (and_right (begins_none e.word es) _ t) k j (le_of_suc-le-suc l) (le_of_suc-le-suc h)

first_alike : (x y : ℕ) (r : Bool) → elim (eqb (upper x) (upper y)) [ true ↦ r | false ↦ false ] ≡ true → (upper x ≡ upper y) × (r ≡ true)
first_alike x y r g = go (eqb (upper x) (upper y)) refl g
  where
    go : (b : Bool) → eqb (upper x) (upper y) ≡ b → elim b [ true ↦ r | false ↦ false ] ≡ true → (upper x ≡ upper y) × (r ≡ true)
    go true e g' = (eqb-true _ _ e, g')
    go false e g' = absurd (false≢true g')

-- of two beginnings of one text the shorter begins the longer
pub begins_both : (a b t : List ℕ) → begins a t ≡ true → begins b t ≡ true → length a ≤ length b → begins a b ≡ true
unfolding begins
begins_both [] b t ga gb l = refl
begins_both (x ∷ a) [] t ga gb l = absurd (not-suc-le-zero l)
begins_both (x ∷ a) (y ∷ b) [] ga gb l = absurd (false≢true ga)
begins_both (x ∷ a) (y ∷ b) (z ∷ t) ga gb l =
    let p = first_alike x z (begins a t) ga in
    let q = first_alike y z (begins b t) gb in
    rw (eq-eqb _ _ (p.0 ∙ sym q.0), begins) (begins_both a b t p.1 q.1 (le_of_suc-le-suc l))

-- what a match says: the word at a place, that it passes the test, and that none before it does
pub record Found (p : List ℕ → Bool) (es : List Entry) (n k len : ℕ) : Type 0 where
  pub at : ℕ
  pub place : k ≡ n + at
  pub within : at < length es
  pub passes : p (word_at es at) ≡ true
  pub size : length (word_at es at) ≡ len
  pub first : (j : ℕ) → j < at → p (word_at es j) ≡ false

first_cons : (p : List ℕ → Bool) (e : Entry) (es : List Entry) (i : ℕ) → p e.word ≡ false → ((j : ℕ) → j < i → p (word_at es j) ≡ false) → (j : ℕ) → j < suc i → p (word_at (e ∷ es) j) ≡ false
first_cons p e es i g f zero l = g
first_cons p e es i g f (suc j) l = f j (le_of_suc-le-suc l)

module _ (p : List ℕ → Bool) (m : Match) where
  pub found : (es : List Entry) (n : ℕ) → first_that (λ i w. p w) es n ≡ Some m → Found p es n m.index m.used
  unfolding first_that
  found [] n q = let z : ◌≡◌ {A = ℕ} 0 1 = cc in absurd (omega arith)
  found (e ∷ es) n q = go (p e.word) refl q (found es (suc n))
    where
      go : (b : Bool) → p e.word ≡ b → ◌≡◌ {A = Option Match} (elim b [ true ↦ Some (record { index = n; used = length e.word; token = e.token }) | false ↦ first_that (λ i w. p w) es (suc n) ]) (Some m)
          → (first_that (λ i w. p w) es (suc n) ≡ Some m → Found p es (suc n) m.index m.used) → Found p (e ∷ es) n m.index m.used
      go true g h r =
          let here : ◌≡◌ {A = Match} (record { index = n; used = length e.word; token = e.token }) m = cc in
          record {
            at = 0;
            place = let z : n ≡ m.index = ap (λ (x : Match). x.index) here in omega arith;
            within = omega arith;
            passes = g;
            size = ap (λ (x : Match). x.used) here;
            first = λ j l. absurd (not-suc-le-zero l);
          }
      go false g h r =
          let f = r h in
          record {
            at = suc f.at;
            place = omega arith;
            within = omega arith;
            passes = f.passes;
            size = f.size;
            first = first_cons p e es f.at g f.first;
          }

module _ (es : List Entry) (o : T (ordered es)) (t : List ℕ) {m : Match} (told : first_that (λ i w. begins w t) es 0 ≡ Some m) where
  pub longest : (j : ℕ) → j < length es → begins (word_at es j) t ≡ true → length (word_at es j) ≤ m.used
  longest j h g = go (found (λ w. begins w t) m es 0 told)
    where
      go : Found (λ w. begins w t) es 0 m.index m.used → length (word_at es j) ≤ m.used
      go f = behind (dec_lt f.at j)
        where
          short : f.at < j → Dec (length (word_at es f.at) ≤ length (word_at es j)) → length (word_at es j) ≤ m.used
          short l (yes b) = absurd (false≢true (sym (ordered_at es o f.at j l h) ∙ begins_both _ _ t f.passes g b))
          short l (no n) = omega (arith, f.size, n)

          same : j ≤ f.at → (j ≡ f.at) ⊎ (j < f.at) → length (word_at es j) ≤ m.used
          same l (inl e) = le_of_eq (ap (λ (i : ℕ). length (word_at es i)) e ∙ f.size)
          same l (inr b) = absurd (false≢true (sym (f.first j b) ∙ g))

          behind : Dec (f.at < j) → length (word_at es j) ≤ m.used
          behind (yes l) = short l (dec_le _ _)
          behind (no n) = let l : j ≤ f.at = omega arith in same l (eq-or-lt_of_le l)

-- whatever is found in an ordered list is the longest
pub longest_in : (es : List Entry) → T (ordered es) → (t : List ℕ) → Longest es t (word_in es t)
unfolding word_in
longest_in es o t = go (first_that (λ i w. begins w t) es 0) refl
  where
    go : (m : Option Match) → first_that (λ i w. begins w t) es 0 ≡ m → Longest es t m
    go (Some m) q = longest es o t q
    go None q = tt
