-- The search of two lists, one behind the other: the first list's answer, or the second's with its place moved behind the first list.
-- Assumes nothing.
use Prim.Native.Nat.{ℕ, suc, ◌+◌}
use mathlib.Core.Path.{◌≡◌, refl, sym, ap, ◌∙◌}
use mathlib.Core.Bool.{Bool, true, false, cond, false≢true}
use mathlib.Core.Logic.{◌⊎◌, inl, inr}
use mathlib.Core.List.{List, [], ◌∷◌, ◌++◌}
use native.Mathlib.Omega.{arith}
use lib.Dec.{T}
use lib.ListN.{length}
use mir.Syntax.{w64}
use mir.Val.{Fits}
use Rattle.word_search.specs.Compare.{begins, passes}
use Rattle.word_search.specs.Find.{Entry, first_that, word_in}
use Rattle.word_search.specs.declared.Match.{Match}
use Rattle.std.specs.Prelude.{Option, Some, None, is_some}
use Rattle.word_search.specs.Order.{ordered, Longest}
use Rattle.word_search.proofs.Order.{found, longest_in}
use Rattle.word_tables.specs.Rom.{v2_words}
use Rattle.word_tables.specs.Basic35.{basic35_words}
use Rattle.word_match.specs.Sets.{plain_words, plain_word}
use Rattle.word_match.specs.declared.sets.Sets.{Sets}
use Rattle.word_tables.proofs.Lists.{v2_ordered, both_ordered}

-- an answer of the second list, n places on
abbrev moved : ℕ → Option Match → Option Match
moved n (Some m) = Some (record { index = n + m.index; used = m.used; token = m.token })
moved n None = None

abbrev or_else : Option Match → Option Match → Option Match
or_else (Some w) m = Some w
or_else None m = m

module _ (p : List ℕ → Bool) where
  abbrev first_in : List Entry → ℕ → Option Match
  first_in es k = first_that (λ i w. p w) es k

  first_moved : (es : List Entry) (n j k : ℕ) → j ≡ n + k → first_in es j ≡ moved n (first_in es k)
  unfolding first_that
  first_moved [] n j k e = refl
  first_moved (x ∷ es) n j k e = go (p x.word) (first_moved es n (suc j) (suc k) (omega arith))
    where
      go : (b : Bool) → first_in es (suc j) ≡ moved n (first_in es (suc k))
          → ◌≡◌ {A = Option Match} (elim b [ true ↦ Some (record { index = j; used = length x.word; token = x.token }) | false ↦ first_in es (suc j) ])
          (moved n (elim b [ true ↦ Some (record { index = k; used = length x.word; token = x.token }) | false ↦ first_in es (suc k) ]))
      go true h = rw e
      go false h = h

  first_both : (xs ys : List Entry) (k j : ℕ) → j ≡ length xs + k → first_in (xs ++ ys) k ≡ or_else (first_in xs k) (first_in ys j)
  unfolding first_that
  first_both [] ys k j e = ap (first_in ys) (omega arith)
  first_both (x ∷ xs) ys k j e = go (p x.word) (first_both xs ys (suc k) j (omega arith))
    where
      go : (b : Bool) → first_in (xs ++ ys) (suc k) ≡ or_else (first_in xs (suc k)) (first_in ys j)
          → ◌≡◌ {A = Option Match} (elim b [ true ↦ Some (record { index = k; used = length x.word; token = x.token }) | false ↦ first_in (xs ++ ys) (suc k) ])
          (or_else (elim b [ true ↦ Some (record { index = k; used = length x.word; token = x.token }) | false ↦ first_in xs (suc k) ]) (first_in ys j))
      go true h = refl
      go false h = h

word_both : (xs ys : List Entry) (t : List ℕ) → word_in (xs ++ ys) t ≡ or_else (word_in xs t) (moved (length xs) (word_in ys t))
unfolding word_in passes
word_both xs ys t =
    first_both (λ w. begins w t) xs ys 0 (length xs) (omega arith)
    ∙ ap (or_else (word_in xs t)) (first_moved (λ w. begins w t) ys (length xs) (length xs) 0 (omega arith))

-- ---- `match_plain`

both : (t : List ℕ) → word_in (v2_words ++ basic35_words) t ≡ or_else (word_in v2_words t) (moved 68 (word_in basic35_words t))
unfolding v2_words
both t = word_both v2_words basic35_words t

own_many : length basic35_words ≡ 50
unfolding basic35_words
own_many = refl

module _ (s : Sets) (t : List ℕ) {v : Option Match} (told : v ≡ word_in v2_words t) where
  plain_v2 : s.basic35 ≡ false → v ≡ plain_word s v2_words basic35_words t
  unfolding plain_word
  plain_v2 n = told ∙ rw n

  plain_both : s.basic35 ≡ true → plain_word s v2_words basic35_words t ≡ or_else v (moved 68 (word_in basic35_words t))
  unfolding plain_word
  plain_both y = rw y (both t ∙ rw told)

  -- a V2 word is found, or words of BASIC 3.5 are not looked for
  pub plain_first : (is_some v ≡ true) ⊎ (s.basic35 ≡ false) → v ≡ plain_word s v2_words basic35_words t
  plain_first e = go s.basic35 refl v refl e
    where
      go : (b : Bool) → s.basic35 ≡ b → (w : Option Match) → v ≡ w → (is_some v ≡ true) ⊎ (s.basic35 ≡ false) → v ≡ plain_word s v2_words basic35_words t
      go false n w q e = plain_v2 n
      go true y (Some w) q e = q ∙ sym (plain_both y ∙ rw q)
      go true y None q (inl f) = absurd (false≢true (rw q at f))
      go true y None q (inr f) = absurd (false≢true (sym f ∙ y))

  module _ (none : is_some v ≡ false) (y : s.basic35 ≡ true) where
    second : plain_word s v2_words basic35_words t ≡ moved 68 (word_in basic35_words t)
    second = go v refl
      where
        go : (w : Option Match) → v ≡ w → plain_word s v2_words basic35_words t ≡ moved 68 (word_in basic35_words t)
        go (Some w) q = absurd (false≢true (sym (rw q at none)))
        go None q = plain_both y ∙ rw q

    pub plain_own : {r : Option Match} {m : Match} → r ≡ Some m → r ≡ word_in basic35_words t
        → Some (record { index = 68 + m.index; used = m.used; token = m.token }) ≡ plain_word s v2_words basic35_words t
    plain_own is f = sym (second ∙ rw (sym f ∙ is))

    pub plain_none : {r : Option Match} → r ≡ None → r ≡ word_in basic35_words t → None ≡ plain_word s v2_words basic35_words t
    plain_none is f = sym (second ∙ rw (sym f ∙ is))

pub own_fits : (t : List ℕ) {r : Option Match} {m : Match} → r ≡ Some m → r ≡ word_in basic35_words t → Fits w64 (68 + m.index)
unfolding word_in passes
own_fits t {m = m} is e =
    let f = found (λ w. begins w t) m basic35_words 0 (sym e ∙ is) in
    record { fits = omega (arith, own_many, f.place, f.within) }

-- what is taken in plain mode: of all words of the V2 list, and under BASIC 3.5 of both lists, that the text begins with, none is longer
pub plain_longest : (s : Sets) (text : List ℕ) → Longest (plain_words s v2_words basic35_words) text (plain_word s v2_words basic35_words text)
unfolding plain_word
plain_longest s text = longest_in (plain_words s v2_words basic35_words) (keeps s.basic35) text
  where
    keeps : (own : Bool) → T (ordered (cond own (v2_words ++ basic35_words) v2_words))
    keeps true = both_ordered
    keeps false = v2_ordered
