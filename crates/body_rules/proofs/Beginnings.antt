-- What a word begins with: the rule of a lexicon carried from the computed test to each entry, and so to what a search finds. A list
-- whose words begin with letters has no word at another byte, nor the other way round; and what is found takes text, and no more than
-- there is.
-- Assumes nothing.
use Prim.Native.Nat.{ℕ, suc, ◌≤◌, ◌<◌}
use mathlib.Core.Path.{◌≡◌, refl, sym, ap, ◌∙◌}
use mathlib.Core.Bool.{Bool, true, false, not, cond, ◌&&◌, false≢true, true≢false}
use mathlib.Core.List.{List, [], ◌∷◌, ◌++◌}
use native.Mathlib.Omega.{arith}
use lib.Dec.{T, eqb}
use lib.ListN.{length}
use borrow.Author.Tests.{eqb-true}
use Rattle.base_ascii.specs.Bytes.{upper, between, is_letter}
use Rattle.word_search.specs.Compare.{begins}
use Rattle.word_search.specs.Find.{Entry, first_that, word_in, among_in}
use Rattle.word_search.specs.declared.Match.{Match}
use Rattle.std.specs.Prelude.{Option, Some, None}
use Rattle.word_search.proofs.Search.{and_left, and_right}
use Rattle.word_search.proofs.Sameness.{T_true}
use Rattle.word_tables.specs.Rom.{v2_words, operators as operator_words}
use Rattle.word_tables.specs.Tsb.{tsb_words}
use Rattle.word_tables.specs.Basic35.{basic35_words}
use Rattle.word_match.specs.Sets.{is_demoted, is_live, live_word, plain_words, plain_word}
use Rattle.word_match.specs.declared.sets.Sets.{Sets}
use Rattle.body_rules.specs.Lexicon.{Lexicon, lexicon}
use Rattle.body_rules.specs.Steps.{first}

-- ---- the rule of a lexicon: each TSB word, each V2 word and each of BASIC 3.5 begins with a letter, and no operator does

-- a word that begins with a letter, or one that begins with another byte
unfoldable pub starts_as : Bool → List ℕ → Bool
starts_as r [] = false
starts_as true (b ∷ w) = is_letter b
starts_as false (b ∷ w) = not (is_letter b)

unfoldable pub all_start : Bool → List Entry → Bool
all_start r [] = true
all_start r (e ∷ es) = starts_as r e.word && all_start r es

unfoldable pub proper : Lexicon → Bool
proper l = all_start true l.tsb && (all_start true l.v2 && (all_start true l.basic35 && all_start false l.operators))

-- ---- a word at the front of a text

first_alike : (x y : ℕ) (r : Bool) → elim (eqb (upper x) (upper y)) [ true ↦ r | false ↦ false ] ≡ true → (upper x ≡ upper y) × (r ≡ true)
first_alike x y r g = go (eqb (upper x) (upper y)) refl g
  where
    go : (b : Bool) → eqb (upper x) (upper y) ≡ b → elim b [ true ↦ r | false ↦ false ] ≡ true → (upper x ≡ upper y) × (r ≡ true)
    go true e h = (eqb-true _ _ e, h)
    go false e h = absurd (false≢true h)

begins_long : (w t : List ℕ) → begins w t ≡ true → length w ≤ length t
unfolding begins
begins_long [] t g = omega arith
begins_long (x ∷ w) [] g = absurd (false≢true g)
begins_long (x ∷ w) (y ∷ t) g = let l : length w ≤ length t = begins_long w t (first_alike x y (begins w t) g).1 in omega arith

-- the word and the text begin with the same kind of byte
begins_kind : (r : Bool) (w t : List ℕ) → T (starts_as r w) → begins w t ≡ true → is_letter (first t) ≡ r
unfolding begins starts_as
begins_kind r [] t k g = absurd k
begins_kind r (x ∷ w) [] k g = absurd (false≢true g)
begins_kind true (x ∷ w) (y ∷ t) k g =
    ap (between 65 90) (sym (first_alike x y (begins w t) g).0) ∙ T_true (is_letter x) k
begins_kind false (x ∷ w) (y ∷ t) k g =
    ap (between 65 90) (sym (first_alike x y (begins w t) g).0) ∙ not_T (is_letter x) k
  where
    not_T : (b : Bool) → T (not b) → b ≡ false
    not_T true h = absurd h
    not_T false h = refl

starts_some : (r : Bool) (w : List ℕ) → T (starts_as r w) → 0 < length w
unfolding starts_as
starts_some r [] k = absurd k
starts_some r (b ∷ w) k = omega arith

-- ---- what is found in a list whose words begin alike

-- a match takes text, and no more than there is
pub record Takes (t : List ℕ) (used : ℕ) : Type 0 where
  pub more : 0 < used
  pub most : used ≤ length t

module _ (t : List ℕ) (p : ℕ → List ℕ → Bool) (holds : (k : ℕ) (w : List ℕ) → p k w ≡ true → begins w t ≡ true) (r : Bool) where
  pub none_found : (es : List Entry) (k : ℕ) → T (all_start r es) → is_letter (first t) ≡ not r → first_that p es k ≡ None
  unfolding first_that all_start
  none_found [] k a n = refl
  none_found (e ∷ es) k a n = go (p k e.word) refl (none_found es (suc k) (and_right (starts_as r e.word) _ a) n)
    where
      differ : (b : Bool) → b ≡ not b → ⊥
      differ true q = true≢false q
      differ false q = false≢true q

      go : (b : Bool) → p k e.word ≡ b → first_that p es (suc k) ≡ None
          → ◌≡◌ {A = Option Match} (elim b [ true ↦ Some (record { index = k; used = length e.word; token = e.token }) | false ↦ first_that p es (suc k) ]) None
      go true q h = absurd (differ r (sym (begins_kind r e.word t (and_left (starts_as r e.word) _ a) (holds k e.word q)) ∙ n))
      go false q h = h

  pub found_takes : (es : List Entry) (k : ℕ) → T (all_start r es) → {m : Match} → first_that p es k ≡ Some m → Takes t m.used
  unfolding first_that all_start
  found_takes [] k a {m} q = let z : ◌≡◌ {A = ℕ} 0 1 = cc in absurd (omega arith)
  found_takes (e ∷ es) k a {m} q = go (p k e.word) refl q (found_takes es (suc k) (and_right (starts_as r e.word) _ a))
    where
      go : (b : Bool) → p k e.word ≡ b
          → elim b [ true ↦ Some (record { index = k; used = length e.word; token = e.token }) | false ↦ first_that p es (suc k) ] ≡ Some m
          → (first_that p es (suc k) ≡ Some m → Takes t m.used) → Takes t m.used
      go true g h f =
          let size : length e.word ≡ m.used = cc in
          record {
            more = omega (arith, starts_some r e.word (and_left (starts_as r e.word) _ a));
            most = omega (arith, begins_long e.word t (holds k e.word g));
          }
      go false g h f = f h

-- ---- the searches

and_second : (a b : Bool) → (a && b) ≡ true → b ≡ true
and_second true b q = q
and_second false b q = absurd (false≢true q)

module _ (r : Bool) (es : List Entry) (a : T (all_start r es)) (t : List ℕ) where
  pub word_none : is_letter (first t) ≡ not r → word_in es t ≡ None
  unfolding word_in
  word_none n = none_found t (λ k w. begins w t) (λ k w q. q) r es 0 a n

  pub word_takes : {m : Match} → word_in es t ≡ Some m → Takes t m.used
  unfolding word_in
  word_takes q = found_takes t (λ k w. begins w t) (λ k w g. g) r es 0 a q

  module _ (set : ℕ → Bool) where
    among_none : is_letter (first t) ≡ not r → among_in set es t ≡ None
    unfolding among_in
    among_none n = none_found t (λ k w. set k && begins w t) (λ k w q. and_second (set k) (begins w t) q) r es 0 a n

    among_takes : {m : Match} → among_in set es t ≡ Some m → Takes t m.used
    unfolding among_in
    among_takes q = found_takes t (λ k w. set k && begins w t) (λ k w g. and_second (set k) (begins w t) g) r es 0 a q

  module _ (s : Sets) where
    pub live_none : is_letter (first t) ≡ not r → live_word s es t ≡ None
    unfolding live_word
    live_none n = rw (live_word, among_none (is_demoted s) n, among_none (is_live s) n)

    pub live_takes : {m : Match} → live_word s es t ≡ Some m → Takes t m.used
    unfolding live_word
    live_takes {m} e = go (among_in (is_demoted s) es t) e
      where
        go : (d : Option Match) → elim d [ Some w ↦ None | None ↦ among_in (is_live s) es t ] ≡ Some m → Takes t m.used
        go (Some w) q = let z : ◌≡◌ {A = ℕ} 0 1 = cc in absurd (omega arith)
        go None q = among_takes (is_live s) q

-- ---- the documents' lists

pub document_proper : (s : Sets) → T (proper (lexicon s))
unfolding proper all_start starts_as tsb_words v2_words basic35_words operator_words upper between
document_proper s = tt

start_both : (r : Bool) (xs ys : List Entry) → T (all_start r xs) → T (all_start r ys) → T (all_start r (xs ++ ys))
unfolding all_start
start_both r [] ys g h = h
start_both r (e ∷ xs) ys g h = both_true (starts_as r e.word) _ (and_left (starts_as r e.word) _ g) (start_both r xs ys (and_right (starts_as r e.word) _ g) h)
  where
    both_true : (a b : Bool) → T a → T b → T (a && b)
    both_true true b x y = y
    both_true false b x y = absurd x

module _ (l : Lexicon) (g : T (proper l)) where
  pub tsb_start : T (all_start true l.tsb)
  unfolding proper
  tsb_start = and_left (all_start true l.tsb) _ g

  others_start : T (all_start true l.v2 && (all_start true l.basic35 && all_start false l.operators))
  unfolding proper
  others_start = and_right (all_start true l.tsb) _ g

  plain_start : T (all_start true (plain_words l.sets l.v2 l.basic35))
  plain_start = go l.sets.basic35
    where
      v2 : T (all_start true l.v2)
      v2 = and_left (all_start true l.v2) _ others_start

      go : (own : Bool) → T (all_start true (cond own (l.v2 ++ l.basic35) l.v2))
      go true = start_both true l.v2 l.basic35 v2 (and_left (all_start true l.basic35) _ (and_right (all_start true l.v2) _ others_start))
      go false = v2

  pub operators_start : T (all_start false l.operators)
  operators_start = and_right (all_start true l.basic35) _ (and_right (all_start true l.v2) _ others_start)

  module _ (t : List ℕ) where
    pub plain_word_none : is_letter (first t) ≡ false → plain_word l.sets l.v2 l.basic35 t ≡ None
    unfolding plain_word
    plain_word_none n = word_none true (plain_words l.sets l.v2 l.basic35) plain_start t n

    pub plain_word_takes : {m : Match} → plain_word l.sets l.v2 l.basic35 t ≡ Some m → Takes t m.used
    unfolding plain_word
    plain_word_takes e = word_takes true (plain_words l.sets l.v2 l.basic35) plain_start t e
