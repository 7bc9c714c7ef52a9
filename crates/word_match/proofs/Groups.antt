-- The search in the group of a text's first byte is the search in the whole list: one law for every list and every test.
-- Assumes nothing.
use Prim.Native.Nat.{ℕ, zero, suc, ◌+◌, ◌≤◌, ◌<◌}
use mathlib.Core.Path.{◌≡◌, refl, sym, ap, ◌∙◌}
use mathlib.Core.Bool.{Bool, true, false, ◌&&◌, false≢true}
use mathlib.Core.List.{List, [], ◌∷◌, map}
use native.Mathlib.Omega.{arith}
use lib.Dec.{T, ltb, eqb, lt→ltb}
use lib.ListN.{length, get_or}
use borrow.Author.Tests.{lt-ltb, le-ltb, ltb-true, eq-eqb, eqb-true, eqb-false}
use Rattle.base_ascii.specs.Bytes.{between, upper}
use Rattle.word_search.specs.Compare.{begins, alike, shortens, passes}
use Rattle.word_search.specs.Find.{Entry, first_that}
use Rattle.word_search.specs.RunHelpers.{Ready, raised, word_of, first_from}
use Rattle.word_search.specs.declared.Match.{Match}
use Rattle.std.specs.Prelude.{Option, Some, None}
use Rattle.word_search.specs.declared.Test.{Test}
use Rattle.word_search.specs.declared.Test.TheVariants.{Begins, Alike, Same, Shortens}
use Rattle.word_search.proofs.Comparing.{raise_raised}
use Rattle.word_search.proofs.Search.{and_left, and_right}
use Rattle.word_search.proofs.Sameness.{same_eq}
use Rattle.word_tables.specs.WordsHelpers.{Placed, capitals, initial, grouped, stored_words, word_found}
use Rattle.word_tables.proofs.Ranged.{ranged}

-- the first word that passes a test of its place and its bytes
unfoldable pub first_placed : (ℕ → List ℕ → Bool) → List Placed → Option Match
first_placed p [] = None
first_placed p (x ∷ xs) = elim (p x.place x.word) [ true ↦ Some (record { index = x.place; used = length x.word; token = x.token }) | false ↦ first_placed p xs ]

-- ---- the words of other groups do not pass

-- a test that only words of a group pass
pub Confined : (ℕ → List ℕ → Bool) → ℕ → Type 0
Confined p b = (k : ℕ) (w : List ℕ) → T (between 32 95 (initial w)) → p k w ≡ true → initial w ≡ b

module _ (p : ℕ → List ℕ → Bool) (b : ℕ) (only : Confined p b) where
  -- the law of groups
  pub first_grouped : (es : List Entry) (k : ℕ) → T (ranged es) → first_placed p (grouped b k es) ≡ first_that p es k
  unfolding first_placed grouped first_that ranged Confined
  first_grouped [] k r = refl
  first_grouped (e ∷ es) k r =
      go (eqb (initial e.word) b) (p k e.word) refl refl (first_grouped es (suc k) (and_right (between 32 95 (initial e.word)) _ r))
    where
      go : (g q : Bool) → eqb (initial e.word) b ≡ g → p k e.word ≡ q → first_placed p (grouped b (suc k) es) ≡ first_that p es (suc k)
          → ◌≡◌ {A = Option Match} (first_placed p (elim g [ true ↦ record { place = k; word = e.word; token = e.token } ∷ grouped b (suc k) es | false ↦ grouped b (suc k) es ]))
          (elim q [ true ↦ Some (record { index = k; used = length e.word; token = e.token }) | false ↦ first_that p es (suc k) ])
      go true true u v h = rw (first_placed, v)
      go true false u v h = rw (first_placed, v) h
      go false true u v h = absurd (eqb-false _ _ u (only k e.word (and_left (between 32 95 (initial e.word)) _ r) v))
      go false false u v h = h

-- a word that passes a test of a text begins as the text does
begins_initial : (w t : List ℕ) → T (between 32 95 (initial w)) → begins w t ≡ true → initial w ≡ initial t
unfolding initial begins between
begins_initial [] t r e = absurd r
begins_initial (x ∷ w) [] r e = absurd (false≢true e)
begins_initial (x ∷ w) (y ∷ t) r e = go (eqb (upper x) (upper y)) refl e
  where
    go : (b : Bool) → eqb (upper x) (upper y) ≡ b → elim b [ true ↦ begins w t | false ↦ false ] ≡ true → upper x ≡ upper y
    go true u g = eqb-true _ _ u
    go false u g = absurd (false≢true g)

-- so does a word that a text, not empty, begins
begun_initial : (w t : List ℕ) → 0 < length t → begins t w ≡ true → initial w ≡ initial t
unfolding initial begins
begun_initial w [] h e = absurd (omega arith)
begun_initial [] (y ∷ t) h e = absurd (false≢true e)
begun_initial (x ∷ w) (y ∷ t) h e = go (eqb (upper y) (upper x)) refl e
  where
    go : (b : Bool) → eqb (upper y) (upper x) ≡ b → elim b [ true ↦ begins t w | false ↦ false ] ≡ true → upper x ≡ upper y
    go true u g = sym (eqb-true _ _ u)
    go false u g = absurd (false≢true g)

and_true : (a b : Bool) → (a && b) ≡ true → b ≡ true
and_true true b e = e
and_true false b e = absurd (false≢true e)

and_first : (a b : Bool) → (a && b) ≡ true → a ≡ true
and_first true b e = refl
and_first false b e = absurd (false≢true e)

pub confined_test : (test : Test) (t : List ℕ) → Confined (λ k w. passes test w t) (initial t)
unfolding Confined passes alike shortens
confined_test Begins t k w r e = begins_initial w t r e
confined_test Alike t k w r e = begins_initial w t r (and_true (eqb (length w) (length t)) (begins w t) e)
confined_test Same t k w r e = ap initial (same_eq w t e)
confined_test Shortens t k w r e =
    let shorter = ltb 0 (length t) && ltb (length t) (length w) in
    begun_initial w t (ltb-true _ _ (and_first (ltb 0 (length t)) (ltb (length t) (length w)) (and_first shorter (begins t w) e))) (and_true shorter (begins t w) e)

pub confined_set : (set : ℕ → Bool) (t : List ℕ) → Confined (λ k w. set k && begins w t) (initial t)
unfolding Confined
confined_set set t k w r e = begins_initial w t r (and_true (set k) (begins w t) e)

-- ---- what is known of a word in its group: it is stored in capitals, begins with the group's byte, and its place is one of the list

unfoldable pub good : ℕ → ℕ → Placed → Bool
good b n x = raised x.word && (eqb (initial x.word) b && (between 32 95 (initial x.word) && ltb x.place n))

unfoldable pub all_good : ℕ → ℕ → List Placed → Bool
all_good b n [] = true
all_good b n (x ∷ xs) = good b n x && all_good b n xs

and_both : (a b : Bool) → T a → T b → T (a && b)
and_both true b t u = u
and_both false b t u = t

true_T : (b : Bool) → b ≡ true → T b
true_T true e = tt
true_T false e = absurd (false≢true e)

module _ (b n : ℕ) where
  pub grouped_good : (es : List Entry) (k : ℕ) → k + length es ≤ n → T (ranged (capitals es)) → T (all_good b n (grouped b k (capitals es)))
  unfolding all_good grouped capitals ranged good
  grouped_good [] k h r = tt
  grouped_good (e ∷ es) k h r =
      go (eqb (initial (map upper e.word)) b) refl
      (grouped_good es (suc k) (omega arith) (and_right (between 32 95 (initial (map upper e.word))) _ r))
    where
      go : (g : Bool) → eqb (initial (map upper e.word)) b ≡ g → T (all_good b n (grouped b (suc k) (capitals es)))
          → T (all_good b n (elim g [ true ↦ record { place = k; word = map upper e.word; token = e.token } ∷ grouped b (suc k) (capitals es) | false ↦ grouped b (suc k) (capitals es) ]))
      go true u t =
          and_both (good b n (record { place = k; word = map upper e.word; token = e.token })) _
          (and_both (raised (map upper e.word)) _ (raise_raised e.word)
          (and_both (eqb (initial (map upper e.word)) b) _ (true_T _ u)
          (and_both (between 32 95 (initial (map upper e.word))) _ (and_left (between 32 95 (initial (map upper e.word))) _ r) (lt→ltb k n (omega arith))))) t
      go false u t = t

-- ---- the stored words of a group, place by place

module _ (bytes index : List ℕ) where
  abbrev pub stored_at : ℕ → Placed
  stored_at i = record { place = get_or index (362 + i) 0; word = word_of bytes index i; token = get_or bytes (1727 + i) 0 }

  pub good_at : (b m : ℕ) (n i : ℕ) → T (all_good b m (stored_words bytes index i n)) → (k : ℕ) → i ≤ k → k < i + n → T (good b m (stored_at k))
  unfolding all_good stored_words
  good_at b m zero i t k a h = absurd (omega arith)
  good_at b m (suc n) i t k a h = go (eqb i k) refl (λ l. good_at b m n (suc i) (and_right (good b m (stored_at i)) _ t) k l (omega arith))
    where
      go : (r : Bool) → eqb i k ≡ r → (suc i ≤ k → T (good b m (stored_at k))) → T (good b m (stored_at k))
      go true e f = rw (sym (eqb-true i k e)) (and_left (good b m (stored_at i)) _ t)
      go false e f = f (omega (arith, eqb-false i k e))

  module _ (p : ℕ → List ℕ → Bool) where
    -- the test of stored word j
    abbrev pub passes_placed : ℕ → Bool
    passes_placed j = p (get_or index (362 + j) 0) (word_of bytes index j)

    -- what is found at place r of those up to an end
    abbrev pub answer : ℕ → ℕ → Option Match
    answer end r = elim (ltb r end) [ true ↦ word_found bytes index r | false ↦ None ]

    pub first_stored : (n i : ℕ) → first_placed p (stored_words bytes index i n) ≡ answer (i + n) (first_from passes_placed i n)
    unfolding first_placed stored_words first_from
    first_stored zero i = rw (answer, le-ltb i (i + 0) (omega arith))
    first_stored (suc n) i = go (p (get_or index (362 + i) 0) (word_of bytes index i)) (first_stored n (suc i))
      where
        end : suc i + n ≡ i + suc n
        end = omega arith

        go : (r : Bool) → first_placed p (stored_words bytes index (suc i) n) ≡ answer (suc i + n) (first_from passes_placed (suc i) n)
            → ◌≡◌ {A = Option Match} (elim r [ true ↦ word_found bytes index i | false ↦ first_placed p (stored_words bytes index (suc i) n) ])
            (answer (i + suc n) (elim r [ true ↦ i | false ↦ first_from passes_placed (suc i) n ]))
        go true h = rw (answer, lt-ltb i (i + suc n) (omega arith))
        go false h = h ∙ ap (λ (e : ℕ). answer e (first_from passes_placed (suc i) n)) end

-- a stored word that begins as the text does is ready to be compared from its second byte on
pub ready_word : (w t : List ℕ) → T (raised w) → initial w ≡ initial t → T (between 32 95 (initial w)) → Ready w t 1
unfolding initial between begins
ready_word [] t c e r = absurd r
ready_word (x ∷ w) [] c e r = absurd (rw e at r)
ready_word (x ∷ w) (y ∷ t) c e r = record { capital = c; long = omega arith; agrees = rw (begins, eq-eqb _ _ e) }
