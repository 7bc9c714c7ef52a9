-- A run of bytes and its starts, held against what they must be: one test over all words, carried to each of them.
-- Assumes nothing.
use Prim.Native.Nat.{ℕ, zero, suc, ◌+◌, ◌-◌, ◌≤◌, ◌<◌}
use mathlib.Core.Path.{◌≡◌, refl, sym, ◌∙◌}
use mathlib.Core.Bool.{Bool, true, false, ◌&&◌}
use mathlib.Core.List.{List, [], ◌∷◌, map}
use mathlib.Core.Logic.{◌⊎◌, inl, inr}
use Rattle.std.specs.Prelude.{Option, Some, None}
use native.Mathlib.Nat.{eq-or-lt_of_le, le_of_suc-le-suc}
use native.Mathlib.Omega.{arith}
use lib.Dec.{T, leb, ltb, leb→le, ltb→lt}
use lib.ListN.{length, get_or}
use Rattle.base_ascii.specs.Bytes.{upper}
use Rattle.word_search.specs.Compare.{begins, same, alike, passes}
use Rattle.word_search.specs.Find.{Name, meaning}
use Rattle.word_search.specs.RunHelpers.{Lies, Stored, raised, word_of, passes_at, first_from}
use Rattle.word_search.specs.declared.Test.TheVariants.{Alike}
use Rattle.word_search.proofs.Search.{and_left, and_right, first_from_lem}
use Rattle.word_search.proofs.Comparing.{raise_alike}
use Rattle.word_search.proofs.Sameness.{same_eq, T_true}

-- a test of every place below n
unfoldable pub all_below : (ℕ → Bool) → ℕ → Bool
all_below p zero = true
all_below p (suc n) = p n && all_below p n

pub all_below_lem : (p : ℕ → Bool) (n : ℕ) → T (all_below p n) → (k : ℕ) → k < n → T (p k)
unfolding all_below
all_below_lem p zero t k h = absurd (omega arith)
all_below_lem p (suc n) t k h = go (all_below_lem p n (and_right (p n) _ t) k) (eq-or-lt_of_le (le_of_suc-le-suc h))
  where
    go : (k < n → T (p k)) → (k ≡ n) ⊎ (k < n) → T (p k)
    go below (inl e) = rw e (and_left (p n) _ t)
    go below (inr l) = below l

module _ (bytes starts : List ℕ) where
  -- word k lies in the run
  unfoldable pub lies_at : ℕ → Bool
  lies_at k = ltb (k + 1) (length starts) && (leb (get_or starts k 0) (get_or starts (k + 1) 0) && leb (get_or starts (k + 1) 0) (length bytes))

  pub lies_at_lem : (k : ℕ) → T (lies_at k) → Lies bytes starts k
  unfolding lies_at
  lies_at_lem k t =
      let t₁ = and_right (ltb (k + 1) (length starts)) _ t in
      record {
        here = ltb→lt _ _ (and_left (ltb (k + 1) (length starts)) _ t);
        up = leb→le _ _ (and_left (leb (get_or starts k 0) (get_or starts (k + 1) 0)) _ t₁);
        within = leb→le _ _ (and_right (leb (get_or starts k 0) (get_or starts (k + 1) 0)) _ t₁);
      }

  -- it lies there in capitals
  unfoldable pub ready_at : ℕ → Bool
  unfolding lies_at raised word_of
  ready_at k = lies_at k && raised (word_of bytes starts k)

  pub stored_below : (t : List ℕ) (n : ℕ) → T (all_below ready_at n) → Stored t bytes starts (record { from = 0; to = n }) 0
  unfolding ready_at begins
  stored_below t n r = record {
    up = omega arith;
    lie = λ k a b. lies_at_lem k (and_left (lies_at k) _ (all_below_lem ready_at n r k b));
    ready = λ k a b. record { capital = and_right (lies_at k) _ (all_below_lem ready_at n r k b); long = omega arith; agrees = refl };
  }

  -- the words from k on are the names, in capitals
  unfoldable pub spells_names : {A : Type 0} → ℕ → List (Name A) → Bool
  unfolding same word_of
  spells_names k [] = true
  spells_names k (n ∷ ns) = same (word_of bytes starts k) (map upper n.name) && spells_names (suc k) ns

  -- what the name at a place means
  means_at : {A : Type 0} → List (Name A) → ℕ → Option A
  means_at [] k = None
  means_at (n ∷ ns) zero = Some n.means
  means_at (n ∷ ns) (suc k) = means_at ns k

  -- the search of the names is the search of the stored words
  module _ {A : Type 0} (t : List ℕ) where
    meaning_from : (ns : List (Name A)) (k : ℕ) → T (spells_names k ns) → meaning ns t ≡ means_at ns (first_from (passes_at Alike t bytes starts) k (length ns) - k)
    unfolding meaning means_at first_from spells_names passes_at passes
    meaning_from [] k s = refl
    meaning_from (n ∷ ns) k s =
        let spelt = same (word_of bytes starts k) (map upper n.name) in
        let is : word_of bytes starts k ≡ map upper n.name = same_eq (word_of bytes starts k) (map upper n.name) (T_true _ (and_left spelt _ s)) in
        rw (first_from, is, raise_alike n.name t)
        (go (alike n.name t) _ (meaning_from ns (suc k) (and_right spelt _ s)) (first_from_lem (passes_at Alike t bytes starts) (suc k) (length ns)))
      where
        go : (b : Bool) (next : ℕ) → meaning ns t ≡ means_at ns (next - suc k) → suc k ≤ next
            → ◌≡◌ {A = Option A} (elim b [ true ↦ Some n.means | false ↦ meaning ns t ]) (means_at (n ∷ ns) (elim b [ true ↦ k | false ↦ next ] - k))
        go true next h l = let e : k - k ≡ 0 = omega arith in rw e
        go false next h l = let e : next - k ≡ suc (next - suc k) = omega arith in rw e h

    means_some : (d : A) (ns : List (Name A)) (r : ℕ) → r < length ns → means_at ns r ≡ Some (get_or (map (λ n. n.means) ns) r d)
    unfolding means_at
    means_some d [] r h = absurd (omega arith)
    means_some d (n ∷ ns) zero h = refl
    means_some d (n ∷ ns) (suc r) h = means_some d ns r (le_of_suc-le-suc h)

    means_none : (ns : List (Name A)) (r : ℕ) → length ns ≤ r → means_at ns r ≡ None
    unfolding means_at
    means_none [] r h = refl
    means_none (n ∷ ns) zero h = absurd (omega arith)
    means_none (n ∷ ns) (suc r) h = means_none ns r (le_of_suc-le-suc h)

    module _ (ns : List (Name A)) (s : T (spells_names 0 ns)) {r : ℕ} (e : r ≡ first_from (passes_at Alike t bytes starts) 0 (length ns)) where
      is_meaning : meaning ns t ≡ means_at ns r
      is_meaning = let z : r - 0 ≡ r = omega arith in meaning_from ns 0 s ∙ rw (← e, z)

      pub name_means : (d : A) → r < length ns → Some (get_or (map (λ n. n.means) ns) r d) ≡ meaning ns t
      name_means d h = sym (is_meaning ∙ means_some d ns r h)

      pub name_unknown : length ns ≤ r → None ≡ meaning ns t
      name_unknown h = sym (is_meaning ∙ means_none ns r h)
