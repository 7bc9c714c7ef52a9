-- Laws of tallies: rows of numbers added place by place, and how often marks were made.
-- Assumes nothing.
use Prim.Native.Nat.{ℕ, zero, suc, ◌+◌, ◌≤◌, ◌<◌}
use mathlib.Core.Path.{◌≡◌, refl, sym, ap, ◌∙◌}
use mathlib.Core.Bool.{Bool, true, false, cond}
use mathlib.Core.List.{List, [], ◌∷◌, ◌++◌}
use native.Mathlib.Omega.{arith}
use lib.Dec.{eqb}
use lib.ListN.{length, get_or, set, length-set}
use lib.Seq.{ext_get_or, get_or-set_same, get_or-set_other}
use borrow.Author.Tests.{eqb-true, eqb-false}
use Rattle.count_images.specs.Tallies.{occurrences, occurrences_from, tally, added}

-- ---- rows

pub added_comm : (t u : List ℕ) → added t u ≡ added u t
unfolding added
added_comm [] [] = refl
added_comm [] (y ∷ u) = refl
added_comm (x ∷ t) [] = refl
added_comm (x ∷ t) (y ∷ u) =
    let e : x + y ≡ y + x = omega arith in
    rw (e, added_comm t u)

pub added_assoc : (t u v : List ℕ) → added (added t u) v ≡ added t (added u v)
unfolding added
added_assoc [] u v = refl
added_assoc (x ∷ t) [] v = refl
added_assoc (x ∷ t) (y ∷ u) [] = refl
added_assoc (x ∷ t) (y ∷ u) (z ∷ v) =
    let e : x + y + z ≡ x + (y + z) = omega arith in
    rw (e, added_assoc t u v)

pub length_added : (t u : List ℕ) → length t ≡ length u → length (added t u) ≡ length t
unfolding added
length_added [] u h = refl
length_added (x ∷ t) [] h = absurd (omega arith)
length_added (x ∷ t) (y ∷ u) h = ap suc (length_added t u (omega arith))

pub get_d_added : (t u : List ℕ) (i : ℕ) → length t ≡ length u → get_or (added t u) i 0 ≡ get_or t i 0 + get_or u i 0
unfolding added
get_d_added [] [] i h = refl
get_d_added [] (y ∷ u) i h = absurd (omega arith)
get_d_added (x ∷ t) [] i h = absurd (omega arith)
get_d_added (x ∷ t) (y ∷ u) zero h = refl
get_d_added (x ∷ t) (y ∷ u) (suc i) h = get_d_added t u i (omega arith)

-- ---- marks

pub occurrences_append : (k : ℕ) (ms ns : List ℕ) → occurrences k (ms ++ ns) ≡ occurrences k ms + occurrences k ns
unfolding occurrences
occurrences_append k [] ns = omega arith
occurrences_append k (m ∷ ms) ns = omega (arith, occurrences_append k ms ns)

one_most : (b : Bool) → cond b 1 0 ≤ 1
one_most true = omega arith
one_most false = omega arith

-- no mark was made more often than marks were made
pub occurrences_most : (k : ℕ) (ms : List ℕ) → occurrences k ms ≤ length ms
unfolding occurrences
occurrences_most k [] = omega arith
occurrences_most k (m ∷ ms) = omega (arith, one_most (eqb m k), occurrences_most k ms)

length_from : (n k : ℕ) (ms : List ℕ) → length (occurrences_from n k ms) ≡ n
unfolding occurrences_from
length_from zero k ms = refl
length_from (suc n) k ms = ap suc (length_from n (suc k) ms)

get_d_from : (n k : ℕ) (ms : List ℕ) (i : ℕ) → i < n → get_or (occurrences_from n k ms) i 0 ≡ occurrences (k + i) ms
unfolding occurrences_from
get_d_from zero k ms i h = absurd (omega arith)
get_d_from (suc n) k ms zero h = let e : k + 0 ≡ k = omega arith in rw e
get_d_from (suc n) k ms (suc i) h =
    let e : k + suc i ≡ suc k + i = omega arith in
    rw e (get_d_from n (suc k) ms i (omega arith))

from_append : (n k : ℕ) (ms ns : List ℕ) → occurrences_from n k (ms ++ ns) ≡ added (occurrences_from n k ms) (occurrences_from n k ns)
unfolding occurrences_from added
from_append zero k ms ns = refl
from_append (suc n) k ms ns = rw (occurrences_append k ms ns, from_append n (suc k) ms ns)

from_none : (n k : ℕ) (t : List ℕ) → length t ≡ n → added t (occurrences_from n k []) ≡ t
unfolding occurrences_from occurrences added
from_none n k [] h = refl
from_none zero k (x ∷ t) h = absurd (omega arith)
from_none (suc n) k (x ∷ t) h =
    let e : x + 0 ≡ x = omega arith in
    rw (e, from_none n (suc k) t (omega arith))

-- what was made equally often gives the same row
from_alike : (n k : ℕ) (ms ns : List ℕ) → ((j : ℕ) → occurrences j ms ≡ occurrences j ns) → occurrences_from n k ms ≡ occurrences_from n k ns
unfolding occurrences_from
from_alike zero k ms ns alike = refl
from_alike (suc n) k ms ns alike = rw (alike k, from_alike n (suc k) ms ns alike)

-- ---- the tally

pub tally_length : (ms : List ℕ) → length (tally ms) ≡ 206
unfolding tally
tally_length ms = length_from 206 0 ms

pub tally_at : (ms : List ℕ) (i : ℕ) → i < 206 → get_or (tally ms) i 0 ≡ occurrences i ms
unfolding tally
tally_at ms i h = let e : 0 + i ≡ i = omega arith in rw e at (get_d_from 206 0 ms i h)

pub tally_append : (ms ns : List ℕ) → tally (ms ++ ns) ≡ added (tally ms) (tally ns)
unfolding tally
tally_append ms ns = from_append 206 0 ms ns

pub tally_alike : (ms ns : List ℕ) → ((j : ℕ) → occurrences j ms ≡ occurrences j ns) → tally ms ≡ tally ns
unfolding tally
tally_alike ms ns alike = from_alike 206 0 ms ns alike

module _ (t : List ℕ) where
  pub tally_none : length t ≡ 206 → added t (tally []) ≡ t
  unfolding tally
  tally_none long = from_none 206 0 t long

  -- marks on top of marks
  pub tally_on : (ms ns : List ℕ) → added (added t (tally ms)) (tally ns) ≡ added t (tally (ms ++ ns))
  tally_on ms ns = rw (tally_append ms ns, added_assoc t (tally ms) (tally ns))

  pub tally_long : length t ≡ 206 → (ms : List ℕ) → length (added t (tally ms)) ≡ 206
  tally_long long ms = length_added t (tally ms) (long ∙ sym (tally_length ms)) ∙ long

  pub tally_on_at : length t ≡ 206 → (ms : List ℕ) (i : ℕ) → i < 206 → get_or (added t (tally ms)) i 0 ≡ get_or t i 0 + occurrences i ms
  tally_on_at long ms i h = get_d_added t (tally ms) i (long ∙ sym (tally_length ms)) ∙ ap (λ (n : ℕ). get_or t i 0 + n) (tally_at ms i h)

  -- one mark raises its own number by 1
  pub tally_mark : length t ≡ 206 → (k : ℕ) → k < 206 → set t k (get_or t k 0 + 1) ≡ added t (tally (k ∷ []))
  unfolding occurrences
  tally_mark long k h =
      ext_get_or 0 (set t k (get_or t k 0 + 1)) (added t (tally (k ∷ []))) (length-set t k (get_or t k 0 + 1) ∙ long ∙ sym (tally_long long (k ∷ [])))
      (λ i l. at_place i (omega (arith, length-set t k (get_or t k 0 + 1))) (eqb k i) refl)
    where
      at_place : (i : ℕ) → i < 206 → (b : Bool) → eqb k i ≡ b → get_or (set t k (get_or t k 0 + 1)) i 0 ≡ get_or (added t (tally (k ∷ []))) i 0
      at_place i l true e =
          let same : k ≡ i = eqb-true k i e in
          rw (tally_on_at long (k ∷ []) i l, e, ← same, get_or-set_same t k (get_or t k 0 + 1) 0 (omega arith))
      at_place i l false e =
          rw (tally_on_at long (k ∷ []) i l, e, get_or-set_other t k i (get_or t k 0 + 1) 0 (λ q. eqb-false k i e (sym q)))
          (omega arith)
