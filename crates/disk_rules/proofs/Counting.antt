-- Counting the numbers of a list, or of a run, that pass a test.
-- Assumes nothing.
use Prim.Native.Nat.{ℕ, zero, suc, ◌+◌, ◌≤◌, ◌<◌}
use mathlib.Core.Path.{◌≡◌, refl, sym, ap}
use mathlib.Core.Bool.{Bool, true, false, not, cond, ◌&&◌, ◌||◌}
use mathlib.Core.List.{List, [], ◌∷◌, ◌++◌}
use lib.Dec.{eqb}
use lib.ListN.{length, get_or}
use native.Mathlib.Decide.{dec_lt}
use native.Mathlib.Omega.{arith}
use borrow.Author.Tests.{eqb-true, eq-eqb, ne_eqb, not-true}
use Rattle.disk_rules.specs.Lists.{numbers_from, those, every, some, is_in, none_twice}

-- ---- tests

pub never : {A : Type 0} → ◌≡◌ {A = Bool} false true → A
never e = absurd (let z : ◌≡◌ {A = ℕ} 0 1 = cc in omega arith)

pub and_left : (a b : Bool) → (a && b) ≡ true → a ≡ true
and_left true b e = refl
and_left false b e = e

pub and_right : (a b : Bool) → (a && b) ≡ true → b ≡ true
and_right true b e = e
and_right false true e = refl
and_right false false e = e

pub or_right : (a b : Bool) → b ≡ true → (a || b) ≡ true
or_right true b e = refl
or_right false b e = e

-- ---- counts

-- 1 for a test that passes
abbrev pub one : Bool → ℕ
one q = cond q 1 0

-- how many numbers of a list pass
abbrev pub count : (ℕ → Bool) → List ℕ → ℕ
count test l = length (those test l)

pub count_cons : (test : ℕ → Bool) (n : ℕ) (l : List ℕ) → count test (n ∷ l) ≡ one (test n) + count test l
unfolding those
count_cons test n l = go (test n) where
  go : (q : Bool) → length (cond q (n ∷ those test l) (those test l)) ≡ one q + length (those test l)
  go true = omega arith
  go false = omega arith

pub count_none : (test : ℕ → Bool) → count test [] ≡ 0
unfolding those
count_none test = refl

-- a number passes or does not
pub count_not : (test : ℕ → Bool) (l : List ℕ) → count test l + count (λ n. not (test n)) l ≡ length l
count_not test [] = omega (arith, count_none test, count_none (λ n. not (test n)))
count_not test (n ∷ l) = omega (arith, count_not test l, count_cons test n l, count_cons (λ m. not (test m)) n l, go (test n)) where
  go : (q : Bool) → one q + one (not q) ≡ 1
  go true = refl
  go false = refl

-- ---- runs

-- of three tests exactly one passes for each number of a run
pub count_three : (a b c : ℕ → Bool) (from k : ℕ) → ((n : ℕ) → from ≤ n → n < from + k → one (a n) + one (b n) + one (c n) ≡ 1)
    → count a (numbers_from from k) + count b (numbers_from from k) + count c (numbers_from from k) ≡ k
unfolding numbers_from
count_three a b c from zero h = omega (arith, count_none a, count_none b, count_none c)
count_three a b c from (suc k) h =
    omega (
      arith,
      h from (omega arith) (omega arith),
      count_three a b c (from + 1) k (λ n f g. h n (omega arith) (omega arith)),
      count_cons a from (numbers_from (from + 1) k),
      count_cons b from (numbers_from (from + 1) k),
      count_cons c from (numbers_from (from + 1) k),
    )

one_few : (q : Bool) → one q ≤ 1
one_few true = omega arith
one_few false = omega arith

-- one number of a run is a number in it; none is one before it
equal_none : (m from k : ℕ) → m < from → count (λ n. eqb n m) (numbers_from from k) ≡ 0
unfolding numbers_from
equal_none m from zero h = count_none (λ n. eqb n m)
equal_none m from (suc k) h =
    let z : from ≡ m → ⊥ = λ e. omega arith in
    let y : one (eqb from m) ≡ 0 = ap one (ne_eqb from m z) in
    omega (arith, equal_none m (from + 1) k (omega arith), count_cons (λ n. eqb n m) from (numbers_from (from + 1) k))

pub equal_one : (m from k : ℕ) → from ≤ m → m < from + k → count (λ n. eqb n m) (numbers_from from k) ≡ 1
unfolding numbers_from
equal_one m from zero h g = absurd (omega arith)
equal_one m from (suc k) h g = go (dec_lt from m) (λ i. equal_one m (from + 1) k (omega arith) (omega arith)) where
  go : Dec (from < m) → (from < m → count (λ n. eqb n m) (numbers_from (from + 1) k) ≡ 1) → count (λ n. eqb n m) (from ∷ numbers_from (from + 1) k) ≡ 1
  go (yes i) f =
      let z : from ≡ m → ⊥ = λ e. omega arith in
      let y : one (eqb from m) ≡ 0 = ap one (ne_eqb from m z) in
      omega (arith, f i, count_cons (λ n. eqb n m) from (numbers_from (from + 1) k))
  go (no i) f =
      let z : from ≡ m = omega arith in
      let y : one (eqb from m) ≡ 1 = ap one (eq-eqb from m z) in
      omega (arith, equal_none m (from + 1) k (omega arith), count_cons (λ n. eqb n m) from (numbers_from (from + 1) k))

equal_few : (m from k : ℕ) → count (λ n. eqb n m) (numbers_from from k) ≤ 1
unfolding numbers_from
equal_few m from zero = omega (arith, count_none (λ n. eqb n m))
equal_few m from (suc k) = go (dec_lt m (from + 1)) (equal_few m (from + 1) k) (eqb from m) refl where
  go : Dec (m < from + 1) → count (λ n. eqb n m) (numbers_from (from + 1) k) ≤ 1 → (q : Bool) → eqb from m ≡ q
      → count (λ n. eqb n m) (from ∷ numbers_from (from + 1) k) ≤ 1
  go (yes h) f q e = omega (arith, equal_none m (from + 1) k h, one_few (eqb from m), count_cons (λ n. eqb n m) from (numbers_from (from + 1) k))
  go (no h) f q e =
      let z : from ≡ m → ⊥ = λ g. omega arith in
      let y : one (eqb from m) ≡ 0 = ap one (ne_eqb from m z) in
      omega (arith, count_cons (λ n. eqb n m) from (numbers_from (from + 1) k))

-- ---- those of a run that stand in a list

either_few : (a b : ℕ → Bool) (l : List ℕ) → count (λ n. a n || b n) l ≤ count a l + count b l
either_few a b [] = omega (arith, count_none (λ n. a n || b n))
either_few a b (n ∷ l) = omega (arith, either_few a b l, count_cons (λ m. a m || b m) n l, count_cons a n l, count_cons b n l, go (a n) (b n)) where
  go : (p q : Bool) → one (p || q) ≤ one p + one q
  go true q = omega arith
  go false q = omega arith

either_both : (a b : ℕ → Bool) (l : List ℕ) → ((n : ℕ) → a n ≡ true → b n ≡ false) → count (λ n. a n || b n) l ≡ count a l + count b l
either_both a b [] h = omega (arith, count_none (λ n. a n || b n), count_none a, count_none b)
either_both a b (n ∷ l) h = omega (arith, either_both a b l h, count_cons (λ m. a m || b m) n l, count_cons a n l, count_cons b n l, go (a n) (b n) (h n)) where
  go : (p q : Bool) → (p ≡ true → q ≡ false) → one (p || q) ≡ one p + one q
  go true q f = let e : one q ≡ 0 = ap one (f refl) in omega arith
  go false q f = omega arith

none_pass : (r : List ℕ) → count (λ n. false) r ≡ 0
none_pass [] = count_none (λ n. false)
none_pass (n ∷ r) = omega (arith, none_pass r, count_cons (λ m. false) n r)

-- no more of a run stand in a list than it has numbers
pub stand_few : (l : List ℕ) (from k : ℕ) → count (is_in l) (numbers_from from k) ≤ length l
unfolding some
stand_few [] from k = omega (arith, none_pass (numbers_from from k))
stand_few (m ∷ l) from k = omega (arith, either_few (λ n. eqb n m) (is_in l) (numbers_from from k), stand_few l from k, equal_few m from k)

-- as many as it has numbers, where each stands in the run and none twice
pub stand_all : (l : List ℕ) (from k : ℕ) → none_twice l ≡ true → ((m : ℕ) → is_in l m ≡ true → (from ≤ m) × (m < from + k))
    → count (is_in l) (numbers_from from k) ≡ length l
unfolding some none_twice
stand_all [] from k e h = none_pass (numbers_from from k)
stand_all (m ∷ l) from k e h =
    let x : is_in l m ≡ false = not-true (is_in l m) (and_left (not (is_in l m)) (none_twice l) e) in
    let own : (from ≤ m) × (m < from + k) = h m (rw (eq-eqb m m refl)) in
    let apart : (n : ℕ) → eqb n m ≡ true → is_in l n ≡ false = λ n g. rw (eqb-true n m g) x in
    omega (
      arith,
      either_both (λ n. eqb n m) (is_in l) (numbers_from from k) apart,
      stand_all l from k (and_right (not (is_in l m)) (none_twice l) e) (λ n g. h n (or_right (eqb n m) (is_in l n) g)),
      equal_one m from k own.0 own.1,
    )

pub numbers_long : (from k : ℕ) → length (numbers_from from k) ≡ k
unfolding numbers_from
numbers_long from zero = refl
numbers_long from (suc k) = ap suc (numbers_long (from + 1) k)

-- so a list has no more numbers than the run
pub run_few : (l : List ℕ) (from k : ℕ) → none_twice l ≡ true → ((m : ℕ) → is_in l m ≡ true → (from ≤ m) × (m < from + k)) → length l ≤ k
run_few l from k e h = omega (arith, stand_all l from k e h, count_not (is_in l) (numbers_from from k), numbers_long from k)

-- ---- what holds of each number of a list, or of a run

pub in_append : (a b : List ℕ) (n : ℕ) → is_in (a ++ b) n ≡ (is_in a n || is_in b n)
unfolding some
in_append [] b n = refl
in_append (m ∷ a) b n = go (eqb n m) (in_append a b n) where
  go : (q : Bool) → is_in (a ++ b) n ≡ (is_in a n || is_in b n) → (q || is_in (a ++ b) n) ≡ (q || is_in a n || is_in b n)
  go true e = refl
  go false e = e

pub every_at : (test : ℕ → Bool) (from k : ℕ) → every test (numbers_from from k) ≡ true → (i : ℕ) → from ≤ i → i < from + k → test i ≡ true
unfolding every numbers_from
every_at test from zero e i h g = absurd (omega arith)
every_at test from (suc k) e i h g =
    go (dec_lt from i) (λ f. every_at test (from + 1) k (and_right (test from) (every test (numbers_from (from + 1) k)) e) i (omega arith) (omega arith)) where
      go : Dec (from < i) → (from < i → test i ≡ true) → test i ≡ true
      go (yes f) x = x f
      go (no f) x = let z : i ≡ from = omega arith in rw z (and_left (test from) (every test (numbers_from (from + 1) k)) e)

-- what passes a test stands in the list
pub in_those_list : (test : ℕ → Bool) (l : List ℕ) (n : ℕ) → is_in (those test l) n ≡ true → is_in l n ≡ true
unfolding those some
in_those_list test [] n e = never e
in_those_list test (m ∷ l) n e = go (test m) (in_those_list test l n) e where
  go : (q : Bool) → (is_in (those test l) n ≡ true → is_in l n ≡ true) → is_in (cond q (m ∷ those test l) (those test l)) n ≡ true → (eqb n m || is_in l n) ≡ true
  go false g h = or_right (eqb n m) (is_in l n) (g h)
  go true g h = by (eqb n m) h where
    by : (r : Bool) → (r || is_in (those test l) n) ≡ true → (r || is_in l n) ≡ true
    by true j = refl
    by false j = g j

pub in_at : (l : List ℕ) (i : ℕ) → i < length l → is_in l (get_or l i 0) ≡ true
unfolding some
in_at [] i h = absurd (omega arith)
in_at (n ∷ l) zero h = rw (eq-eqb n n refl)
in_at (n ∷ l) (suc i) h = or_right (eqb (get_or l i 0) n) (is_in l (get_or l i 0)) (in_at l i (omega arith))

-- where a number of a list stands
pub record At (l : List ℕ) (n : ℕ) : Type 0 where
  pub at : ℕ
  pub within : at < length l
  pub is : get_or l at 0 ≡ n

pub in_place : (l : List ℕ) (n : ℕ) → is_in l n ≡ true → At l n
unfolding some
in_place [] n e = never e
in_place (m ∷ l) n e = go (eqb n m) refl (in_place l n) e where
  go : (q : Bool) → eqb n m ≡ q → (is_in l n ≡ true → At l n) → (q || is_in l n) ≡ true → At (m ∷ l) n
  go true f g h = record { at = 0; within = omega arith; is = sym (eqb-true n m f) }
  go false f g h = let r : At l n = g h in record { at = suc r.at; within = omega (arith, r.within); is = r.is }
