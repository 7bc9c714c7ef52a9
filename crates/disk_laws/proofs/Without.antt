-- A list of entries, and the same list without one of them: what the check asks of the two.
-- Assumes nothing.
use Prim.Native.Nat.{ℕ, zero, suc, ◌+◌, ◌≤◌, ◌<◌}
use mathlib.Core.Path.{◌≡◌, refl, sym, ap, ◌∙◌}
use mathlib.Core.Bool.{Bool, true, false, not, cond, ◌&&◌, ◌||◌}
use mathlib.Core.List.{List, [], ◌∷◌, ◌++◌, map}
use lib.Dec.{eqb}
use lib.ListN.{get_or}
use native.Mathlib.Decide.{dec_lt}
use native.Mathlib.Omega.{arith}
use borrow.Author.Tests.{eqb-true, eqb-false, eq-eqb, ne_eqb, not-true}
use Rattle.disk_rules.specs.Lists.{numbers_from, those, some, is_in, none_twice}
use Rattle.disk_rules.specs.Chains.{Chain}
use Rattle.disk_rules.specs.Entries.{is_named, name_at, same_name, entries_good, chain_of}
use Rattle.disk_rules.proofs.Counting.{and_left, and_right, or_right, in_append, never}
use Rattle.disk_laws.proofs.Chained.{all_sectors, AllEnd}

-- the first list is the second with one number put in
pub data Without (p : ℕ) : List ℕ → List ℕ → Type 0 where
  here : (l : List ℕ) → Without p (p ∷ l) l
  there : (q : ℕ) (m l : List ℕ) → Without p m l → Without p (q ∷ m) (q ∷ l)

-- ---- lists in which none stands twice

both : {a b : Bool} → a ≡ true → b ≡ true → (a && b) ≡ true
both e f = rw e f

or_false : (a b : Bool) → (a || b) ≡ false → (a ≡ false) × (b ≡ false)
or_false true b e = never (sym e)
or_false false b e = (refl, e)

pub neither : (a b : Bool) → a ≡ false → b ≡ false → (a || b) ≡ false
neither a b e f = rw (e, f) refl

split : (a b : Bool) → (not a && b) ≡ true → (a ≡ false) × (b ≡ true)
split false b e = (refl, e)
split true b e = never e

once : {a b : Bool} → a ≡ false → b ≡ true → (not a && b) ≡ true
once e f = rw e f

-- two lists: none twice in either, and none in both
pub record Apart (a b : List ℕ) : Type 0 where
  pub left : none_twice a ≡ true
  pub right : none_twice b ≡ true
  pub none : (m : ℕ) → is_in a m ≡ true → is_in b m ≡ false

pub apart_lists : (a b : List ℕ) → none_twice (a ++ b) ≡ true → Apart a b
unfolding none_twice some
apart_lists [] b e = record { left = refl; right = e; none = λ m h. never h }
apart_lists (n ∷ a) b e =
    let s : (is_in (a ++ b) n ≡ false) × (none_twice (a ++ b) ≡ true) = split (is_in (a ++ b) n) (none_twice (a ++ b)) e in
    let r : Apart a b = apart_lists a b s.1 in
    let o : (is_in a n ≡ false) × (is_in b n ≡ false) = or_false (is_in a n) (is_in b n) (sym (in_append a b n) ∙ s.0) in
    record { left = once o.0 r.left; right = r.right; none = λ m h. go m (eqb m n) refl o.1 (r.none m) h } where
      go : (m : ℕ) (q : Bool) → eqb m n ≡ q → is_in b n ≡ false → (is_in a m ≡ true → is_in b m ≡ false) → (q || is_in a m) ≡ true → is_in b m ≡ false
      go m true f g i j = rw (eqb-true m n f) g
      go m false f g i j = i j

pub lists_apart_lem : (a b : List ℕ) → Apart a b → none_twice (a ++ b) ≡ true
unfolding none_twice some
lists_apart_lem [] b r = r.right
lists_apart_lem (n ∷ a) b r =
    let s : (is_in a n ≡ false) × (none_twice a ≡ true) = split (is_in a n) (none_twice a) r.left in
    once (in_append a b n ∙ neither (is_in a n) (is_in b n) s.0 (r.none n (rw (eq-eqb n n refl))))
    (lists_apart_lem a b (record { left = s.1; right = r.right; none = λ m h. r.none m (or_right (eqb m n) (is_in a m) h) }))

-- ---- the sectors of all chains

-- four tests in another order
swap : (a b c : Bool) → (a || (b || c)) ≡ (b || (a || c))
swap true true c = refl
swap true false c = refl
swap false b c = refl

module _ (d : List ℕ) (p : ℕ) where
  abbrev own : List ℕ
  own = (chain_of d p).sectors

  pub in_all : {m l : List ℕ} → Without p m l → (n : ℕ) → is_in (all_sectors d m) n ≡ (is_in (chain_of d p).sectors n || is_in (all_sectors d l) n)
  unfolding all_sectors
  in_all (here l) n = in_append own (all_sectors d l) n
  in_all (there q m l w) n =
      in_append (chain_of d q).sectors (all_sectors d m) n
      ∙ ap (λ (x : Bool). is_in (chain_of d q).sectors n || x) (in_all w n)
      ∙ swap (is_in (chain_of d q).sectors n) (is_in own n) (is_in (all_sectors d l) n)
      ∙ ap (λ (x : Bool). is_in own n || x) (sym (in_append (chain_of d q).sectors (all_sectors d l) n))

  pub all_end : {m l : List ℕ} → Without p m l → AllEnd d m → ((chain_of d p).ends ≡ true) × AllEnd d l
  unfolding AllEnd
  all_end (here l) e = e
  all_end (there q m l w) e = let r : ((chain_of d p).ends ≡ true) × AllEnd d l = all_end w e.1 in (r.0, (e.0, r.1))

  pub end_all : {m l : List ℕ} → Without p m l → (chain_of d p).ends ≡ true → AllEnd d l → AllEnd d m
  unfolding AllEnd
  end_all (here l) f e = (f, e)
  end_all (there q m l w) f e = (e.0, end_all w f e.1)

  pub all_apart : {m l : List ℕ} → Without p m l → none_twice (all_sectors d m) ≡ true → Apart (chain_of d p).sectors (all_sectors d l)
  unfolding all_sectors
  all_apart (here l) e = apart_lists own (all_sectors d l) e
  all_apart (there q m l w) e =
      let other : List ℕ = (chain_of d q).sectors in
      let a : Apart other (all_sectors d m) = apart_lists other (all_sectors d m) e in
      let r : Apart own (all_sectors d l) = all_apart w a.right in
      let o : (n : ℕ) → is_in other n ≡ true → (is_in own n ≡ false) × (is_in (all_sectors d l) n ≡ false) =
      λ n h. or_false (is_in own n) (is_in (all_sectors d l) n) (sym (in_all w n) ∙ a.none n h)
      in
      record {
        left = r.left;
        right = lists_apart_lem other (all_sectors d l) (record { left = a.left; right = r.right; none = λ n h. (o n h).1 });
        none = λ n h. in_append other (all_sectors d l) n ∙ neither (is_in other n) (is_in (all_sectors d l) n) (not_in (is_in other n) (is_in own n) h (λ i. (o n i).0)) (r.none n h);
      } where
        not_in : (a b : Bool) → b ≡ true → (a ≡ true → b ≡ false) → a ≡ false
        not_in true b e f = never (sym (f refl) ∙ e)
        not_in false b e f = refl

  pub apart_all : {m l : List ℕ} → Without p m l → Apart (chain_of d p).sectors (all_sectors d l) → none_twice (all_sectors d m) ≡ true
  unfolding all_sectors
  apart_all (here l) a = lists_apart_lem own (all_sectors d l) a
  apart_all (there q m l w) a =
      let other : List ℕ = (chain_of d q).sectors in
      let b : Apart other (all_sectors d l) = apart_lists other (all_sectors d l) a.right in
      let o : (n : ℕ) → is_in own n ≡ true → (is_in other n ≡ false) × (is_in (all_sectors d l) n ≡ false) =
      λ n h. or_false (is_in other n) (is_in (all_sectors d l) n) (sym (in_append other (all_sectors d l) n) ∙ a.none n h)
      in
      lists_apart_lem other (all_sectors d m)
      (record {
        left = b.left;
        right = apart_all w (record { left = a.left; right = b.right; none = λ n h. (o n h).1 });
        none = λ n h. in_all w n ∙ neither (is_in own n) (is_in (all_sectors d l) n) (not_in (is_in own n) (is_in other n) h (λ i. (o n i).0)) (b.none n h);
      }) where
        not_in : (a b : Bool) → b ≡ true → (a ≡ true → b ≡ false) → a ≡ false
        not_in true b e f = never (sym (f refl) ∙ e)
        not_in false b e f = refl

-- ---- good entries

pub some_without : (test : ℕ → Bool) {p : ℕ} {m l : List ℕ} → Without p m l → some test m ≡ (test p || some test l)
unfolding some
some_without test (here l) = refl
some_without test {p} (there q m l w) = ap (λ (x : Bool). test q || x) (some_without test w) ∙ swap (test q) (test p) (some test l)

same_sym : (a b : List ℕ) → same_name a b ≡ same_name b a
unfolding same_name
same_sym [] [] = refl
same_sym [] (y ∷ b) = refl
same_sym (x ∷ a) [] = refl
same_sym (x ∷ a) (y ∷ b) = ap (λ (q : Bool). q && same_name a b) (turned (eqb x y) refl) ∙ ap (λ (q : Bool). eqb y x && q) (same_sym a b) where
  turned : (q : Bool) → eqb x y ≡ q → eqb x y ≡ eqb y x
  turned true e = e ∙ sym (eq-eqb y x (sym (eqb-true x y e)))
  turned false e = e ∙ sym (ne_eqb y x (λ f. eqb-false x y e (sym f)))

-- an entry's part of the test
pub record Good (d : List ℕ) (q : ℕ) (l : List ℕ) : Type 0 where
  pub type : eqb (get_or d q 0) 0x82 ≡ true
  pub alone : some (is_named d (name_at d q)) l ≡ false
  pub rest : entries_good d l ≡ true

pub good_first : (d : List ℕ) (q : ℕ) (l : List ℕ) → entries_good d (q ∷ l) ≡ true → Good d q l
unfolding entries_good
good_first d q l e =
    let b : Bool = eqb (get_or d q 0) 0x82 in
    let s : Bool = some (is_named d (name_at d q)) l in
    let f : (b && not s) ≡ true = and_left (b && not s) (entries_good d l) e in
    record { type = and_left b (not s) f; alone = not-true s (and_right b (not s) f); rest = and_right (b && not s) (entries_good d l) e }

pub good_all : (d : List ℕ) (q : ℕ) (l : List ℕ) → Good d q l → entries_good d (q ∷ l) ≡ true
unfolding entries_good
good_all d q l g = rw (g.type, g.alone) g.rest

module _ (d : List ℕ) (p : ℕ) where
  pub good_less : {m l : List ℕ} → Without p m l → entries_good d m ≡ true → entries_good d l ≡ true
  good_less (here l) e = (good_first d p l e).rest
  good_less (there q m l w) e =
      let g : Good d q m = good_first d q m e in
      let test : ℕ → Bool = is_named d (name_at d q) in
      good_all d q l (record { type = g.type; alone = (or_false (test p) (some test l) (sym (some_without test w) ∙ g.alone)).1; rest = good_less w g.rest })

  pub good_more : {m l : List ℕ} → Without p m l → Good d p l → entries_good d m ≡ true
  unfolding some
  good_more (here l) g = good_all d p l g
  good_more (there q m l w) g =
      let h : Good d q l = good_first d q l g.rest in
      let test : ℕ → Bool = is_named d (name_at d q) in
      let o : (is_named d (name_at d p) q ≡ false) × (some (is_named d (name_at d p)) l ≡ false) = or_false (is_named d (name_at d p) q) (some (is_named d (name_at d p)) l) g.alone in
      good_all d q m
      (record {
        type = h.type;
        alone = some_without test w ∙ neither (test p) (some test l) (same_sym (name_at d p) (name_at d q) ∙ o.0) h.alone;
        rest = good_more w (record { type = g.type; alone = o.1; rest = h.rest });
      })

-- ---- two disks that have the same files

-- an entry's type, name and chain
pub record Same (d d' : List ℕ) (q : ℕ) : Type 0 where
  pub type : get_or d' q 0 ≡ get_or d q 0
  pub name : name_at d' q ≡ name_at d q
  pub chain : chain_of d' q ≡ chain_of d q

abbrev pub AllSame : List ℕ → List ℕ → List ℕ → Type 0
AllSame d d' l = (q : ℕ) → is_in l q ≡ true → Same d d' q

behind_first : {d d' : List ℕ} (p : ℕ) (l : List ℕ) → AllSame d d' (p ∷ l) → AllSame d d' l
unfolding some
behind_first p l h q e = h q (or_right (eqb q p) (is_in l q) e)

first_same : {d d' : List ℕ} (p : ℕ) (l : List ℕ) → AllSame d d' (p ∷ l) → Same d d' p
unfolding some
first_same p l h = h p (rw (eq-eqb p p refl))

module _ (d d' : List ℕ) where
  pub some_same : (name l : List ℕ) → AllSame d d' l → some (is_named d' name) l ≡ some (is_named d name) l
  unfolding some
  some_same name [] h = refl
  some_same name (p ∷ l) h =
      ap (λ (x : List ℕ). same_name x name || some (is_named d' name) l) (first_same p l h).name ∙ ap (λ (x : Bool). is_named d name p || x) (some_same name l (behind_first p l h))

  pub good_same : (l : List ℕ) → AllSame d d' l → entries_good d l ≡ true → entries_good d' l ≡ true
  unfolding entries_good
  good_same [] h e = refl
  good_same (p ∷ l) h e =
      let g : Good d p l = good_first d p l e in
      let s : Same d d' p = first_same p l h in
      good_all d' p l
      (record {
        type = ap (λ (x : ℕ). eqb x 0x82) s.type ∙ g.type;
        alone = ap (λ (x : List ℕ). some (is_named d' x) l) s.name ∙ some_same (name_at d p) l (behind_first p l h) ∙ g.alone;
        rest = good_same l (behind_first p l h) g.rest;
      })

  pub sectors_same : (l : List ℕ) → AllSame d d' l → all_sectors d' l ≡ all_sectors d l
  unfolding all_sectors
  sectors_same [] h = refl
  sectors_same (p ∷ l) h =
      ap (λ (c : Chain). c.sectors ++ all_sectors d' l) (first_same p l h).chain ∙ ap (λ (x : List ℕ). (chain_of d p).sectors ++ x) (sectors_same l (behind_first p l h))

  pub ends_same : (l : List ℕ) → AllSame d d' l → AllEnd d l → AllEnd d' l
  unfolding AllEnd
  ends_same [] h e = tt
  ends_same (p ∷ l) h e = (ap (λ (c : Chain). c.ends) (first_same p l h).chain ∙ e.0, ends_same l (behind_first p l h) e.1)

-- ---- those of a run that pass a test, and one more

pub those_same : (f : ℕ → ℕ) (s s' : ℕ → Bool) (from k : ℕ) → ((e : ℕ) → from ≤ e → e < from + k → s' (f e) ≡ s (f e))
    → those s' (map f (numbers_from from k)) ≡ those s (map f (numbers_from from k))
unfolding those numbers_from
those_same f s s' from zero h = refl
those_same f s s' from (suc k) h =
    ap (λ (q : Bool). cond q (f from ∷ those s' (map f (numbers_from (from + 1) k))) (those s' (map f (numbers_from (from + 1) k)))) (h from (omega arith) (omega arith))
    ∙ ap (λ (x : List ℕ). cond (s (f from)) (f from ∷ x) x) (those_same f s s' (from + 1) k (λ e a b. h e (omega arith) (omega arith)))

pub put_in : (f : ℕ → ℕ) (s s' : ℕ → Bool) (at from k : ℕ) → from ≤ at → at < from + k → s (f at) ≡ false → s' (f at) ≡ true
    → ((e : ℕ) → from ≤ e → e < from + k → (e ≡ at → ⊥) → s' (f e) ≡ s (f e))
    → Without (f at) (those s' (map f (numbers_from from k))) (those s (map f (numbers_from from k)))
unfolding those numbers_from
put_in f s s' at from zero a b x y h = absurd (omega arith)
put_in f s s' at from (suc k) a b x y h = go (dec_lt from at) (λ i. put_in f s s' at (from + 1) k (omega arith) (omega arith) x y (λ e u v z. h e (omega arith) (omega arith) z)) where
  rest : (ℕ → Bool) → List ℕ
  rest t = those t (map f (numbers_from (from + 1) k))

  step : (q : Bool) → Without (f at) (rest s') (rest s) → Without (f at) (cond q (f from ∷ rest s') (rest s')) (cond q (f from ∷ rest s) (rest s))
  step true w = there (f from) (rest s') (rest s) w
  step false w = w

  go : Dec (from < at) → (from < at → Without (f at) (rest s') (rest s)) → Without (f at) (cond (s' (f from)) (f from ∷ rest s') (rest s')) (cond (s (f from)) (f from ∷ rest s) (rest s))
  go (yes i) g = rw (h from (omega arith) (omega arith) (λ e. omega arith)) (step (s (f from)) (g i))
  go (no i) g =
      let z : from ≡ at = omega arith in
      let x' : s (f from) ≡ false = ap (λ (n : ℕ). s (f n)) z ∙ x in
      let y' : s' (f from) ≡ true = ap (λ (n : ℕ). s' (f n)) z ∙ y in
      let same : rest s' ≡ rest s = those_same f s s' (from + 1) k (λ e u v. h e (omega arith) (omega arith) (λ w. omega arith)) in
      rw (x', y', same, ← z) (here (rest s))
