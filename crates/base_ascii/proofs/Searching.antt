-- A search in bytes: the law of every loop that goes forward, the law of every loop that goes back, and what the answers are.
-- Assumes nothing.
use Prim.Native.Nat.{ℕ, zero, suc, ◌+◌, ◌-◌, ◌≤◌, ◌<◌, min}
use mathlib.Core.Path.{◌≡◌, refl, sym, ap, ◌∙◌, subst}
use mathlib.Core.Bool.{Bool, true, false, not, cond, false≢true}
use mathlib.Core.List.{List, [], ◌∷◌, ◌++◌, reverse, reverse-append, reverse-reverse}
use native.Mathlib.Numerals.{add-one, unary_clauses}
use native.Mathlib.Omega.{arith}
use lib.ListN.{length, get_or, take, drop, drop_of_length-le, length-drop, length-append, take-append-drop, length-reverse}
use lib.Dec.{eqb}
use lib.Seq.{drop-cons, drop-drop, take-suc, take_all, take-length, length-take-le, take-append_seam}
use borrow.Author.Tests.{not-true, not-false, eq-eqb}
use Rattle.base_ascii.specs.Search.{equals, other, of_kind, starts_with, front, before, last, past_end}
use Rattle.base_ascii.specs.declared.search.Kind.{Kind}
use Rattle.std.specs.Prelude.{Option, Some, None}
use Rattle.std.specs.List.{prefix_len}

-- ---- one byte

-- a byte that is of the kind that a `match` found
pub by_kind : (b : ℕ) {kind k : Kind} {r : Bool} → kind ≡ k → r ≡ of_kind k b → r ≡ of_kind kind b
by_kind b e q = rw e q

pub starts_none : (b : ℕ) (s : List ℕ) → length s ≤ 0 → false ≡ starts_with b s
unfolding starts_with
starts_none b [] h = refl
starts_none b (c ∷ s) h = absurd (omega arith)

pub starts_some : (b : ℕ) (s : List ℕ) → 0 < length s → eqb (get_or s 0 0) b ≡ starts_with b s
unfolding starts_with
starts_some b [] h = absurd (omega arith)
starts_some b (c ∷ s) h = refl

-- where a first byte is told, there is one
pub starts_long : (b : ℕ) (s : List ℕ) → starts_with b s ≡ true → 0 < length s
unfolding starts_with
starts_long b [] e = absurd (false≢true e)
starts_long b (c ∷ s) e = omega arith

-- ---- forward

-- what f counts in front of what is left at i ends where it does from a place on
pub record Onward (f : List ℕ → ℕ) (s : List ℕ) (from i : ℕ) : Type 0 where
  pub gives : i + f (drop i s) ≡ from + f (drop from s)

pub onward_start : (f : List ℕ → ℕ) (s : List ℕ) (from : ℕ) → Onward f s from from
onward_start f s from = record { gives = refl }

module _ {f : List ℕ → ℕ} {s : List ℕ} {from i : ℕ} (o : Onward f s from i) where
  pub onward_by : (k : ℕ) → f (drop i s) ≡ k + f (drop (i + k) s) → Onward f s from (i + k)
  onward_by k e = record { gives = omega arith }

  pub onward_end : f (drop i s) ≡ 0 → i ≡ from + f (drop from s)
  onward_end e = omega arith

-- what is left from a place on, as it is lent
pub tail : (s : List ℕ) (i : ℕ) → take (length s - i) (drop i s) ≡ drop i s
tail s i = take_all (length s - i) (drop i s) (omega (arith, length-drop i s))

-- the byte at a place, and what is left behind it
pub here : (s : List ℕ) (i : ℕ) → i < length s → drop i s ≡ get_or s i 0 ∷ drop (i + 1) s
here s i h = rw add-one (drop-cons s i 0 h)

pub front_more : (p : ℕ → Bool) (b : ℕ) (s : List ℕ) → p b ≡ true → front p (b ∷ s) ≡ suc (front p s)
unfolding front
front_more p b s t = rw (front, t)

pub front_none : (p : ℕ → Bool) (b : ℕ) (s : List ℕ) → p b ≡ false → front p (b ∷ s) ≡ 0
unfolding front
front_none p b s t = rw (front, t)

pub front_nil : (p : ℕ → Bool) → front p [] ≡ 0
unfolding front
front_nil p = refl

module _ (p : ℕ → Bool) {s : List ℕ} {from i : ℕ} where
  passes : p (get_or s i 0) ≡ true → i < length s → Onward (front p) s from i → Onward (front p) s from (i + 1)
  passes t h o =
      let e : front p (drop i s) ≡ suc (front p (drop (i + 1) s)) = rw (here s i h) (front_more p _ _ t) in
      onward_by o 1 (omega arith)

  stops : p (get_or s i 0) ≡ false → i < length s → Onward (front p) s from i → i ≡ from + front p (drop from s)
  stops t h o = onward_end o (rw (here s i h) (front_none p _ _ t))

  pub from_end : length s ≤ i → Onward (front p) s from i → i ≡ from + front p (drop from s)
  from_end h o = onward_end o (rw (drop_of_length-le s h) (front_nil p))

  -- a loop that goes on while a byte passes the test
  module _ {r : Bool} where
    pub front_turn : not r ≡ false → r ≡ p (get_or s i 0) → i < length s → Onward (front p) s from i → Onward (front p) s from (i + 1)
    front_turn t q = passes (sym q ∙ not-false r t)

    pub from_found : not r ≡ true → r ≡ p (get_or s i 0) → i < length s → Onward (front p) s from i → i ≡ from + front p (drop from s)
    from_found t q = stops (sym q ∙ not-true r t)

-- a loop that goes on by so many at a time, each of which passes
pub passes_all : (p : ℕ → Bool) {s : List ℕ} {from i : ℕ} (n : ℕ) → ((k : ℕ) → k < n → p (get_or s (i + k) 0) ≡ true) → i + n ≤ length s
    → Onward (front p) s from i → Onward (front p) s from (i + n)
passes_all p zero f h o = simp unary_clauses o
passes_all p {s} {from} {i} (suc n) f h o =
    let e : i + n + 1 ≡ i + suc n = omega arith in
    subst (Onward (front p) s from) e (passes p (f n (omega arith)) (omega arith) (passes_all p n (λ k l. f k (omega arith)) (omega arith) o))

-- a loop that goes on while a byte is b
module _ (b : ℕ) {s : List ℕ} {from i : ℕ} where
  pub run_turn : get_or s i 0 ≡ b → i < length s → Onward (front (equals b)) s from i → Onward (front (equals b)) s from (i + 1)
  run_turn e = passes (equals b) (eq-eqb _ _ e)

-- the same from the first byte on
module _ (p : ℕ → Bool) {s : List ℕ} {i : ℕ} where
  pub front_end : length s ≤ i → Onward (front p) s 0 i → i ≡ front p s
  front_end h o = omega (arith, from_end p h o)

  module _ {r : Bool} where
    pub front_found : not r ≡ true → r ≡ p (get_or s i 0) → i < length s → Onward (front p) s 0 i → i ≡ front p s
    front_found t q h o = omega (arith, from_found p t q h o)

-- a loop that goes on until a byte passes the test
module _ (p : ℕ → Bool) {s : List ℕ} {i : ℕ} where
  other_than : Onward (before p) s 0 i → Onward (front (other p)) s 0 i
  unfolding before
  other_than o = o

  pub before_end : length s ≤ i → Onward (before p) s 0 i → i ≡ before p s
  unfolding before
  before_end h o = front_end (other p) h (other_than o)

  module _ {r : Bool} where
    pub before_turn : r ≡ false → r ≡ p (get_or s i 0) → i < length s → Onward (before p) s 0 i → Onward (before p) s 0 (i + 1)
    unfolding before
    before_turn t q h o = passes (other p) (ap not (sym q ∙ t)) h (other_than o)

    pub before_found : r ≡ true → r ≡ p (get_or s i 0) → i < length s → Onward (before p) s 0 i → i ≡ before p s
    unfolding before
    before_found t q h o = omega (arith, stops (other p) (ap not (sym q ∙ t)) h (other_than o))

-- ---- bounds

pub front_le : (p : ℕ → Bool) (s : List ℕ) → front p s ≤ length s
unfolding front
front_le p [] = omega arith
front_le p (b ∷ s) = go (p b) (front_le p s)
  where
    go : (r : Bool) → front p s ≤ length s → elim r [ true ↦ suc (front p s) | false ↦ 0 ] ≤ suc (length s)
    go true h = omega arith
    go false h = omega arith

pub front_within : (p : ℕ → Bool) (s : List ℕ) {n : ℕ} → n ≡ front p s → n ≤ length s
front_within p s e = omega (arith, front_le p s)

-- a place among those that pass
pub front_drop : (p : ℕ → Bool) (n : ℕ) (s : List ℕ) → n ≤ front p s → n + front p (drop n s) ≡ front p s
unfolding front
front_drop p zero s h = omega arith
front_drop p (suc n) [] h = absurd (omega arith)
front_drop p (suc n) (b ∷ s) h = go (p b) h (front_drop p n s)
  where
    go : (r : Bool) → suc n ≤ elim r [ true ↦ suc (front p s) | false ↦ 0 ] → (n ≤ front p s → n + front p (drop n s) ≡ front p s)
        → suc n + front p (drop n s) ≡ elim r [ true ↦ suc (front p s) | false ↦ 0 ]
    go true l f = let m : n + front p (drop n s) ≡ front p s = f (omega arith) in omega arith
    go false l f = absurd (omega arith)

-- where each byte of a kind is of another, too
pub front_wider : (p q : ℕ → Bool) → ((b : ℕ) → q b ≡ true → p b ≡ true) → (s : List ℕ) → front q s ≤ front p s
unfolding front
front_wider p q w [] = omega arith
front_wider p q w (b ∷ s) = go (q b) (p b) (w b) (front_wider p q w s)
  where
    go : (x y : Bool) → (x ≡ true → y ≡ true) → front q s ≤ front p s → elim x [ true ↦ suc (front q s) | false ↦ 0 ] ≤ elim y [ true ↦ suc (front p s) | false ↦ 0 ]
    go true true f h = omega arith
    go true false f h = absurd (false≢true (f refl))
    go false y f h = omega arith

-- and what went onward over the one kind did over the other
pub onward_wider : (p q : ℕ → Bool) → ((b : ℕ) → q b ≡ true → p b ≡ true) → {s : List ℕ} {from i : ℕ} → Onward (front q) s from i → Onward (front p) s from i
onward_wider p q w {s} {from} {i} o = record { gives = through i ∙ ap (λ (n : ℕ). n + front p (drop n s)) o.gives ∙ sym (through from) }
  where
    through : (j : ℕ) → j + front p (drop j s) ≡ j + front q (drop j s) + front p (drop (j + front q (drop j s)) s)
    through j = rw (← drop-drop (front q (drop j s)) j s) (omega (arith, front_drop p (front q (drop j s)) (drop j s) (front_wider p q w (drop j s))))

-- looked for among the first n bytes alone
pub front_take : (p : ℕ → Bool) (n : ℕ) (s : List ℕ) → front p (take n s) ≡ min n (front p s)
unfolding front
front_take p zero s = omega arith
front_take p (suc n) [] = omega arith
front_take p (suc n) (b ∷ s) = go (p b) (front_take p n s)
  where
    go : (r : Bool) → front p (take n s) ≡ min n (front p s)
        → elim r [ true ↦ suc (front p (take n s)) | false ↦ 0 ] ≡ min (suc n) (elim r [ true ↦ suc (front p s) | false ↦ 0 ])
    go true e = omega arith
    go false e = omega arith

pub before_le : (p : ℕ → Bool) (s : List ℕ) → before p s ≤ length s
unfolding before
before_le p s = front_le (other p) s

pub before_take : (p : ℕ → Bool) (n : ℕ) (s : List ℕ) → before p (take n s) ≡ min n (before p s)
unfolding before
before_take p n s = front_take (other p) n s

-- ---- back

-- f sees nothing in the bytes from e on
pub record Backward {A : Type 0} (f : List ℕ → A) (s : List ℕ) (e : ℕ) : Type 0 where
  pub within : e ≤ length s
  pub gives : f (take e s) ≡ f s

pub backward_start : {A : Type 0} (f : List ℕ → A) (s : List ℕ) → Backward f s (length s)
backward_start f s = record { within = omega arith; gives = ap f (take-length s) }

-- the bytes up to a place: those before the last one, and it
pub up_to : (s : List ℕ) (e : ℕ) → 0 < e → e ≤ length s → take e s ≡ take (e - 1) s ++ (get_or s (e - 1) 0 ∷ [])
up_to s e h w = let up : e ≡ suc (e - 1) = omega arith in ap (λ (n : ℕ). take n s) up ∙ take-suc s (e - 1) 0 (omega arith)

module _ {A : Type 0} {f : List ℕ → A} {s : List ℕ} {e : ℕ} (k : Backward f s e) where
  pub backward_by : 0 < e → ((l : List ℕ) → f (l ++ (get_or s (e - 1) 0 ∷ [])) ≡ f l) → Backward f s (e - 1)
  backward_by h g = record { within = omega arith; gives = sym (ap f (up_to s e h k.within) ∙ g (take (e - 1) s)) ∙ k.gives }

  -- the byte before e is the one looked for
  pub backward_found : 0 < e → f (take (e - 1) s ++ (get_or s (e - 1) 0 ∷ [])) ≡ f s
  backward_found h = ap f (sym (up_to s e h k.within)) ∙ k.gives

  pub backward_end : e ≤ 0 → f [] ≡ f s
  backward_end h = let z : 0 ≡ e = omega arith in ap (λ (n : ℕ). f (take n s)) z ∙ k.gives

-- ---- the last byte that passes the test

module _ (p : ℕ → Bool) (b : ℕ) where
  last_other : p b ≡ false → (l : List ℕ) → last p (l ++ (b ∷ [])) ≡ last p l
  unfolding last
  last_other e [] = rw e
  last_other e (x ∷ l) = ap (λ (f : Option ℕ). elim f as (λ _. Option ℕ) [ Some n ↦ Some (suc n) | None ↦ cond (p x) (Some 0) None ]) (last_other e l)

  last_here : p b ≡ true → (l : List ℕ) → last p (l ++ (b ∷ [])) ≡ Some (length l)
  unfolding last
  last_here e [] = rw e
  last_here e (x ∷ l) = ap (λ (f : Option ℕ). elim f as (λ _. Option ℕ) [ Some n ↦ Some (suc n) | None ↦ cond (p x) (Some 0) None ]) (last_here e l)

module _ (p : ℕ → Bool) {s : List ℕ} {e : ℕ} where
  pub last_end : e ≤ 0 → Backward (last p) s e → None ≡ last p s
  unfolding last
  last_end h k = backward_end k h

  module _ {r : Bool} where
    pub last_turn : r ≡ false → r ≡ p (get_or s (e - 1) 0) → 0 < e → Backward (last p) s e → Backward (last p) s (e - 1)
    last_turn t q h k = backward_by k h (last_other p _ (sym q ∙ t))

    pub last_found : r ≡ true → r ≡ p (get_or s (e - 1) 0) → 0 < e → Backward (last p) s e → Some (e - 1) ≡ last p s
    last_found t q h k =
        let n : length (take (e - 1) s) ≡ e - 1 = length-take-le (e - 1) s (omega arith) in
        ap Some (sym n) ∙ sym (last_here p _ (sym q ∙ t) (take (e - 1) s)) ∙ backward_found k h

-- it stands within the text, and passes
pub last_within : (p : ℕ → Bool) (s : List ℕ) {n : ℕ} → last p s ≡ Some n → n < length s
unfolding last
last_within p [] e = let z : ◌≡◌ {A = ℕ} 0 1 = cc in absurd (omega arith)
last_within p (b ∷ s) {n} e = go (last p s) (p b) (λ m. last_within p s) e
  where
    go : (f : Option ℕ) (r : Bool) → ((m : ℕ) → f ≡ Some m → m < length s) → elim f [ Some m ↦ Some (suc m) | None ↦ cond r (Some 0) None ] ≡ Some n → n < suc (length s)
    go (Some m) r w q = let s : suc m ≡ n = cc in omega (arith, w m refl)
    go None true w q = let s : 0 ≡ n = cc in omega arith
    go None false w q = let z : ◌≡◌ {A = ℕ} 0 1 = cc in absurd (omega arith)

-- a place behind the last byte that passes, or any place where none does
abbrev pub Behind : Option ℕ → ℕ → Type 0
Behind (Some n) i = n < i
Behind None i = Unit

-- from there on none passes
pub none_behind : (p : ℕ → Bool) (s : List ℕ) (i : ℕ) → Behind (last p s) i → before p (drop i s) ≡ length (drop i s)
unfolding last before front
none_behind p [] zero h = refl
none_behind p [] (suc i) h = refl
none_behind p (b ∷ s) zero h = go (last p s) (p b) (none_behind p s 0) h
  where
    go : (f : Option ℕ) (r : Bool) → (Behind f 0 → before p s ≡ length s) → Behind (elim f [ Some m ↦ Some (suc m) | None ↦ cond r (Some 0) None ]) 0
        → elim (not r) [ true ↦ suc (before p s) | false ↦ 0 ] ≡ suc (length s)
    go (Some m) r w q = absurd (omega arith)
    go None true w q = absurd (omega arith)
    go None false w q = ap suc (w tt)
none_behind p (b ∷ s) (suc i) h = none_behind p s i (go (last p s) (p b) h)
  where
    go : (f : Option ℕ) (r : Bool) → Behind (elim f [ Some m ↦ Some (suc m) | None ↦ cond r (Some 0) None ]) (suc i) → Behind f i
    go (Some m) r q = omega arith
    go None r q = tt

-- ---- without the bytes at the end that pass the test

module _ (p : ℕ → Bool) (b : ℕ) where
  pub end_more : p b ≡ true → (l : List ℕ) → past_end p (l ++ (b ∷ [])) ≡ past_end p l
  unfolding past_end
  end_more e l = rw (reverse-append l (b ∷ []), front_more p b (reverse l) e)

  pub end_none : p b ≡ false → (l : List ℕ) → past_end p (l ++ (b ∷ [])) ≡ l ++ (b ∷ [])
  unfolding past_end
  end_none e l =
      let whole : reverse (l ++ (b ∷ [])) ≡ b ∷ reverse l = reverse-append l (b ∷ []) in
      rw (whole, front_none p b (reverse l) e) (ap reverse (sym whole) ∙ reverse-reverse (l ++ (b ∷ [])))

module _ (p : ℕ → Bool) {s : List ℕ} {e : ℕ} where
  pub end_end : e ≤ 0 → Backward (past_end p) s e → e ≡ length (past_end p s)
  unfolding past_end
  end_end h k = omega (arith, ap length (backward_end k h))

  module _ {r : Bool} where
    pub end_turn : not r ≡ false → r ≡ p (get_or s (e - 1) 0) → 0 < e → Backward (past_end p) s e → Backward (past_end p) s (e - 1)
    end_turn t q h k = backward_by k h (end_more p _ (sym q ∙ not-false r t))

    pub end_found : not r ≡ true → r ≡ p (get_or s (e - 1) 0) → 0 < e → Backward (past_end p) s e → e ≡ length (past_end p s)
    end_found t q h k =
        let n : length (take e s) ≡ e = length-take-le e s k.within in
        let u = up_to s e h k.within in
        let g : past_end p (take e s) ≡ take e s = ap (past_end p) u ∙ end_none p _ (sym q ∙ not-true r t) (take (e - 1) s) ∙ sym u in
        omega (arith, ap length (sym k.gives ∙ g))

-- what is left is the front of the text
end_split : (p : ℕ → Bool) (s : List ℕ) → past_end p s ++ reverse (take (front p (reverse s)) (reverse s)) ≡ s
unfolding past_end
end_split p s =
    let r = reverse s in
    let n = front p r in
    sym (reverse-append (take n r) (drop n r)) ∙ ap reverse (take-append-drop n r) ∙ reverse-reverse s

pub end_le : (p : ℕ → Bool) (s : List ℕ) → length (past_end p s) ≤ length s
end_le p s =
    omega (arith, ap length (end_split p s), length-append (past_end p s) (reverse (take (front p (reverse s)) (reverse s))))

pub end_take : (p : ℕ → Bool) (s : List ℕ) → take (length (past_end p s)) s ≡ past_end p s
end_take p s =
    let rest = reverse (take (front p (reverse s)) (reverse s)) in
    ap (take (length (past_end p s))) (sym (end_split p s)) ∙ take-append_seam (past_end p s) rest

pub end_within : (p : ℕ → Bool) (s : List ℕ) {n : ℕ} → n ≡ length (past_end p s) → n ≤ length s
end_within p s e = omega (arith, end_le p s)

pub end_count : (p : ℕ → Bool) (s : List ℕ) {n : ℕ} → n ≡ length (past_end p s) → n ≡ length (take n s)
end_count p s {n} e = sym (length-take-le n s (end_within p s e))

-- a text whose last byte does not pass is whole
pub end_whole : (p : ℕ → Bool) (s : List ℕ) → p (get_or s (length s - 1) 0) ≡ false → past_end p s ≡ s
unfolding past_end
end_whole p [] e = refl
end_whole p (b ∷ s) e =
    let n = suc (length s) in
    let u : b ∷ s ≡ take (n - 1) (b ∷ s) ++ (get_or (b ∷ s) (n - 1) 0 ∷ []) = sym (take-length (b ∷ s)) ∙ up_to (b ∷ s) n (omega arith) (omega arith) in
    ap (past_end p) u ∙ end_none p _ e (take (n - 1) (b ∷ s)) ∙ sym u

-- ---- as the library's iterators count them

pub front_counted : (p : ℕ → Bool) (s : List ℕ) → prefix_len p s ≡ front p s
unfolding front
front_counted p [] = refl
front_counted p (b ∷ s) = go (p b) (front_counted p s)
  where
    go : (r : Bool) → prefix_len p s ≡ front p s → cond r (1 + prefix_len p s) 0 ≡ elim r [ true ↦ suc (front p s) | false ↦ 0 ]
    go true e = omega (arith, e)
    go false e = refl

pub before_counted : (p : ℕ → Bool) (s : List ℕ) → prefix_len (λ b. not (p b)) s ≡ before p s
unfolding before
before_counted p s = front_counted (other p) s

pub end_counted : (p : ℕ → Bool) (s : List ℕ) → length s - prefix_len p (reverse s) ≡ length (past_end p s)
unfolding past_end
end_counted p s =
    let r = reverse s in
    omega (arith, front_counted p r, length-reverse (drop (front p r) r), length-drop (front p r) r, length-reverse s)
