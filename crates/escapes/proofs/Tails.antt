-- The tail of a text: what is found at the text's end is there at every end of it, so that each end is resolved by the same numbers.
-- Assumes nothing.
use Prim.Native.Nat.{ℕ, zero, suc, ◌+◌, ◌-◌, ◌≤◌, ◌<◌, min}
use mathlib.Core.Path.{◌≡◌, refl, sym, ap, ◌∙◌}
use mathlib.Core.Bool.{Bool, true, false, not, cond, true≢false}
use mathlib.Core.List.{List, [], ◌∷◌, ◌++◌, reverse, reverse-append}
use native.Mathlib.Decide.{dec_le}
use native.Mathlib.Numerals.{add-one}
use native.Mathlib.Omega.{arith}
use lib.Dec.{eqb, ltb}
use lib.ListN.{length, take, drop, length-take, drop_of_length-le}
use lib.Seq.{take_all, take-take, length-take-le, drop-drop}
use borrow.Author.Tests.{eqb-true, lt-ltb, le-ltb, not-true}
use Rattle.base_ascii.specs.Bytes.{between, is_space}
use Rattle.base_ascii.specs.Search.{equals, front, past, last, past_end}
use Rattle.base_ascii.specs.Trim.{trim}
use Rattle.base_ascii.proofs.Laws.{trim_space}
use Rattle.base_ascii.proofs.Searching.{tail, front_more, front_none, front_le, front_take, end_take, end_le, last_within, Behind}
use Rattle.escape_numbers.specs.Numbers.{count_of}
use Rattle.escape_numbers.specs.NumbersHelpers.{countable}
use Rattle.escape_bytes.specs.Escape.{Counted, name_escape, repeated, starred, counted_name, counted_escape, escape_of}
use Rattle.escapes.specs.TailHelpers.{tail_escape, TailOf, counted, repeat_of}
use Rattle.escape_bytes.specs.declared.Escape.{Escape}
use Rattle.escapes.specs.declared.Repeat.{Repeat}
use Rattle.escapes.specs.declared.Tail.{Tail}
use Rattle.escape_numbers.proofs.Counting.{uncounted}
use Rattle.std.specs.Prelude.{Option, Some, None}

-- ---- an end of a text, without the bytes at its end that pass a test

past_both : (p : ℕ → Bool) (l m : List ℕ) → past p (l ++ m) ≡ elim (past p l) [ [] ↦ past p m | c ∷ r ↦ c ∷ (r ++ m) ]
unfolding front
past_both p [] m = refl
past_both p (b ∷ l) m = go (p b) (past_both p l m)
  where
    go : (x : Bool) → past p (l ++ m) ≡ elim (past p l) [ [] ↦ past p m | c ∷ r ↦ c ∷ (r ++ m) ]
        → drop (elim x [ true ↦ suc (front p (l ++ m)) | false ↦ 0 ]) (b ∷ (l ++ m))
        ≡ elim (drop (elim x [ true ↦ suc (front p l) | false ↦ 0 ]) (b ∷ l)) [ [] ↦ past p m | c ∷ r ↦ c ∷ (r ++ m) ]
    go true e = e
    go false e = refl

-- without its first byte
end_behind : (p : ℕ → Bool) (b : ℕ) (s : List ℕ) → past_end p s ≡ drop 1 (past_end p (b ∷ s))
unfolding past_end front
end_behind p b s =
    go (past p (reverse s)) (p b) ∙ sym (ap (λ (l : List ℕ). drop 1 (reverse (past p l))) (reverse-append (b ∷ []) s) ∙ ap (λ (l : List ℕ). drop 1 (reverse l)) (past_both p (reverse s) (b ∷ [])))
  where
    go : (l : List ℕ) (x : Bool) → reverse l ≡ drop 1 (reverse (elim l as (λ _. List ℕ) [ [] ↦ drop (elim x as (λ _. ℕ) [ true ↦ 1 | false ↦ 0 ]) (b ∷ []) | c ∷ r ↦ c ∷ (r ++ (b ∷ [])) ]))
    go [] true = refl
    go [] false = refl
    go (c ∷ r) x = sym (ap (drop 1) (reverse-append (c ∷ r) (b ∷ [])))

pub end_drop : (p : ℕ → Bool) (k : ℕ) (s : List ℕ) → past_end p (drop k s) ≡ drop k (past_end p s)
unfolding past_end front
end_drop p zero s = refl
end_drop p (suc k) [] = refl
end_drop p (suc k) (b ∷ s) =
    let n : 1 + k ≡ suc k = omega arith in
    end_drop p k s ∙ ap (drop k) (end_behind p b s) ∙ drop-drop k 1 (past_end p (b ∷ s)) ∙ ap (λ (i : ℕ). drop i (past_end p (b ∷ s))) n

-- it does not matter which end is trimmed first
trim_ends : (s : List ℕ) → trim s ≡ past is_space (past_end is_space s)
unfolding trim
trim_ends s = end_drop is_space (front is_space s) s ∙ go (dec_le (front is_space s) (length solid))
  where
    solid : List ℕ
    solid = past_end is_space s

    fewer : front is_space solid ≡ min (length solid) (front is_space s)
    fewer = ap (front is_space) (sym (end_take is_space s)) ∙ front_take is_space (length solid) s

    go : Dec (front is_space s ≤ length solid) → drop (front is_space s) solid ≡ past is_space solid
    go (yes h) = let e : front is_space s ≡ front is_space solid = omega (arith, fewer) in ap (λ (n : ℕ). drop n solid) e
    go (no h) =
        drop_of_length-le solid {i = front is_space s} (omega arith)
        ∙ sym (drop_of_length-le solid {i = front is_space solid} (omega (arith, fewer)))

pub trim_drop : (k : ℕ) (s : List ℕ) → trim (drop k s) ≡ past is_space (drop k (past_end is_space s))
trim_drop k s = trim_ends (drop k s) ∙ ap (past is_space) (end_drop is_space k s)

-- a part of a text
pub drop_take : (k n : ℕ) (s : List ℕ) → drop k (take n s) ≡ take (n - k) (drop k s)
drop_take zero n s = let e : n ≡ n - 0 = omega arith in ap (λ (i : ℕ). take i s) e
drop_take (suc k) zero s = let e : 0 ≡ 0 - suc k = omega arith in ap (λ (i : ℕ). take i (drop (suc k) s)) e
drop_take (suc k) (suc n) [] = sym (take_all (suc n - suc k) [] (omega arith))
drop_take (suc k) (suc n) (b ∷ s) = let e : n - k ≡ suc n - suc k = omega arith in drop_take k n s ∙ ap (λ (i : ℕ). take i (drop k s)) e

-- ---- the last byte that passes a test, from a place on

last_drop : (p : ℕ → Bool) (k : ℕ) (s : List ℕ) {n : ℕ} → last p s ≡ Some n → k ≤ n → last p (drop k s) ≡ Some (n - k)
unfolding last
last_drop p zero s {n} e h = let z : n ≡ n - 0 = omega arith in e ∙ ap Some z
last_drop p (suc k) [] {n} e h = let z : ◌≡◌ {A = ℕ} 0 1 = cc in absurd (omega arith)
last_drop p (suc k) (b ∷ s) {n} e h = go (last p s) (p b) (λ m. last_drop p k s) e
  where
    go : (f : Option ℕ) (r : Bool) → ((m : ℕ) → f ≡ Some m → k ≤ m → last p (drop k s) ≡ Some (m - k))
        → elim f [ Some m ↦ Some (suc m) | None ↦ cond r (Some 0) None ] ≡ Some n → last p (drop k s) ≡ Some (n - suc k)
    go (Some m) r w q = let z : suc m ≡ n = cc in let y : m - k ≡ n - suc k = omega arith in w m refl (omega arith) ∙ ap Some y
    go None true w q = let z : 0 ≡ n = cc in absurd (omega arith)
    go None false w q = let z : ◌≡◌ {A = ℕ} 0 1 = cc in absurd (omega arith)

last_none : (p : ℕ → Bool) (k : ℕ) (s : List ℕ) → Behind (last p s) k → last p (drop k s) ≡ None
unfolding last
last_none p zero s h = go (last p s) h
  where
    go : (f : Option ℕ) → Behind f 0 → f ≡ None
    go (Some n) q = absurd (omega arith)
    go None q = refl
last_none p (suc k) [] h = refl
last_none p (suc k) (b ∷ s) h = last_none p k s (go (last p s) (p b) h)
  where
    go : (f : Option ℕ) (r : Bool) → Behind (elim f [ Some m ↦ Some (suc m) | None ↦ cond r (Some 0) None ]) (suc k) → Behind f k
    go (Some m) r q = omega arith
    go None r q = tt

-- ---- a text with white space in front, as a name and its count

-- the whole and no count, or the part before a * and the number behind it
split : List ℕ → List ℕ → Option ℕ → Counted
split entire part (Some zero) = record { name = entire; count = 1 }
split entire part (Some (suc k)) = record { name = part; count = suc k }
split entire part None = record { name = entire; count = 1 }

is_split : (t : List ℕ) (n : ℕ) (c : Option ℕ) → repeated t n c ≡ split t (trim (take n t)) c
unfolding repeated split
is_split t n (Some zero) = refl
is_split t n (Some (suc k)) = refl
is_split t n None = refl

-- where the last * stands is asked before the white space is taken away
named : List ℕ → Option ℕ → Counted
named s (Some n) = split (past is_space s) (trim (take n s)) (count_of (trim (drop (suc n) s)))
named s None = record { name = past is_space s; count = 1 }

star_solid : (b : ℕ) → is_space b ≡ true → eqb b 42 ≡ false
unfolding between
star_solid b e = go (eqb b 42) refl
  where
    go : (x : Bool) → eqb b 42 ≡ x → x ≡ false
    go true q = absurd (true≢false (sym e ∙ ap is_space (eqb-true b 42 q)))
    go false q = refl

name_past : (s : List ℕ) → counted_name (past is_space s) ≡ named s (last (equals 42) s)
unfolding counted_name named last front starred
name_past [] = refl
name_past (b ∷ s) = go (is_space b) refl (name_past s)
  where
    step : is_space b ≡ true → (f : Option ℕ) → named s f ≡ named (b ∷ s) (elim f [ Some m ↦ Some (suc m) | None ↦ cond (eqb b 42) (Some 0) None ])
    step e (Some n) = rw (front_more is_space b s e, trim_space b (take n s) e)
    step e None = rw (star_solid b e, front_more is_space b s e)

    whole : past is_space (b ∷ s) ≡ b ∷ s → (f : Option ℕ) → elim f [ Some n ↦ starred (b ∷ s) n | None ↦ record { name = b ∷ s; count = 1 } ] ≡ named (b ∷ s) f
    whole q (Some n) = rw q (is_split (b ∷ s) n (count_of (trim (drop (suc n) (b ∷ s)))))
    whole q None = rw q

    go : (x : Bool) → is_space b ≡ x → counted_name (past is_space s) ≡ named s (last (equals 42) s) → counted_name (past is_space (b ∷ s)) ≡ named (b ∷ s) (last (equals 42) (b ∷ s))
    go true e f = rw (front_more is_space b s e) (f ∙ step e (last (equals 42) s))
    go false e f = let q : past is_space (b ∷ s) ≡ b ∷ s = rw (front_none is_space b s e) in ap counted_name q ∙ whole q (last (equals 42) (b ∷ s))

-- ---- the tail of a text, and the text without the white space at its end

module _ (t : List ℕ) where
  abbrev solid : List ℕ
  solid = past_end is_space t

  module _ {end : ℕ} (q : end ≡ length solid) where
    is_solid : take end t ≡ solid
    is_solid = ap (λ (n : ℕ). take n t) q ∙ end_take is_space t

    within : end ≤ length t
    within = omega (arith, end_le is_space t)

  abbrev named_at : ℕ → Counted
  named_at k = named (drop k solid) (last (equals 42) (drop k solid))

  abbrev entire_at : ℕ → Counted
  entire_at k = record { name = past is_space (drop k solid); count = 1 }

  escape_end : (k : ℕ) → escape_of (drop k t) ≡ counted_escape (named_at k)
  unfolding escape_of
  escape_end k = ap (λ (l : List ℕ). counted_escape (counted_name l)) (trim_drop k t) ∙ ap counted_escape (name_past (drop k solid))

  -- no count at any end
  whole_tail : ((k : ℕ) → named_at k ≡ entire_at k) → TailOf t (record { end = length solid; repeat = None })
  unfolding tail_escape
  whole_tail f =
      record {
        end_within = within refl;
        name_within = λ r e. absurd (none_some e);
        gives = λ k. escape_end k ∙ ap counted_escape (f k) ∙ ap (λ (l : List ℕ). name_escape (past is_space (drop k l)) 1) (sym (is_solid refl));
      }
    where
      none_some : {r : Repeat} → None ≡ Some r → ⊥
      none_some e = cc

  -- the number behind the * is the same at every end that the * is in
  same_number : (n k : ℕ) → k ≤ n → drop (suc (n - k)) (drop k solid) ≡ drop (suc n) solid
  same_number n k h =
      let e : k + suc (n - k) ≡ suc n = omega arith in
      drop-drop (suc (n - k)) k solid ∙ ap (λ (i : ℕ). drop i solid) e

  named_star : {n k : ℕ} {c : (Option ℕ)} → last (equals 42) solid ≡ Some n → count_of (trim (drop (suc n) solid)) ≡ c → k ≤ n
      → named_at k ≡ split (past is_space (drop k solid)) (trim (drop k (take n solid))) c
  unfolding named
  named_star {n} {k} e f h =
      ap (named (drop k solid)) (last_drop (equals 42) k solid e h)
      ∙ rw (same_number n k h, f, drop_take k n solid)

  named_none : (k : ℕ) → Behind (last (equals 42) solid) k → named_at k ≡ entire_at k
  unfolding named
  named_none k h = ap (named (drop k solid)) (last_none (equals 42) k solid h)

  -- the part before the *
  before_star : {n : ℕ} → n < length solid → take (length (past_end is_space (take n solid))) t ≡ past_end is_space (take n solid)
  before_star {n} h =
      let part = take n solid in
      let m = length (past_end is_space part) in
      let short : m ≤ n = omega (arith, end_le is_space part, length-take n solid) in
      sym (take-take m (length solid) t (omega arith))
      ∙ ap (take m) (end_take is_space t)
      ∙ sym (take-take m n solid short)
      ∙ end_take is_space part

  module _ {n : ℕ} (e : last (equals 42) solid ≡ Some n) where
    -- the * is in what is left, or it is not
    named_by : {c : (Option ℕ)} → count_of (trim (drop (suc n) solid)) ≡ c → (k : ℕ)
        → named_at k ≡ elim (ltb k (suc n)) [ true ↦ split (past is_space (drop k solid)) (trim (drop k (take n solid))) c | false ↦ entire_at k ]
    named_by {c} f k = go (dec_le k n)
      where
        go : Dec (k ≤ n) → named_at k ≡ elim (ltb k (suc n)) [ true ↦ split (past is_space (drop k solid)) (trim (drop k (take n solid))) c | false ↦ entire_at k ]
        go (yes h) = named_star e f h ∙ rw (lt-ltb k (suc n) (omega arith))
        go (no h) = named_none k (rw e (omega arith)) ∙ rw (le-ltb k (suc n) (omega arith))

    -- a number that is no count
    uncounted_tail : {c : (Option ℕ)} → count_of (trim (drop (suc n) solid)) ≡ c → ((entire part : List ℕ) → split entire part c ≡ record { name = entire; count = 1 })
        → TailOf t (record { end = length solid; repeat = None })
    uncounted_tail {c} f g = whole_tail (λ k. named_by f k ∙ go k (ltb k (suc n)))
      where
        go : (k : ℕ) (b : Bool) → elim b [ true ↦ split (past is_space (drop k solid)) (trim (drop k (take n solid))) c | false ↦ entire_at k ] ≡ entire_at k
        go k true = g (past is_space (drop k solid)) (trim (drop k (take n solid)))
        go k false = refl

    counted_tail : (c : Option ℕ) → count_of (trim (drop (suc n) solid)) ≡ c → TailOf t (record { end = length solid; repeat = counted solid n c })
    unfolding counted tail_escape split
    counted_tail (Some zero) f = uncounted_tail f (λ entire part. refl)
    counted_tail None f = uncounted_tail f (λ entire part. refl)
    counted_tail (Some (suc c)) f =
        record {
          end_within = within refl;
          name_within = λ r q. named_within r q;
          gives = λ k. escape_end k ∙ ap counted_escape (named_by f k) ∙ go k (ltb k (suc n));
        }
      where
        named_within : (r : Repeat) → Some (record { from = suc n; name = length (past_end is_space (take n solid)); count = suc c }) ≡ Some r → r.name ≤ length t
        named_within r q =
            let z : length (past_end is_space (take n solid)) ≡ r.name = cc in
            omega (arith, end_le is_space (take n solid), length-take n solid, within refl)

        go : (k : ℕ) (b : Bool)
            → counted_escape (elim b [ true ↦ record { name = trim (drop k (take n solid)); count = suc c } | false ↦ entire_at k ])
            ≡ elim b [
              | true ↦ name_escape (past is_space (drop k (take (length (past_end is_space (take n solid))) t))) (suc c)
              | false ↦ name_escape (past is_space (drop k (take (length solid) t))) 1
            ]
        go k true =
            ap (λ (l : List ℕ). name_escape l (suc c))
            (trim_drop k (take n solid) ∙ ap (λ (l : List ℕ). past is_space (drop k l)) (sym (before_star (last_within (equals 42) solid e))))
        go k false = ap (λ (l : List ℕ). name_escape (past is_space (drop k l)) 1) (sym (end_take is_space t))

  repeated_tail : (f : Option ℕ) → last (equals 42) solid ≡ f
      → TailOf t (record { end = length solid; repeat = elim f [ Some n ↦ counted solid n (count_of (trim (drop (suc n) solid))) | None ↦ None ] })
  repeated_tail (Some n) e = counted_tail e (count_of (trim (drop (suc n) solid))) refl
  repeated_tail None e = whole_tail (λ k. named_none k (rw e tt))

-- ---- as the code asks

module _ (t : List ℕ) {end : ℕ} (q : end ≡ length (past_end is_space t)) where
  pub solid_taken : end ≡ length (take end t)
  solid_taken = sym (length-take-le end t (within t q))

  pub tail_told : {r : Option Repeat} → r ≡ repeat_of (take end t) → TailOf t (record { end = end; repeat = r })
  unfolding repeat_of
  tail_told e =
      let r : repeat_of (take end t) ≡ repeat_of (past_end is_space t) = ap repeat_of (is_solid t q) in
      rw (e, r, q) (repeated_tail t (last (equals 42) (past_end is_space t)) refl)

module _ (t : List ℕ) where
  pub repeat_countless : {b : Bool} → not b ≡ true → b ≡ countable t → None ≡ repeat_of t
  unfolding repeat_of counted
  repeat_countless {b} n p = go (last (equals 42) t)
    where
      go : (f : Option ℕ) → ◌≡◌ {A = Option Repeat} None (elim f [ Some m ↦ counted t m (count_of (trim (drop (suc m) t))) | None ↦ None ])
      go (Some m) = rw (uncounted t (sym p ∙ not-true b n) (suc m))
      go None = refl

  pub repeat_starless : {r : Option Repeat} → r ≡ None → None ≡ last (equals 42) t → r ≡ repeat_of t
  unfolding repeat_of
  repeat_starless q l = q ∙ rw (repeat_of, sym l)

  module _ {n : ℕ} (l : Some n ≡ last (equals 42) t) {c : Option ℕ} {a : List ℕ} (k : c ≡ count_of a) (b : a ≡ trim (take (length t - (n + 1)) (drop (n + 1) t))) where
    behind : counted t n c ≡ repeat_of t
    unfolding repeat_of
    behind =
        let g : c ≡ count_of (trim (drop (suc n) t)) = k ∙ ap count_of (b ∙ ap trim (tail t (n + 1) ∙ rw add-one)) in
        rw (repeat_of, sym l) (ap (counted t n) g)

  module _ {n : ℕ} (l : Some n ≡ last (equals 42) t) {a : List ℕ} (b : a ≡ trim (take (length t - (n + 1)) (drop (n + 1) t))) where
    pub repeat_missing : {r : Option Repeat} → r ≡ None → None ≡ count_of a → r ≡ repeat_of t
    unfolding counted
    repeat_missing q k = q ∙ behind l {c = None} k b

    pub repeat_zero : {m : ℕ} → m ≡ 0 → Some m ≡ count_of a → None ≡ repeat_of t
    unfolding counted
    repeat_zero {m} z k = ap (counted t n) (sym (ap Some z)) ∙ behind l {c = Some m} k b

    pub repeat_told : {m i : ℕ} → i ≡ length (past_end is_space (take n t)) → (m ≡ 0 → ⊥) → Some m ≡ count_of a
        → ◌≡◌ {A = Option Repeat} (Some (record { from = n + 1; name = i; count = m })) (repeat_of t)
    unfolding counted
    repeat_told {m} {i} q z k = go m z ∙ behind l {c = Some m} k b
      where
        go : (m : ℕ) → (m ≡ 0 → ⊥) → ◌≡◌ {A = Option Repeat} (Some (record { from = n + 1; name = i; count = m })) (counted t n (Some m))
        go zero z = absurd (z refl)
        go (suc m) z = rw (q, add-one)

-- an end by its tail
module _ (t : List ℕ) {w : Tail} (k : ℕ) {name : List ℕ} {r : Option Escape} where
  pub end_counted : {p : Repeat} → r ≡ name_escape name p.count → name ≡ past is_space (drop k (take p.name t)) → k < p.from → w.repeat ≡ Some p → TailOf t w → r ≡ escape_of (drop k t)
  unfolding tail_escape
  end_counted {p} g q h e f = g ∙ sym (f.gives k ∙ rw (e, tail_escape, lt-ltb k p.from h, sym q))

  pub end_late : {p : Repeat} → r ≡ name_escape name 1 → name ≡ past is_space (drop k (take w.end t)) → p.from ≤ k → w.repeat ≡ Some p → TailOf t w → r ≡ escape_of (drop k t)
  unfolding tail_escape
  end_late {p} g q h e f = g ∙ sym (f.gives k ∙ rw (e, tail_escape, le-ltb k p.from h, sym q))

  pub end_whole : r ≡ name_escape name 1 → name ≡ past is_space (drop k (take w.end t)) → w.repeat ≡ None → TailOf t w → r ≡ escape_of (drop k t)
  unfolding tail_escape
  end_whole g q e f = g ∙ sym (f.gives k ∙ rw (e, sym q))

pub name_fits : {t : List ℕ} {w : Tail} {p : Repeat} → w.repeat ≡ Some p → TailOf t w → p.name ≤ length t
name_fits {p = p} e f = f.name_within p e

-- a part without the white space in front
module _ (t : List ℕ) (from to : ℕ) where
  pub part_empty : to ≤ from → take 0 t ≡ past is_space (drop from (take to t))
  unfolding front
  part_empty h = rw (drop_of_length-le (take to t) {i = from} (omega (arith, length-take to t)))

  module _ {n : ℕ} (q : n ≡ front is_space (take (to - from) (drop from t))) where
    pub part_within : n ≤ length (take (to - from) (drop from t))
    part_within = omega (arith, front_le is_space (take (to - from) (drop from t)))

    pub part_told : take (length (take (to - from) (drop from t)) - n) (drop n (take (to - from) (drop from t))) ≡ past is_space (drop from (take to t))
    part_told = tail (take (to - from) (drop from t)) n ∙ ap (λ (i : ℕ). drop i (take (to - from) (drop from t))) q ∙ ap (past is_space) (sym (drop_take from to t))
