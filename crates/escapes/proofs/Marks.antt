-- Escapes that name a key: a name split at its first mark, and its prefix.
-- Assumes nothing.
use Prim.Native.Nat.{ℕ, zero, suc, ◌+◌, ◌-◌, ◌≤◌, ◌<◌, min}
use mathlib.Core.Path.{◌≡◌, refl, sym, ap, ◌∙◌}
use mathlib.Core.Bool.{Bool, true, false, not, ◌&&◌, false≢true, and-false}
use mathlib.Core.List.{List, [], ◌∷◌}
use mathlib.Core.Logic.{◌⊎◌, inl, inr}
use Rattle.std.specs.Prelude.{Option, None, Some}
use native.Mathlib.Decide.{dec_le}
use native.Mathlib.Numerals.{add-one}
use native.Mathlib.Omega.{arith}
use lib.ListN.{length, get_or, take, drop, drop_of_length-le}
use lib.Seq.{length-take-le}
use lib.Dec.{T, eqb, ltb, ltb→lt}
use borrow.Author.Tests.{eq-eqb, ne_eqb, not-true}
use Rattle.base_ascii.specs.Bytes.{upper}
use Rattle.base_ascii.proofs.Choice.{left}
use Rattle.base_ascii.specs.Search.{is_mark, before}
use Rattle.base_ascii.proofs.Searching.{before_le, before_take, tail}
use Rattle.base_ascii.specs.Trim.{trim}
use Rattle.word_search.specs.Compare.{begins, alike}
use Rattle.word_search.specs.Find.{Name, meaning}
use Rattle.word_search.proofs.Search.{and_left, and_right}
use Rattle.word_search.proofs.Sameness.{T_true}
use Rattle.escape_bytes.specs.Keys.{key_names, key_with, keyed, key_escape}
use Rattle.escape_bytes.specs.declared.Key.{Key}
use Rattle.escape_bytes.specs.declared.Escape.{Escape}
use Rattle.escapes.specs.KeyHelpers.{is_key_letter, begins_key}

-- ---- the first byte of a name

begins_with_lem : (t : List ℕ) → 1 ≤ length t → begins_key t ≡ is_key_letter (upper (get_or t 0 0))
unfolding begins_key
begins_with_lem [] n = absurd (omega arith)
begins_with_lem (b ∷ t) n = refl

pub begins_empty : (t : List ℕ) → length t < 1 → false ≡ begins_key t
unfolding begins_key
begins_empty [] h = refl
begins_empty (b ∷ t) h = absurd (omega arith)

module _ (t : List ℕ) {u : ℕ} (q : u ≡ upper (get_or t 0 0)) (n : 1 ≤ length t) where
  told : {r : Bool} → r ≡ is_key_letter u → r ≡ begins_key t
  told e = e ∙ ap is_key_letter q ∙ sym (begins_with_lem t n)

  pub begins_one : (u ≡ 0x43) ⊎ (u ≡ 0x53) → true ≡ begins_key t
  begins_one (inl e) = told (simp (eq-eqb _ _ e))
  begins_one (inr e) = told (rw e)

  pub begins_other : ((u ≡ 0x43) ⊎ (u ≡ 0x53) → ⊥) → false ≡ begins_key t
  begins_other e = told (simp (ne_eqb u 0x43 (λ f. e (inl f)), ne_eqb u 0x53 (λ f. e (inr f))))

-- ---- a name split at its first mark

-- the parts of a name that are lent are as long as they must be
pub reach_taken : (name : List ℕ) {reach : ℕ} → reach ≡ min (length name) 8 → reach ≡ length (take reach name)
reach_taken name {reach} r = sym (length-take-le reach name (omega arith))

pub mark_taken : (name : List ℕ) {mark reach : ℕ} → mark < reach → reach ≡ min (length name) 8 → mark ≡ length (take mark name)
mark_taken name {mark} h r = sym (length-take-le mark name (omega arith))

keyed_not_one : (prefix arg : List ℕ) (count : ℕ) → (length arg ≡ 1 → ⊥) → None ≡ keyed prefix arg count
unfolding keyed
keyed_not_one prefix [] count n = refl
keyed_not_one prefix (b ∷ []) count n = absurd (n refl)
keyed_not_one prefix (b ∷ c ∷ s) count n = refl

keyed_none : (prefix rest : List ℕ) (count : ℕ) → rest ≡ [] → None ≡ keyed prefix (trim rest) count
unfolding keyed trim
keyed_none prefix rest count e = rw e

keyed_one : (prefix arg : List ℕ) (count : ℕ) → length arg ≡ 1 → keyed prefix arg count ≡ keyed prefix (get_or arg 0 0 ∷ []) count
keyed_one prefix [] count e = absurd (omega arith)
keyed_one prefix (b ∷ []) count e = refl
keyed_one prefix (b ∷ c ∷ s) count e = absurd (omega arith)

-- a text that has more bytes than each name of a list is none of them
shorter : {A : Type 0} → ℕ → List (Name A) → Bool
shorter n [] = true
shorter n (x ∷ ns) = ltb (length x.name) n && shorter n ns

long_unnamed : {A : Type 0} (t : List ℕ) (n : ℕ) → n ≤ length t → (ns : List (Name A)) → T (shorter n ns) → meaning ns t ≡ None
unfolding meaning alike shorter
long_unnamed t n h [] s = refl
long_unnamed t n h (x ∷ ns) s =
    let less : length x.name < n = ltb→lt _ _ (and_left (ltb (length x.name) n) _ s) in
    let other : eqb (length x.name) (length t) ≡ false = ne_eqb (length x.name) (length t) (λ (q : length x.name ≡ length t). omega arith) in
    rw (meaning, other) (long_unnamed t n h ns (and_right (ltb (length x.name) n) _ s))

-- no prefix has more than seven bytes
long_prefix : (prefix : List ℕ) → 8 ≤ length prefix → meaning key_names prefix ≡ None
unfolding shorter key_names
long_prefix prefix h = long_unnamed prefix 8 h key_names tt

-- each prefix begins with C or S, so that a text that does not is none
all_begin : {A : Type 0} → List (Name A) → Bool
all_begin [] = true
all_begin (x ∷ ns) = begins_key x.name && all_begin ns

apart : (w t : List ℕ) → T (begins_key w) → begins_key t ≡ false → begins w t ≡ false
unfolding begins_key begins
apart [] t o n = absurd o
apart (c ∷ w) [] o n = refl
apart (c ∷ w) (b ∷ t) o n =
    left _ _ (ne_eqb (upper c) (upper b) (λ e. false≢true (sym n ∙ ap is_key_letter (sym e) ∙ T_true (is_key_letter (upper c)) o)))

other_unnamed : {A : Type 0} (t : List ℕ) → begins_key t ≡ false → (ns : List (Name A)) → T (all_begin ns) → meaning ns t ≡ None
unfolding meaning alike all_begin
other_unnamed t n [] s = refl
other_unnamed t n (x ∷ ns) s =
    let none_here : alike x.name t ≡ false = rw (alike, apart x.name t (and_left (begins_key x.name) _ s) n) (and-false (eqb (length x.name) (length t))) in
    rw (meaning, none_here) (other_unnamed t n ns (and_right (begins_key x.name) _ s))

other_prefix : (prefix : List ℕ) → begins_key prefix ≡ false → meaning key_names prefix ≡ None
unfolding all_begin begins_key upper key_names
other_prefix prefix n = other_unnamed prefix n key_names tt

-- what is no prefix gives nothing
unprefixed : (prefix arg : List ℕ) (count : ℕ) → meaning key_names prefix ≡ None → None ≡ keyed prefix arg count
unfolding keyed
unprefixed prefix [] count h = refl
unprefixed prefix (b ∷ []) count h = rw (keyed, h)
unprefixed prefix (b ∷ c ∷ s) count h = refl

-- a part of a text in front begins as the text does, or with nothing
front_begins : (n : ℕ) (t : List ℕ) → begins_key t ≡ false → begins_key (take n t) ≡ false
unfolding begins_key
front_begins zero t h = refl
front_begins (suc n) [] h = refl
front_begins (suc n) (b ∷ t) h = h

pub key_begins_not : (name : List ℕ) (count : ℕ) {r : Bool} → not r ≡ true → r ≡ begins_key name → None ≡ key_escape name count
unfolding key_escape
key_begins_not name count {r} e q =
    unprefixed (take (before is_mark name) name) (trim (drop (suc (before is_mark name)) name)) count
    (other_prefix _ (front_begins (before is_mark name) name (sym q ∙ not-true r e)))

module _ (name : List ℕ) (count : ℕ) {mark reach : ℕ} where
  -- the mark that is found among the first eight bytes is the first one
  marked : mark < reach → mark ≡ before is_mark (take reach name) → mark ≡ before is_mark name
  marked h m = omega (arith, before_take is_mark reach name)

  -- where there is none among them, the prefix is too long, or there is no mark
  pub key_unreached : reach ≤ mark → mark ≡ before is_mark (take reach name) → reach ≡ min (length name) 8 → None ≡ key_escape name count
  unfolding key_escape
  key_unreached h m r = go (dec_le (length name) 7)
    where
      beyond : reach ≤ before is_mark name
      beyond = omega (arith, before_take is_mark reach name)

      go : Dec (length name ≤ 7) → None ≡ key_escape name count
      go (yes s) =
          keyed_none (take (before is_mark name) name) (drop (suc (before is_mark name)) name) count
          (drop_of_length-le name {i = suc (before is_mark name)} (omega (arith, beyond)))
      go (no l) =
          unprefixed (take (before is_mark name) name) (trim (drop (suc (before is_mark name)) name)) count
          (long_prefix _ (omega (arith, beyond, length-take-le (before is_mark name) name (before_le is_mark name))))

  module _ {arg : List ℕ} where
    -- a prefix of a name that is split at its mark, and what follows the mark, trimmed
    split : arg ≡ trim (take (length name - (mark + 1)) (drop (mark + 1) name)) → mark < reach → mark ≡ before is_mark (take reach name)
        → keyed (take mark name) arg count ≡ key_escape name count
    unfolding key_escape
    split a h m = rw (a, tail name (mark + 1), add-one, marked h m)

    keyed_other : (length arg ≡ 1 → ⊥) → arg ≡ trim (take (length name - (mark + 1)) (drop (mark + 1) name)) → mark < reach → mark ≡ before is_mark (take reach name)
        → None ≡ key_escape name count
    keyed_other n a h m = keyed_not_one (take mark name) arg count n ∙ split a h m

    pub key_short : length arg < 1 → arg ≡ trim (take (length name - (mark + 1)) (drop (mark + 1) name)) → mark < reach → mark ≡ before is_mark (take reach name)
        → None ≡ key_escape name count
    key_short l a h m = keyed_other (λ e. omega arith) a h m

    pub key_long : 2 ≤ length arg → arg ≡ trim (take (length name - (mark + 1)) (drop (mark + 1) name)) → mark < reach → mark ≡ before is_mark (take reach name)
        → None ≡ key_escape name count
    key_long l a h m = keyed_other (λ e. omega arith) a h m

    -- one byte behind the mark, and the key that the prefix names
    module _ (l : 1 ≤ length arg) (s : length arg < 2) (a : arg ≡ trim (take (length name - (mark + 1)) (drop (mark + 1) name))) (h : mark < reach)
        (m : mark ≡ before is_mark (take reach name)) where
      one : keyed (take mark name) (get_or arg 0 0 ∷ []) count ≡ key_escape name count
      one = sym (keyed_one (take mark name) arg count (omega arith)) ∙ split a h m

      pub key_known : {key : Key} {e : Option Escape} → e ≡ key_with key (get_or arg 0 0) count → Some key ≡ meaning key_names (take mark name) → e ≡ key_escape name count
      unfolding keyed
      key_known q k = rw (← one, keyed, ← k) q

      pub key_unknown : {e : Option Escape} → e ≡ None → None ≡ meaning key_names (take mark name) → e ≡ key_escape name count
      unfolding keyed
      key_unknown q k = rw (← one, keyed, ← k) q
