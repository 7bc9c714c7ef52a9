-- `sh home` gives 93, the code of CLR, where the Rust's list gives 53; every other escape gives what it gave (document 02, No. 3).
-- Assumes nothing.
use Prim.Native.Nat.{ℕ, suc}
use mathlib.Core.Path.{◌≡◌, refl, sym, ap, ◌∙◌}
use mathlib.Core.Bool.{Bool, true, false, ◌&&◌, false≢true}
use mathlib.Core.List.{List, [], ◌∷◌}
use native.Mathlib.Omega.{arith}
use lib.Dec.{eqb}
use lib.ListN.{length}
use borrow.Author.Tests.{ne_eqb, eqb-true, le-ltb}
use Rattle.base_ascii.specs.Bytes.{between, is_digit, upper}
use Rattle.base_ascii.specs.Trim.{trim}
use Rattle.base_ascii.proofs.Ranges.{between_in}
use Rattle.word_search.specs.Compare.{begins, alike, same, passes}
use Rattle.word_search.specs.Find.{Entry, first_that, name_in}
use Rattle.word_search.specs.declared.Match.{Match}
use Rattle.word_search.specs.declared.Test.TheVariants.{Alike}
use Rattle.word_search.proofs.Sameness.{same_eq}
use Rattle.word_tables.specs.Escapes.{escape_names, recoded, rust_names}
use Rattle.word_search.specs.Spelling.{bytes_of}
use Rattle.escape_numbers.specs.Numbers.{number_after, number_of, hex_of}
use Rattle.escape_bytes.specs.Keys.{known, key_escape}
use Rattle.escape_bytes.specs.Escape.{name_escape_in, name_escape, Counted, counted_name, escape_in, escape_of}
use Rattle.escape_bytes.specs.declared.Escape.{Escape}
use Rattle.escape_numbers.proofs.Counting.{no_digit}
use Rattle.std.specs.Prelude.{Option, Some, None}

-- ---- a list with another code for one name

abbrev found : ℕ → List ℕ → ℕ → Option Match
found k w t = Some (record { index = k; used = length w; token = t })

-- a test that this name does not pass finds the same
recoded_kept : (w : List ℕ) (t : ℕ) (p : List ℕ → Bool) → p w ≡ false → (es : List Entry) (k : ℕ) → first_that (λ i x. p x) (recoded w t es) k ≡ first_that (λ i x. p x) es k
unfolding recoded first_that
recoded_kept w t p n [] k = refl
recoded_kept w t p n (e ∷ es) k = go (p e.word) (same w e.word) refl refl (recoded_kept w t p n es (suc k))
  where
    go : (q s : Bool) → p e.word ≡ q → same w e.word ≡ s → first_that (λ i x. p x) (recoded w t es) (suc k) ≡ first_that (λ i x. p x) es (suc k)
        → ◌≡◌ {A = Option Match} (elim q [ true ↦ found k e.word (elim s [ true ↦ t | false ↦ e.token ]) | false ↦ first_that (λ i x. p x) (recoded w t es) (suc k) ])
        (elim q [ true ↦ found k e.word e.token | false ↦ first_that (λ i x. p x) es (suc k) ])
    go true true u v h = absurd (false≢true (sym n ∙ ap p (same_eq w e.word v) ∙ u))
    go true false u v h = refl
    go false s u v h = h

-- ---- a text that is a name, but for case, is looked up as the name is

begins_for : (e w n : List ℕ) → length w ≡ length n → begins w n ≡ true → begins e n ≡ begins e w
unfolding begins
begins_for [] w n l g = refl
begins_for (x ∷ e) [] [] l g = refl
begins_for (x ∷ e) [] (z ∷ n) l g = absurd (omega arith)
begins_for (x ∷ e) (y ∷ w) [] l g = absurd (omega arith)
begins_for (x ∷ e) (y ∷ w) (z ∷ n) l g = go (eqb (upper y) (upper z)) refl g (begins_for e w n (omega arith))
  where
    cases : (r : Bool) → begins e n ≡ begins e w → ◌≡◌ {A = Bool} (elim r [ true ↦ begins e n | false ↦ false ]) (elim r [ true ↦ begins e w | false ↦ false ])
    cases true h = h
    cases false h = refl

    go : (b : Bool) → eqb (upper y) (upper z) ≡ b → elim b [ true ↦ begins w n | false ↦ false ] ≡ true → (begins w n ≡ true → begins e n ≡ begins e w)
        → begins (x ∷ e) (z ∷ n) ≡ begins (x ∷ e) (y ∷ w)
    go true u h f = rw (begins, ← eqb-true (upper y) (upper z) u) (cases (eqb (upper x) (upper y)) (f h))
    go false u h f = absurd (false≢true h)

begins_none_lem : (x : ℕ) (w : List ℕ) → begins (x ∷ w) [] ≡ true → false ≡ true
unfolding begins
begins_none_lem x w e = e

both : (a b : Bool) → (a && b) ≡ true → (a ≡ true) × (b ≡ true)
both true b e = (refl, e)
both false b e = absurd (false≢true e)

module _ (w n : List ℕ) (a : alike w n ≡ true) where
  long : length w ≡ length n
  unfolding alike
  long = eqb-true _ _ (both (eqb (length w) (length n)) (begins w n) a).0

  begun : begins w n ≡ true
  unfolding alike
  begun = (both (eqb (length w) (length n)) (begins w n) a).1

  alike_for : (e : List ℕ) → alike e n ≡ alike e w
  unfolding alike
  alike_for e = rw (sym long, begins_for e w n long begun)

  first_for : (es : List Entry) (k : ℕ) → first_that (λ i x. passes Alike x n) es k ≡ first_that (λ i x. passes Alike x w) es k
  unfolding first_that passes
  first_for [] k = refl
  first_for (e ∷ es) k = go (alike e.word n) (alike e.word w) (alike_for e.word) (first_for es (suc k))
    where
      go : (q r : Bool) → q ≡ r → first_that (λ i x. passes Alike x n) es (suc k) ≡ first_that (λ i x. passes Alike x w) es (suc k)
          → ◌≡◌ {A = Option Match} (elim q [ true ↦ found k e.word e.token | false ↦ first_that (λ i x. passes Alike x n) es (suc k) ])
          (elim r [ true ↦ found k e.word e.token | false ↦ first_that (λ i x. passes Alike x w) es (suc k) ])
      go true true u h = refl
      go true false u h = absurd (false≢true (sym u))
      go false true u h = absurd (false≢true u)
      go false false u h = h

  named_for : (es : List Entry) → name_in es n ≡ name_in es w
  unfolding name_in
  named_for es = first_for es 0

-- ---- the name

abbrev shift_home : List ℕ
shift_home = bytes_of "sh home"

-- a byte that is a small or a capital s is no digit and no $
upper_own : (b : ℕ) → between 97 122 b ≡ false → upper b ≡ b
unfolding upper
upper_own b p = simp p

upper_dollar : upper 36 ≡ 36
unfolding upper between
upper_dollar = refl

no_digit_s : (b : ℕ) → upper b ≡ 83 → is_digit b ≡ false
no_digit_s b e = go (between 97 122 b) (is_digit b) refl refl
  where
    go : (s d : Bool) → between 97 122 b ≡ s → is_digit b ≡ d → is_digit b ≡ false
    go s false p q = q
    go true true p q = absurd (omega (arith, between_in 97 122 b p, between_in 48 57 b q))
    go false true p q = let u : b ≡ 83 = sym (upper_own b p) ∙ e in absurd (omega (arith, between_in 48 57 b q))

module _ (b : ℕ) (s : List ℕ) where
  no_number : upper b ≡ 83 → number_of 10 255 (b ∷ s) ≡ None
  unfolding number_of number_after
  no_number e = rw (number_after, le-ltb _ _ (no_digit b (no_digit_s b e)))

  no_hex : upper b ≡ 83 → hex_of (b ∷ s) ≡ None
  unfolding hex_of
  no_hex e = rw (hex_of, ne_eqb b 36 (λ z. omega (arith, sym e ∙ ap upper z ∙ upper_dollar)))

  first_s : alike shift_home (b ∷ s) ≡ true → upper b ≡ 83
  unfolding begins upper between
  first_s a = go (eqb 83 (upper b)) refl (begun shift_home (b ∷ s) a)
    where
      go : (r : Bool) → eqb 83 (upper b) ≡ r → elim r [ true ↦ begins (bytes_of "h home") s | false ↦ false ] ≡ true → upper b ≡ 83
      go true u h = sym (eqb-true 83 (upper b) u)
      go false u h = absurd (false≢true h)

-- the name gives its code in the list, whichever it is
clears : (es : List Entry) (name : List ℕ) (count : ℕ) {m : Match} → name_in es shift_home ≡ Some m → alike shift_home name ≡ true → name_escape_in es name count ≡ known m.token count
unfolding name_escape_in
clears es [] count f a = absurd (false≢true (no_name_lem a))
  where
    no_name_lem : alike shift_home [] ≡ true → false ≡ true
    no_name_lem a = begins_none_lem 115 (bytes_of "h home") (begun shift_home [] a)
clears es (b ∷ s) count f a =
    rw (name_escape_in, no_number b s (first_s b s a), no_hex b s (first_s b s a), named_for shift_home (b ∷ s) a es ∙ f)

is_recoded : escape_names ≡ recoded shift_home 0x93 rust_names
unfolding escape_names
is_recoded = refl

names_kept : (t : List ℕ) → alike shift_home t ≡ false → name_in escape_names t ≡ name_in rust_names t
unfolding name_in passes
names_kept t n = ap (λ (es : List Entry). name_in es t) is_recoded ∙ recoded_kept shift_home 0x93 (λ x. alike x t) n rust_names 0

kept : (name : List ℕ) (count : ℕ) → alike shift_home name ≡ false → name_escape_in escape_names name count ≡ name_escape_in rust_names name count
unfolding name_escape_in
kept [] count n = refl
kept (b ∷ s) count n =
    ap (λ (m : Option Match). elim (number_of 10 255 (b ∷ s)) as (λ _. Option Escape) [
      | Some v ↦ known v count
      | None ↦ elim (hex_of (b ∷ s)) as (λ _. Option Escape) [
        | Some v ↦ known v count
        | None ↦ elim m as (λ _. Option Escape) [ Some w ↦ known w.token count | None ↦ key_escape (b ∷ s) count ]
      ]
    ]) (names_kept (b ∷ s) n)

-- its place in the list, its length, and its code: now, and in the Rust's list
new_code : name_in escape_names shift_home ≡ found 101 shift_home 0x93
unfolding name_in first_that passes alike begins upper between escape_names
new_code = refl

old_code : name_in rust_names shift_home ≡ found 101 shift_home 0x53
unfolding name_in first_that passes alike begins upper between rust_names
old_code = refl

module _ (inside : List ℕ) where
  abbrev named : Counted
  named = counted_name (trim inside)

  -- the name `sh home` gives 93 as often as its count says, where it gave 53
  pub shift_home_clears : alike shift_home named.name ≡ true → (escape_of inside ≡ known 0x93 named.count) × (escape_in rust_names inside ≡ known 0x53 named.count)
  unfolding escape_of escape_in name_escape
  shift_home_clears a = (clears escape_names named.name named.count new_code a, clears rust_names named.name named.count old_code a)

  -- what has another name, a number, a key or no known name gives what it gave
  pub others_kept : alike shift_home named.name ≡ false → escape_of inside ≡ escape_in rust_names inside
  unfolding escape_of escape_in name_escape
  others_kept n = kept named.name named.count n
