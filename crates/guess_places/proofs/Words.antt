-- What is known of a TSB word that is found in a text: it begins with a letter and has one of some second bytes, so that no other place
-- is looked up; its place and its length are within bounds; and it is the first word of its length and spelling, the one that the Rust enters into its set.
-- Assumes nothing.
use Prim.Native.Nat.{ℕ, zero, suc, ◌-◌, ◌/◌, ◌%◌, ◌^◌, ◌≤◌, ◌<◌}
use mathlib.Core.Path.{◌≡◌, refl, sym, ap, ◌∙◌}
use mathlib.Core.Bool.{Bool, true, false, ◌&&◌, false≢true}
use mathlib.Core.List.{List, [], ◌∷◌}
use native.Mathlib.Omega.{arith}
use native.Mathlib.Nat.{not-suc-le-zero, le_of_suc-le-suc}
use lib.Dec.{T, eqb, leb}
use Rattle.std.proofs.Common.{◌⊎◌, inl, inr}
use lib.ListN.{length, get_or}
use borrow.Author.Tests.{eq-eqb, ne_eqb, leb-true, leb-false, lt-leb, le-leb}
use Rattle.base_ascii.specs.Bytes.{is_letter, between, upper}
use Rattle.base_ascii.specs.Search.{is_white}
use Rattle.word_search.specs.Compare.{begins}
use Rattle.word_search.specs.Find.{Entry, first_that, word_in}
use Rattle.word_search.specs.Order.{word_at}
use Rattle.word_search.specs.declared.Match.{Match}
use Rattle.std.specs.Prelude.{Option, Some, None}
use Rattle.word_search.proofs.Order.{found}
use Rattle.word_search.proofs.Search.{and_left, and_right}
use Rattle.word_search.proofs.Sameness.{T_true}
use Rattle.word_search.specs.Spelling.{bytes_of}
use Rattle.word_tables.specs.Tsb.{tsb_words}
use Rattle.base_ascii.proofs.Choice.{taken, left}
use Rattle.guess_places.specs.PlaceHelpers.{is_second, may_second}

-- ---- each TSB word begins with a letter: one test over the list, carried to each entry

unfoldable pub initial : List ℕ → Bool
unfolding between upper
initial [] = false
initial (b ∷ w) = is_letter b

-- the second byte may be one of a TSB word
unfoldable follow : List ℕ → Bool
unfolding may_second
follow [] = false
follow (b ∷ []) = false
follow (b ∷ c ∷ w) = may_second c

unfoldable all_words : (List ℕ → Bool) → List Entry → Bool
all_words test [] = true
all_words test (e ∷ es) = test e.word && all_words test es

tsb_initials : T (all_words initial tsb_words)
unfolding all_words initial tsb_words
tsb_initials = tt

tsb_follow : T (all_words follow tsb_words)
unfolding all_words follow tsb_words is_second upper between
tsb_follow = tt

initial_at : (es : List Entry) → T (all_words initial es) → (k : ℕ) → k < length es → T (initial (word_at es k))
unfolding all_words
initial_at [] t k h = absurd (not-suc-le-zero h)
initial_at (e ∷ es) t zero h = and_left (initial e.word) _ t
initial_at (e ∷ es) t (suc k) h = initial_at es (and_right (initial e.word) _ t) k (le_of_suc-le-suc h)

initial_some : (w : List ℕ) → T (initial w) → 0 < length w
unfolding initial
initial_some [] t = absurd t
initial_some (b ∷ w) t = omega arith

-- ---- a text that begins with no letter begins with no TSB word

not_begun : (w t : List ℕ) → T (initial w) → is_letter (get_or t 0 0) ≡ false → begins w t ≡ false
unfolding initial begins
not_begun [] t i n = absurd i
not_begun (c ∷ w) [] i n = refl
not_begun (c ∷ w) (b ∷ s) i n =
    left _ _ (ne_eqb (upper c) (upper b) (λ e. false≢true (sym n ∙ ap (between 65 90) (sym e) ∙ T_true (is_letter c) i)))

-- nor one that has no such second byte
not_followed : (w t : List ℕ) → T (follow w) → follow t ≡ false → begins w t ≡ false
unfolding follow begins may_second
not_followed [] t i n = absurd i
not_followed (c ∷ []) t i n = absurd i
not_followed (c ∷ d ∷ w) [] i n = refl
not_followed (c ∷ d ∷ w) (b ∷ []) i n = go (eqb (upper c) (upper b))
  where
    go : (r : Bool) → ◌≡◌ {A = Bool} (elim r [ true ↦ false | false ↦ false ]) false
    go true = refl
    go false = refl
not_followed (c ∷ d ∷ w) (b ∷ a ∷ s) i n = go (eqb (upper c) (upper b))
  where
    apart : begins (d ∷ w) (a ∷ s) ≡ false
    apart = left _ _ (ne_eqb (upper d) (upper a) (λ e. false≢true (sym n ∙ ap is_second (sym e) ∙ T_true (may_second d) i)))

    go : (r : Bool) → elim r [ true ↦ begins (d ∷ w) (a ∷ s) | false ↦ false ] ≡ false
    go true = apart
    go false = refl

module _ (b : ℕ) {c : ℕ} where
  second_low : c < 0x20 → c ≡ upper b → false ≡ may_second b
  unfolding may_second is_second
  second_low h q = sym (ap is_second (sym q) ∙ simp (lt-leb 0x20 c h))

  second_high : 0x5F < c → 0x20 ≤ c → c ≡ upper b → false ≡ may_second b
  unfolding may_second is_second
  second_high h l q = sym (ap is_second (sym q) ∙ simp (le-leb 0x20 c l, lt-leb c 0x5F h))

  pub second_told : c ≤ 0x5F → 0x20 ≤ c → c ≡ upper b → eqb (0x13DF3EA00000002 / 2 ^ (c - 0x20) % 2) 1 ≡ may_second b
  unfolding may_second is_second
  second_told h l q = sym (ap is_second (sym q) ∙ simp (le-leb 0x20 c l, le-leb c 0x5F h))

  pub low_told : c < 0x20 → c ≡ upper b → leb 0x20 c ≡ may_second b
  low_told h q = lt-leb _ _ h ∙ second_low h q

  pub high_told : 0x20 ≤ c → ((0x20 ≤ c) × (0x5F < c)) ⊎ (c < 0x20) → c ≡ upper b → leb c 0x5F ≡ may_second b
  high_told l (inl e) q = lt-leb _ _ e.1 ∙ second_high e.1 l q
  high_told l (inr e) q = absurd (omega arith)

-- what no word of a list passes
none_begun : (t : List ℕ) (test : List ℕ → Bool) → ((w : List ℕ) → T (test w) → begins w t ≡ false) → (es : List Entry) (k : ℕ) → T (all_words test es)
    → first_that (λ i w. begins w t) es k ≡ None
unfolding first_that all_words
none_begun t test f [] k i = refl
none_begun t test f (e ∷ es) k i = left _ _ (f e.word (and_left (test e.word) _ i)) ∙ none_begun t test f es (suc k) (and_right (test e.word) _ i)

no_word : (t : List ℕ) → is_letter (get_or t 0 0) ≡ false → None ≡ word_in tsb_words t
unfolding word_in
no_word t n = sym (none_begun t initial (λ w i. not_begun w t i n) tsb_words 0 tsb_initials)

no_follower : (t : List ℕ) → follow t ≡ false → None ≡ word_in tsb_words t
unfolding word_in
no_follower t n = sym (none_begun t follow (λ w i. not_followed w t i n) tsb_words 0 tsb_follow)

pub no_second : (t : List ℕ) {x : Bool} → x ≡ false → x ≡ may_second (get_or t 1 0) → 2 ≤ length t → None ≡ word_in tsb_words t
unfolding follow
no_second [] e p h = absurd (omega arith)
no_second (b ∷ []) e p h = absurd (omega arith)
no_second (b ∷ c ∷ s) {x} e p h = no_follower (b ∷ c ∷ s) (sym p ∙ e)

pub no_word_short : (t : List ℕ) → length t < 2 → None ≡ word_in tsb_words t
unfolding follow
no_word_short [] h = no_follower [] refl
no_word_short (b ∷ []) h = no_follower (b ∷ []) refl
no_word_short (b ∷ c ∷ s) h = absurd (omega arith)

pub no_letter : (t : List ℕ) {x : Bool} → x ≡ false → x ≡ is_letter (get_or t 0 0) → None ≡ word_in tsb_words t
no_letter t e p = no_word t (sym p ∙ e)

-- ---- bounds of a word that is found

pub begins_long : (w t : List ℕ) → begins w t ≡ true → length w ≤ length t
unfolding begins
begins_long [] t e = omega arith
begins_long (c ∷ w) [] e = absurd (false≢true e)
begins_long (c ∷ w) (b ∷ s) e = go (eqb (upper c) (upper b)) e (begins_long w s)
  where
    go : (r : Bool) → elim r [ true ↦ begins w s | false ↦ false ] ≡ true → (begins w s ≡ true → length w ≤ length s) → suc (length w) ≤ suc (length s)
    go true q f = omega (arith, f q)
    go false q f = absurd (false≢true q)

pub record Bounded (t : List ℕ) (index used : ℕ) : Type 0 where
  pub place : index < 123
  pub some : 0 < used
  pub within : used ≤ length t

tsb_count : length tsb_words ≡ 123
unfolding tsb_words
tsb_count = refl

pub word_bounds : (t : List ℕ) {m : Match} → word_in tsb_words t ≡ Some m → Bounded t m.index m.used
unfolding word_in
word_bounds t {m} e =
    let f = found (λ w. begins w t) m tsb_words 0 e in
    record {
      place = omega (arith, f.place, f.within, tsb_count);
      some = omega (arith, f.size, initial_some (word_at tsb_words f.at) (initial_at tsb_words tsb_initials f.at f.within));
      within = omega (arith, f.size, begins_long (word_at tsb_words f.at) t f.passes);
    }

-- ---- the first word that matches is the first of its length that matches

module _ (t : List ℕ) (m : Match) where
  of_length : (es : List Entry) (k : ℕ) → first_that (λ i w. begins w t) es k ≡ Some m → first_that (λ i w. eqb (length w) m.used && begins w t) es k ≡ Some m
  unfolding first_that
  of_length [] k e = e
  of_length (x ∷ es) k e = go (begins x.word t) refl e (of_length es (suc k))
    where
      same : begins x.word t ≡ true → ◌≡◌ {A = Option Match} (Some (record { index = k; used = length x.word; token = x.token })) (Some m)
          → first_that (λ i w. eqb (length w) m.used && begins w t) (x ∷ es) k ≡ Some m
      same q p =
          let this : ◌≡◌ {A = Match} (record { index = k; used = length x.word; token = x.token }) m = cc in
          let n : length x.word ≡ m.used = ap (λ (y : Match). y.used) this in
          taken _ _ (ap (λ (r : Bool). r && begins x.word t) (eq-eqb _ _ n) ∙ q) ∙ p

      both : (r : Bool) → begins x.word t ≡ false → (r && begins x.word t) ≡ false
      both true q = q
      both false q = refl

      go : (r : Bool) → begins x.word t ≡ r
          → ◌≡◌ {A = Option Match} (elim r [ true ↦ Some (record { index = k; used = length x.word; token = x.token }) | false ↦ first_that (λ i w. begins w t) es (suc k) ]) (Some m)
          → (first_that (λ i w. begins w t) es (suc k) ≡ Some m → first_that (λ i w. eqb (length w) m.used && begins w t) es (suc k) ≡ Some m)
          → first_that (λ i w. eqb (length w) m.used && begins w t) (x ∷ es) k ≡ Some m
      go true q p f = same q p
      go false q p f = left _ _ (both (eqb (length x.word) m.used) q) ∙ f p

  pub first_of_its_length : word_in tsb_words t ≡ Some m → first_that (λ i w. eqb (length w) m.used && begins w t) tsb_words 0 ≡ Some m
  unfolding word_in
  first_of_its_length e = of_length tsb_words 0 e

-- a text whose first byte is another
pub other_first : (x : ℕ) (w t : List ℕ) {b : ℕ} → upper x ≡ x → (b ≡ x → ⊥) → b ≡ upper (get_or t 0 0) → 0 < length t → false ≡ begins (x ∷ w) t
unfolding begins
other_first x w [] u n e h = refl
other_first x w (y ∷ t) u n e h =
    let apart : eqb (upper x) (upper y) ≡ false = ne_eqb _ _ (λ q. n (e ∙ sym q ∙ u)) in
    sym (ap (λ (b : Bool). elim b as (λ z. Bool) [ true ↦ begins w t | false ↦ false ]) apart)

pub no_rem : (t : List ℕ) {b : ℕ} → (b ≡ 0x52 → ⊥) → b ≡ upper (get_or t 0 0) → 0 < length t → eqb b 0x52 ≡ begins (bytes_of "REM") t
unfolding upper between
no_rem t n e h = ne_eqb _ _ n ∙ other_first 0x52 (bytes_of "EM") t refl n e h

pub no_data : (t : List ℕ) {b : ℕ} → (b ≡ 0x44 → ⊥) → b ≡ upper (get_or t 0 0) → 0 < length t → eqb b 0x44 ≡ begins (bytes_of "DATA") t
unfolding upper between
no_data t n e h = ne_eqb _ _ n ∙ other_first 0x44 (bytes_of "ATA") t refl n e h

-- ---- no word but at a letter, and a letter is above all other bytes that a step asks for

pub not_rem : (t : List ℕ) → is_letter (get_or t 0 0) ≡ false → begins (bytes_of "REM") t ≡ false
unfolding initial between upper
not_rem t n = not_begun (bytes_of "REM") t tt n

pub not_data : (t : List ℕ) → is_letter (get_or t 0 0) ≡ false → begins (bytes_of "DATA") t ≡ false
unfolding initial between upper
not_data t n = not_begun (bytes_of "DATA") t tt n

pub letter_told : (b : ℕ) {x r : Bool} → x ≡ r → x ≡ is_letter b → is_letter b ≡ r
letter_told b e p = sym p ∙ e

low_no_letter : (b : ℕ) → b < 65 → is_letter b ≡ false
unfolding between upper
low_no_letter b h = simp (lt-leb 97 b (omega arith), lt-leb 65 b h)

pub letter_high : (b : ℕ) → is_letter b ≡ true → 65 ≤ b
letter_high b l = go (leb 65 b) refl
  where
    go : (r : Bool) → leb 65 b ≡ r → 65 ≤ b
    go true e = leb-true 65 b e
    go false e = absurd (false≢true (sym (low_no_letter b (leb-false 65 b e)) ∙ l))

beyond : (low high b : ℕ) → high < b → between low high b ≡ false
unfolding between
beyond low high b h = rw (lt-leb b high h) (go (leb low b))
  where
    go : (r : Bool) → (r && false) ≡ false
    go true = refl
    go false = refl

pub letter_not_white : (b : ℕ) → is_letter b ≡ true → is_white b ≡ false
letter_not_white b l =
    let h : 65 ≤ b = letter_high b l in
    simp (ne_eqb b 0x20 (λ e. omega arith), beyond 0x09 0x0A b (omega arith), beyond 0x0C 0x0D b (omega arith))
