-- Short forms: the letters that may be one, and why no letter behind the longest word's length need be looked at.
-- Assumes nothing.
use Prim.Native.Nat.{ℕ, suc, ◌+◌, ◌-◌, ◌≤◌, ◌<◌, min}
use mathlib.Core.Path.{◌≡◌, refl, sym, ap, ◌∙◌}
use mathlib.Core.Bool.{Bool, true, false, cond, not, ◌&&◌, true≢false, false≢true}
use mathlib.Core.List.{List, [], ◌∷◌}
use mathlib.Core.Logic.{◌⊎◌, inl, inr}
use native.Mathlib.Decide.{dec_lt}
use native.Mathlib.Omega.{arith}
use lib.Dec.{T, ltb, leb, leb→le}
use lib.ListN.{length, get_or, take, length-take, get_or-eq_default}
use lib.Seq.{get_or-take, take-take, take_all, length-take-le}
use borrow.Author.Tests.{lt-ltb, le-ltb, not-true, not-false}
use Rattle.base_ascii.specs.Bytes.{between, upper, is_letter}
use Rattle.base_ascii.specs.Search.{front}
use Rattle.base_ascii.proofs.Ranges.{between_in, in_between}
use Rattle.base_ascii.proofs.Searching.{front_none, front_nil, front_le, front_take}
use Rattle.word_search.specs.Compare.{begins, shortens, passes}
use Rattle.word_search.specs.Find.{Entry, first_that, match_in, word_in}
use Rattle.word_search.specs.declared.Match.{Match}
use Rattle.std.specs.Prelude.{Option, Some, None, is_some}
use Rattle.word_search.specs.declared.Test.TheVariants.{Shortens}
use Rattle.word_search.proofs.Comparing.{raise_shortens}
use Rattle.word_search.proofs.Search.{and_left, and_right}
use Rattle.word_tables.specs.Rom.{v2_words}
use Rattle.word_tables.specs.Tsb.{tsb_words}
use Rattle.body_short_forms.specs.Forms.{is_small, is_capital, form_letters, stands_for, word_for, short_form, tsb_there, form_word}
use Rattle.word_tables.specs.WordsHelpers.{capitals}
use Rattle.word_match.specs.declared.sets.Sets.{Sets}
use Rattle.word_match.proofs.Storage.{first_capitals}

-- ---- the letters

module _ (t : List ℕ) {n : ℕ} where
  pub letters_none : n ≤ 0 → n ≡ front is_small t → [] ≡ form_letters t
  unfolding form_letters
  letters_none h e = let z : n ≡ 0 = omega arith in rw (form_letters, ← e, z)

  no_capital : is_capital (get_or t n 0) ≡ false → n ≡ front is_small t → [] ≡ form_letters t
  unfolding form_letters
  no_capital f e = rw (form_letters, ← e, f) (off (ltb 0 n))
    where
      off : (b : Bool) → [] ≡ cond (b && false) (take (suc n) t) []
      off true = refl
      off false = refl

  pub letters_all : length t ≤ n → n ≡ front is_small t → [] ≡ form_letters t
  unfolding between
  letters_all h e = no_capital (rw (get_or-eq_default t 0 {n = n} h)) e

  pub letters_count : n < length t → n + 1 ≡ length (take (n + 1) t)
  letters_count h = sym (length-take-le (n + 1) t (omega arith))

  module _ {b : ℕ} (v : b ≡ get_or t n 0) {r : Bool} where
    pub letters_other : r ≡ false → r ≡ is_capital b → n ≡ front is_small t → [] ≡ form_letters t
    letters_other f q e = no_capital (ap is_capital (sym v) ∙ sym q ∙ f) e

    pub letters_some : r ≡ true → r ≡ is_capital b → 0 < n → n ≡ front is_small t → take (n + 1) t ≡ form_letters t
    unfolding form_letters
    letters_some f q some e =
        let capital : is_capital (get_or t n 0) ≡ true = ap is_capital (sym v) ∙ sym q ∙ f in
        let up : n + 1 ≡ suc n = omega arith in
        rw (form_letters, ← e, lt-ltb 0 n some, capital, up)

-- ---- letters that stand for no word

-- no word of the list has more than n bytes
unfoldable all_within : ℕ → List Entry → Bool
all_within n [] = true
all_within n (e ∷ es) = leb (length e.word) n && all_within n es

v2_within : T (all_within 7 v2_words)
unfolding all_within v2_words
v2_within = tt

-- none, or as many as the longest word has
abbrev Useless : ℕ → List ℕ → Type 0
Useless n s = (length s ≡ 0) ⊎ (n ≤ length s)

none_longer : (n : ℕ) (s : List ℕ) → Useless n s → (es : List Entry) (k : ℕ) → T (all_within n es) → first_that (λ i w. passes Shortens w s) es k ≡ None
unfolding first_that passes all_within shortens
none_longer n s u [] k a = refl
none_longer n s u (e ∷ es) k a =
    rw (first_that, passes, short u) (none_longer n s u es (suc k) (and_right (leb (length e.word) n) _ a))
  where
    off : (x y : Bool) → (x ≡ false) ⊎ (y ≡ false) → ((x && y) && begins s e.word) ≡ false
    off true true (inl q) = absurd (true≢false q)
    off true true (inr q) = absurd (true≢false q)
    off true false q = refl
    off false y q = refl

    within : length e.word ≤ n
    within = leb→le (length e.word) n (and_left (leb (length e.word) n) (all_within n es) a)

    short : Useless n s → shortens e.word s ≡ false
    short (inl z) = off (ltb 0 (length s)) (ltb (length s) (length e.word)) (inl (le-ltb 0 (length s) (omega arith)))
    short (inr h) = off (ltb 0 (length s)) (ltb (length s) (length e.word)) (inr (le-ltb (length s) (length e.word) (omega (arith, within))))

none_for : (s : List ℕ) → Useless 7 s → word_for v2_words s ≡ None
unfolding word_for
none_for s u = ap (stands_for (length s)) (none_longer 7 s u v2_words 0 v2_within)

-- ---- letters behind the longest word's length

long_useless : (t : List ℕ) → 7 ≤ front is_small t → Useless 7 (form_letters t)
unfolding form_letters
long_useless t h = go (ltb 0 (front is_small t) && is_capital (get_or t (front is_small t) 0))
  where
    long : Dec (front is_small t < length t) → 7 ≤ length (take (suc (front is_small t)) t)
    long (yes l) = omega (arith, length-take-le (suc (front is_small t)) t l)
    long (no l) = omega (arith, ap length (take_all (suc (front is_small t)) t (omega arith)), front_le is_small t)

    go : (b : Bool) → Useless 7 (cond b (take (suc (front is_small t)) t) [])
    go true = inr (long (dec_lt _ _))
    go false = inl refl

module _ (t : List ℕ) where
  cut_letters : (m : ℕ) → front is_small t < m → form_letters (take m t) ≡ form_letters t
  unfolding form_letters
  cut_letters m h =
      let n : front is_small (take m t) ≡ front is_small t = omega (arith, front_take is_small m t) in
      rw (form_letters, n, get_or-take m t (front is_small t) 0 h, take-take (suc (front is_small t)) m t h)

  -- what stands behind the first seven bytes does not matter
  cut_form : {m : ℕ} → m ≡ min (length t) 7 → word_for v2_words (form_letters (take m t)) ≡ word_for v2_words (form_letters t)
  cut_form {m} e = go (dec_lt (front is_small t) m) (dec_lt 7 (length t))
    where
      go : Dec (front is_small t < m) → Dec (7 < length t) → word_for v2_words (form_letters (take m t)) ≡ word_for v2_words (form_letters t)
      go (yes h) d = ap (word_for v2_words) (cut_letters m h)
      go (no h) (no d) = ap (λ (s : List ℕ). word_for v2_words (form_letters s)) (take_all m t (omega arith))
      go (no h) (yes d) =
          none_for (form_letters (take m t)) (long_useless (take m t) (omega (arith, front_take is_small m t)))
          ∙ sym (none_for (form_letters t) (long_useless t (omega arith)))

-- ---- as the code asks

pub cut_count : (t : List ℕ) {m : ℕ} → m ≡ min (length t) 7 → m ≡ length (take m t)
cut_count t {m} e = sym (length-take-le m t (omega arith))

module _ (t : List ℕ) {m : ℕ} {s : List ℕ} {w : Option Match} where
  form_of : m ≡ min (length t) 7 → s ≡ form_letters (take m t) → w ≡ match_in Shortens (capitals v2_words) s → stands_for (length s) w ≡ short_form v2_words t
  unfolding short_form word_for passes
  form_of e q f =
      let g : w ≡ match_in Shortens v2_words s = f ∙ first_capitals (λ k x. passes Shortens x s) (λ k x. raise_shortens x s) v2_words 0 in
      ap (stands_for (length s)) g ∙ ap (word_for v2_words) q ∙ cut_form t e

module _ (t : List ℕ) {m : ℕ} {s : List ℕ} where
  pub form_found : {found : Match} → Some found ≡ match_in Shortens (capitals v2_words) s → s ≡ form_letters (take m t) → m ≡ min (length t) 7
      → ◌≡◌ {A = Option Match} (Some (record { index = found.index; used = length s; token = found.token })) (short_form v2_words t)
  form_found {found} f q e = form_of t {w = Some found} e q f

  pub form_none : {r : Option Match} → r ≡ None → None ≡ match_in Shortens (capitals v2_words) s → s ≡ form_letters (take m t) → m ≡ min (length t) 7 → r ≡ short_form v2_words t
  form_none g f q e = g ∙ form_of t {w = None} e q f

module _ (s : Sets) (t : List ℕ) where
  pub tsb_off : s.tsb ≡ false → s.tsb ≡ tsb_there s tsb_words t
  unfolding tsb_there
  tsb_off e = rw (tsb_there, e)

  pub tsb_found : {w : Option Match} {r : Bool} → r ≡ is_some w → w ≡ word_in tsb_words t → s.tsb ≡ true → r ≡ tsb_there s tsb_words t
  unfolding tsb_there
  tsb_found {w} q e on = q ∙ rw (tsb_there, on, ← e) (go w)
    where
      go : (w : Option Match) → is_some w ≡ elim w [ Some m ↦ true | None ↦ false ]
      go (Some m) = refl
      go None = refl

  pub forms_off : not s.forms ≡ true → None ≡ form_word s tsb_words v2_words t
  unfolding form_word
  forms_off e = rw (form_word, not-true s.forms e)

  module _ {r : Bool} where
    pub forms_behind : r ≡ true → r ≡ tsb_there s tsb_words t → not s.forms ≡ false → None ≡ form_word s tsb_words v2_words t
    unfolding form_word
    forms_behind told e on = rw (form_word, not-false s.forms on, ← e, told)

    pub forms_on : {w : Option Match} → w ≡ short_form v2_words t → r ≡ false → r ≡ tsb_there s tsb_words t → not s.forms ≡ false → w ≡ form_word s tsb_words v2_words t
    unfolding form_word
    forms_on q told e on = rw (form_word, not-false s.forms on, ← e, told) q

-- ---- for steps of crunching, whatever the lists

small_letter : (b : ℕ) → is_letter b ≡ false → is_small b ≡ false
unfolding upper
small_letter b n = go (is_small b) refl n
  where
    go : (x : Bool) → is_small b ≡ x → between 65 90 (cond x (b - 32) b) ≡ false → is_small b ≡ false
    go true q f =
        let r : (97 ≤ b) × (b ≤ 122) = between_in 97 122 b q in
        absurd (false≢true (sym f ∙ in_between 65 90 (b - 32) (omega (arith, r.0)) (omega (arith, r.1))))
    go false q f = q

none_empty : (es : List Entry) (k : ℕ) → first_that (λ i w. passes Shortens w []) es k ≡ None
unfolding first_that passes shortens
none_empty [] k = refl
none_empty (e ∷ es) k = none_empty es (suc k)

for_empty : (es : List Entry) → word_for es [] ≡ None
unfolding word_for
for_empty es = ap (stands_for 0) (none_empty es 0)

-- a short form begins with a letter
no_letter : (es : List Entry) (t : List ℕ) → is_letter (get_or t 0 0) ≡ false → short_form es t ≡ None
unfolding short_form
no_letter es t n = ap (word_for es) (sym (letters_none t (omega arith) (sym (none t n)))) ∙ for_empty es
  where
    none : (t : List ℕ) → is_letter (get_or t 0 0) ≡ false → front is_small t ≡ 0
    none [] m = front_nil is_small
    none (b ∷ u) m = front_none is_small b u (small_letter b m)

letters_most : (t : List ℕ) → length (form_letters t) ≤ length t
unfolding form_letters
letters_most t = go (ltb 0 (front is_small t) && is_capital (get_or t (front is_small t) 0))
  where
    go : (b : Bool) → length (cond b (take (suc (front is_small t)) t) []) ≤ length t
    go true = omega (arith, length-take (suc (front is_small t)) t)
    go false = omega arith

-- it takes text, and no more than there is
form_taken : (es : List Entry) (t : List ℕ) {m : Match} → short_form es t ≡ Some m → (0 < m.used) × (m.used ≤ length t)
unfolding short_form word_for
form_taken es t {m} e = go (form_letters t) (letters_most t) e
  where
    used : (n : ℕ) (w : Option Match) → stands_for n w ≡ Some m → n ≡ m.used
    used n (Some w) q = ap used_of q
      where
        used_of : Option Match → ℕ
        used_of (Some w) = w.used
        used_of None = 0
    used n None q = let z : ◌≡◌ {A = ℕ} 0 1 = cc in absurd (omega arith)

    go : (s : List ℕ) → length s ≤ length t → word_for es s ≡ Some m → (0 < m.used) × (m.used ≤ length t)
    go [] h q = let z : ◌≡◌ {A = Option Match} None (Some m) = sym (for_empty es) ∙ q in let z : ◌≡◌ {A = ℕ} 0 1 = cc in absurd (omega arith)
    go (b ∷ s) h q = let n : suc (length s) ≡ m.used = used (suc (length s)) (match_in Shortens es (b ∷ s)) q in (omega arith, omega arith)

module _ (s : Sets) (tsb v2 : List Entry) (t : List ℕ) where
  by_test : (b : Bool) → short_form v2 t ≡ None → cond b (short_form v2 t) None ≡ None
  by_test true e = e
  by_test false e = refl

  pub form_letter : is_letter (get_or t 0 0) ≡ false → form_word s tsb v2 t ≡ None
  unfolding form_word
  form_letter n = by_test (s.forms && not (tsb_there s tsb t)) (no_letter v2 t n)

  pub form_takes : {m : Match} → form_word s tsb v2 t ≡ Some m → (0 < m.used) × (m.used ≤ length t)
  unfolding form_word
  form_takes {m} e = go (s.forms && not (tsb_there s tsb t)) e
    where
      go : (b : Bool) → cond b (short_form v2 t) None ≡ Some m → (0 < m.used) × (m.used ≤ length t)
      go true q = form_taken v2 t q
      go false q = let z : ◌≡◌ {A = ℕ} 0 1 = cc in absurd (omega arith)

  -- with the option off there are none
  pub form_off : s.forms ≡ false → form_word s tsb v2 t ≡ None
  unfolding form_word
  form_off e = rw (form_word, e)
