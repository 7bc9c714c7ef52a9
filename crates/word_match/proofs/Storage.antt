-- The search in the stored words is the search in the documents' lists.
-- Assumes nothing.
use Prim.Native.Nat.{ℕ, suc, ◌+◌, ◌-◌, ◌≤◌, ◌<◌}
use mathlib.Core.Path.{◌≡◌, refl, sym, ap, ◌∙◌, subst}
use mathlib.Core.Bool.{Bool, true, false, not, ◌&&◌, false≢true}
use mathlib.Core.List.{List, [], ◌∷◌, map}
use native.Mathlib.Omega.{arith}
use lib.Dec.{T, ltb, eqb, ltb→lt, eqb→eq}
use lib.ListN.{length, get_or, length-map}
use borrow.Author.Tests.{lt-ltb, le-ltb, not-true, not-false}
use mir.Syntax.{w64}
use mir.Val.{Fits}
use Rattle.base_ascii.specs.Bytes.{between, upper}
use Rattle.base_ascii.proofs.Ranges.{between_in}
use Rattle.word_search.specs.Compare.{passes}
use Rattle.word_search.specs.Find.{Entry, first_that, match_in, word_in, name_in}
use Rattle.word_search.specs.RunHelpers.{Ready, Stored, raised, word_of, passes_at, first_from}
use Rattle.word_search.specs.declared.Match.{Match}
use Rattle.std.specs.Prelude.{Option, Some, None}
use Rattle.word_search.specs.declared.Section.{Section}
use Rattle.word_search.specs.declared.Test.{Test}
use Rattle.word_search.specs.declared.Test.TheVariants.{Begins, Alike}
use Rattle.word_search.proofs.Comparing.{raise_begins, raise_alike}
use Rattle.word_search.proofs.Search.{and_left, and_right, first_from_lem}
use Rattle.word_tables.specs.WordsHelpers.{Placed, capitals, initial, groups_of, group_at, word_found, Held, words_of, SpellsWords}
use Rattle.word_tables.specs.declared.WordList.{WordList}
use Rattle.word_tables.proofs.Ranged.{ranged_list, groups_within}
use Rattle.word_match.proofs.Groups.{first_placed, Confined, first_grouped, confined_test, good, all_good, grouped_good, stored_at, good_at, passes_placed, answer, first_stored, ready_word}

-- ---- the search of a list, with a test of places and words that only words of the text's group pass

module _ (p : ℕ → List ℕ → Bool) (b : ℕ) (only : Confined p b) (bytes index : List ℕ) (sp : SpellsWords bytes index) (l : WordList) where
  abbrev from : ℕ
  from = (group_at index l b).from

  abbrev to : ℕ
  to = (group_at index l b).to

  searched : first_that p (capitals (words_of l)) 0 ≡ answer bytes index p to (first_from (passes_placed bytes index p) from (to - from))
  searched =
      let end : from + (to - from) ≡ to = omega (arith, sp.up l b) in
      sym (first_grouped p b only (capitals (words_of l)) 0 (ranged_list l)) ∙ ap (first_placed p) (sym (sp.spells l b)) ∙ first_stored bytes index p (to - from) from
      ∙ ap (λ (e : ℕ). answer bytes index p e (first_from (passes_placed bytes index p) from (to - from))) end

  pub found_stored : {r : ℕ} → r ≡ first_from (passes_placed bytes index p) from (to - from) → r < to → word_found bytes index r ≡ first_that p (capitals (words_of l)) 0
  found_stored {r} e h = sym (searched ∙ ap (answer bytes index p to) (sym e) ∙ rw (answer, lt-ltb r to h))

  pub none_stored : {r : ℕ} → r ≡ first_from (passes_placed bytes index p) from (to - from) → to ≤ r → None ≡ first_that p (capitals (words_of l)) 0
  none_stored {r} e h = sym (searched ∙ ap (answer bytes index p to) (sym e) ∙ rw (answer, le-ltb r to h))

-- ---- what is known of the stored words of a group

module _ {bytes index : List ℕ} (sp : SpellsWords bytes index) (l : WordList) (b : ℕ) (k : ℕ) (a : (group_at index l b).from ≤ k) (h : k < (group_at index l b).to) where
  good_stored : T (good b (length (words_of l)) (stored_at bytes index k))
  good_stored =
      good_at bytes index b (length (words_of l)) ((group_at index l b).to - (group_at index l b).from) (group_at index l b).from
      (subst (λ (xs : List Placed). T (all_good b (length (words_of l)) xs)) (sym (sp.spells l b)) (grouped_good b (length (words_of l)) (words_of l) 0 (omega arith) (ranged_list l)))
      k a (omega arith)

  capital_stored : T (raised (word_of bytes index k))
  unfolding good
  capital_stored = and_left (raised (word_of bytes index k)) _ good_stored

  rest_stored : T (eqb (initial (word_of bytes index k)) b && (between 32 95 (initial (word_of bytes index k)) && ltb (get_or index (362 + k) 0) (length (words_of l))))
  unfolding good
  rest_stored = and_right (raised (word_of bytes index k)) _ good_stored

  pub place_stored : get_or index (362 + k) 0 < length (words_of l)
  place_stored =
      ltb→lt _ _ (and_right (between 32 95 (initial (word_of bytes index k))) _ (and_right (eqb (initial (word_of bytes index k)) b) _ rest_stored))

  pub ready_stored : (t : List ℕ) → b ≡ initial t → Ready (word_of bytes index k) t 1
  ready_stored t e =
      ready_word (word_of bytes index k) t capital_stored (eqb→eq _ _ (and_left (eqb (initial (word_of bytes index k)) b) _ rest_stored) ∙ e)
      (and_left (between 32 95 (initial (word_of bytes index k))) _ (and_right (eqb (initial (word_of bytes index k)) b) _ rest_stored))

  pub held_stored : Held bytes index k
  held_stored = record {
    token = omega (arith, sp.bytes_long, sp.end l b);
    place = omega (arith, sp.index_long, sp.end l b);
    lies = sp.lie k (omega (arith, sp.end l b));
  }

-- a group, from a place of it on, is stored as it must be for the text of which it is the group
pub part_stored : (text : List ℕ) {bytes index : List ℕ} (l : WordList) (from : ℕ) → (group_at index l (initial text)).from ≤ from → from ≤ (group_at index l (initial text)).to
    → SpellsWords bytes index → Stored text bytes index (record { from = from; to = (group_at index l (initial text)).to }) 1
part_stored text l from a b sp = record {
  up = b;
  lie = λ k c h. sp.lie k (omega (arith, sp.end l (initial text)));
  ready = λ k c h. ready_stored sp l (initial text) k (omega arith) h text refl;
}

-- ---- the look-up of a group

initial_first : (t : List ℕ) {b : ℕ} → b ≡ get_or t 0 b → 0 < length t → initial t ≡ upper b
unfolding initial
initial_first [] e h = absurd (omega arith)
initial_first (x ∷ t) e h = ap upper (sym e)

pub group_empty : (t index : List ℕ) (l : WordList) → length t ≤ 0 → record { from = 0; to = 0 } ≡ group_at index l (initial t)
unfolding group_at initial
group_empty [] index l h = refl
group_empty (b ∷ t) index l h = absurd (omega arith)

module _ (t index : List ℕ) (l : WordList) {u b : ℕ} {r : Bool} where
  pub group_outside : not r ≡ true → r ≡ between 32 95 u → u ≡ upper b → b ≡ get_or t 0 b → 0 < length t → record { from = 0; to = 0 } ≡ group_at index l (initial t)
  unfolding group_at
  group_outside n e v s w =
      let o : between 32 95 (initial t) ≡ false = ap (between 32 95) (initial_first t s w ∙ sym v) ∙ sym e ∙ not-true r n in
      rw (group_at, o)

  pub group_inside : {x : Section} {g w : ℕ} → x ≡ record { from = get_or index (g + w) 0; to = get_or index (g + w + 1) 0 } → w ≡ u - 32 → g ≡ groups_of l → not r ≡ false
      → r ≡ between 32 95 u → u ≡ upper b → b ≡ get_or t 0 b → 0 < length t → x ≡ group_at index l (initial t)
  unfolding group_at
  group_inside q d k n e v s some =
      let i : initial t ≡ u = initial_first t s some ∙ sym v in
      let o : between 32 95 (initial t) ≡ true = ap (between 32 95) i ∙ sym e ∙ not-false r n in
      q ∙ rw (d, k, group_at, o, i)

module _ (u : ℕ) {r : Bool} where
  pub group_low : not r ≡ false → r ≡ between 32 95 u → 32 ≤ u
  group_low n e = (between_in 32 95 u (sym e ∙ not-false r n)).0

  pub group_fits : (l : WordList) {g w : ℕ} → w ≡ u - 32 → g ≡ groups_of l → not r ≡ false → r ≡ between 32 95 u → Fits w64 (g + w)
  group_fits l d k n e = record { fits = omega (arith, groups_within l, between_in 32 95 u (sym e ∙ not-false r n)) }

  pub group_within : (l : WordList) (index : List ℕ) {g w : ℕ} → w ≡ u - 32 → g ≡ groups_of l → not r ≡ false → r ≡ between 32 95 u → 1044 ≤ length index → g + w + 1 < length index
  group_within l index d k n e s = omega (arith, groups_within l, between_in 32 95 u (sym e ∙ not-false r n))

pub section_read : (index : List ℕ) (at : ℕ) {from to : ℕ} → from ≡ get_or index at 0 → to ≡ get_or index (at + 1) 0
    → ◌≡◌ {A = Section} (record { from = from; to = to }) (record { from = get_or index at 0; to = get_or index (at + 1) 0 })
section_read index at e f = rw (e, f)

pub found_read : (bytes index : List ℕ) (i : ℕ) {place : ℕ} {word : List ℕ} → place ≡ get_or index (362 + i) 0 → word ≡ word_of bytes index i
    → ◌≡◌ {A = Option Match} (Some (record { index = place; used = length word; token = get_or bytes (1727 + i) 0 })) (word_found bytes index i)
found_read bytes index i e f = rw (e, f)

-- ---- `match_in`

pub match_stored : (text : List ℕ) {bytes index : List ℕ} (l : WordList) {s : Section} → s ≡ group_at index l (initial text) → SpellsWords bytes index → Stored text bytes index s 1
match_stored text {index = index} l e sp = rw e (part_stored text l (group_at index l (initial text)).from (omega arith) (sp.up l (initial text)) sp)

module _ (test : Test) (text bytes index : List ℕ) (l : WordList) {s : Section} where
  module _ {i : ℕ} where
    pub match_held : i < s.to → i ≡ first_from (passes_at test text bytes index) s.from (s.to - s.from) → s ≡ group_at index l (initial text) → SpellsWords bytes index
        → Held bytes index i
    match_held h f e sp =
        let up : s.from ≤ i = rw f (first_from_lem (passes_at test text bytes index) s.from (s.to - s.from)) in
        held_stored sp l (initial text) i (rw e at up) (rw e at h)

    pub match_found : {r : Option Match} → r ≡ word_found bytes index i → i < s.to → i ≡ first_from (passes_at test text bytes index) s.from (s.to - s.from)
        → s ≡ group_at index l (initial text) → SpellsWords bytes index → r ≡ match_in test (capitals (words_of l)) text
    unfolding passes_at
    match_found q h f e sp =
        q ∙ found_stored (λ k w. passes test w text) (initial text) (confined_test test text) bytes index sp l (rw e at f) (rw e at h)

    pub match_none : s.to ≤ i → i ≡ first_from (passes_at test text bytes index) s.from (s.to - s.from)
        → s ≡ group_at index l (initial text) → SpellsWords bytes index → None ≡ match_in test (capitals (words_of l)) text
    unfolding passes_at
    match_none h f e sp = none_stored (λ k w. passes test w text) (initial text) (confined_test test text) bytes index sp l (rw e at f) (rw e at h)

-- ---- a list and its capitals

-- a test of places and words that sees no difference between small letters and capitals finds the same
module _ (p : ℕ → List ℕ → Bool) (blind : (k : ℕ) (w : List ℕ) → p k (map upper w) ≡ p k w) where
  pub first_capitals : (es : List Entry) (k : ℕ) → first_that p (capitals es) k ≡ first_that p es k
  unfolding first_that capitals
  first_capitals [] k = refl
  first_capitals (e ∷ es) k =
      go (p k (map upper e.word)) (p k e.word) (blind k e.word) (length (map upper e.word)) (length-map e.word upper) (first_capitals es (suc k))
    where
      go : (q r : Bool) → q ≡ r → (n : ℕ) → n ≡ length e.word → first_that p (capitals es) (suc k) ≡ first_that p es (suc k)
          → ◌≡◌ {A = Option Match} (elim q [ true ↦ Some (record { index = k; used = n; token = e.token }) | false ↦ first_that p (capitals es) (suc k) ])
          (elim r [ true ↦ Some (record { index = k; used = length e.word; token = e.token }) | false ↦ first_that p es (suc k) ])
      go true true u n v h = rw v
      go true false u n v h = absurd (false≢true (sym u))
      go false true u n v h = absurd (false≢true u)
      go false false u n v h = h

module _ (l : WordList) (t : List ℕ) {r : Option Match} where
  pub word_found_lem : r ≡ match_in Begins (capitals (words_of l)) t → r ≡ word_in (words_of l) t
  unfolding word_in passes
  word_found_lem e = e ∙ first_capitals (λ k w. passes Begins w t) (λ k w. raise_begins w t) (words_of l) 0

  pub name_found : r ≡ match_in Alike (capitals (words_of l)) t → r ≡ name_in (words_of l) t
  unfolding name_in passes
  name_found e = e ∙ first_capitals (λ k w. passes Alike w t) (λ k w. raise_alike w t) (words_of l) 0
