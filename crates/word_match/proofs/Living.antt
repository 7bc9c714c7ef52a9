-- The live word that a text begins with, by the first word that it begins with and the demoted ones among the others.
-- Assumes nothing.
use Prim.Native.Nat.{ℕ, suc, ◌+◌, ◌-◌, ◌≤◌, ◌<◌}
use mathlib.Core.Path.{◌≡◌, refl, sym, ap, ◌∙◌}
use mathlib.Core.Bool.{Bool, true, false, not, ◌&&◌, false≢true}
use mathlib.Core.List.{List, [], ◌∷◌}
use native.Mathlib.Omega.{arith}
use lib.ListN.{length, get_or}
use borrow.Author.Tests.{not-true, not-false}
use mir.Syntax.{w64}
use mir.Val.{Fits}
use Rattle.word_search.specs.Compare.{begins, passes}
use Rattle.word_search.specs.Find.{Entry, first_that, among_in}
use Rattle.word_search.specs.RunHelpers.{Stored, word_of, passes_at, first_from}
use Rattle.word_search.specs.declared.Match.{Match}
use Rattle.std.specs.Prelude.{Option, Some, None}
use Rattle.word_search.specs.declared.Section.{Section}
use Rattle.word_search.specs.declared.Test.TheVariants.{Begins}
use Rattle.word_search.proofs.Comparing.{raise_begins}
use Rattle.word_search.proofs.Search.{first_here, first_next, first_none, first_from_lem, first_to, first_passes, first_skip}
use Rattle.word_match.specs.Sets.{is_demoted, is_live, live_word}
use Rattle.word_tables.specs.Tsb.{tsb_words}
use Rattle.word_tables.specs.WordsHelpers.{SpellsWords, Held, capitals, initial, group_at, word_found}
use Rattle.word_match.specs.declared.sets.Sets.{Sets}
use Rattle.word_tables.specs.declared.WordList.TheVariants.{Tsb}
use Rattle.word_match.proofs.Groups.{confined_set}
use Rattle.word_match.proofs.Storage.{found_stored, none_stored, place_stored, held_stored, part_stored, first_capitals, match_held, match_found, match_none}

-- ---- the TSB words and their capitals

tsb_long : length tsb_words ≡ 123
unfolding tsb_words
tsb_long = refl

among_capitals : (set : ℕ → Bool) (t : List ℕ) → first_that (λ k w. set k && begins w t) (capitals tsb_words) 0 ≡ among_in set tsb_words t
unfolding among_in
among_capitals set t = first_capitals (λ k w. set k && begins w t) (λ k w. ap (λ (r : Bool). set k && r) (raise_begins w t)) tsb_words 0

begun_capitals : (t : List ℕ) → first_that (λ k w. passes Begins w t) (capitals tsb_words) 0 ≡ first_that (λ k w. passes Begins w t) tsb_words 0
unfolding passes
begun_capitals t = first_capitals (λ k w. passes Begins w t) (λ k w. raise_begins w t) tsb_words 0

-- ---- over a list

module _ (s : Sets) (t : List ℕ) where
  -- where TSB words are not live, none is
  dead : s.tsb ≡ false → (es : List Entry) (k : ℕ) → first_that (λ k w. is_live s k && begins w t) es k ≡ None
  unfolding first_that is_live
  dead e [] k = refl
  dead e (x ∷ es) k = rw (first_that, is_live, e) (dead e es (suc k))

  pub live_dead : not s.tsb ≡ true → (es : List Entry) → None ≡ live_word s es t
  unfolding live_word among_in
  live_dead e es = go (among_in (is_demoted s) es t)
    where
      go : (m : Option Match) → ◌≡◌ {A = Option Match} None (elim m [ Some m ↦ None | None ↦ among_in (is_live s) es t ])
      go (Some w) = refl
      go None = sym (dead (not-true _ e) es 0)

  -- where no demoted word matches, each word that matches is live
  alive : s.tsb ≡ true → (es : List Entry) (k : ℕ) → None ≡ first_that (λ k w. is_demoted s k && begins w t) es k
      → first_that (λ k w. passes Begins w t) es k ≡ first_that (λ k w. is_live s k && begins w t) es k
  unfolding first_that is_live passes
  alive e [] k n = refl
  alive e (x ∷ es) k n = go s.tsb e (is_demoted s k) (begins x.word t) n (alive e es (suc k))
    where
      go : (a : Bool) → a ≡ true → (d b : Bool) → ◌≡◌ {A = Option Match} None (elim (d && b) [ true ↦ Some (record { index = k; used = length x.word; token = x.token }) | false ↦ first_that (λ k w. is_demoted s k && begins w t) es (suc k) ])
          → (None ≡ first_that (λ k w. is_demoted s k && begins w t) es (suc k) → first_that (λ k w. passes Begins w t) es (suc k) ≡ first_that (λ k w. is_live s k && begins w t) es (suc k))
          → ◌≡◌ {A = Option Match} (elim b [ true ↦ Some (record { index = k; used = length x.word; token = x.token }) | false ↦ first_that (λ k w. passes Begins w t) es (suc k) ])
          (elim ((a && not d) && b) [ true ↦ Some (record { index = k; used = length x.word; token = x.token }) | false ↦ first_that (λ k w. is_live s k && begins w t) es (suc k) ])
      go false u d b q f = absurd (false≢true u)
      go true u true true q f = let z : ◌≡◌ {A = ℕ} 0 1 = cc in absurd (omega arith)
      go true u true false q f = f q
      go true u false true q f = refl
      go true u false false q f = f q

  live_found : (es : List Entry) {m : Option Match} → not s.tsb ≡ false → None ≡ among_in (is_demoted s) es t → m ≡ first_that (λ k w. passes Begins w t) es 0 → m ≡ live_word s es t
  unfolding live_word among_in
  live_found es e n q = q ∙ alive (not-false _ e) es 0 n ∙ rw (live_word, sym n)

  live_demoted : (es : List Entry) {m : Match} → Some m ≡ among_in (is_demoted s) es t → None ≡ live_word s es t
  unfolding live_word
  live_demoted es q = rw (live_word, sym q)

-- ---- over the stored words of a group

module _ (s : Sets) (t bytes index : List ℕ) where
  abbrev pub g : Section
  g = group_at index Tsb (initial t)

  -- stored word j is demoted, and the text begins with it
  unfoldable pub demoted_at : ℕ → Bool
  demoted_at j = is_demoted s (get_or index (362 + j) 0) && begins (word_of bytes index j) t

  and_off : (a b : Bool) → b ≡ false → (a && b) ≡ false
  and_off true b e = e
  and_off false b e = refl

  stricter : (k : ℕ) → passes_at Begins t bytes index k ≡ false → demoted_at k ≡ false
  unfolding demoted_at passes_at passes
  stricter k e = and_off (is_demoted s (get_or index (362 + k) 0)) _ e

  -- i is a place that the text begins with, or the end; among those before it none is demoted
  pub record Living (i : ℕ) : Type 0 where
    pub up : g.from ≤ i
    pub within : i ≤ g.to
    pub here : i < g.to → passes_at Begins t bytes index i ≡ true
    pub gives : first_from demoted_at i (g.to - i) ≡ first_from demoted_at g.from (g.to - g.from)

  -- the next such place, from k on
  next : (k j : ℕ) → g.from ≤ k → k ≤ g.to → j ≡ first_from (passes_at Begins t bytes index) k (g.to - k)
      → first_from demoted_at k (g.to - k) ≡ first_from demoted_at g.from (g.to - g.from) → Living j
  next k j a b e f =
      let low : k ≤ j = rw e (first_from_lem (passes_at Begins t bytes index) k (g.to - k)) in
      let high : j ≤ k + (g.to - k) = rw e (first_to (passes_at Begins t bytes index) k (g.to - k)) in
      let end : k + (g.to - k) ≡ g.to = omega arith in
      record {
        up = omega arith;
        within = omega arith;
        here = λ l. rw e (first_passes (passes_at Begins t bytes index) k (g.to - k) (omega (arith, rw e at l)));
        gives = sym (first_skip (passes_at Begins t bytes index) demoted_at stricter k (g.to - k) ∙ rw (← e, end)) ∙ f;
      }

  pub living_start : {x : Section} {j : ℕ} → j ≡ first_from (passes_at Begins t bytes index) x.from (x.to - x.from) → x ≡ group_at index Tsb (initial t) → SpellsWords bytes index → Living j
  living_start e q sp = next g.from _ (omega arith) (sp.up Tsb (initial t)) (rw q at e) refl

  module _ {x : Section} {i : ℕ} where
    pub living_turn : {j k : ℕ} → get_or s.demoted k false ≡ false → k ≡ get_or index (362 + i) 0 → j ≡ first_from (passes_at Begins t bytes index) (i + 1) (x.to - (i + 1))
        → i < x.to → x ≡ group_at index Tsb (initial t) → Living i → Living j
    unfolding demoted_at is_demoted
    living_turn d p e h q v =
        let l : i < g.to = rw q at h in
        next (i + 1) _ (omega (arith, v.up)) (omega arith) (rw q at e) (sym (first_next demoted_at i g.to l (rw (← p, d))) ∙ v.gives)

    pub living_demoted : {k : ℕ} → get_or s.demoted k false ≡ true → k ≡ get_or index (362 + i) 0 → i < x.to → x ≡ group_at index Tsb (initial t) → Living i → SpellsWords bytes index
        → None ≡ live_word s tsb_words t
    unfolding demoted_at is_demoted passes_at passes
    living_demoted d p h q v sp =
        let l : i < g.to = rw q at h in
        let at : demoted_at i ≡ true = rw (← p, d) (v.here l) in
        live_demoted s t tsb_words
        (found_stored (λ k w. is_demoted s k && begins w t) (initial t) (confined_set (is_demoted s) t) bytes index sp Tsb
        (sym (first_here demoted_at i g.to l at) ∙ v.gives) l ∙ among_capitals (is_demoted s) t)

    pub living_stored : i < x.to → x ≡ group_at index Tsb (initial t) → Living i → SpellsWords bytes index → Stored t bytes index (record { from = i + 1; to = x.to }) 1
    living_stored h q v sp = let l : i < g.to = rw q at h in rw q (part_stored t Tsb (i + 1) (omega (arith, v.up)) (omega arith) sp)

    held : i < x.to → x ≡ group_at index Tsb (initial t) → g.from ≤ i → SpellsWords bytes index → Held bytes index i
    held h q a sp = held_stored sp Tsb (initial t) i a (rw q at h)

    pub living_placed : i < x.to → x ≡ group_at index Tsb (initial t) → Living i → SpellsWords bytes index → 362 + i < length index
    living_placed h q v sp = (held h q v.up sp).place

    pub living_place : {k : ℕ} → k ≡ get_or index (362 + i) 0 → i < x.to → x ≡ group_at index Tsb (initial t) → Living i → SpellsWords bytes index → k < 123
    living_place p h q v sp = omega (arith, place_stored sp Tsb (initial t) i v.up (rw q at h), tsb_long)

    pub living_next : i < x.to → x ≡ group_at index Tsb (initial t) → SpellsWords bytes index → Fits w64 (i + 1)
    living_next h q sp = let l : i < g.to = rw q at h in record { fits = omega (arith, sp.end Tsb (initial t)) }

  pub living_less : (to : ℕ) {i j : ℕ} → j ≡ first_from (passes_at Begins t bytes index) (i + 1) (to - (i + 1)) → i < to → to - j < to - i
  living_less to {i} {j} e h = let low : i + 1 ≤ j = rw e (first_from_lem (passes_at Begins t bytes index) (i + 1) (to - (i + 1))) in omega arith

  pub first_held : {x : Section} {first : ℕ} → first < x.to → first ≡ first_from (passes_at Begins t bytes index) x.from (x.to - x.from) → x ≡ group_at index Tsb (initial t)
      → SpellsWords bytes index → Held bytes index first
  first_held h f q sp = match_held Begins t bytes index Tsb h f q sp

  -- behind the last such place
  module _ {x : Section} {i : ℕ} (h : x.to ≤ i) (q : x ≡ group_at index Tsb (initial t)) (v : Living i) (e : not s.tsb ≡ false) (sp : SpellsWords bytes index) where
    end : {m : Option Match} → m ≡ first_that (λ k w. passes Begins w t) (capitals tsb_words) 0 → m ≡ live_word s tsb_words t
    unfolding demoted_at
    end m =
        let l : g.to ≤ i = rw q at h in
        live_found s t tsb_words e
        (none_stored (λ k w. is_demoted s k && begins w t) (initial t) (confined_set (is_demoted s) t) bytes index sp Tsb
        (sym (first_none demoted_at _ g.to l) ∙ v.gives) l ∙ among_capitals (is_demoted s) t)
        (m ∙ begun_capitals t)

    pub living_word : {m : Option Match} {first : ℕ} → m ≡ word_found bytes index first → first < x.to → first ≡ first_from (passes_at Begins t bytes index) x.from (x.to - x.from) → m ≡ live_word s tsb_words t
    living_word m l f = end (match_found Begins t bytes index Tsb m l f q sp)

    pub living_none : {first : ℕ} → x.to ≤ first → first ≡ first_from (passes_at Begins t bytes index) x.from (x.to - x.from) → None ≡ live_word s tsb_words t
    living_none l f = end (match_none Begins t bytes index Tsb l f q sp)
