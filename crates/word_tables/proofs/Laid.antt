-- The two tables of words as the lists give them spell the lists. So the stored constants do, which are these tables.
-- Assumes nothing.
use Prim.Native.Nat.{ℕ, zero, suc, ◌+◌, ◌-◌, ◌*◌, ◌≤◌, ◌<◌}
use mathlib.Core.Path.{◌≡◌, refl, sym, ap, ◌∙◌}
use mathlib.Core.Bool.{Bool, true, false}
use mathlib.Core.List.{List, [], ◌∷◌, ◌++◌}
use native.Mathlib.Nat.{le_of_suc-le-suc}
use native.Mathlib.Omega.{arith}
use lib.ListN.{length, get_or, take, drop, length-append, length-map, get_or-append, get_or-map}
use lib.Seq.{drop-cons, get_or-append-add}
use Rattle.base_ascii.specs.Bytes.{between}
use Rattle.base_ascii.proofs.Ranges.{between_in}
use Rattle.word_search.specs.Find.{Entry}
use Rattle.word_search.specs.RunHelpers.{Lies, joined, starts, word_of}
use Rattle.word_search.proofs.Runs.{length_starts, part, run_lies, run_word}
use Rattle.word_tables.specs.WordsHelpers.{Placed, capitals, grouped, stored_words, groups_of, group_at, words_of, SpellsWords}
use Rattle.word_tables.specs.StoredHelpers.{spelt, tokens, places, bytes_laid, index_laid, groups_from, groups_in, lists, all_groups}
use Rattle.word_tables.specs.declared.WordList.{WordList}
use Rattle.word_tables.specs.declared.WordList.TheVariants.{V2, Operators, Tsb, Escapes, Basic35}
use Rattle.word_tables.proofs.Ranged.{none_grouped, ranged_list, groups_within}
unfoldable pub use Rattle.word_tables.specs.StoredHelpers.{word_bytes, word_index}

-- ---- groups of words as two tables

module _ (gs : List (List Placed)) where
  -- 361 words of 1727 bytes in 320 groups
  module _ (many : length (joined gs) ≡ 361) (long : length (joined (spelt gs)) ≡ 1727) (all : length gs ≡ 320) where
    spelt_many : length (spelt gs) ≡ 361
    spelt_many = length-map (joined gs) (λ x. x.word) ∙ many

    places_many : length (places gs) ≡ 361
    places_many = length-map (joined gs) (λ x. x.place) ∙ many

    starts_many : length (starts 0 (spelt gs)) ≡ 362
    starts_many = length_starts 0 (spelt gs) ∙ ap (λ (n : ℕ). n + 1) spelt_many

    pub bytes_long_lem : 2088 ≤ length (bytes_laid gs)
    unfolding bytes_laid
    bytes_long_lem = omega (arith, length-append (joined (spelt gs)) (tokens gs), long, length-map (joined gs) (λ x. x.token), many)

    pub index_long_lem : 1044 ≤ length (index_laid gs)
    unfolding index_laid
    index_long_lem =
        omega (arith, length-append (starts 0 (spelt gs)) ((places gs) ++ starts 0 gs), length-append (places gs) (starts 0 gs), starts_many, places_many, length_starts 0 gs, all)

    pub words_lie : (k : ℕ) → k < 361 → Lies (bytes_laid gs) (index_laid gs) k
    unfolding bytes_laid index_laid
    words_lie k h = run_lies (spelt gs) (tokens gs) ((places gs) ++ starts 0 gs) k (omega (arith, spelt_many))

    no_word : Placed
    no_word = record { place = 0; word = []; token = 0 }

    module _ (i : ℕ) (h : i < 361) where
      word_is : word_of (bytes_laid gs) (index_laid gs) i ≡ (get_or (joined gs) i no_word).word
      unfolding bytes_laid index_laid no_word
      word_is = run_word (spelt gs) (tokens gs) ((places gs) ++ starts 0 gs) i (omega (arith, spelt_many)) ∙ get_or-map (λ x. x.word) (joined gs) i no_word

      token_is : get_or (bytes_laid gs) (1727 + i) 0 ≡ (get_or (joined gs) i no_word).token
      unfolding bytes_laid no_word
      token_is = rw (← long) (get_or-append-add (joined (spelt gs)) (tokens gs) i 0) ∙ get_or-map (λ x. x.token) (joined gs) i no_word

      place_is : get_or (index_laid gs) (362 + i) 0 ≡ (get_or (joined gs) i no_word).place
      unfolding index_laid no_word
      place_is =
          rw (← starts_many) (get_or-append-add (starts 0 (spelt gs)) ((places gs) ++ starts 0 gs) i 0)
          ∙ get_or-append (places gs) (starts 0 gs) 0 i (omega (arith, places_many)) ∙ get_or-map (λ x. x.place) (joined gs) i no_word

    stored_is : (n i : ℕ) → i + n ≤ 361 → stored_words (bytes_laid gs) (index_laid gs) i n ≡ take n (drop i (joined gs))
    unfolding stored_words
    stored_is zero i h = refl
    stored_is (suc n) i h =
        let l : i < 361 = omega arith in
        let rest : stored_words (bytes_laid gs) (index_laid gs) (suc i) n ≡ take n (drop (suc i) (joined gs)) = stored_is n (suc i) (omega arith) in
        let d : drop i (joined gs) ≡ get_or (joined gs) i no_word ∷ drop (suc i) (joined gs) = drop-cons (joined gs) i no_word (omega (arith, many)) in
        rw (d, word_is i l, token_is i l, place_is i l, rest)

    start_is : (m : ℕ) {n : ℕ} → n ≡ 723 + m → get_or (index_laid gs) n 0 ≡ get_or (starts 0 gs) m 0
    unfolding index_laid
    start_is m {n} e =
        let f : n ≡ length (starts 0 (spelt gs)) + (length (places gs) + m) = omega (arith, starts_many, places_many) in
        ap (λ (k : ℕ). get_or (index_laid gs) k 0) f ∙ get_or-append-add (starts 0 (spelt gs)) ((places gs) ++ starts 0 gs) (length (places gs) + m) 0 ∙ get_or-append-add (places gs) (starts 0 gs) m 0

    -- group m lies between two starts that stand side by side in the index
    pub record Lying (m from to : ℕ) : Type 0 where
      pub up : from ≤ to
      pub end : to ≤ 361
      pub is : stored_words (bytes_laid gs) (index_laid gs) from (to - from) ≡ get_or gs m []

    pub lying : (m n : ℕ) → m < 320 → n ≡ 723 + m → Lying m (get_or (index_laid gs) n 0) (get_or (index_laid gs) (n + 1) 0)
    lying m n h e =
        let p = part 0 gs m (omega (arith, all)) in
        let s : ℕ = get_or (starts 0 gs) m 0 in
        let c : ℕ = length (get_or gs m []) in
        let from : get_or (index_laid gs) n 0 ≡ s = start_is m e in
        let to : get_or (index_laid gs) (n + 1) 0 ≡ s + c = start_is (suc m) (omega arith) ∙ p.next in
        let long : s + c - s ≡ c = omega arith in
        let z : s - 0 ≡ s = omega arith in
        rw (from, to) (record {
          up = omega arith;
          end = omega (arith, p.next, p.high, many);
          is = rw long (stored_is c s (omega (arith, p.next, p.high, many)) ∙ (rw z at p.here));
        })

-- ---- the groups of the lists

group_from : (es : List Entry) (n b i : ℕ) {c : ℕ} → c ≡ b + i → i < n → get_or (groups_from b n es) i [] ≡ grouped c 0 es
unfolding groups_from
group_from es zero b i e h = absurd (omega arith)
group_from es (suc n) b zero {c} e h = let z : c ≡ b = omega arith in rw z
group_from es (suc n) b (suc i) e h = group_from es n (suc b) i (omega arith) (le_of_suc-le-suc h)

groups_many : (es : List Entry) (n b : ℕ) → length (groups_from b n es) ≡ n
unfolding groups_from
groups_many es zero b = refl
groups_many es (suc n) b = ap suc (groups_many es n (suc b))

-- group i of list j of them
group_in : (ls : List WordList) (j i m : ℕ) → m ≡ 64 * j + i → i < 64 → j < length ls → get_or (groups_in ls) m [] ≡ get_or (groups_from 32 64 (capitals (words_of (get_or ls j V2)))) i []
group_in [] j i m e h k = absurd (omega arith)
group_in (l ∷ ls) zero i m e h k =
    let gs : List (List Placed) = groups_from 32 64 (capitals (words_of l)) in
    let f : m ≡ i = omega arith in
    ap (λ (n : ℕ). get_or (gs ++ groups_in ls) n []) f ∙ get_or-append gs (groups_in ls) [] i (omega (arith, groups_many (capitals (words_of l)) 64 32))
group_in (l ∷ ls) (suc j) i m e h k =
    let gs : List (List Placed) = groups_from 32 64 (capitals (words_of l)) in
    let f : m ≡ length gs + (64 * j + i) = omega (arith, groups_many (capitals (words_of l)) 64 32) in
    ap (λ (n : ℕ). get_or (gs ++ groups_in ls) n []) f ∙ get_or-append-add gs (groups_in ls) (64 * j + i) [] ∙ group_in ls j i (64 * j + i) refl h (le_of_suc-le-suc k)

-- group i of a list is group m of all
among_all : (l : WordList) (i m : ℕ) → i < 64 → 723 + m ≡ groups_of l + i → get_or all_groups m [] ≡ get_or (groups_from 32 64 (capitals (words_of l))) i []
among_all V2 i m h e = group_in lists 0 i m (omega arith) h (omega arith)
among_all Operators i m h e = group_in lists 1 i m (omega arith) h (omega arith)
among_all Tsb i m h e = group_in lists 2 i m (omega arith) h (omega arith)
among_all Escapes i m h e = group_in lists 3 i m (omega arith) h (omega arith)
among_all Basic35 i m h e = group_in lists 4 i m (omega arith) h (omega arith)

-- ---- the tables

many : length (joined all_groups) ≡ 361
unfolding word_bytes
many = refl

long : length (joined (spelt all_groups)) ≡ 1727
unfolding word_bytes
long = refl

all : length all_groups ≡ 320
unfolding word_bytes
all = refl

record Group (l : WordList) (b : ℕ) : Type 0 where
  pub up : (group_at (index_laid all_groups) l b).from ≤ (group_at (index_laid all_groups) l b).to
  pub end : (group_at (index_laid all_groups) l b).to ≤ 361
  pub spells : stored_words (bytes_laid all_groups) (index_laid all_groups) (group_at (index_laid all_groups) l b).from ((group_at (index_laid all_groups) l b).to - (group_at (index_laid all_groups) l b).from)
      ≡ grouped b 0 (capitals (words_of l))

each_group : (l : WordList) (b : ℕ) → Group l b
unfolding group_at stored_words
each_group l b = go (between 32 95 b) refl
  where
    go : (r : Bool) → between 32 95 b ≡ r → Group l b
    go false e = record {
      up = rw (group_at, e) (omega arith);
      end = rw (group_at, e) (omega arith);
      spells = rw (group_at, e) (sym (none_grouped b e (capitals (words_of l)) 0 (ranged_list l)));
    }
    go true e =
        let w = between_in 32 95 b e in
        let m : ℕ = groups_of l + (b - 32) - 723 in
        let g = lying all_groups many long all m (groups_of l + (b - 32)) (omega (arith, w, groups_within l)) (omega (arith, groups_within l)) in
        record {
          up = rw (group_at, e) g.up;
          end = rw (group_at, e) g.end;
          spells = rw (group_at, e)
              (g.is ∙ among_all l (b - 32) m (omega (arith, w)) (omega (arith, groups_within l)) ∙ group_from (capitals (words_of l)) 64 32 (b - 32) (omega (arith, w)) (omega (arith, w)));
        }

laid : SpellsWords word_bytes word_index
unfolding word_bytes word_index
laid = record {
  bytes_long = bytes_long_lem all_groups many long all;
  index_long = index_long_lem all_groups many long all;
  lie = words_lie all_groups many long all;
  up = λ l b. (each_group l b).up;
  end = λ l b. (each_group l b).end;
  spells = λ l b. (each_group l b).spells;
}

-- tables that are these spell the lists
pub words_spelt : {bytes index : List ℕ} → bytes ≡ word_bytes → index ≡ word_index → SpellsWords bytes index
words_spelt e f = rw (e, f) laid
