-- The two tables of words as the lists give them, for the helpers that hand them out and for no promise of a public call (document 02,
-- No. 11: "grouped by first byte, keeping the old order within a group").
-- Assumes nothing.
use Rattle.std.specs.Prelude.{ℕ, zero, suc, List, [], ◌∷◌, ◌++◌, map}
use Rattle.word_search.specs.Find.{Entry}
use Rattle.word_search.specs.RunHelpers.{joined, starts}
use Rattle.word_tables.specs.Rom.{v2_words, operators}
use Rattle.word_tables.specs.Tsb.{tsb_words}
use Rattle.word_tables.specs.Escapes.{escape_names}
use Rattle.word_tables.specs.Basic35.{basic35_words}
use Rattle.word_tables.specs.WordsHelpers.{Placed, capitals, grouped, words_of}
use Rattle.word_tables.specs.declared.WordList.{WordList}
use Rattle.word_tables.specs.declared.WordList.TheVariants.{V2, Operators, Tsb, Escapes, Basic35}

-- ---- groups of words as two tables

module _ (gs : List (List Placed)) where
  abbrev pub spelt : List (List ℕ)
  spelt = map (λ x. x.word) (joined gs)

  abbrev pub tokens : List ℕ
  tokens = map (λ x. x.token) (joined gs)

  abbrev pub places : List ℕ
  places = map (λ x. x.place) (joined gs)

  -- the words, and behind them their tokens
  unfoldable pub bytes_laid : List ℕ
  unfolding joined
  bytes_laid = joined spelt ++ tokens

  -- the starts of the words, their places in the lists, the starts of the groups
  unfoldable pub index_laid : List ℕ
  unfolding joined starts
  index_laid = starts 0 spelt ++ (places ++ starts 0 gs)

-- ---- the groups of the lists

-- the groups of a list's words, n of them, from byte b on
unfoldable pub groups_from : ℕ → ℕ → List Entry → List (List Placed)
unfolding grouped
groups_from b zero es = []
groups_from b (suc n) es = grouped b 0 es ∷ groups_from (suc b) n es

-- the groups of some lists, one list behind the other
abbrev pub groups_in : List WordList → List (List Placed)
groups_in [] = []
groups_in (l ∷ ls) = groups_from 32 64 (capitals (words_of l)) ++ groups_in ls

abbrev pub lists : List WordList
lists = V2 ∷ Operators ∷ Tsb ∷ Escapes ∷ Basic35 ∷ []

abbrev pub all_groups : List (List Placed)
all_groups = groups_in lists

-- ---- the tables

unfoldable pub word_bytes : List ℕ
unfolding bytes_laid groups_from capitals v2_words operators tsb_words escape_names basic35_words
word_bytes = bytes_laid all_groups

unfoldable pub word_index : List ℕ
unfolding index_laid groups_from capitals v2_words operators tsb_words escape_names basic35_words
word_index = index_laid all_groups
