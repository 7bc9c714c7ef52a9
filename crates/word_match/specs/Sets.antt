-- The TSB words that are live, and those that are demoted (document 01, "Guessing the dialect": "Tsb makes every TSB word live, BasicV2
-- none. Auto makes none live unless `tsb_statement_evidence` holds; then words found by `tsb_words_used_as_variables` are demoted and
-- the others live"; "Crunching one body": "a live TSB word, unless a demoted word also matches there"); and the words that are looked
-- for where no TSB word is (document 02, No. 5: "at each place the longest match over its list and the V2 list is taken").
-- Assumes nothing.
use Rattle.std.specs.Prelude.{ℕ, Bool, false, not, cond, ◌&&◌, List, ◌++◌, get_or}
use Rattle.word_search.specs.Find.{Entry, word_in, among_in}
use Rattle.word_search.specs.declared.Match.{Match}
use Rattle.std.specs.Prelude.{Option, Some, None}
use Rattle.word_match.specs.declared.sets.Sets.{Sets}

-- the word at a place of the list is demoted
unfoldable pub is_demoted : Sets → ℕ → Bool
is_demoted s k = get_or s.demoted k false

-- the word at a place is live: where any is, in every dialect, each is that is not demoted
unfoldable pub is_live : Sets → ℕ → Bool
unfolding is_demoted
is_live s k = s.tsb && not (is_demoted s k)

-- the live word that the text begins with, unless a demoted one also matches there
unfoldable pub live_word : Sets → List Entry → List ℕ → Option Match
unfolding among_in is_demoted is_live
live_word s es t = elim (among_in (is_demoted s) es t) [ Some m ↦ None | None ↦ among_in (is_live s) es t ]

-- the V2 words, and under BASIC 3.5 its own behind them
abbrev pub plain_words : Sets → List Entry → List Entry → List Entry
plain_words s v2 own = cond s.basic35 (v2 ++ own) v2

-- the word of these that the text begins with: the first, which is the longest (`plain_longest`, proofs/Both.antt)
unfoldable pub plain_word : Sets → List Entry → List Entry → List ℕ → Option Match
unfolding word_in
plain_word s v2 own t = word_in (plain_words s v2 own) t

-- the same words, with or without short forms (document 02, No. 7)
abbrev pub with_forms : Bool → Sets → Sets
with_forms on s = record { tsb = s.tsb; demoted = s.demoted; basic35 = s.basic35; forms = on }
