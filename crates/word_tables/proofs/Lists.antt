-- The V2 list, the TSB list, that of BASIC 3.5, and it together with the V2 list keep the rule that no word stands behind a beginning of
-- itself; so in each the first match is the longest (document 01, "Crunching one body"; document 02, No. 5).
-- Assumes nothing.
use Prim.Native.Nat.{ℕ}
use mathlib.Core.List.{List, ◌++◌}
use lib.Dec.{T}
use Rattle.base_ascii.specs.Bytes.{between, upper}
use Rattle.word_search.specs.Compare.{begins}
use Rattle.word_search.specs.Find.{word_in}
use Rattle.word_search.specs.Order.{begins_none, ordered, Longest}
use Rattle.word_search.proofs.Order.{longest_in}
use Rattle.word_tables.specs.Rom.{v2_words}
use Rattle.word_tables.specs.Tsb.{tsb_words}
use Rattle.word_tables.specs.Basic35.{basic35_words}

pub v2_ordered : T (ordered v2_words)
unfolding ordered begins_none begins upper between v2_words
v2_ordered = tt

pub tsb_ordered : T (ordered tsb_words)
unfolding ordered begins_none begins upper between tsb_words
tsb_ordered = tt

pub basic35_ordered : T (ordered basic35_words)
unfolding ordered begins_none begins upper between basic35_words
basic35_ordered = tt

pub both_ordered : T (ordered (v2_words ++ basic35_words))
unfolding ordered begins_none begins upper between v2_words basic35_words
both_ordered = tt

pub v2_longest : (text : List ℕ) → Longest v2_words text (word_in v2_words text)
v2_longest = longest_in v2_words v2_ordered

pub tsb_longest : (text : List ℕ) → Longest tsb_words text (word_in tsb_words text)
tsb_longest = longest_in tsb_words tsb_ordered

pub basic35_longest : (text : List ℕ) → Longest basic35_words text (word_in basic35_words text)
basic35_longest = longest_in basic35_words basic35_ordered
