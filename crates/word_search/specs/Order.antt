-- The rule of a word list: no word stands behind a beginning of itself, so that the first match is the longest
-- (document 01, "Crunching one body": "it is proved once over the V2 and the TSB list that no word stands behind a beginning of
-- itself"). The rule is a test that computes; proofs/Order.antt carries it to each two entries and to each match.
-- Assumes nothing.
use Rattle.std.specs.Prelude.{ℕ, ◌≤◌, ◌<◌, ◌≡◌, Bool, true, not, ◌&&◌, List, [], ◌∷◌, length, get_or}
use Rattle.word_search.specs.Compare.{begins}
use Rattle.word_search.specs.Find.{Entry}
use Rattle.word_search.specs.declared.Match.{Match}
use Rattle.std.specs.Prelude.{Option, Some, None}

-- the word begins none of the list's words
unfoldable pub begins_none : List ℕ → List Entry → Bool
begins_none w [] = true
begins_none w (e ∷ es) = not (begins w e.word) && begins_none w es

-- no word stands behind a beginning of itself
unfoldable pub ordered : List Entry → Bool
unfolding begins_none
ordered [] = true
ordered (e ∷ es) = begins_none e.word es && ordered es

-- the bytes of the word at a place
abbrev pub word_at : List Entry → ℕ → List ℕ
word_at es k = (get_or es k (record { word = []; token = 0 })).word

-- no word that the text begins with is longer than the one found
abbrev pub Longest : List Entry → List ℕ → Option Match → Type 0
Longest es t (Some m) = (j : ℕ) → j < length es → begins (word_at es j) t ≡ true → length (word_at es j) ≤ m.used
Longest es t None = Unit {0}
