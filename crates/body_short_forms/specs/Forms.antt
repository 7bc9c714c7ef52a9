-- Short forms of keywords (document 02, No. 7: "after no whole word in any list, demoted words too, matches at a place, one or more
-- lower-case letters followed by one capital stand for the first V2 word, in table order, that begins with these letters and is longer
-- than them").
-- Assumes nothing.
use Rattle.std.specs.Prelude.{ℕ, suc, Bool, true, false, cond, not, ◌&&◌, List, [], ltb, length, get_or, take}
use Rattle.base_ascii.specs.Bytes.{between}
use Rattle.base_ascii.specs.Search.{front}
use Rattle.word_search.specs.Compare.{shortens, passes}
use Rattle.word_search.specs.Find.{Entry, first_that, match_in, word_in}
use Rattle.word_search.specs.declared.Match.{Match}
use Rattle.std.specs.Prelude.{Option, Some, None}
use Rattle.word_search.specs.declared.Test.TheVariants.{Shortens}
use Rattle.word_match.specs.declared.sets.Sets.{Sets}

abbrev pub is_small : ℕ → Bool
is_small b = between 97 122 b

abbrev pub is_capital : ℕ → Bool
is_capital b = between 65 90 b

-- all n small letters at the front of a text, and a capital behind them; nothing where they do not stand so
abbrev pub letters_of : ℕ → List ℕ → List ℕ
letters_of n t = cond (ltb 0 n && is_capital (get_or t n 0)) (take (suc n) t) []

-- the letters at the front of a text that may be a short form
unfoldable pub form_letters : List ℕ → List ℕ
unfolding front between
form_letters t = letters_of (front is_small t) t

-- a word found, for which so many bytes stand in the text
abbrev pub stands_for : ℕ → Option Match → Option Match
stands_for n (Some m) = Some (record { index = m.index; used = n; token = m.token })
stands_for n None = None

-- the first word of a list that begins with the letters and is longer than them; the letters are used up
unfoldable pub word_for : List Entry → List ℕ → Option Match
unfolding first_that passes shortens
word_for es letters = stands_for (length letters) (match_in Shortens es letters)

-- the word that a short form at the front of a text stands for
unfoldable pub short_form : List Entry → List ℕ → Option Match
unfolding form_letters word_for
short_form es t = word_for es (form_letters t)

-- a TSB word stands at the front of the text; where TSB words are in force each counts, a demoted one too
unfoldable pub tsb_there : Sets → List Entry → List ℕ → Bool
unfolding word_in
tsb_there s tsb t = s.tsb && elim (word_in tsb t) [ Some m ↦ true | None ↦ false ]

-- the V2 word that a short form at the front of a text stands for, under the option; that no whole V2 word stands there was asked before
unfoldable pub form_word : Sets → List Entry → List Entry → List ℕ → Option Match
unfolding tsb_there short_form
form_word s tsb v2 t = cond (s.forms && not (tsb_there s tsb t)) (short_form v2 t) None
