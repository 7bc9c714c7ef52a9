-- For the helpers that are lent the words of listing, and for no promise of a public call: the words, apart from digits, which are worked out; and
-- what makes the two tables these words.
-- Assumes nothing.
use Rattle.std.specs.Prelude.{ℕ, ◌+◌, ◌-◌, ◌<◌, ◌≡◌, cond, List, [], ◌∷◌, ltb, get_or}
use Rattle.base_ascii.specs.Bytes.{between}
use Rattle.word_search.specs.RunHelpers.{Lies, word_of}
use Rattle.word_tables.specs.Basic35.{basic35_spellings}
use Rattle.list_texts.specs.Texts.{braced, text_of}

-- the text of a byte, empty where that is its digits
unfoldable pub listed_word : ℕ → List ℕ
unfolding between text_of
listed_word k = cond (between 0xCC 0xFE k) [] (text_of k)

-- the same under BASIC 3.5
unfoldable pub listed_word35 : ℕ → List ℕ
unfolding between basic35_spellings listed_word
listed_word35 k = cond (between 0xCC 0xFD k) (get_or basic35_spellings (k - 0xCC) []) (listed_word k)

-- the text of a byte that has this word: from CC on, its digits where it has none
abbrev pub or_digits : ℕ → List ℕ → List ℕ
or_digits k [] = cond (ltb k 0xCC) [] (braced k)
or_digits k (x ∷ word) = x ∷ word

-- a run of bytes and its starts spell the words
pub record SpellsTexts (bytes starts : List ℕ) : Type 0 where
  pub lies : (k : ℕ) → k < 306 → Lies bytes starts k
  pub spells : (k : ℕ) → k < 256 → word_of bytes starts k ≡ listed_word k
  pub spells35 : (k : ℕ) → k < 50 → word_of bytes starts (256 + k) ≡ get_or basic35_spellings k []
