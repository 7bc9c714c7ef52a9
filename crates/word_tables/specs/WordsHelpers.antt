-- For the helpers that are lent the two tables of words, and for no promise of a public call: what makes the tables the documents' lists,
-- grouped by first byte (document 02, No. 11: "grouped by first byte, keeping the old order within a group").
-- Assumes nothing.
use Rattle.std.specs.Prelude.{ℕ, zero, suc, ◌+◌, ◌-◌, ◌≤◌, ◌<◌, ◌≡◌, true, false, List, [], ◌∷◌, map, eqb, length, get_or}
use Rattle.base_ascii.specs.Bytes.{between, upper}
use Rattle.word_search.specs.Find.{Entry}
use Rattle.word_search.specs.RunHelpers.{Lies, word_of}
use Rattle.word_search.specs.declared.Match.{Match}
use Rattle.std.specs.Prelude.{Option, Some}
use Rattle.word_search.specs.declared.Section.{Section}
use Rattle.word_tables.specs.Rom.{v2_words, operators}
use Rattle.word_tables.specs.Tsb.{tsb_words}
use Rattle.word_tables.specs.Escapes.{escape_names}
use Rattle.word_tables.specs.Basic35.{basic35_words}
use Rattle.word_tables.specs.declared.WordList.{WordList}
use Rattle.word_tables.specs.declared.WordList.TheVariants.{V2, Operators, Tsb, Escapes, Basic35}

-- ---- the lists

abbrev pub words_of : WordList → List Entry
words_of V2 = v2_words
words_of Operators = operators
words_of Tsb = tsb_words
words_of Escapes = escape_names
words_of Basic35 = basic35_words

-- a list with its words in capitals, as they are stored
unfoldable pub capitals : List Entry → List Entry
unfolding upper
capitals [] = []
capitals (e ∷ es) = record { word = map upper e.word; token = e.token } ∷ capitals es

-- the first byte of a word or a text, a small letter as its capital; 0 where there is none
unfoldable pub initial : List ℕ → ℕ
unfolding upper
initial [] = 0
initial (b ∷ t) = upper b

-- a word with its place in its list, and its token
pub record Placed : Type 0 where
  pub place : ℕ
  pub word : List ℕ
  pub token : ℕ

-- the words of a list that begin with a byte, in the list's order; the first word of the list has place k
unfoldable pub grouped : ℕ → ℕ → List Entry → List Placed
unfolding initial
grouped b k [] = []
grouped b k (e ∷ es) =
    elim (eqb (initial e.word) b) [
      | true ↦ record { place = k; word = e.word; token = e.token } ∷ grouped b (suc k) es
      | false ↦ grouped b (suc k) es
    ]

-- ---- the tables

-- n stored words from word i on: the tokens stand behind the bytes of the words, the places behind the starts
unfoldable pub stored_words : List ℕ → List ℕ → ℕ → ℕ → List Placed
unfolding word_of
stored_words bytes index i zero = []
stored_words bytes index i (suc n) =
    record { place = get_or index (362 + i) 0; word = word_of bytes index i; token = get_or bytes (1727 + i) 0 } ∷ stored_words bytes index (suc i) n

-- where the groups of a list begin in the index
abbrev pub groups_of : WordList → ℕ
groups_of V2 = 723
groups_of Operators = 787
groups_of Tsb = 851
groups_of Escapes = 915
groups_of Basic35 = 979

-- the group of a byte; a byte that is none of 20 to 5F begins no word
unfoldable pub group_at : List ℕ → WordList → ℕ → Section
unfolding between
group_at index l b =
    elim (between 32 95 b) [
      | true ↦ record { from = get_or index (groups_of l + (b - 32)) 0; to = get_or index (groups_of l + (b - 32) + 1) 0 }
      | false ↦ record { from = 0; to = 0 }
    ]

-- stored word i, as the search of its list answers it
abbrev pub word_found : List ℕ → List ℕ → ℕ → Option Match
word_found bytes index i =
    Some (record { index = get_or index (362 + i) 0; used = length (word_of bytes index i); token = get_or bytes (1727 + i) 0 })

-- stored word i lies in the tables with its place and its token
pub record Held (bytes index : List ℕ) (i : ℕ) : Type 0 where
  pub token : 1727 + i < length bytes
  pub place : 362 + i < length index
  pub lies : Lies bytes index i

-- the tables spell the lists, group by group
pub record SpellsWords (bytes index : List ℕ) : Type 0 where
  pub bytes_long : 2088 ≤ length bytes
  pub index_long : 1044 ≤ length index
  pub lie : (k : ℕ) → k < 361 → Lies bytes index k
  pub up : (l : WordList) (b : ℕ) → (group_at index l b).from ≤ (group_at index l b).to
  pub end : (l : WordList) (b : ℕ) → (group_at index l b).to ≤ 361
  pub spells : (l : WordList) (b : ℕ) → stored_words bytes index (group_at index l b).from ((group_at index l b).to - (group_at index l b).from) ≡ grouped b 0 (capitals (words_of l))
