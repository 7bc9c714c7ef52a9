-- Names of files, split at a mark, and what a listing is called (docs/DESK.md, `list --to`: "the name of its program, without the folder and with `.txt` in
-- the place of the last dot and what follows it").
-- Assumes nothing.
use Rattle.std.specs.Prelude.{ℕ, ◌+◌, List, ◌∷◌, ◌++◌, take, drop}
use Rattle.base_ascii.specs.Search.{equals, last}
use Rattle.word_search.specs.Spelling.{bytes_of}
use Rattle.std.specs.Prelude.{Some, None}

-- what stands behind a word's last mark, or before it; the word where it has none
unfoldable pub behind_last : ℕ → List ℕ → List ℕ
unfolding last
behind_last mark word = elim (last (equals mark) word) [ Some n ↦ drop (n + 1) word | None ↦ word ]

unfoldable pub before_last : ℕ → List ℕ → List ℕ
unfolding last
before_last mark word = elim (last (equals mark) word) [ Some n ↦ take n word | None ↦ word ]

-- without its folder, and without what stands from its last dot on
unfoldable pub plain_name : List ℕ → List ℕ
unfolding behind_last before_last
plain_name file = before_last 0x2E (behind_last 0x2F file)

-- what the listing of a file is called in a folder
unfoldable pub listing_name : List ℕ → List ℕ → List ℕ
unfolding plain_name
listing_name folder file = folder ++ (0x2F ∷ (plain_name file ++ bytes_of ".txt"))
