-- The rows of the table of words (docs/DESK.md, "counts"): "The first line says how many images were taken, how many of them were refused, and how many words
-- were counted. Each line behind it is a word, its count, and its share in thousandths".
-- Assumes nothing.
use Rattle.std.specs.Prelude.{ℕ, List, [], ◌∷◌, get_or}
use Rattle.word_search.specs.Spelling.{bytes_of}
use Rattle.say_put.specs.Rows.{row_text}
use Rattle.list_texts.specs.Texts.{text_of}
use Rattle.count_tokens.specs.Tokens.{counted_tokens}
use Rattle.count_totals.specs.TokenTotals.{images_taken, images_refused, tokens_counted, share_of}

-- the token at a place, and how often it was counted
unfoldable pub token_at : ℕ → ℕ
unfolding counted_tokens
token_at place = get_or counted_tokens place 0

unfoldable pub count_at : List ℕ → ℕ → ℕ
unfolding token_at
count_at t place = get_or t (token_at place) 0

unfoldable pub head_with : ℕ → ℕ → ℕ → List ℕ
unfolding row_text
head_with taken refused words = row_text (bytes_of "#") (bytes_of " images #, refused #, words #") taken refused words

unfoldable pub head_row : List ℕ → List ℕ
unfolding head_with tokens_counted
head_row t = head_with (images_taken t) (images_refused t) (tokens_counted t)

-- tabs stand between
unfoldable pub counted_row : List ℕ → ℕ → ℕ → List ℕ
unfolding row_text
counted_row word count share = row_text word (0x09 ∷ 0x23 ∷ 0x09 ∷ 0x23 ∷ []) count share 0

unfoldable pub word_row : List ℕ → ℕ → List ℕ
unfolding counted_row text_of token_at count_at share_of
word_row t place = counted_row (text_of (token_at place)) (count_at t place) (share_of t (token_at place))
