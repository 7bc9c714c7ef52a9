-- The words of the TSB list are the words that a byte gives, and COLOUR and CENTRE.
-- Assumes nothing.
use Prim.Native.Nat.{ℕ}
use mathlib.Core.Path.{◌≡◌, refl, ap, ◌∙◌}
use mathlib.Core.Bool.{Bool, true, ◌||◌, ◌&&◌}
use mathlib.Core.List.{List, [], ◌∷◌}
use lib.Dec.{T}
use Rattle.word_search.specs.Compare.{same, member}
use Rattle.word_search.specs.Find.{Entry, match_in, same_in}
use Rattle.word_search.specs.declared.Match.{Match}
use Rattle.std.specs.Prelude.{Option, is_some}
use Rattle.word_search.specs.declared.Test.TheVariants.{Same}
use Rattle.word_search.proofs.Sameness.{spellings, same_member, within, member_same}
use Rattle.word_tables.specs.WordsHelpers.{capitals}
use Rattle.word_search.specs.Spelling.{bytes_of}
use Rattle.word_tables.specs.Tsb.{tsb_words, tsb_text, tsb_texts, is_tsb_word}

abbrev given : List (List ℕ)
given = bytes_of "COLOUR" ∷ bytes_of "CENTRE" ∷ tsb_texts 0x100

list_in_given : T (within (spellings tsb_words) given)
unfolding within member same tsb_texts tsb_words
list_in_given = tt

given_in_list : T (within given (spellings tsb_words))
unfolding within member same tsb_texts tsb_words
given_in_list = tt

-- the texts of listing are the inverse of the list: each word but COLOUR and CENTRE is the text of its token
unfoldable pub inverse : List Entry → Bool
inverse [] = true
inverse (e ∷ es) = (same (tsb_text e.token) e.word || member e.word (bytes_of "COLOUR" ∷ bytes_of "CENTRE" ∷ [])) && inverse es

pub tsb_inverse : T (inverse tsb_words)
unfolding inverse same member tsb_text tsb_words
tsb_inverse = tt

-- the words are capitals
own_capitals : capitals tsb_words ≡ tsb_words
unfolding capitals tsb_words
own_capitals = refl

-- a word is found among them just where the test says yes
pub tsb_test : (w : List ℕ) {m : Option Match} → m ≡ match_in Same (capitals tsb_words) w → is_some m ≡ is_tsb_word w
unfolding is_tsb_word same_in
tsb_test w e = ap is_some (e ∙ ap (λ (es : List Entry). match_in Same es w) own_capitals) ∙ same_member w tsb_words ∙ member_same w (spellings tsb_words) given list_in_given given_in_list
