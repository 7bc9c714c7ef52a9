-- The tokens that are counted (document 02, No. 12: "for each V2 token and each TSB token, how often it occurs unquoted outside remarks
-- (their 8F counts)"; "Images are read by terminators as the listing reads them; a pair after 64 that is no TSB word counts as nothing").
-- Assumes nothing.
use Rattle.std.specs.Prelude.{ℕ, zero, suc, true, false, cond, ltb}
use mathlib.Core.List.{List, [], ◌∷◌, ◌++◌, flat_map}
use Rattle.base_refusals.specs.Answer.{Answer, map_done}
use Rattle.image_readers.specs.declared.By.TheVariants.{Terminators}
use Rattle.image_readers.specs.Bodies.{bodies_from}
use Rattle.image_readers.specs.NumberedBody.{NumberedBody}
use Rattle.image_readers.specs.Readers.{step_by}
use Rattle.word_tables.specs.Tsb.{tsb_id, tsb_text}
use Rattle.image_units.specs.declared.Rules.{Rules}
use Rattle.image_units.specs.declared.Unit.{Unit}
use Rattle.image_units.specs.declared.Unit.TheVariants.{Char, Token, Token35, Pair, Lone, Remarked}
use Rattle.image_units.specs.Units.{units_from, units_of}

-- 64 is a prefix, a remark runs to the body's end, and DATA is like the rest
abbrev pub count_rules : Rules
count_rules = record { prefix = true; remarks = true; items = false; basic35 = false }

-- a token, if it has a word
abbrev pub if_word : List ℕ → ℕ → List ℕ
if_word [] k = []
if_word (b ∷ word) k = k ∷ []

-- the token that a unit counts as, if any: a V2 token is itself, 80 to CB; a TSB token is the byte behind 64 that the listing reads there
unfoldable pub counted_as : Unit → List ℕ
unfolding tsb_text tsb_id
counted_as (Char b) = []
counted_as (Token b) = cond (ltb b 0xCC) (b ∷ []) []
counted_as (Token35 b) = []
counted_as (Pair b) = if_word (tsb_text b) (tsb_id b)
counted_as Lone = []
counted_as (Remarked b) = []

-- the tokens of a body
unfoldable pub tokens_of : List ℕ → List ℕ
unfolding flat_map counted_as units_from
tokens_of body = flat_map counted_as (units_of count_rules body)

-- the tokens of the bodies from p on, or the refusal of reading by terminators
unfoldable pub tokens_from : List ℕ → ℕ → Answer (List ℕ)
unfolding flat_map tokens_of bodies_from step_by
tokens_from image p = map_done (flat_map (λ (l : NumberedBody). tokens_of l.body)) (bodies_from (step_by Terminators) image p)

-- the tokens of an image
abbrev pub tokens_in : List ℕ → Answer (List ℕ)
tokens_in image = tokens_from image 2

-- n numbers from k on
unfoldable pub up_from : ℕ → ℕ → List ℕ
up_from zero k = []
up_from (suc n) k = k ∷ up_from n (suc k)

-- of n bytes from k on those that are TSB tokens
unfoldable pub tsb_tokens_from : ℕ → ℕ → List ℕ
unfolding tsb_text
tsb_tokens_from zero k = []
tsb_tokens_from (suc n) k = if_word (tsb_text k) k ++ tsb_tokens_from n (suc k)

-- the tokens that are counted: those of V2, 80 to CB, then those of TSB, below 80
unfoldable pub counted_tokens : List ℕ
unfolding up_from tsb_tokens_from
counted_tokens = up_from 76 0x80 ++ tsb_tokens_from 0x80 0
