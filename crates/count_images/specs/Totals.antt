-- Totals over images (document 02, No. 12: "exact counts over up to 1,000 images"; "A refused image adds nothing to the totals and is
-- counted apart"). They are a tally: an image makes a mark for itself, one for each of its tokens, or one for being refused, and the
-- totals say how often each mark was made.
-- Assumes nothing.
use Rattle.std.specs.Prelude.{ℕ}
use mathlib.Core.List.{List, [], ◌∷◌, flat_map}
use Rattle.base_refusals.specs.Answer.{Answer, done, refused}
use Rattle.count_tokens.specs.Tokens.{tokens_from, tokens_in}
use Rattle.count_images.specs.Tallies.{tally}

-- the marks that an image makes
abbrev pub image_marks : Answer (List ℕ) → List ℕ
image_marks (done tokens) = 0xCC ∷ tokens
image_marks (refused n) = 0xCC ∷ 0xCD ∷ []

-- the totals of images
unfoldable pub totals_of : List (List ℕ) → List ℕ
unfolding tally flat_map tokens_from
totals_of images = tally (flat_map (λ (image : List ℕ). image_marks (tokens_in image)) images)
