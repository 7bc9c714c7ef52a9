-- Totals carried on (document 02, No. 12: "Totals are carried on"; "26 TooManyImages at the 1,001st, checked before the image itself, with
-- all totals kept"), and the totals of two parts joined.
-- Assumes nothing.
use Rattle.std.specs.Prelude.{ℕ, ◌+◌, cond, List, leb, ltb}
use Rattle.base_refusals.specs.Numbers.{Numbered, too_many_images}
use Rattle.base_refusals.specs.Answer.{Answer, done, refused, numbered}
use Rattle.count_images.specs.declared.Carried.{Carried}
use Rattle.count_images.specs.declared.Carried.TheVariants.{Taken, Apart, Refused, NoTotals}
use Rattle.count_tokens.specs.Tokens.{tokens_from, tokens_in}
use Rattle.count_totals.specs.TokenTotals.{images_taken, is_totals}
use Rattle.count_images.specs.Tallies.{tally, added}
use Rattle.count_images.specs.Totals.{image_marks}

-- what became of an image, or of totals to be joined; "is counted apart" with its refusal, which is none of the call
pub data Fate : Type 0 where
  counted : Fate
  counted_apart : Numbered → Fate
  no_totals : Fate

-- an answer, and the totals afterwards
pub record Kept : Type 0 where
  pub answer : Answer Fate
  pub totals : List ℕ

-- the enum's cases as document 02 numbers them
abbrev pub carried_answer : Carried → Answer Fate
carried_answer Taken = done counted
carried_answer (Apart r) = done (counted_apart (numbered r))
carried_answer (Refused r) = refused (numbered r)
carried_answer NoTotals = done no_totals

abbrev pub carried : Carried → List ℕ → Kept
carried r t = record { answer = carried_answer r; totals = t }

abbrev pub fate : Answer (List ℕ) → Fate
fate (done tokens) = counted
fate (refused n) = counted_apart n

-- an image's marks on top of totals
abbrev pub with_marks : List ℕ → Answer (List ℕ) → Kept
with_marks t a = record { answer = done (fate a); totals = added t (tally (image_marks a)) }

-- one more image
unfoldable pub with_image : List ℕ → List ℕ → Kept
unfolding is_totals added tally tokens_from
with_image t image =
    cond (is_totals t)
    (cond (leb 1000 (images_taken t)) (record { answer = refused too_many_images; totals = t }) (with_marks t (tokens_in image)))
    (record { answer = done no_totals; totals = t })

-- other totals joined; "more than 1,000 images together" is 26, both kept
unfoldable pub joined : List ℕ → List ℕ → Kept
unfolding is_totals added
joined t u =
    cond (is_totals t)
    (cond (is_totals u)
    (cond (ltb 1000 (images_taken t + images_taken u)) (record { answer = refused too_many_images; totals = t })
    (record { answer = done counted; totals = added t u }))
    (record { answer = done no_totals; totals = t }))
    (record { answer = done no_totals; totals = t })
