-- Without the profile each answer is that of the definition in which no profile occurs.
-- Assumes nothing.
use Prim.Native.Nat.{ℕ, suc}
use mathlib.Core.Path.{◌≡◌, refl, ap, ◌∙◌}
use mathlib.Core.Bool.{Bool, false, cond}
use mathlib.Core.List.{List, [], ◌∷◌, ◌++◌}
use Rattle.base_refusals.specs.Answer.{Answer, done, refused, map_done, and_then}
use Rattle.text_lines.specs.declared.LineRule.TheVariants.{AfterCr}
use Rattle.text_domain.specs.Domain.{checked_text}
use Rattle.text_lines.specs.TextLines.{text_lines}
use Rattle.body_rules.specs.Lexicon.{Lexicon}
use Rattle.image_readers.specs.NumberedBody.{NumberedBody}
use Rattle.image_layout.specs.Layout.{image_of}
use Rattle.crunch_profile.specs.Profile.{allowed, least_behind}
use Rattle.crunch_rules.specs.Crunched.{text_line, line_under, last_link, crunch_lines, text_lexicon, crunched_lines, crunched}
use Rattle.crunch_rules.specs.declared.Options.{Options}
use Rattle.crunch_laws.specs.WithoutProfile.{plain_lines, crunched_plain}

lines_plain : (words : Lexicon) (lines : List (List ℕ)) (k least address : ℕ) → crunch_lines false words k least address lines ≡ plain_lines words k address lines
unfolding crunch_lines line_under plain_lines
lines_plain words [] k least address = refl
lines_plain words (line ∷ lines) k least address = read (λ m next. lines_plain words lines (suc k) m next) (text_line words k line)
  where
    linked : ((m next : ℕ) → crunch_lines false words (suc k) m next lines ≡ plain_lines words (suc k) next lines) → (new : List NumberedBody) (a : Answer ℕ)
        → and_then a (λ next. map_done (λ ls. new ++ ls) (crunch_lines false words (suc k) (least_behind least new) next lines))
        ≡ and_then a (λ next. map_done (λ ls. new ++ ls) (plain_lines words (suc k) next lines))
    linked f new (done next) = ap (map_done (λ ls. new ++ ls)) (f (least_behind least new) next)
    linked f new (refused r) = refl

    read : ((m next : ℕ) → crunch_lines false words (suc k) m next lines ≡ plain_lines words (suc k) next lines) → (a : Answer (List NumberedBody))
        → and_then (and_then a (λ new. map_done (λ _. new) (cond false (allowed k least new) (done tt)))) (λ new.
        and_then (last_link address new) (λ next. map_done (λ ls. new ++ ls) (crunch_lines false words (suc k) (least_behind least new) next lines)))
        ≡ and_then a (λ new. and_then (last_link address new) (λ next. map_done (λ ls. new ++ ls) (plain_lines words (suc k) next lines)))
    read f (done new) = linked f new (last_link address new)
    read f (refused r) = refl

-- "demand 2 is unchanged outside the profile"
module _ (o : Options) (off : o.profile ≡ false) (text : List ℕ) where
  pub profile_off : crunched_lines o text ≡ crunched_plain o.load o.dialect o.forms text
  unfolding crunched_lines crunched_plain
  profile_off =
      ap (λ (b : Bool). and_then (checked_text text) (λ _. crunch_lines b (text_lexicon o text) 1 0 o.load (text_lines AfterCr text))) off
      ∙ go (checked_text text)
    where
      go : (a : Answer (Unit {0})) → and_then a (λ _. crunch_lines false (text_lexicon o text) 1 0 o.load (text_lines AfterCr text))
          ≡ and_then a (λ _. plain_lines (text_lexicon o text) 1 o.load (text_lines AfterCr text))
      go (done u) = lines_plain (text_lexicon o text) (text_lines AfterCr text) 1 0 o.load
      go (refused r) = refl

  pub image_profile_off : crunched o text ≡ map_done (image_of o.load) (crunched_plain o.load o.dialect o.forms text)
  unfolding crunched
  image_profile_off = ap (map_done (image_of o.load)) profile_off
