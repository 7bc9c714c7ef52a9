-- With the option of short forms off each answer is what it was, for every text, dialect and load address.
-- Assumes nothing.
use Prim.Native.Nat.{ℕ, zero, suc}
use mathlib.Core.Path.{◌≡◌, refl, sym, ap, ◌∙◌}
use mathlib.Core.Bool.{Bool, true, false, cond}
use mathlib.Core.List.{List, [], ◌∷◌, ◌++◌}
use lib.Dec.{eqb}
use lib.ListN.{length, drop}
use Rattle.base_steps.specs.Again.{again}
use Rattle.base_refusals.specs.Answer.{Answer, done, refused, map_done, and_then}
use Rattle.std.specs.Prelude.{Some, None}
use Rattle.word_match.specs.Sets.{live_word, plain_word, with_forms}
use Rattle.word_match.specs.declared.sets.Sets.{Sets}
use Rattle.body_short_forms.proofs.Standing.{form_off}
use Rattle.word_dialects.specs.declared.Dialect.{Dialect}
use Rattle.word_dialects.specs.declared.Dialect.TheVariants.{Auto, BasicV2, Tsb, Basic35}
use Rattle.text_lines.specs.declared.LineRule.TheVariants.{AfterCr}
use Rattle.text_domain.specs.Domain.{checked_text}
use Rattle.text_numbers.specs.Numbering.{ReadLine, blank_line, missing_number, number_too_high, numbered_text, read_line}
use Rattle.text_lines.specs.TextLines.{text_lines}
use Rattle.guess.specs.Guess.{evidence, names, none_demoted, word_sets}
use Rattle.body.specs.Body.{written, move_then, crunch_on, crunched_from, crunched_body}
use Rattle.body_rules.specs.Lexicon.{Lexicon, lexicon}
use Rattle.body_rules.specs.Steps.{first, one, token, opened, sign_step, form_step, plain_step, crunch_step}
use Rattle.body_rules.specs.declared.Mode.{Mode}
use Rattle.body_rules.specs.declared.Mode.TheVariants.{Plain, String, Remark, Data, DataQuote}
use Rattle.body_rules.specs.declared.Move.{Move}
use Rattle.image_readers.specs.NumberedBody.{NumberedBody}
use Rattle.image_layout.specs.Layout.{image_of}
use Rattle.image_layout.specs.Reads.{lines_at}
use Rattle.crunch_profile.specs.Profile.{allowed, least_behind}
use Rattle.crunch_rules.specs.Crunched.{lines_read, text_line, line_under, last_link, crunch_lines, text_lexicon, crunched_lines, crunched}
use Rattle.crunch_rules.specs.Measured.{nonblank_lines, with_text_lines, entry_from, measured_lines, line_measured}
use Rattle.crunch_rules.specs.declared.Options.{Options}
use Rattle.crunch_laws.specs.BeforeShortForms.{plain_before, step_before, on_before, body_before, line_before, line_under_before, lines_before, crunched_before}

-- a line of its own
abbrev numbered_line : ℕ → List ℕ → Answer (List NumberedBody)
numbered_line number body = done (record { number = number; body = body } ∷ [])

-- ---- a step, a body

module _ (l : Lexicon) (off : l.sets.forms ≡ false) where
  form_step_off : (t : List ℕ) → form_step l t ≡ sign_step l t
  unfolding form_step
  form_step_off t = rw (form_step, form_off l.sets l.tsb l.v2 t off)

  pub step_off : (m : Mode) (t : List ℕ) → crunch_step l m t ≡ step_before l m t
  unfolding crunch_step step_before plain_step plain_before
  step_off Plain t =
      ap (λ (o : Move). elim (eqb (first t) 0x22) as (λ _. Move) [
        | true ↦ one 0x22 String
        | false ↦ elim (live_word l.sets l.tsb t) as (λ _. Move) [
          | Some m ↦ token true m.token Plain m.used
          | None ↦ elim (plain_word l.sets l.v2 l.basic35 t) as (λ _. Move) [ Some m ↦ token false m.token (opened m.token) m.used | None ↦ o ]
        ]
      ]) (form_step_off t)
  step_off String t = refl
  step_off Remark t = refl
  step_off Data t = refl
  step_off DataQuote t = refl

  from_off : (n : ℕ) (m : Mode) (t : List ℕ) → again [] (crunch_on l) n (m, t) ≡ again [] (on_before l) n (m, t)
  unfolding again crunch_on on_before
  from_off zero m t = refl
  from_off (suc n) m [] = refl
  from_off (suc n) m (b ∷ s) =
      let o = crunch_step l m (b ∷ s) in
      ap (λ (r : List ℕ). written o ++ r) (from_off n o.mode (drop o.used (b ∷ s)))
      ∙ ap (move_then (again [] (on_before l) n) (b ∷ s)) (step_off m (b ∷ s))

  pub body_off : (t : List ℕ) → crunched_body l t ≡ body_before l t
  unfolding crunched_from body_before
  body_off t = from_off (suc (length t)) Plain t

  -- ---- the lines of a text

  line_off : (k : ℕ) (r : ReadLine) → lines_read l k r ≡ line_before l k r
  line_off k blank_line = refl
  line_off k missing_number = refl
  line_off k (number_too_high value) = refl
  line_off k (numbered_text number text) = ap (numbered_line number) (body_off text)

  module _ (profile : Bool) where
    under_off : (k least : ℕ) (line : List ℕ) → line_under profile l k least line ≡ line_under_before profile l k least line
    unfolding line_under text_line line_under_before
    under_off k least line =
        ap (λ (a : Answer (List NumberedBody)). and_then a (λ new. map_done (λ _. new) (cond profile (allowed k least new) (done tt)))) (line_off k (read_line line))

    lines_off : (lines : List (List ℕ)) (k least address : ℕ) → crunch_lines profile l k least address lines ≡ lines_before profile l k least address lines
    unfolding crunch_lines lines_before
    lines_off [] k least address = refl
    lines_off (line ∷ lines) k least address =
        read (λ m next. lines_off lines (suc k) m next) (line_under profile l k least line) ∙ ap (λ (a : Answer (List NumberedBody)). and_then a onward) (under_off k least line)
      where
        onward : List NumberedBody → Answer (List NumberedBody)
        onward new = and_then (last_link address new) (λ next. map_done (λ ls. new ++ ls) (lines_before profile l (suc k) (least_behind least new) next lines))

        linked : ((m next : ℕ) → crunch_lines profile l (suc k) m next lines ≡ lines_before profile l (suc k) m next lines) → (new : List NumberedBody) (a : Answer ℕ)
            → and_then a (λ next. map_done (λ ls. new ++ ls) (crunch_lines profile l (suc k) (least_behind least new) next lines))
            ≡ and_then a (λ next. map_done (λ ls. new ++ ls) (lines_before profile l (suc k) (least_behind least new) next lines))
        linked f new (done next) = ap (map_done (λ ls. new ++ ls)) (f (least_behind least new) next)
        linked f new (refused r) = refl

        read : ((m next : ℕ) → crunch_lines profile l (suc k) m next lines ≡ lines_before profile l (suc k) m next lines) → (a : Answer (List NumberedBody))
            → and_then a (λ new. and_then (last_link address new) (λ next. map_done (λ ls. new ++ ls) (crunch_lines profile l (suc k) (least_behind least new) next lines))) ≡ and_then a onward
        read f (done new) = linked f new (last_link address new)
        read f (refused r) = refl

-- ---- the guess never uses short forms

pub guess_off : (d : Dialect) (t : List ℕ) → (word_sets d t).forms ≡ false
unfolding word_sets
guess_off Tsb t = refl
guess_off BasicV2 t = refl
guess_off Basic35 t = refl
guess_off Auto t = go (evidence AfterCr t)
  where
    go : (b : Bool) → ◌≡◌ {A = Bool} (elim b as (λ _. Sets) [
      | true ↦ record { tsb = true; demoted = names AfterCr t; basic35 = false; forms = false }
      | false ↦ record { tsb = false; demoted = none_demoted; basic35 = false; forms = false }
    ]).forms false
    go true = refl
    go false = refl

-- the same options, with short forms or without
abbrev asking : Bool → Options → Options
asking forms o = record { load = o.load; dialect = o.dialect; forms = forms; profile = o.profile }

-- the same words, with short forms or without
abbrev words_asked : Bool → Lexicon → Lexicon
words_asked forms l = record { tsb = l.tsb; sets = with_forms forms l.sets; v2 = l.v2; basic35 = l.basic35; operators = l.operators }

-- "The dialect guess never uses short forms": with the option on and off the words looked for in a text differ in that flag alone
pub words_but_for_forms : (o : Options) (text : List ℕ) → text_lexicon (asking true o) text ≡ words_asked true (text_lexicon (asking false o) text)
words_but_for_forms o text = refl

-- ---- all of it

module _ (o : Options) (off : o.forms ≡ false) (text : List ℕ) where
  words_off : with_forms o.forms (word_sets o.dialect text) ≡ word_sets o.dialect text
  words_off =
      let s = word_sets o.dialect text in
      ap (λ (b : Bool). with_forms b s) (off ∙ sym (guess_off o.dialect text))

  pub answers_off : crunched_lines o text ≡ crunched_before o.profile o.load o.dialect text
  unfolding crunched_lines crunched_before
  answers_off =
      ap (λ (s : Sets). and_then (checked_text text) (λ _. crunch_lines o.profile (lexicon s) 1 0 o.load (text_lines AfterCr text))) words_off
      ∙ go (checked_text text)
    where
      go : (a : Answer (Unit {0})) → and_then a (λ _. crunch_lines o.profile (lexicon (word_sets o.dialect text)) 1 0 o.load (text_lines AfterCr text))
          ≡ and_then a (λ _. lines_before o.profile (lexicon (word_sets o.dialect text)) 1 0 o.load (text_lines AfterCr text))
      go (done u) = lines_off (lexicon (word_sets o.dialect text)) (guess_off o.dialect text) o.profile (text_lines AfterCr text) 1 0 o.load
      go (refused r) = refl

  -- the image, and with it the room and what is left in a buffer
  pub image_off : crunched o text ≡ map_done (image_of o.load) (crunched_before o.profile o.load o.dialect text)
  unfolding crunched
  image_off = ap (map_done (image_of o.load)) answers_off

  -- a measured line
  pub measured_off : (place : ℕ)
      → line_measured o place text
      ≡ map_done (entry_from place 1) (map_done (λ ls. with_text_lines (lines_at o.load 2 ls) (nonblank_lines text)) (crunched_before o.profile o.load o.dialect text))
  unfolding line_measured measured_lines
  measured_off place =
      ap (λ (a : Answer (List NumberedBody)). map_done (entry_from place 1) (map_done (λ ls. with_text_lines (lines_at o.load 2 ls) (nonblank_lines text)) a)) answers_off
