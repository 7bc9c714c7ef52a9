-- The lines before a text line: what is known of them, one line more, and their ends.
-- Assumes nothing.
use Prim.Native.Nat.{ℕ, suc, ◌+◌, ◌-◌, ◌≤◌, ◌<◌}
use mathlib.Core.Path.{◌≡◌, refl, sym, ap, ◌∙◌}
use mathlib.Core.Bool.{Bool}
use mathlib.Core.List.{List, [], ◌∷◌, ◌++◌, append-nil}
use native.Mathlib.Numerals.{add-one}
use native.Mathlib.Omega.{arith}
use lib.ListN.{length, take, drop}
use Rattle.base_refusals.specs.Numbers.{Numbered as RefusalAsNumbered}
use Rattle.base_refusals.specs.Answer.{Answer, done, refused, map_done}
use Rattle.text_lines.specs.declared.TextLine.{TextLine}
use Rattle.text_lines.specs.declared.LineRule.TheVariants.{AfterCr}
use Rattle.text_lines.specs.SplitHelpers.{line_from}
use Rattle.text_lines.specs.TextLines.{text_lines}
use Rattle.text_lines.proofs.Splitting.{Stepped, line_step, lines_end}
use Rattle.body_rules.specs.Lexicon.{Lexicon}
use Rattle.image_readers.specs.NumberedBody.{NumberedBody}
use Rattle.image_layout.specs.Layout.{end_address}
use Rattle.image_layout.proofs.Laying.{end_append}
use Rattle.crunch_profile.specs.Profile.{least_behind}
use Rattle.crunch_rules.specs.Crunched.{crunch_lines}
use Rattle.crunch_rules.specs.PassesHelpers.{address_behind}
use Rattle.crunch_rules.proofs.Lining.{Taken, cons_taken, cons_refused, before_new}

-- all that is known where so many lines of the image come before a text line
pub record Reached (profile : Bool) (words : Lexicon) (load : ℕ) (text : List ℕ) (at k least address : ℕ) : Type 0 where
  pub before : List NumberedBody
  pub stands : address ≡ end_address load before
  pub high : address ≤ 0xFFFF
  pub counted : k ≤ at
  pub within : at ≤ length text
  pub gives : map_done (λ ls. before ++ ls) (crunch_lines profile words (suc k) least address (text_lines AfterCr (drop at text)))
      ≡ crunch_lines profile words 1 0 load (text_lines AfterCr text)

pub none_before : (a : Answer (List NumberedBody)) → map_done (λ ls. [] ++ ls) a ≡ a
none_before (done ls) = refl
none_before (refused n) = refl

unfoldable pub reached_start : (profile : Bool) (words : Lexicon) (load : ℕ) (text : List ℕ) → load ≤ 0xFFFF → Reached profile words load text 0 0 0 load
unfolding end_address
reached_start profile words load text h =
    record {
      before = [];
      stands = refl;
      high = h;
      counted = omega arith;
      within = omega arith;
      gives = none_before (crunch_lines profile words 1 0 load (text_lines AfterCr text));
    }

-- the text line at a place
abbrev pub line_at : List ℕ → ℕ → TextLine → List ℕ
line_at text at r = take (r.end - at) (drop at text)

-- the same behind the blanks in front of it
abbrev pub line_behind : List ℕ → TextLine → List ℕ
line_behind text r = take (r.end - r.begin) (drop r.begin text)

module _ {profile : Bool} {words : Lexicon} {load : ℕ} {text : List ℕ} {at k least address : ℕ} (g : Reached profile words load text at k least address) where
  module _ {r : TextLine} (h : at < length text) (is : r ≡ line_from AfterCr text at) where
    step : Stepped AfterCr text at r
    step = line_step AfterCr text at h is

    line_here :
        crunch_lines profile words (suc k) least address (text_lines AfterCr (drop at text))
        ≡ crunch_lines profile words (suc k) least address (line_at text at r ∷ text_lines AfterCr (drop r.next text))
    line_here = ap (crunch_lines profile words (suc k) least address) step.lines

    module _ {next : ℕ} (t : Taken profile words (suc k) least address (line_at text at r) next) where
      unfoldable pub reached_turn : Reached profile words load text r.next (k + 1) (least_behind least t.new) next
      unfolding step line_here
      reached_turn =
          record {
            before = g.before ++ t.new;
            stands = t.next_is ∙ ap (λ (a : ℕ). end_address a t.new) g.stands ∙ sym (end_append load g.before t.new);
            high = t.high;
            counted = omega (arith, g.counted, step.onward);
            within = step.within;
            gives =
                rw add-one
                (before_new g.before t.new (crunch_lines profile words (suc (suc k)) (least_behind least t.new) next (text_lines AfterCr (drop r.next text)))
                ∙ ap (map_done (λ ls. g.before ++ ls)) (sym (cons_taken profile words (suc k) least address (line_at text at r) (text_lines AfterCr (drop r.next text)) t) ∙ sym line_here)
                ∙ g.gives);
          }

      pub turn_before : reached_turn.before ≡ g.before ++ t.new
      unfolding reached_turn
      turn_before = refl

    pub reached_refused : {n : RefusalAsNumbered} → address_behind profile words (suc k) least address (line_at text at r) ≡ refused n → refused n ≡ crunch_lines profile words 1 0 load (text_lines AfterCr text)
    reached_refused e =
        sym (ap (map_done (λ ls. g.before ++ ls)) (line_here ∙ cons_refused profile words (suc k) least address (line_at text at r) (text_lines AfterCr (drop r.next text)) e))
        ∙ g.gives

  pub reached_end : length text ≤ at → done g.before ≡ crunch_lines profile words 1 0 load (text_lines AfterCr text)
  unfolding crunch_lines
  reached_end h =
      ap done (sym (append-nil g.before))
      ∙ sym (ap (map_done (λ ls. g.before ++ ls)) (ap (crunch_lines profile words (suc k) least address) (lines_end AfterCr text at h)))
      ∙ g.gives
