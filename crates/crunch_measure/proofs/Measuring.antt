-- The loop that measures a text: its invariant, a turn, and its ends.
-- Assumes nothing.
use Prim.Native.Nat.{ℕ, suc, ◌+◌, ◌-◌, ◌≤◌, ◌<◌}
use mathlib.Core.Path.{◌≡◌, refl, sym, ap, ◌∙◌, subst}
use mathlib.Core.Bool.{Bool}
use mathlib.Core.List.{List, [], ◌∷◌, ◌++◌, append-nil, append_assoc}
use Rattle.std.specs.Prelude.{Option, Some, None, Result, Ok, Err}
use native.Mathlib.Numerals.{add-one}
use native.Mathlib.Omega.{arith}
use lib.ListN.{length, drop, length-append}
use mir.Syntax.{w16}
use mir.Val.{Fits}
use Rattle.base_refusals.specs.Answer.{Answer, done, map_done}
use Rattle.base_refusals.specs.declared.Refusal.{Refusal}
use Rattle.base_ascii.specs.Trim.{trim}
use Rattle.base_lent.specs.Lent.{room_for}
use Rattle.text_lines.specs.declared.TextLine.{TextLine}
use Rattle.text_lines.specs.declared.LineRule.TheVariants.{AfterCr}
use Rattle.text_lines.specs.SplitHelpers.{line_from}
use Rattle.text_lines.specs.TextLines.{text_lines}
use Rattle.text_lines.proofs.Splitting.{line_step, lines_end, line_behind_lem}
use Rattle.body_rules.specs.Lexicon.{Lexicon}
use Rattle.image_readers.specs.declared.Line.{Line}
use Rattle.image_readers.specs.NumberedBody.{NumberedBody}
use Rattle.image_layout.specs.Layout.{link_of, end_address, image_of}
use Rattle.image_layout.specs.Reads.{placed_line, lines_at}
use Rattle.image_layout.proofs.Laying.{image_length, end_above}
use Rattle.crunch_profile.specs.Profile.{least_behind}
use Rattle.crunch_rules.specs.Crunched.{line_under}
use Rattle.crunch_rules.specs.Measured.{unless_blank, nonblank_from, nonblank_lines, with_text_lines, entry_from}
use Rattle.crunch_rules.specs.PassesHelpers.{text_image, address_behind}
use Rattle.crunch_measure.specs.MeasureHelpers.{text_placed, PassedAs, Span, line_between}
use Rattle.crunch_sizes.specs.SizeHelpers.{LineSized, SizedAs}
use Rattle.crunch_rules.specs.declared.MeasuredLine.{MeasuredLine}
use Rattle.crunch_sizes.specs.declared.SizedLine.{SizedLine}
use Rattle.crunch_rules.proofs.Lining.{Taken, taken_blank, under_plain, under_blank}
use Rattle.crunch_sizes.proofs.Sizing.{taken_line}
use Rattle.crunch_rules.proofs.Placing.{lines_at_more, lines_at_length, with_length, with_more, entry_here, entry_past, blank_place, line_place}
use Rattle.crunch_rules.proofs.Reaching.{Reached, reached_start, line_at, line_behind, reached_turn, reached_refused, reached_end}

-- besides, the line at a place, if it is among those lines; they are counted, and each has its text line
pub record MeasuredTo (profile : Bool) (words : Lexicon) (load place : ℕ) (text : List ℕ) (at k least address count : ℕ) (found : Option MeasuredLine) : Type 0 where
  pub reached : Reached profile words load text at k least address
  pub texts : List ℕ
  pub counted : count ≡ length reached.before
  pub paired : count ≡ length texts
  pub few : count ≤ k
  pub rest : texts ++ nonblank_from (suc k) (text_lines AfterCr (drop at text)) ≡ nonblank_lines text
  pub placed : found ≡ entry_from place 1 (with_text_lines (lines_at load 2 reached.before) texts)

pub measured_start : (profile : Bool) (words : Lexicon) (load place : ℕ) (text : List ℕ) → Fits w16 load → MeasuredTo profile words load place text 0 0 0 load 0 None
unfolding reached_start lines_at with_text_lines entry_from
measured_start profile words load place text f =
    record {
      reached = reached_start profile words load text (omega (arith, f.fits));
      texts = [];
      counted = refl;
      paired = refl;
      few = omega arith;
      rest = refl;
      placed = refl;
    }

module _ {profile : Bool} {words : Lexicon} {load place : ℕ} {text : List ℕ} {at k least address count : ℕ} {found : Option MeasuredLine}
    (m : MeasuredTo profile words load place text at k least address count found) where
  pub measured_low : load ≤ address
  measured_low = omega (arith, m.reached.stands, end_above load m.reached.before)

  pub measured_end : length text ≤ at → PassedAs profile words load place text (Ok (record { room = address - load + 4; line = found }))
  unfolding text_image text_placed nonblank_from
  measured_end h =
      let g = m.reached in
      let size : address - load + 4 ≡ length (image_of load g.before) = omega (arith, g.stands, image_length load g.before, end_above load g.before) in
      let all : m.texts ≡ nonblank_lines text =
      sym (append-nil m.texts) ∙ sym (ap (λ (ls : List (List ℕ)). m.texts ++ nonblank_from (suc k) ls) (lines_end AfterCr text at h)) ∙ m.rest in
      record {
        sized = ap done size ∙ ap (λ (a : Answer (List NumberedBody)). room_for (map_done (image_of load) a)) (reached_end g h);
        placed =
            ap done m.placed
            ∙ ap (λ (ts : List ℕ). done (entry_from place 1 (with_text_lines (lines_at load 2 g.before) ts))) all
            ∙ ap (map_done (λ ls. entry_from place 1 (with_text_lines (lines_at load 2 ls) (nonblank_lines text)))) (reached_end g h);
      }

  module _ {r : TextLine} (is : r ≡ line_from AfterCr text at) (h : at < length text) where
    -- what is told of the line, which is the one behind k others
    told_line : {s x : Result (Option SizedLine) Refusal} → s ≡ x → SizedAs address (line_under profile words (k + 1) least (line_behind text r)) s
        → SizedAs address (line_under profile words (suc k) least (line_at text at r)) x
    told_line {x = x} told e =
        let o : k + 1 ≡ suc k = omega arith in
        subst (λ (a : Answer (List NumberedBody)). SizedAs address a x)
        (line_behind_lem (line_under profile words (k + 1) least) (under_blank profile words (k + 1) least) AfterCr text at is
        ∙ ap (λ (n : ℕ). line_under profile words n least (line_at text at r)) o)
        (subst (SizedAs address (line_under profile words (k + 1) least (line_behind text r))) told e)

    -- the place of the line, unless it is blank
    abbrev new_text : List ℕ
    new_text = unless_blank (suc k) (trim (line_at text at r))

    rest_here : (m.texts ++ new_text) ++ nonblank_from (suc (suc k)) (text_lines AfterCr (drop r.next text)) ≡ nonblank_lines text
    unfolding nonblank_from
    rest_here =
        append_assoc m.texts new_text (nonblank_from (suc (suc k)) (text_lines AfterCr (drop r.next text)))
        ∙ ap (λ (ls : List (List ℕ)). m.texts ++ nonblank_from (suc k) ls) (sym (line_step AfterCr text at h is).lines)
        ∙ m.rest

    -- a turn, by what the line gives
    turn : {next more : ℕ} {after : Option MeasuredLine} (t : Taken profile words (suc k) least address (line_at text at r) next) → more ≡ length (m.reached.before ++ t.new) → more ≡ length (m.texts ++ new_text) → more ≤ k + 1
        → after ≡ entry_from place 1 (with_text_lines (lines_at load 2 (m.reached.before ++ t.new)) (m.texts ++ new_text)) → MeasuredTo profile words load place text r.next (k + 1) (least_behind least t.new) next more after
    unfolding reached_turn
    turn t c p f e =
        record {
          reached = reached_turn m.reached h is t;
          texts = m.texts ++ new_text;
          counted = c;
          paired = p;
          few = f;
          rest = rw add-one rest_here;
          placed = e;
        }

    module _ {s : Result (Option SizedLine) Refusal} (e : SizedAs address (line_under profile words (k + 1) least (line_behind text r)) s) where
      pub measured_blank : s ≡ Ok None → MeasuredTo profile words load place text r.next (k + 1) least address count found
      unfolding SizedAs taken_blank
      measured_blank told =
          let q : line_under profile words (suc k) least (line_at text at r) ≡ done [] = told_line told e in
          let none : new_text ≡ [] = blank_place words (suc k) (line_at text at r) (under_plain profile words (suc k) least (line_at text at r) q) in
          turn (taken_blank m.reached.high q)
          (rw (append-nil m.reached.before) m.counted)
          (rw (none, append-nil m.texts) m.paired)
          (omega (arith, m.few))
          (rw (append-nil m.reached.before, none, append-nil m.texts) m.placed)

      pub measured_refused : {x : Refusal} → s ≡ Err x → PassedAs profile words load place text (Err x)
      unfolding SizedAs text_image text_placed address_behind
      measured_refused told =
          let q = reached_refused m.reached h is (told_line told e) in
          record {
            sized = ap (λ (a : Answer (List NumberedBody)). room_for (map_done (image_of load) a)) q;
            placed = ap (map_done (λ ls. entry_from place 1 (with_text_lines (lines_at load 2 ls) (nonblank_lines text)))) q;
          }

      module _ {x : SizedLine} (told : s ≡ Ok (Some x)) where
        abbrev number : ℕ
        number = x.number

        abbrev behind : ℕ
        behind = x.behind

        size : LineSized address (line_under profile words (suc k) least (line_at text at r)) number behind
        unfolding SizedAs
        size = told_line told e

        pub measured_span : Span load address behind
        measured_span = record { low = measured_low; some = omega (arith, size.behind_is); high = size.high }

        place_is : new_text ≡ suc k ∷ []
        place_is = line_place words (suc k) (line_at text at r) (under_plain profile words (suc k) least (line_at text at r) size.gives)

        new_line : NumberedBody
        new_line = record { number = number; body = size.body }

        abbrev here : MeasuredLine
        here = record { line = line_between load address number behind; origin = k + 1 }

        before : List MeasuredLine
        before = with_text_lines (lines_at load 2 m.reached.before) m.texts

        here_is : record { line = placed_line (end_address load m.reached.before) (link_of (end_address load m.reached.before) size.body) (2 + end_address load m.reached.before - load) new_line; origin = suc k } ≡ here
        unfolding new_line
        here_is =
            let a : end_address load m.reached.before ≡ address = sym m.reached.stands in
            let b : address + 5 + length size.body ≡ behind = sym size.behind_is in
            let f : 2 + address - load + 4 ≡ address - load + 6 = omega (arith, measured_low) in
            let t : 2 + address - load + 4 + length size.body ≡ behind - load + 1 = omega (arith, measured_low, b) in
            let n : 2 + address - load + 5 + length size.body ≡ behind - load + 2 = omega (arith, measured_low, b) in
            let o : suc k ≡ k + 1 = omega arith in
            rw a cc

        all_is : with_text_lines (lines_at load 2 (m.reached.before ++ new_line ∷ [])) (m.texts ++ new_text) ≡ before ++ here ∷ []
        unfolding before new_line
        all_is =
            ap (λ (ts : List ℕ). with_text_lines (lines_at load 2 (m.reached.before ++ new_line ∷ [])) (m.texts ++ ts)) place_is
            ∙ ap (λ (ls : List Line). with_text_lines ls (m.texts ++ suc k ∷ [])) (lines_at_more m.reached.before new_line load 2)
            ∙ with_more (lines_at load 2 m.reached.before) m.texts _ (suc k) long
            ∙ ap (λ (x : MeasuredLine). before ++ x ∷ []) here_is
          where
            long : length (lines_at load 2 m.reached.before) ≡ length m.texts
            long = omega (arith, lines_at_length m.reached.before load 2, m.counted, m.paired)

        before_length : length before ≡ count
        unfolding before
        before_length =
            with_length (lines_at load 2 m.reached.before) m.texts (omega (arith, lines_at_length m.reached.before load 2, m.counted, m.paired))
            ∙ omega (arith, lines_at_length m.reached.before load 2, m.counted)

        turn_line : {after : Option MeasuredLine} → after ≡ entry_from place 1 (before ++ here ∷ []) → MeasuredTo profile words load place text r.next (k + 1) (number + 1) behind (count + 1) after
        unfolding taken_line new_line
        turn_line {after} q =
            let o : suc number ≡ number + 1 = omega arith in
            subst (λ (n : ℕ). MeasuredTo profile words load place text r.next (k + 1) n behind (count + 1) after) o
            (turn (taken_line size)
            (omega (arith, length-append m.reached.before (new_line ∷ []), m.counted))
            (rw place_is (omega (arith, length-append m.texts (suc k ∷ []), m.paired)))
            (omega (arith, m.few))
            (q ∙ ap (λ (xs : List MeasuredLine). entry_from place 1 xs) (sym all_is)))

        pub measured_here : {l : Line} → count + 1 ≡ place → l ≡ line_between load address number behind
            → MeasuredTo profile words load place text r.next (k + 1) (number + 1) behind (count + 1) (Some (record { line = l; origin = k + 1 }))
        measured_here c i =
            turn_line
            (ap (λ (y : Line). Some (record { line = y; origin = k + 1 })) i
            ∙ sym (entry_here place 1 before here (omega (arith, before_length))))

        pub measured_past : (count + 1 ≡ place → ⊥) → MeasuredTo profile words load place text r.next (k + 1) (number + 1) behind (count + 1) found
        unfolding before
        measured_past c =
            turn_line (m.placed ∙ sym (entry_past place 1 before here (λ q. c (omega (arith, before_length)))))
