-- The rows of an image's lines, one behind the other.
-- Assumes nothing.
use Prim.Native.Nat.{ℕ, ◌+◌, ◌*◌, ◌≤◌, ◌<◌}
use mathlib.Core.Path.{◌≡◌, refl, sym, ap, ◌∙◌}
use mathlib.Core.List.{List, [], ◌∷◌, ◌++◌, append_assoc, append-nil}
use native.Mathlib.Omega.{arith}
use lib.ListN.{length, get_or, drop, drop_of_length-le}
use lib.Seq.{drop-cons, drop-drop}
use mir.Syntax.{w64}
use mir.Val.{Fits}
use Rattle.base_refusals.specs.Answer.{Answer, done, refused, map_done, numbered, answered}
use Rattle.base_refusals.specs.declared.Refusal.{Refusal}
use Rattle.base_lent.specs.Lent.{Lent, into_buffer}
use Rattle.base_lent.specs.Stores.{Put}
use Rattle.base_lent.proofs.Storing.{put_as, put_both, put_none, put_long}
use Rattle.say_put.specs.Rows.{filled}
use Rattle.image_readers.specs.declared.By.{By}
use Rattle.image_readers.specs.declared.Line.{Line}
use Rattle.image_readers.specs.Lines.{lines_from, lines_of, overview_of, overview}
use Rattle.image_readers.specs.Readers.{step_by}
use Rattle.image_readers.proofs.Equations.{LiesAt, lines_line, lines_end, lines_refused}
use Rattle.base_refusals.proofs.Tight.{told_back}
use Rattle.image_readers.proofs.Steps.{by_sound, found_lies}
use Rattle.image_rows.specs.Places.{place_text, place_rows, places_shown}
use Rattle.image_rows.specs.PartHelpers.{Adds, AddsTwo, Stores, IsText}
use Rattle.image_readers.specs.declared.Overview.{Overview}
use Rattle.std.specs.Prelude.{Option, Some, None, Result, Ok, Err}

module _ (l : Line) (origins : List ℕ) (before : ℕ) {buffer after : List ℕ} {at behind : ℕ} where
  pub adds_origin : before < length origins → Adds buffer at (filled (0x23 ∷ 0x09 ∷ 0x23 ∷ 0x09 ∷ 0x23 ∷ []) l.number l.address (get_or origins before 0)) behind after
      → Adds buffer at (place_text l (drop before origins)) behind after
  unfolding place_text
  adds_origin h p = rw (drop-cons origins before 0 h) p

  pub adds_bare : length origins ≤ before → Adds buffer at (filled (0x23 ∷ 0x09 ∷ 0x23 ∷ []) l.number l.address 0) behind after
      → Adds buffer at (place_text l (drop before origins)) behind after
  unfolding place_text
  adds_bare h p = rw (drop_of_length-le origins h) p

pub adds_end : {buffer half after text : List ℕ} {at mid behind : ℕ} → Adds buffer at text mid half → Adds half mid (0x0A ∷ []) behind after → AddsTwo buffer at text behind after
adds_end {text = text} p q = record { put = put_both text (0x0A ∷ []) p.put q.put; near = omega (arith, p.near, q.near) }

-- ---- the loop

-- the rows of the lines from an offset on, behind so many
abbrev pub rest_shown : By → List ℕ → List ℕ → ℕ → ℕ → Answer (List ℕ)
rest_shown by s origins p k = map_done (λ ls. place_rows ls (drop k origins)) (lines_from (step_by by) s p)

-- of the rows some are stored, and the rest follows
pub record Placing (by : By) (s origins buffer out : List ℕ) (p k to : ℕ) : Type 0 where
  pub text : List ℕ
  pub put : Put buffer 0 text to out
  pub few : k ≤ p
  pub near : to ≤ 5120 * p
  pub onward : places_shown by s origins ≡ map_done (λ t. text ++ t) (rest_shown by s origins p k)

none : (a : Answer (List ℕ)) → a ≡ map_done (λ t. [] ++ t) a
none (done t) = refl
none (refused n) = refl

both : (x y : List ℕ) (a : Answer (List ℕ)) → map_done (λ t. x ++ t) (map_done (λ t. y ++ t) a) ≡ map_done (λ t. (x ++ y) ++ t) a
both x y (done t) = ap done (sym (append_assoc x y t))
both x y (refused n) = refl

rows_line : (origins : List ℕ) (k : ℕ) (l : Line) (a : Answer (List Line)) → map_done (λ ls. place_rows ls (drop k origins)) (map_done (λ ls. l ∷ ls) a)
    ≡ map_done (λ t. (place_text l (drop k origins) ++ (0x0A ∷ [])) ++ t) (map_done (λ ls. place_rows ls (drop (k + 1) origins)) a)
unfolding place_rows
rows_line origins k l (done ls) =
    ap done
    (ap (λ (os : List ℕ). place_text l (drop k origins) ++ (0x0A ∷ place_rows ls os)) (drop-drop 1 k origins)
    ∙ sym (append_assoc (place_text l (drop k origins)) (0x0A ∷ []) (place_rows ls (drop (k + 1) origins))))
rows_line origins k l (refused n) = refl

pub placing_start : (by : By) (s origins buffer : List ℕ) → Placing by s origins buffer buffer 2 0 0
unfolding places_shown
placing_start by s origins buffer =
    record { text = []; put = put_none buffer 0; few = omega arith; near = omega arith; onward = none (places_shown by s origins) }

module _ (by : By) (s origins : List ℕ) {buffer out : List ℕ} {p k to : ℕ} {r : Result (Option Line) Refusal} (i : Placing by s origins buffer out p k to) where
  pub placing_room : {l : Line} → r ≡ Ok (Some l) → answered r ≡ step_by by s p → to ≤ 1099511625216
  placing_room {l} is e =
      let d : LiesAt s p l = found_lies by s p is e in
      let long : length s ≤ 1048576 = (by_sound by).not_too_long s p (told_back is e) in
      omega (arith, i.near, d.starts, d.runs, d.ends, d.within)

  pub placing_few : {l : Line} → r ≡ Ok (Some l) → answered r ≡ step_by by s p → Fits w64 (k + 1)
  placing_few {l} is e =
      let d : LiesAt s p l = found_lies by s p is e in
      let long : length s ≤ 1048576 = (by_sound by).not_too_long s p (told_back is e) in
      record { fits = omega (arith, i.few, d.starts, d.runs, d.ends, d.within) }

  pub placing_turn : {l : Line} {mid : ℕ} {half : List ℕ} → r ≡ Ok (Some l) → answered r ≡ step_by by s p → AddsTwo out to (place_text l (drop k origins)) mid half
      → Placing by s origins buffer half l.next (k + 1) mid
  placing_turn {l} is e a =
      let d : LiesAt s p l = found_lies by s p is e in
      let row : List ℕ = place_text l (drop k origins) ++ (0x0A ∷ []) in
      record {
        text = i.text ++ row;
        put = put_both i.text row i.put a.put;
        few = omega (arith, i.few, d.starts, d.runs, d.ends);
        near = omega (arith, i.near, a.near, d.starts, d.runs, d.ends);
        onward =
            i.onward
            ∙ ap (λ (b : Answer (List Line)). map_done (λ t. i.text ++ t) (map_done (λ ls. place_rows ls (drop k origins)) b)) (lines_line (by_sound by) s p (told_back is e))
            ∙ ap (map_done (λ t. i.text ++ t)) (rows_line origins k l (lines_from (step_by by) s l.next))
            ∙ both i.text row (rest_shown by s origins l.next (k + 1));
      }

  pub placing_end : r ≡ Ok None → answered r ≡ step_by by s p → Stores (places_shown by s origins) buffer to out
  unfolding place_rows
  placing_end is e =
      let all : places_shown by s origins ≡ done (i.text ++ []) = i.onward ∙ ap (λ (b : Answer (List Line)). map_done (λ t. i.text ++ t) (map_done (λ ls. place_rows ls (drop k origins)) b)) (lines_end (step_by by) s p (told_back is e)) in
      record {
        stores = λ t f. let same : i.text ++ [] ≡ t = cc in put_as (sym (append-nil i.text) ∙ same) i.put;
        sized = put_long i.put;
      }

  pub placing_refused : {m : Refusal} → r ≡ Err m → answered r ≡ step_by by s p → Stores (places_shown by s origins) buffer to out
  placing_refused {m} is e =
      let all : places_shown by s origins ≡ refused (numbered m) = i.onward ∙ ap (λ (b : Answer (List Line)). map_done (λ t. i.text ++ t) (map_done (λ ls. place_rows ls (drop k origins)) b)) (lines_refused (step_by by) s p (told_back is e)) in
      record { stores = λ t f. let z : ◌≡◌ {A = ℕ} 0 1 = cc in absurd (omega arith); sized = put_long i.put }

-- ---- the whole

module _ (by : By) (s origins : List ℕ) {r : Result Overview Refusal} where
  pub checked_text_lem : {v : Overview} → r ≡ Ok v → answered r ≡ overview (step_by by) s → IsText (places_shown by s origins)
  unfolding places_shown overview
  checked_text_lem {v} is e = go (lines_of (step_by by) s) (told_back is e)
    where
      go : (a : Answer (List Line)) → map_done (overview_of s) a ≡ done v → IsText (map_done (λ ls. place_rows ls origins) a)
      go (done ls) f = tt
      go (refused n) f = let z : ◌≡◌ {A = ℕ} 0 1 = cc in absurd (omega arith)

  pub checked_none : {m : Refusal} (out : List ℕ) → r ≡ Err m → answered r ≡ overview (step_by by) s
      → ◌≡◌ {A = Lent} (record { answer = refused (numbered m); buffer = out }) (into_buffer (places_shown by s origins) out)
  unfolding places_shown overview into_buffer
  checked_none {m} out is e = go (lines_of (step_by by) s) (told_back is e)
    where
      go : (a : Answer (List Line)) → map_done (overview_of s) a ≡ refused (numbered m)
          → ◌≡◌ {A = Lent} (record { answer = refused (numbered m); buffer = out }) (into_buffer (map_done (λ ls. place_rows ls origins) a) out)
      go (done ls) f = let z : ◌≡◌ {A = ℕ} 0 1 = cc in absurd (omega arith)
      go (refused n) f = let g : numbered m ≡ n = cc in rw g refl
