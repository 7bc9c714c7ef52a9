-- The loops over a body and over the lines of an image: what is left to count at a place, and what has been counted.
-- Assumes nothing.
use Prim.Native.Nat.{ℕ, ◌+◌, ◌-◌, ◌≤◌, ◌<◌}
use mathlib.Core.Path.{◌≡◌, refl, sym, ap, ◌∙◌}
use mathlib.Core.Bool.{Bool, true, false, cond}
use mathlib.Core.List.{List, [], ◌∷◌, ◌++◌, flat_map}
use native.Mathlib.Omega.{arith}
use lib.Dec.{ltb}
use lib.ListN.{length, get_or, drop, length-append, length-drop}
use mir.Syntax.{w64}
use mir.Val.{Fits}
use Rattle.base_refusals.specs.Numbers.{Numbered}
use Rattle.base_refusals.specs.Answer.{Answer, done, refused, map_done, answered}
use Rattle.base_refusals.specs.declared.Refusal.{Refusal}
use Rattle.image_readers.specs.declared.By.TheVariants.{Terminators}
use Rattle.image_readers.specs.declared.Line.{Line}
use Rattle.image_readers.specs.Bodies.{body_of, numbered_body, bodies_from}
use Rattle.image_readers.specs.NumberedBody.{NumberedBody}
use Rattle.image_readers.specs.Readers.{step_by}
use Rattle.base_refusals.proofs.Tight.{told_back}
use Rattle.image_readers.proofs.Reading.{bodies_line, bodies_end, bodies_refused, body_length_lem}
use Rattle.image_readers.proofs.Steps.{by_sound, found_lies}
use Rattle.word_tables.specs.Tsb.{tsb_id, tsb_text}
use Rattle.image_units.specs.declared.Mode.{Mode}
use Rattle.image_units.specs.declared.Mode.TheVariants.{Plain}
use Rattle.image_units.specs.declared.Rules.{Rules}
use Rattle.image_units.specs.declared.Taken.{Taken}
use Rattle.image_units.specs.declared.Unit.{Unit}
use Rattle.image_units.specs.declared.Unit.TheVariants.{Char, Token, Token35, Pair, Lone, Remarked}
use Rattle.image_units.specs.Units.{unit_at, units_from}
use Rattle.image_units.proofs.Walking.{unit_takes, units_none, units_more, by_units, units_end, units_at, unit_some, unit_within}
use Rattle.count_tokens.specs.Tokens.{count_rules, if_word, counted_as, tokens_of, tokens_from, tokens_in}
use Rattle.count_images.specs.Tallies.{tally, added}
use Rattle.count_images.specs.TallyHelpers.{Raisable, Tallied}
use Rattle.count_images.proofs.Tallying.{tally_none, tally_on}
use Rattle.count_images.proofs.Raising.{raisable_less, raised}
use Rattle.std.specs.Prelude.{Option, Some, None, Result, Ok, Err}

-- a unit is one token at most
word_one : (w : List ℕ) (k : ℕ) → length (if_word w k) ≤ 1
word_one [] k = omega arith
word_one (b ∷ w) k = omega arith

pub unit_one : (u : Unit) → length (counted_as u) ≤ 1
unfolding counted_as
unit_one (Char b) = omega arith
unit_one (Token b) = go (ltb b 0xCC)
  where
    go : (t : Bool) → length (cond t (b ∷ []) []) ≤ 1
    go true = omega arith
    go false = omega arith
unit_one (Token35 b) = omega arith
unit_one (Pair b) = word_one (tsb_text b) (tsb_id b)
unit_one Lone = omega arith
unit_one (Remarked b) = omega arith

-- ---- a body

-- what is left to count of a body, at a place and in a mode
abbrev left_at : Rules → Mode → List ℕ → ℕ → List ℕ
left_at rules mode body i = flat_map counted_as (units_from rules mode (drop i body))

-- the body is counted up to i
pub record BodyTallied (rules : Rules) (t body now : List ℕ) (i : ℕ) (mode : Mode) : Type 0 where
  pub within : i ≤ length body
  pub room : Raisable (length body - i) now
  pub gives : added now (tally (left_at rules mode body i)) ≡ added t (tally (tokens_of body))

pub body_start : {t : List ℕ} (body : List ℕ) {rules : Rules} → rules ≡ count_rules → Raisable (length body) t → BodyTallied rules t body t 0 Plain
unfolding tokens_of
body_start body is r = rw is (record { within = omega arith; room = raisable_less r (omega arith); gives = refl })

module _ {rules : Rules} {t body now : List ℕ} {i : ℕ} {mode : Mode} (k : BodyTallied rules t body now i mode) where
  pub body_room : i < length body → Raisable 1 now
  body_room h = raisable_less k.room (omega arith)

  module _ {u : Taken} (h : i < length body) (e : u ≡ unit_at rules mode (get_or body i 0) (drop (i + 1) body)) where
    pub body_place : Fits w64 (length body) → Fits w64 (i + u.used)
    body_place few = record { fits = omega (arith, few.fits, unit_within rules mode body i h e) }

    pub body_turn : {next : List ℕ} → next ≡ added now (tally (counted_as u.unit)) → BodyTallied rules t body next (i + u.used) u.mode
    unfolding flat_map
    body_turn s =
        let ms = counted_as u.unit in
        rw s
        (record {
          within = unit_within rules mode body i h e;
          room = raised ms k.room (omega (arith, unit_one u.unit, unit_some rules mode body i h e, unit_within rules mode body i h e));
          gives =
              tally_on now ms (left_at rules u.mode body (i + u.used))
              ∙ ap (λ (us : List Unit). added now (tally (flat_map counted_as us))) (sym (units_at rules mode body i h e))
              ∙ k.gives;
        })

  pub body_end_lem : length body ≤ i → now ≡ added t (tally (tokens_of body))
  unfolding flat_map
  body_end_lem h =
      sym (tally_none now k.room.long)
      ∙ ap (λ (us : List Unit). added now (tally (flat_map counted_as us))) (sym (units_end rules mode body i h))
      ∙ k.gives

-- ---- the lines of an image

module _ (image : List ℕ) (p : ℕ) where
  pub left_end : step_by Terminators image p ≡ done None → tokens_from image p ≡ done []
  unfolding tokens_from flat_map
  left_end e = ap (map_done _) (bodies_end (step_by Terminators) image p e)

  pub left_refused : {n : Numbered} → step_by Terminators image p ≡ refused n → tokens_from image p ≡ refused n
  unfolding tokens_from
  left_refused e = ap (map_done _) (bodies_refused (step_by Terminators) image p e)

  pub left_line : {l : Line} → step_by Terminators image p ≡ done (Some l)
      → tokens_from image p ≡ map_done (λ ts. tokens_of (body_of image l) ++ ts) (tokens_from image l.next)
  unfolding tokens_from flat_map
  left_line {l} e = ap (map_done _) (bodies_line (by_sound Terminators) image p e) ∙ go (bodies_from (step_by Terminators) image l.next)
    where
      tokens : List NumberedBody → List ℕ
      tokens = flat_map (λ (b : NumberedBody). tokens_of b.body)

      go : (a : Answer (List NumberedBody)) → map_done tokens (map_done (λ bs. numbered_body image l ∷ bs) a)
          ≡ map_done (λ ts. tokens_of (body_of image l) ++ ts) (map_done tokens a)
      go (done bs) = refl
      go (refused n) = refl

-- ---- a body has no more tokens than bytes

module _ (rules : Rules) where
  Few : Mode → List ℕ → Type 0
  Few mode s = length (flat_map counted_as (units_from rules mode s)) ≤ length s

  few_none : (mode : Mode) → Few mode []
  unfolding Few flat_map
  few_none mode = omega (arith, ap (λ us. length (flat_map counted_as us)) (units_none rules mode))

  few_more : (mode : Mode) (b : ℕ) (rest : List ℕ) → Few (unit_at rules mode b rest).mode (drop (unit_at rules mode b rest).used (b ∷ rest)) → Few mode (b ∷ rest)
  unfolding Few flat_map
  few_more mode b rest h =
      let t = unit_at rules mode b rest in
      let left = flat_map counted_as (units_from rules t.mode (drop t.used (b ∷ rest))) in
      omega
      (arith, ap (λ us. length (flat_map counted_as us)) (units_more rules mode b rest), length-append (counted_as t.unit) left, unit_one t.unit, length-drop t.used (b ∷ rest), unit_takes rules mode b rest)

pub few_tokens : (body : List ℕ) → length (tokens_of body) ≤ length body
unfolding tokens_of Few
few_tokens body = by_units count_rules (Few count_rules) (few_none count_rules) (few_more count_rules) Plain body

-- ---- counting an image

-- what is left, where the image has tokens
pub record LeftTally (image t now : List ℕ) (p : ℕ) (ms : List ℕ) : Type 0 where
  pub rest : List ℕ
  pub is : tokens_from image p ≡ done rest
  pub gives : added now (tally rest) ≡ added t (tally ms)

-- the image is counted up to p
pub record ImageTallied (image t now : List ℕ) (p : ℕ) : Type 0 where
  pub room : Raisable (1048576 - p) now
  pub left : (ms : List ℕ) → tokens_in image ≡ done ms → LeftTally image t now p ms

pub image_start : {t : List ℕ} (image : List ℕ) → Raisable 1048576 t → ImageTallied image t t 2
image_start image r = record { room = raisable_less r (omega arith); left = λ ms e. record { rest = ms; is = e; gives = refl } }

module _ {image t now : List ℕ} {p : ℕ} (k : ImageTallied image t now p) {r : Result (Option Line) Refusal} where
  module _ {l : Line} (is : r ≡ Ok (Some l)) (e : answered r ≡ step_by Terminators image p) where
    within : length (body_of image l) + (1048576 - l.next) ≤ 1048576 - p
    within =
        let d = found_lies Terminators image p is e in
        omega (arith, body_length_lem d, d.starts, d.runs, d.ends, d.within, (by_sound Terminators).not_too_long image p (told_back is e))

    pub line_room : Raisable (length (body_of image l)) now
    line_room = raisable_less k.room (omega (arith, within))

    pub image_turn : {next : List ℕ} → next ≡ added now (tally (tokens_of (body_of image l))) → ImageTallied image t next l.next
    image_turn {next} s =
        let ms = tokens_of (body_of image l) in
        rw s
        (record {
          room = raised ms k.room (omega (arith, few_tokens (body_of image l), within));
          left = λ ns f. go (k.left ns f) (tokens_from image l.next) refl;
        })
      where
        go : {ns : List ℕ} → LeftTally image t now p ns → (a : Answer (List ℕ)) → tokens_from image l.next ≡ a
            → LeftTally image t (added now (tally (tokens_of (body_of image l)))) l.next ns
        go left (done rest) q =
            let same : left.rest ≡ tokens_of (body_of image l) ++ rest = cc (left_line image p (told_back is e), q, left.is) in
            record { rest = rest; is = q; gives = tally_on now (tokens_of (body_of image l)) rest ∙ ap (λ (ms : List ℕ). added now (tally ms)) (sym same) ∙ left.gives }
        go left (refused n) q = let z : ◌≡◌ {A = ℕ} 0 1 = cc (left_line image p (told_back is e), q, left.is) in absurd (omega arith)

  pub image_end : r ≡ Ok None → answered r ≡ step_by Terminators image p → Tallied (tokens_in image) t now
  image_end is e = record { is = λ ms f. go (k.left ms f) }
    where
      go : {ms : List ℕ} → LeftTally image t now p ms → now ≡ added t (tally ms)
      go left =
          let none : left.rest ≡ [] = cc (left_end image p (told_back is e), left.is) in
          sym (tally_none now k.room.long) ∙ ap (λ (ns : List ℕ). added now (tally ns)) (sym none) ∙ left.gives

  pub image_refused : {n : Refusal} → r ≡ Err n → answered r ≡ step_by Terminators image p → Tallied (tokens_in image) t now
  image_refused is e = record { is = λ ms f. go (k.left ms f) }
    where
      go : {ms : List ℕ} → LeftTally image t now p ms → now ≡ added t (tally ms)
      go left = let z : ◌≡◌ {A = ℕ} 0 1 = cc (left_refused image p (told_back is e), left.is) in absurd (omega arith)
