-- The stretches of a line joined, and the lines joined, are the listing; and a room of nine bytes always brings a line nearer to its end, so
-- calls with such rooms give the whole listing.
-- Assumes nothing.
use Prim.Native.Nat.{ℕ, zero, suc, ◌+◌, ◌-◌, ◌≤◌, ◌<◌}
use mathlib.Core.Path.{◌≡◌, refl, sym, ap, ◌∙◌, subst}
use mathlib.Core.Bool.{Bool, true, false, cond, ◌&&◌}
use mathlib.Core.List.{List, [], ◌∷◌, ◌++◌, map, append_assoc, append-nil}
use native.Mathlib.Omega.{arith}
use lib.Dec.{leb, ltb}
use lib.ListN.{length, get_or, drop, length-append, drop_of_length-le}
use lib.Seq.{drop-drop}
use borrow.Author.Tests.{le-leb, lt-ltb, leb-true, leb-false, ltb-true}
use Rattle.base_steps.specs.Each.{Each}
use Rattle.base_refusals.specs.Answer.{Answer, done, refused, map_done}
use Rattle.image_readers.specs.NumberedBody.{NumberedBody}
use Rattle.image_readers.specs.declared.By.{By}
use Rattle.image_readers.specs.declared.Line.{Line}
use Rattle.image_readers.specs.Bodies.{numbered_body, bodies_from, bodies_of}
use Rattle.image_readers.specs.Chain.{Chain, here, on, Leads}
use Rattle.image_readers.specs.Lines.{lines_of}
use Rattle.image_readers.specs.Readers.{step_by}
use Rattle.image_readers.proofs.Reading.{lines_lead}
use Rattle.image_readers.proofs.Steps.{by_sound}
use Rattle.image_units.specs.declared.Mode.{Mode}
use Rattle.image_units.specs.declared.Mode.TheVariants.{Plain}
use Rattle.image_units.specs.declared.Rules.{Rules}
use Rattle.image_units.specs.Units.{unit_at, units_from}
use Rattle.image_units.proofs.Walking.{units_none, unit_some}
use Rattle.list_spelling.specs.Pieces.{unit_text, spelt}
use Rattle.list_spelling.proofs.Short.{unit_short}
use Rattle.list_lines.specs.Body.{body_listing, line_listing}
use Rattle.list_lines.specs.LineHelpers.{head_listing, rest_listing}
use Rattle.list_image.specs.Listing.{lines_listing, listing_by}
use Rattle.list_options.specs.Modes.{rules_under}
use Rattle.list_image.specs.Listing.{listing_under}
use Rattle.list_stretches.specs.Stretch.{Run, run_from, Stretched, body_stretch, number_before, stretch_of, stretch_answer, left_to_list, InStretches, over, more, LinesInStretches, no_lines, line_more, joined_parts, place_left, stretches_from, stretches_of}
use Rattle.list_options.specs.declared.ListOptions.{ListOptions}
use Rattle.list_stretches.specs.declared.Place.{Place}
use Rattle.list_stretches.specs.declared.Place.TheVariants.{Number, Body, Over}
use Rattle.list_stretches.specs.declared.Stretch.{Stretch}
use Rattle.list_lines.proofs.Digits.{places_most}
use Rattle.list_lines.proofs.Lining.{line_parts}
use Rattle.list_stretches.proofs.Stretches.{and_first, and_second, run_short, run_joined, run_end_lem, run_fits, head_long}

-- ---- what a stretch lists, and what is left behind it

module _ (rules : Rules) (body : List ℕ) where
  -- the units of a body from a place on, in a mode
  abbrev text_at : Mode → ℕ → List ℕ
  text_at mode at = spelt (units_from rules mode (drop at body))

  ended_joined : (k : Bool) (room at : ℕ) (mode : Mode) (r : Run) → (k ≡ true → length body ≤ at + r.taken)
      → r.text ++ text_at r.mode (at + r.taken) ≡ text_at mode at
      → (cond {A = Stretched} k (record { text = r.text ++ (0x0A ∷ []); place = Over }) (record { text = r.text; place = Body (at + r.taken) r.mode })).text
      ++ left_to_list rules body (cond {A = Stretched} k (record { text = r.text ++ (0x0A ∷ []); place = Over }) (record { text = r.text; place = Body (at + r.taken) r.mode })).place
      ≡ text_at mode at ++ (0x0A ∷ [])
  unfolding left_to_list spelt
  ended_joined true room at mode r h e =
      let none : text_at r.mode (at + r.taken) ≡ [] = ap (λ (s : List ℕ). spelt (units_from rules r.mode s)) (drop_of_length-le body (h refl)) ∙ ap spelt (units_none rules r.mode) in
      let all : r.text ≡ text_at mode at = sym (append-nil r.text) ∙ ap (λ (s : List ℕ). r.text ++ s) (sym none) ∙ e in
      append-nil (r.text ++ (0x0A ∷ [])) ∙ ap (λ (s : List ℕ). s ++ (0x0A ∷ [])) all
  ended_joined false room at mode r h e =
      sym (append_assoc r.text (text_at r.mode (at + r.taken)) (0x0A ∷ [])) ∙ ap (λ (s : List ℕ). s ++ (0x0A ∷ [])) e

  body_joined : (room at : ℕ) (mode : Mode) → (body_stretch rules body room at mode).text ++ left_to_list rules body (body_stretch rules body room at mode).place ≡ text_at mode at ++ (0x0A ∷ [])
  unfolding body_stretch
  body_joined room at mode =
      let r : Run = run_from rules room mode (drop at body) in
      ended_joined (leb (length body) (at + r.taken) && ltb (length r.text) room) room at mode (run_from rules room mode (drop at body))
      (λ e. leb-true (length body) (at + r.taken) (and_first (leb (length body) (at + r.taken)) (ltb (length r.text) room) e))
      (rw (← drop-drop (run_from rules room mode (drop at body)).taken at body) (run_joined rules mode (drop at body) room))

  number_joined : (k : Bool) (n : ℕ) (s : Stretched) → s.text ++ left_to_list rules body s.place ≡ rest_listing rules body
      → (cond {A = Stretched} k (number_before n s) (record { text = []; place = Number n })).text ++ left_to_list rules body (cond {A = Stretched} k (number_before n s) (record { text = []; place = Number n })).place
      ≡ left_to_list rules body (Number n)
  unfolding left_to_list
  number_joined true n s e = append_assoc (head_listing n) s.text (left_to_list rules body s.place) ∙ ap (λ (t : List ℕ). head_listing n ++ t) e
  number_joined false n s e = refl

  -- in any room
  pub stretch_joined : (room : ℕ) (place : Place) → (stretch_of rules body room place).text ++ left_to_list rules body (stretch_of rules body room place).place ≡ left_to_list rules body place
  unfolding stretch_of left_to_list rest_listing body_listing
  stretch_joined room (Number n) =
      number_joined (leb (length (head_listing n)) room) n (body_stretch rules body (room - length (head_listing n)) 0 Plain) (body_joined (room - length (head_listing n)) 0 Plain)
  stretch_joined room (Body at mode) = body_joined room at mode
  stretch_joined room Over = refl

  pub stretches_joined : {place : Place} {parts : List (List ℕ)} → InStretches rules body place parts → joined_parts parts ≡ left_to_list rules body place
  unfolding joined_parts left_to_list
  stretches_joined over = refl
  stretches_joined {place} (more room rest) =
      ap (λ (t : List ℕ). (stretch_of rules body room place).text ++ t) (stretches_joined rest) ∙ stretch_joined room place

-- ---- lines

joined_append : (ps qs : List (List ℕ)) → joined_parts (ps ++ qs) ≡ joined_parts ps ++ joined_parts qs
unfolding joined_parts
joined_append [] qs = refl
joined_append (p ∷ ps) qs = ap (λ (t : List ℕ). p ++ t) (joined_append ps qs) ∙ sym (append_assoc p (joined_parts ps) (joined_parts qs))

pub line_joined : (rules : Rules) (n : ℕ) (body : List ℕ) {parts : List (List ℕ)} → InStretches rules body (Number n) parts → joined_parts parts ≡ line_listing rules n body
unfolding left_to_list
line_joined rules n body s = stretches_joined rules body s ∙ sym (line_parts rules n body)

lines_joined : (rules : Rules) {ls : List NumberedBody} {parts : List (List ℕ)} → LinesInStretches rules ls parts → joined_parts parts ≡ lines_listing rules ls
unfolding joined_parts lines_listing
lines_joined rules no_lines = refl
lines_joined rules (line_more {l} {ls} {parts} {rest} s others) =
    joined_append parts rest ∙ ap (λ (t : List ℕ). t ++ joined_parts rest) (line_joined rules l.number l.body s)
    ∙ ap (λ (t : List ℕ). line_listing rules l.number l.body ++ t) (lines_joined rules others)

-- the stretches of the lines that a reader finds, joined, are the listing
pub listing_joined : (o : ListOptions) (image : List ℕ) {ls : List NumberedBody} {parts : List (List ℕ)} → bodies_of (step_by o.by) image ≡ done ls
    → LinesInStretches (rules_under o) ls parts → listing_under o image ≡ done (joined_parts parts)
unfolding listing_under listing_by
listing_joined o image e s = ap (map_done (lines_listing (rules_under o))) e ∙ ap done (sym (lines_joined (rules_under o) s))

-- ---- always nearer

module _ (rules : Rules) (body : List ℕ) where
  run_takes : (room at : ℕ) (mode : Mode) → 9 ≤ room → at < length body → 1 ≤ (run_from rules room mode (drop at body)).taken
  run_takes room at mode big h =
      let t = unit_at rules mode (get_or body at 0) (drop (at + 1) body) in
      let fits : length (unit_text (unit_at rules mode (get_or body at 0) (drop (at + 1) body)).unit) ≤ room = omega (arith, unit_short t.unit) in
      let e = run_fits rules room mode body at {t = unit_at rules mode (get_or body at 0) (drop (at + 1) body)} h refl {k = true} (sym (le-leb _ room fits)) refl in
      omega (arith, ap (λ (r : Run). r.taken) e, unit_some rules mode body at {t = unit_at rules mode (get_or body at 0) (drop (at + 1) body)} h refl)

  -- behind a run that took something
  ended_nearer : (k : Bool) (at : ℕ) (r : Run) → at < length body → 1 ≤ r.taken
      → place_left body (cond {A = Stretched} k (record { text = r.text ++ (0x0A ∷ []); place = Over }) (record { text = r.text; place = Body (at + r.taken) r.mode })).place
      < length body - at + 1
  unfolding place_left
  ended_nearer true at r h some = omega arith
  ended_nearer false at r h some = omega arith

  ended_most : (k : Bool) (at : ℕ) (r : Run)
      → place_left body (cond {A = Stretched} k (record { text = r.text ++ (0x0A ∷ []); place = Over }) (record { text = r.text; place = Body (at + r.taken) r.mode })).place
      ≤ length body + 1
  unfolding place_left
  ended_most true at r = omega arith
  ended_most false at r = omega arith

  body_nearer : (room at : ℕ) (mode : Mode) → 9 ≤ room → place_left body (body_stretch rules body room at mode).place < place_left body (Body at mode)
  unfolding body_stretch place_left
  body_nearer room at mode big = go (leb (length body) at) refl
    where
      go : (b : Bool) → leb (length body) at ≡ b → place_left body (body_stretch rules body room at mode).place < length body - at + 1
      go true e =
          let h : length body ≤ at = leb-true (length body) at e in
          let h₀ : length body ≤ at + 0 = omega arith in
          let some : 0 < room = omega arith in
          rw (run_end_lem rules room mode body at h, le-leb (length body) (at + 0) h₀, lt-ltb 0 room some) (omega arith)
      go false e =
          let h : at < length body = leb-false (length body) at e in
          let r : Run = run_from rules room mode (drop at body) in
          ended_nearer (leb (length body) (at + r.taken) && ltb (length r.text) room) at (run_from rules room mode (drop at body)) h (run_takes room at mode big h)

  place_nearer : (room at : ℕ) (mode : Mode) → 9 ≤ room → place_left body (stretch_of rules body room (Body at mode)).place < place_left body (Body at mode)
  unfolding stretch_of
  place_nearer = body_nearer

  number_nearer : (room n : ℕ) → n < 65536 → 9 ≤ room → place_left body (stretch_of rules body room (Number n)).place < place_left body (Number n)
  unfolding stretch_of body_stretch place_left
  number_nearer room n small big =
      let fits : length (head_listing n) ≤ room = omega (arith, head_long n, places_most n small) in
      let rest = room - length (head_listing n) in
      let r : Run = run_from rules (room - length (head_listing n)) Plain (drop 0 body) in
      rw (le-leb (length (head_listing n)) room fits)
      (omega (arith, ended_most (leb (length body) (0 + r.taken) && ltb (length r.text) rest) 0 (run_from rules (room - length (head_listing n)) Plain (drop 0 body))))

-- a line's number has 16 bits
abbrev pub SmallNumber : Place → Type 0
SmallNumber (Number n) = n < 65536
SmallNumber (Body at mode) = Unit {0}
SmallNumber Over = Unit {0}

module _ (rules : Rules) (body : List ℕ) where
  ended_stays : (k : Bool) (at : ℕ) (r : Run)
      → SmallNumber (cond {A = Stretched} k (record { text = r.text ++ (0x0A ∷ []); place = Over }) (record { text = r.text; place = Body (at + r.taken) r.mode })).place
  ended_stays true at r = tt
  ended_stays false at r = tt

  number_stays : (k : Bool) (n : ℕ) (s : Stretched) → n < 65536 → SmallNumber s.place → SmallNumber (cond {A = Stretched} k (number_before n s) (record { text = []; place = Number n })).place
  number_stays true n s small h = h
  number_stays false n s small h = small

  body_stays : (room at : ℕ) (mode : Mode) → SmallNumber (body_stretch rules body room at mode).place
  unfolding body_stretch
  body_stays room at mode =
      let r : Run = run_from rules room mode (drop at body) in
      ended_stays (leb (length body) (at + r.taken) && ltb (length r.text) room) at (run_from rules room mode (drop at body))

  stays : (room : ℕ) (place : Place) → SmallNumber place → SmallNumber (stretch_of rules body room place).place
  unfolding stretch_of
  stays room (Number n) s =
      number_stays (leb (length (head_listing n)) room) n (body_stretch rules body (room - length (head_listing n)) 0 Plain) s (body_stays (room - length (head_listing n)) 0 Plain)
  stays room (Body at mode) s = body_stays room at mode
  stays room Over s = tt

  -- no longer than the room
  ended_short : (k : Bool) (room at : ℕ) (r : Run) → (k ≡ true → length r.text < room) → length r.text ≤ room
      → length (cond {A = Stretched} k (record { text = r.text ++ (0x0A ∷ []); place = Over }) (record { text = r.text; place = Body (at + r.taken) r.mode })).text ≤ room
  ended_short true room at r h e = omega (arith, h refl, length-append r.text (0x0A ∷ []))
  ended_short false room at r h e = e

  body_stretch_short : (room at : ℕ) (mode : Mode) → length (body_stretch rules body room at mode).text ≤ room
  unfolding body_stretch
  body_stretch_short room at mode =
      let r : Run = run_from rules room mode (drop at body) in
      ended_short (leb (length body) (at + r.taken) && ltb (length r.text) room) room at (run_from rules room mode (drop at body))
      (λ e. ltb-true (length r.text) room (and_second (leb (length body) (at + r.taken)) (ltb (length r.text) room) e)) (run_short rules mode (drop at body) room)

  number_short : (k : Bool) (room n : ℕ) (s : Stretched) → (k ≡ true → length (head_listing n) ≤ room) → length s.text ≤ room - length (head_listing n)
      → length (cond {A = Stretched} k (number_before n s) (record { text = []; place = Number n })).text ≤ room
  number_short true room n s h e = omega (arith, h refl, length-append (head_listing n) s.text)
  number_short false room n s h e = omega arith

  stretch_short : (room : ℕ) (place : Place) → length (stretch_of rules body room place).text ≤ room
  unfolding stretch_of
  stretch_short room (Number n) =
      number_short (leb (length (head_listing n)) room) room n (body_stretch rules body (room - length (head_listing n)) 0 Plain) (leb-true (length (head_listing n)) room)
      (body_stretch_short (room - length (head_listing n)) 0 Plain)
  stretch_short room (Body at mode) = body_stretch_short room at mode
  stretch_short room Over = omega arith

-- ---- what a call answers

module _ (o : ListOptions) (body : List ℕ) (room : ℕ) (place : Place) {r : Stretch} (is : r ≡ stretch_answer (stretch_of (rules_under o) body room place)) where
  pub stretch_nearer : 9 ≤ room → SmallNumber place → (place ≡ Over → ⊥) → place_left body r.place < place_left body place
  stretch_nearer big small left = rw is (go place small left)
    where
      go : (q : Place) → SmallNumber q → (q ≡ Over → ⊥) → place_left body (stretch_of (rules_under o) body room q).place < place_left body q
      go (Number n) s l = number_nearer (rules_under o) body room n s big
      go (Body at mode) s l = place_nearer (rules_under o) body room at mode big
      go Over s l = absurd (l refl)

  pub number_small : SmallNumber place → SmallNumber r.place
  number_small small = subst (λ (q : Stretch). SmallNumber q.place) (sym is) (stays (rules_under o) body room place small)

  pub stretch_held : r.length ≤ room
  stretch_held = rw is (stretch_short (rules_under o) body room place)

-- ---- what a caller is given

-- calls with nine bytes or more come to a line's end
module _ (rules : Rules) (body : List ℕ) (rooms : ℕ → ℕ) (big : (k : ℕ) → 9 ≤ rooms k) where
  line_given : (most k : ℕ) (place : Place) → SmallNumber place → place_left body place ≤ most → InStretches rules body place (stretches_from rules body rooms most k place)
  unfolding stretches_from place_left
  line_given zero k (Number n) small few = absurd (omega arith)
  line_given zero k (Body at mode) small few = absurd (omega arith)
  line_given zero k Over small few = over
  line_given (suc most) k (Number n) small few =
      more (rooms k)
      (line_given most (suc k) (stretch_of rules body (rooms k) (Number n)).place (stays rules body (rooms k) (Number n) small) (omega (arith, number_nearer rules body (rooms k) n small (big k))))
  line_given (suc most) k (Body at mode) small few =
      more (rooms k)
      (line_given most (suc k) (stretch_of rules body (rooms k) (Body at mode)).place (stays rules body (rooms k) (Body at mode) tt) (omega (arith, place_nearer rules body (rooms k) at mode (big k))))
  line_given (suc most) k Over small few = over

-- so what they give of lines is the lines in stretches
pub lines_given : (rules : Rules) (rooms : ℕ → ℕ → ℕ) → ((j k : ℕ) → 9 ≤ rooms j k) → (j : ℕ) (ls : List NumberedBody) → Each (λ l. l.number < 65536) ls
    → LinesInStretches rules ls (stretches_of rules rooms j ls)
unfolding stretches_of
lines_given rules rooms big j [] small = no_lines
lines_given rules rooms big j (l ∷ ls) small =
    line_more (line_given rules l.body (rooms j) (big j) (place_left l.body (Number l.number)) 0 (Number l.number) small.0 (omega arith))
    (lines_given rules rooms big (suc j) ls small.1)

-- in an image of bytes a line's number has 16 bits
numbers_small : (by : By) (image : List ℕ) → ((i : ℕ) → get_or image i 0 < 256) → {p q : ℕ} {ls : List Line} → Chain (step_by by image) p ls q
    → Each (λ (l : NumberedBody). l.number < 65536) (map (numbered_body image) ls)
numbers_small by image bytes here = tt
numbers_small by image bytes (on {p = p} e c) =
    (omega (arith, ((by_sound by).lies image p e).number, bytes (p + 2), bytes (p + 2 + 1)), numbers_small by image bytes c)

-- "Every image taken before is proved to give the same listing bytes when the parts are joined": what calls give, in any rooms of nine bytes or
-- more, joined is the listing; a refusal is the same on both sides
pub listing_given : (o : ListOptions) (image : List ℕ) → ((i : ℕ) → get_or image i 0 < 256) → (rooms : ℕ → ℕ → ℕ) → ((j k : ℕ) → 9 ≤ rooms j k)
    → listing_under o image ≡ map_done (λ ls. joined_parts (stretches_of (rules_under o) rooms 0 ls)) (bodies_of (step_by o.by) image)
unfolding listing_under listing_by bodies_from
listing_given o image bytes rooms big = go (lines_of (step_by o.by) image) (lines_lead (by_sound o.by) image 2)
  where
    go : (a : Answer (List Line)) → Leads (step_by o.by) image 2 a
        → map_done (lines_listing (rules_under o)) (map_done (map (numbered_body image)) a)
        ≡ map_done (λ ls. joined_parts (stretches_of (rules_under o) rooms 0 ls)) (map_done (map (numbered_body image)) a)
    go (done ls) k = ap done (sym (lines_joined (rules_under o) (lines_given (rules_under o) rooms big 0 (map (numbered_body image) ls) (numbers_small o.by image bytes k.1))))
    go (refused n) k = refl
