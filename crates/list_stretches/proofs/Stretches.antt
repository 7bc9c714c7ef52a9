-- A line in stretches: what a room holds of the units of a body, unit by unit.
-- Assumes nothing.
use Prim.Native.Nat.{ℕ, suc, ◌+◌, ◌-◌, ◌≤◌, ◌<◌}
use mathlib.Core.Path.{◌≡◌, refl, sym, ap, ◌∙◌}
use mathlib.Core.Bool.{Bool, true, false, not, cond, ◌&&◌}
use mathlib.Core.List.{List, [], ◌∷◌, ◌++◌, append_assoc}
use native.Mathlib.Numerals.{add-one}
use native.Mathlib.Omega.{arith}
use lib.Dec.{leb, ltb}
use lib.ListN.{length, get_or, set, drop, length-append, length-drop, drop_of_length-le}
use lib.Seq.{sets, length-sets, drop-cons, drop-drop}
use borrow.Author.Tests.{le-leb, lt-leb, lt-ltb, le-ltb, leb-true, ltb-true, not-true, not-false}
use mir.Syntax.{w16, w64}
use mir.Val.{Fits}
use Rattle.base_steps.proofs.Nearer.{Nearer, again_on}
use Rattle.image_units.specs.declared.Mode.{Mode}
use Rattle.image_units.specs.declared.Mode.TheVariants.{Plain}
use Rattle.image_units.specs.declared.Rules.{Rules}
use Rattle.image_units.specs.declared.Taken.{Taken}
use Rattle.image_units.specs.declared.Unit.{Unit}
use Rattle.image_units.specs.Units.{unit_at, units_from}
use Rattle.image_units.proofs.Walking.{unit_takes, units_more, by_units, unit_within}
use Rattle.list_spelling.specs.ItselfHelpers.{lists_as_itself}
use Rattle.list_spelling.specs.Pieces.{unit_text, spelt}
use Rattle.list_spelling.proofs.Itself.{ListsItself, itself}
use Rattle.list_spelling.proofs.Short.{unit_short}
use Rattle.list_spelling.proofs.Owed.{Owed, owed_start, owed_turn, owed_end}
use Rattle.base_lent.specs.Stores.{Room, Put}
use Rattle.base_lent.proofs.Storing.{put_long, sets_append}
use Rattle.list_stretches.specs.Stretch.{Run, no_run, unit_before, run_on, run_from, Stretched, body_stretch, stretch_of, stretch_answer}
use Rattle.list_stretches.specs.StretchHelpers.{run_at, RunPut, StretchPut}
use Rattle.list_stretches.specs.declared.Place.{Place}
use Rattle.list_stretches.specs.declared.Place.TheVariants.{Number, Body, Over}
use Rattle.list_stretches.specs.declared.Spot.{Spot}
use Rattle.list_stretches.specs.declared.Stretch.{Stretch}
use Rattle.list_options.specs.declared.ListOptions.{ListOptions}
use Rattle.list_lines.specs.LineHelpers.{head_listing}
use Rattle.list_options.specs.Modes.{rules_under}
use Rattle.list_lines.proofs.Digits.{places_few}
use Rattle.base_steps.specs.Decimal.{decimal}

and_false : (b : Bool) → (b && false) ≡ false
and_false true = refl
and_false false = refl

pub and_first : (a b : Bool) → (a && b) ≡ true → a ≡ true
and_first true b e = refl
and_first false b e = let z : ◌≡◌ {A = ℕ} 0 1 = cc in absurd (omega arith)

pub and_second : (a b : Bool) → (a && b) ≡ true → b ≡ true
and_second true b e = e
and_second false b e = let z : ◌≡◌ {A = ℕ} 0 1 = cc in absurd (omega arith)

-- ---- whether a unit fits

pub any_fits : (u : Unit) (room : ℕ) → 9 ≤ room → true ≡ leb (length (unit_text u)) room
any_fits u room h = let s : length (unit_text u) ≤ room = omega (arith, unit_short u) in sym (le-leb _ _ s)

pub measured_fits : (u : Unit) (room : ℕ) {n : ℕ} → n ≡ length (unit_text u) → leb n room ≡ leb (length (unit_text u)) room
measured_fits u room e = rw e

-- ---- runs

-- a run no longer than what a unit leaves of a room is no longer than the room, with the unit or without
cond_short : (room : ℕ) (mode : Mode) (t : Taken) (r : Run) → length r.text ≤ room - length (unit_text t.unit)
    → length (cond (leb (length (unit_text t.unit)) room) (unit_before t r) (no_run mode)).text ≤ room
cond_short room mode t r h = go (leb (length (unit_text t.unit)) room) refl
  where
    go : (k : Bool) → leb (length (unit_text t.unit)) room ≡ k → length (cond k (unit_before t r) (no_run mode)).text ≤ room
    go true e = omega (arith, leb-true (length (unit_text t.unit)) room e, length-append (unit_text t.unit) r.text)
    go false e = omega arith

module _ (rules : Rules) where
  nearer : Nearer (λ (x : ℕ × Mode × List ℕ). length x.2) (λ f x. run_on rules f x.0 x.1 x.2)
  nearer x f g alike = go x.2 alike
    where
      go : (s : List ℕ) → ((y : ℕ × Mode × List ℕ) → length y.2 < length s → f y ≡ g y) → run_on rules f x.0 x.1 s ≡ run_on rules g x.0 x.1 s
      go [] h = refl
      go (b ∷ rest) h =
          let t = unit_at rules x.1 b rest in
          let n = length (unit_text t.unit) in
          ap (λ (r : Run). cond (leb n x.0) (unit_before t r) (no_run x.1))
          (h (x.0 - n, t.mode, drop t.used (b ∷ rest)) (omega (arith, length-drop t.used (b ∷ rest), unit_takes rules x.1 b rest)))

  run_none : (room : ℕ) (mode : Mode) → run_from rules room mode [] ≡ no_run mode
  unfolding run_from
  run_none room mode = refl

  run_on_lem : (room : ℕ) (mode : Mode) (b : ℕ) (rest : List ℕ) {t : Taken} → t ≡ unit_at rules mode b rest
      → run_from rules room mode (b ∷ rest)
      ≡ cond (leb (length (unit_text t.unit)) room) (unit_before t (run_from rules (room - length (unit_text t.unit)) t.mode (drop t.used (b ∷ rest)))) (no_run mode)
  unfolding run_from
  run_on_lem room mode b rest e = rw e (again_on nearer (no_run Plain) (λ x. suc (length x.2)) (λ y. omega arith) (room, mode, b ∷ rest))

  -- no longer than the room
  Short : Mode → List ℕ → Type 0
  Short mode s = (room : ℕ) → length (run_from rules room mode s).text ≤ room

  short_more : (mode : Mode) (b : ℕ) (rest : List ℕ) → Short (unit_at rules mode b rest).mode (drop (unit_at rules mode b rest).used (b ∷ rest)) → Short mode (b ∷ rest)
  unfolding Short
  short_more mode b rest h room =
      let t = unit_at rules mode b rest in
      rw (run_on_lem room mode b rest {t = unit_at rules mode b rest} refl) (cond_short room mode t _ (h (room - length (unit_text t.unit))))

  pub run_short : (mode : Mode) (s : List ℕ) (room : ℕ) → length (run_from rules room mode s).text ≤ room
  unfolding Short
  run_short = by_units rules Short (λ mode room. omega (arith, ap (λ (r : Run). length r.text) (run_none room mode))) short_more

  -- the same at a place of a body, as a loop over it needs it
  module _ (room : ℕ) (mode : Mode) (body : List ℕ) (i : ℕ) where
    pub run_end_lem : length body ≤ i → run_from rules room mode (drop i body) ≡ no_run mode
    run_end_lem h = ap (run_from rules room mode) (drop_of_length-le body h) ∙ run_none room mode

    module _ {t : Taken} (h : i < length body) (e : t ≡ unit_at rules mode (get_or body i 0) (drop (i + 1) body)) where
      run_at_lem : run_from rules room mode (drop i body)
          ≡ cond (leb (length (unit_text t.unit)) room) (unit_before t (run_from rules (room - length (unit_text t.unit)) t.mode (drop (i + t.used) body))) (no_run mode)
      run_at_lem =
          let c : drop i body ≡ get_or body i 0 ∷ drop (i + 1) body = rw add-one (drop-cons body i 0 h) in
          rw (← drop-drop t.used i body, c) (run_on_lem room mode (get_or body i 0) (drop (i + 1) body) e)

      run_full : {k : Bool} → k ≡ leb (length (unit_text t.unit)) room → k ≡ false → run_from rules room mode (drop i body) ≡ no_run mode
      run_full is f = run_at_lem ∙ rw (sym is ∙ f)

      pub run_fits : {k : Bool} → k ≡ leb (length (unit_text t.unit)) room → k ≡ true
          → run_from rules room mode (drop i body) ≡ unit_before t (run_from rules (room - length (unit_text t.unit)) t.mode (drop (i + t.used) body))
      run_fits is f = run_at_lem ∙ rw (sym is ∙ f)

-- ---- a run stored

-- with the run from here on stored, the run from the start on is
pub record RunStored (rules : Rules) (body buffer : List ℕ) (to₀ at₀ : ℕ) (mode₀ : Mode) (out : List ℕ) (to at : ℕ) (mode : Mode) : Type 0 where
  pub low : to ≤ length out
  pub owed : Owed buffer to₀ (run_from rules (length buffer - to₀) mode₀ (drop at₀ body)).text out to (run_from rules (length out - to) mode (drop at body)).text
  pub place : at + (run_from rules (length out - to) mode (drop at body)).taken ≡ at₀ + (run_from rules (length buffer - to₀) mode₀ (drop at₀ body)).taken
  pub modes : (run_from rules (length out - to) mode (drop at body)).mode ≡ (run_from rules (length buffer - to₀) mode₀ (drop at₀ body)).mode

pub stored_start : (rules : Rules) (body buffer : List ℕ) (to at : ℕ) (mode : Mode) → to ≤ length buffer → RunStored rules body buffer to at mode buffer to at mode
stored_start rules body buffer to at mode low =
    record {
      low = low;
      owed = owed_start (record { room = omega (arith, run_short rules mode (drop at body) (length buffer - to)) });
      place = refl;
      modes = refl;
    }

module _ {rules : Rules} {body buffer : List ℕ} {s : Spot} {out : List ℕ} {to at : ℕ} {mode : Mode} (k : RunStored rules body buffer s.to s.at s.mode out to at mode) where
  abbrev here : Run
  here = run_from rules (length out - to) mode (drop at body)

  -- nothing more has room, or is there
  stored_none : here ≡ no_run mode → RunPut (run_at rules body buffer s) buffer s (record { to = to; at = at; mode = mode }) out
  stored_none e =
      let p = owed_end k.owed (ap (λ (r : Run). r.text) e) in
      record {
        ends = p.ends;
        place = omega (arith, k.place, ap (λ (r : Run). r.taken) e);
        mode = sym (ap (λ (r : Run). r.mode) e) ∙ k.modes;
        stored = p.stored;
      }

  pub stored_end : length body ≤ at → RunPut (run_at rules body buffer s) buffer s (record { to = to; at = at; mode = mode }) out
  stored_end h = stored_none (run_end_lem rules (length out - to) mode body at h)

  pub stored_long : length out ≡ length buffer
  stored_long = k.owed.long

  module _ {t : Taken} {fit : Bool} (h : at < length body) (e : t ≡ unit_at rules mode (get_or body at 0) (drop (at + 1) body)) (is : fit ≡ leb (length (unit_text t.unit)) (length out - to)) where
    pub stored_full : not fit ≡ true → RunPut (run_at rules body buffer s) buffer s (record { to = to; at = at; mode = mode }) out
    stored_full f = stored_none (run_full rules (length out - to) mode body at h e is (not-true fit f))

    module _ (f : not fit ≡ false) where
      unit_room : length (unit_text t.unit) ≤ length out - to
      unit_room = leb-true (length (unit_text t.unit)) (length out - to) (sym is ∙ not-false fit f)

      pub stored_room : Room out to (unit_text t.unit)
      stored_room = record { room = omega (arith, unit_room, k.low) }

      pub stored_turn : {to' : ℕ} {out' : List ℕ} → Put out to (unit_text t.unit) to' out' → RunStored rules body buffer s.to s.at s.mode out' to' (at + t.used) t.mode
      stored_turn {to'} {out'} p =
          let text = unit_text t.unit in
          let left : length out - to - length (unit_text t.unit) ≡ length out' - to' = omega (arith, put_long p, p.ends) in
          let r : here ≡ unit_before t (run_from rules (length out' - to') t.mode (drop (at + t.used) body)) =
          run_fits rules (length out - to) mode body at h e is (not-false fit f) ∙ ap (λ (n : ℕ). unit_before t (run_from rules n t.mode (drop (at + t.used) body))) left in
          record {
            low = omega (arith, unit_room, k.low, put_long p, p.ends);
            owed = owed_turn k.owed text _ (ap (λ (x : Run). x.text) r) p;
            place = omega (arith, k.place, ap (λ (x : Run). x.taken) r);
            modes = sym (ap (λ (x : Run). x.mode) r) ∙ k.modes;
          }

    pub stored_place : Fits w64 (length body) → Fits w64 (at + t.used)
    stored_place b = record { fits = omega (arith, b.fits, unit_within rules mode body at h e) }

  -- a byte that is listed as itself
  module _ (h : at < length body) {x : Bool} (y : x ≡ true) (e : x ≡ (ltb 0 (length out - to) && lists_as_itself (get_or body at 0))) where
    abbrev unit : Taken
    unit = unit_at rules mode (get_or body at 0) (drop (at + 1) body)

    own : ListsItself mode (get_or body at 0) unit
    own = itself rules mode (get_or body at 0) (drop (at + 1) body) (and_second (ltb 0 (length out - to)) _ (sym e ∙ y))

    pub itself_place : to < length out
    itself_place = omega (arith, ltb-true 0 (length out - to) (and_first _ (lists_as_itself (get_or body at 0)) (sym e ∙ y)))

    pub stored_itself : RunStored rules body buffer s.to s.at s.mode (set out to (get_or body at 0)) (to + 1) (at + 1) mode
    stored_itself =
        let l : length (unit_text unit.unit) ≤ length out - to = omega (arith, ap length own.text, itself_place) in
        let f : not (leb (length (unit_text unit.unit)) (length out - to)) ≡ false = rw (le-leb _ _ l) in
        let p : Put out to (unit_text unit.unit) (to + 1) (set out to (get_or body at 0)) =
        record { ends = omega (arith, ap length own.text); stored = ap (sets out to) (sym own.text) } in
        rw (own.used, own.stays) at (stored_turn h refl refl f p)

-- ---- a stretch stored

module _ (rules : Rules) (body : List ℕ) {buffer : List ℕ} {s b : Spot} {half : List ℕ} (low : s.to ≤ length buffer) (p : RunPut (run_at rules body buffer s) buffer s b half) where
  abbrev run : Run
  run = run_at rules body buffer s

  half_long : length half ≡ length buffer
  half_long = ap length p.stored ∙ length-sets buffer s.to run.text

  -- the body is not through, or nothing has room behind it
  open_stretch : (leb (length body) (s.at + run.taken) && ltb (length run.text) (length buffer - s.to)) ≡ false
      → StretchPut (body_stretch rules body (length buffer - s.to) s.at s.mode) buffer s.to (record { length = b.to; place = Body b.at b.mode }) half
  unfolding body_stretch
  open_stretch e =
      rw e
      (record {
        ends = p.ends;
        place = rw (p.place, p.mode);
        stored = p.stored;
      })

  pub stretch_within : b.at < length body
      → StretchPut (body_stretch rules body (length buffer - s.to) s.at s.mode) buffer s.to (record { length = b.to; place = Body b.at b.mode }) half
  stretch_within h =
      let l : s.at + run.taken < length body = omega (arith, p.place) in open_stretch (rw (lt-leb (length body) (s.at + run.taken) l))

  pub stretch_full : length half ≤ b.to
      → StretchPut (body_stretch rules body (length buffer - s.to) s.at s.mode) buffer s.to (record { length = b.to; place = Body b.at b.mode }) half
  stretch_full h =
      let l : length buffer - s.to ≤ length run.text = omega (arith, p.ends, half_long) in
      open_stretch (rw (le-ltb (length run.text) (length buffer - s.to) l) (and_false (leb (length body) (s.at + run.taken))))

  pub stretch_over : length body ≤ b.at → b.to < length half
      → StretchPut (body_stretch rules body (length buffer - s.to) s.at s.mode) buffer s.to (record { length = b.to + 1; place = Over }) (set half b.to 0x0A)
  unfolding body_stretch
  stretch_over h r =
      let l : length body ≤ s.at + run.taken = omega (arith, p.place) in
      let m : length run.text < length buffer - s.to = omega (arith, p.ends, half_long) in
      rw (le-leb (length body) (s.at + run.taken) l, lt-ltb (length run.text) (length buffer - s.to) m)
      (record {
        ends = omega (arith, p.ends, length-append run.text (0x0A ∷ []));
        place = refl;
        stored = rw (p.stored, p.ends) (sym (sets_append buffer s.to run.text (0x0A ∷ [])));
      })

  pub stretch_fits : b.to < length half → Fits w64 (length half) → Fits w64 (b.to + 1)
  stretch_fits h f = record { fits = omega (arith, f.fits) }

-- ---- from a place on

pub head_long : (n : ℕ) → length (head_listing n) ≡ length (decimal n) + 1
unfolding head_listing
head_long n = length-append (decimal n) (0x20 ∷ [])

pub head_fits : (n : ℕ) {k : ℕ} → k ≡ length (decimal n) → Fits w16 n → Fits w64 (k + 1)
head_fits n e small = record { fits = omega (arith, places_few n e small) }

module _ (rules : Rules) (body : List ℕ) {buffer : List ℕ} {place : Place} where
  pub stretch_of_over : place ≡ Over → StretchPut (stretch_of rules body (length buffer) place) buffer 0 (record { length = 0; place = place }) buffer
  unfolding stretch_of
  stretch_of_over is = rw is (record { ends = refl; place = refl; stored = refl })

  pub stretch_of_body : {at : ℕ} {mode : Mode} {r : Stretch} {after : List ℕ} → place ≡ Body at mode → StretchPut (body_stretch rules body (length buffer - 0) at mode) buffer 0 r after
      → StretchPut (stretch_of rules body (length buffer) place) buffer 0 r after
  unfolding stretch_of
  stretch_of_body is p = let z : length buffer - 0 ≡ length buffer = omega arith in rw is (rw z at p)

  module _ {n k : ℕ} (is : place ≡ Number n) (e : k ≡ length (decimal n)) where
    pub stretch_of_none : length buffer < k + 1 → StretchPut (stretch_of rules body (length buffer) place) buffer 0 (record { length = 0; place = Number n }) buffer
    unfolding stretch_of
    stretch_of_none h =
        let l : length buffer < length (head_listing n) = omega (arith, head_long n) in
        rw is (rw (lt-leb (length (head_listing n)) (length buffer) l) (record { ends = refl; place = refl; stored = refl }))

    pub stretch_of_number : {to : ℕ} {half : List ℕ} {r : Stretch} {after : List ℕ} → k + 1 ≤ length buffer → Put buffer 0 (head_listing n) to half
        → StretchPut (body_stretch rules body (length half - to) 0 Plain) half to r after → StretchPut (stretch_of rules body (length buffer) place) buffer 0 r after
    unfolding stretch_of
    stretch_of_number {to} {half} h q p =
        let l : length (head_listing n) ≤ length buffer = omega (arith, head_long n) in
        let left : length half - to ≡ length buffer - length (head_listing n) = omega (arith, put_long q, q.ends) in
        let t : Stretched = body_stretch rules body (length buffer - length (head_listing n)) 0 Plain in
        let u : StretchPut (body_stretch rules body (length buffer - length (head_listing n)) 0 Plain) half to _ _ = rw left at p in
        rw is
        (rw (le-leb (length (head_listing n)) (length buffer) l)
        (record {
          ends = omega (arith, u.ends, q.ends, length-append (head_listing n) t.text);
          place = u.place;
          stored = u.stored ∙ rw (q.stored, q.ends) (sym (sets_append buffer 0 (head_listing n) t.text));
        }))

module _ (n : ℕ) {buffer : List ℕ} {k : ℕ} (e : k ≡ length (decimal n)) (h : k + 1 ≤ length buffer) where
  pub number_room : Room buffer 0 (head_listing n)
  number_room = record { room = omega (arith, head_long n) }

  pub number_low : {to : ℕ} {half : List ℕ} → Put buffer 0 (head_listing n) to half → to ≤ length half
  number_low q = omega (arith, put_long q, q.ends, head_long n)

-- as the options ask for it
module _ (o : ListOptions) (body : List ℕ) {buffer : List ℕ} (place : Place) {rules : Rules} {r : Stretch} {after : List ℕ} (is : rules ≡ rules_under o)
    (p : StretchPut (stretch_of rules body (length buffer) place) buffer 0 r after) where
  pub stretch_told_lem : r ≡ stretch_answer (stretch_of (rules_under o) body (length buffer) place)
  stretch_told_lem =
      let u : StretchPut (stretch_of (rules_under o) body (length buffer) place) buffer 0 r after = rw is at p in
      let s : Stretched = stretch_of (rules_under o) body (length buffer) place in
      let l : r.length ≡ length s.text = omega (arith, u.ends) in
      ap (λ (n : ℕ). record { length = n; place = r.place }) l ∙ ap (λ (q : Place). record { length = length s.text; place = q }) u.place

  pub stretch_stored : after ≡ sets buffer 0 (stretch_of (rules_under o) body (length buffer) place).text
  stretch_stored = p.stored ∙ rw is

-- ---- the stretches of a line, joined

-- a run and what is left behind it list what there was to list
module _ (rules : Rules) where
  Joins : Mode → List ℕ → Type 0
  Joins mode s =
      (room : ℕ)
      → (run_from rules room mode s).text ++ spelt (units_from rules (run_from rules room mode s).mode (drop (run_from rules room mode s).taken s)) ≡ spelt (units_from rules mode s)

  joins_none : (mode : Mode) → Joins mode []
  unfolding Joins spelt
  joins_none mode room = rw (run_none rules room mode)

  cond_joins : (k : Bool) (mode : Mode) (s : List ℕ) (t : Taken) (r : Run)
      → spelt (units_from rules mode s) ≡ unit_text t.unit ++ spelt (units_from rules t.mode (drop t.used s))
      → r.text ++ spelt (units_from rules r.mode (drop r.taken (drop t.used s))) ≡ spelt (units_from rules t.mode (drop t.used s))
      → (cond k (unit_before t r) (no_run mode)).text ++ spelt (units_from rules (cond k (unit_before t r) (no_run mode)).mode (drop (cond k (unit_before t r) (no_run mode)).taken s))
      ≡ spelt (units_from rules mode s)
  cond_joins true mode s t r e h =
      append_assoc (unit_text t.unit) r.text (spelt (units_from rules r.mode (drop (t.used + r.taken) s)))
      ∙ ap (λ (x : List ℕ). unit_text t.unit ++ x) (rw (← drop-drop r.taken t.used s) h)
      ∙ sym e
  cond_joins false mode s t r e h = refl

  joins_more : (mode : Mode) (b : ℕ) (rest : List ℕ) → Joins (unit_at rules mode b rest).mode (drop (unit_at rules mode b rest).used (b ∷ rest)) → Joins mode (b ∷ rest)
  unfolding Joins spelt
  joins_more mode b rest h room =
      let t = unit_at rules mode b rest in
      let n = length (unit_text (unit_at rules mode b rest).unit) in
      rw (run_on_lem rules room mode b rest {t = unit_at rules mode b rest} refl)
      (cond_joins (leb n room) mode (b ∷ rest) t _ (ap spelt (units_more rules mode b rest)) (h (room - n)))

  pub run_joined : (mode : Mode) (s : List ℕ) (room : ℕ)
      → (run_from rules room mode s).text ++ spelt (units_from rules (run_from rules room mode s).mode (drop (run_from rules room mode s).taken s)) ≡ spelt (units_from rules mode s)
  unfolding Joins
  run_joined = by_units rules Joins joins_none joins_more
