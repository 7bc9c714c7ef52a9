-- The loops over a body: what is left to list at a place, what was counted, what was stored.
-- Assumes nothing.
use Prim.Native.Nat.{ℕ, ◌+◌, ◌*◌, ◌≤◌, ◌<◌}
use mathlib.Core.Path.{◌≡◌, refl, sym, ap, ◌∙◌}
use mathlib.Core.Bool.{Bool, true}
use mathlib.Core.List.{List, [], ◌∷◌, ◌++◌}
use native.Mathlib.Omega.{arith}
use lib.ListN.{length, get_or, drop, set, length-append, length-drop}
use lib.Seq.{sets}
use mir.Syntax.{w64}
use mir.Val.{Fits}
use Rattle.base_lent.specs.Stores.{Room, Put}
use Rattle.image_units.specs.declared.Mode.{Mode}
use Rattle.image_units.specs.declared.Mode.TheVariants.{Plain}
use Rattle.image_units.specs.declared.Rules.{Rules}
use Rattle.image_units.specs.declared.Taken.{Taken}
use Rattle.image_units.specs.Units.{unit_at, units_from}
use Rattle.image_units.proofs.Walking.{unit_takes, units_none, units_more, by_units, units_end, units_at, unit_some, unit_within}
use Rattle.list_spelling.specs.ItselfHelpers.{lists_as_itself}
use Rattle.list_spelling.specs.Pieces.{unit_text, spelt}
use Rattle.list_spelling.proofs.Itself.{ListsItself, itself}
use Rattle.list_spelling.proofs.Owed.{Owed, owed_start, owed_room, owed_turn, owed_end}
use Rattle.list_spelling.proofs.Short.{unit_short}
use Rattle.list_lines.specs.Body.{body_listing}

-- what is left to list of a body, at a place and in a mode
abbrev pub left_at : Rules → Mode → List ℕ → ℕ → List ℕ
left_at rules mode body i = spelt (units_from rules mode (drop i body))

-- at i the body is listed up to the end
left_none : (rules : Rules) (mode : Mode) (body : List ℕ) (i : ℕ) → length body ≤ i → left_at rules mode body i ≡ []
unfolding spelt
left_none rules mode body i h = ap spelt (units_end rules mode body i h)

module _ (rules : Rules) (mode : Mode) (body : List ℕ) (i : ℕ) {t : Taken} (h : i < length body) (e : t ≡ unit_at rules mode (get_or body i 0) (drop (i + 1) body)) where
  left_more : left_at rules mode body i ≡ unit_text t.unit ++ left_at rules t.mode body (i + t.used)
  unfolding spelt
  left_more = ap spelt (units_at rules mode body i h e)

  unit_fits : length body ≤ 1048576 → Fits w64 (i + t.used)
  unit_fits few = record { fits = omega (arith, unit_within rules mode body i h e) }

-- ---- counting

-- i bytes of the body are counted, and quoting is as the mode says there
pub record BodyCounted (rules : Rules) (body : List ℕ) (i : ℕ) (mode : Mode) (n : ℕ) : Type 0 where
  pub within : i ≤ length body
  pub short : n ≤ 9 * i
  pub gives : n + length (left_at rules mode body i) ≡ length (body_listing rules body)

pub counted_start : (rules : Rules) (body : List ℕ) → BodyCounted rules body 0 Plain 0
unfolding body_listing
counted_start rules body = record { within = omega arith; short = omega arith; gives = omega arith }

module _ {rules : Rules} {body : List ℕ} {i : ℕ} {mode : Mode} {n : ℕ} (k : BodyCounted rules body i mode n) where
  module _ {t : Taken} (h : i < length body) (e : t ≡ unit_at rules mode (get_or body i 0) (drop (i + 1) body)) where
    pub counted_place : length body ≤ 1048576 → Fits w64 (i + t.used)
    counted_place few = unit_fits rules mode body i h e few

    module _ {m : ℕ} (is : m ≡ length (unit_text t.unit)) where
      pub counted_turn : BodyCounted rules body (i + t.used) t.mode (n + m)
      counted_turn =
          let text = unit_text t.unit in
          record {
            within = unit_within rules mode body i h e;
            short = omega (arith, unit_some rules mode body i h e, unit_short t.unit, k.short);
            gives =
                omega
                (arith, k.gives, ap length (left_more rules mode body i h e), length-append text (left_at rules t.mode body (i + t.used)));
          }

      pub counted_fits : length body ≤ 1048576 → Fits w64 (n + m)
      counted_fits few = record { fits = omega (arith, counted_turn.short, counted_turn.within) }

  -- a byte that is listed as itself
  module _ (h : i < length body) {x : Bool} (t : x ≡ true) (e : x ≡ lists_as_itself (get_or body i 0)) where
    pub counted_itself : BodyCounted rules body (i + 1) mode (n + 1)
    counted_itself =
        let s = itself rules mode (get_or body i 0) (drop (i + 1) body) (sym e ∙ t) in
        rw (s.used, s.stays) at (counted_turn h refl (sym (ap length s.text)))

    pub itself_fits : length body ≤ 1048576 → Fits w64 (n + 1)
    itself_fits few = record { fits = omega (arith, k.short) }

  pub counted_end : length body ≤ i → n ≡ length (body_listing rules body)
  counted_end h = omega (arith, k.gives, ap length (left_none rules mode body i h))

-- ---- storing

pub record BodyWritten (rules : Rules) (body buffer : List ℕ) (at : ℕ) (out : List ℕ) (i : ℕ) (mode : Mode) (to : ℕ) : Type 0 where
  pub owed : Owed buffer at (body_listing rules body) out to (left_at rules mode body i)

pub written_start : {rules : Rules} {body buffer : List ℕ} {at : ℕ} → Room buffer at (body_listing rules body) → BodyWritten rules body buffer at buffer 0 Plain at
unfolding body_listing
written_start r = record { owed = owed_start r }

module _ {rules : Rules} {body buffer : List ℕ} {at : ℕ} {out : List ℕ} {i : ℕ} {mode : Mode} {to : ℕ} (k : BodyWritten rules body buffer at out i mode to) where
  module _ {t : Taken} (h : i < length body) (e : t ≡ unit_at rules mode (get_or body i 0) (drop (i + 1) body)) where
    pub written_room : Room out to (unit_text t.unit)
    written_room = owed_room k.owed (unit_text t.unit) (left_at rules t.mode body (i + t.used)) (left_more rules mode body i h e)

    pub written_place : length body ≤ 1048576 → Fits w64 (i + t.used)
    written_place few = unit_fits rules mode body i h e few

    pub written_turn : {to' : ℕ} {out' : List ℕ} → Put out to (unit_text t.unit) to' out' → BodyWritten rules body buffer at out' (i + t.used) t.mode to'
    written_turn p =
        record { owed = owed_turn k.owed (unit_text t.unit) (left_at rules t.mode body (i + t.used)) (left_more rules mode body i h e) p }

  -- a byte that is listed as itself
  module _ (h : i < length body) {x : Bool} (t : x ≡ true) (e : x ≡ lists_as_itself (get_or body i 0)) where
    own : ListsItself mode (get_or body i 0) (unit_at rules mode (get_or body i 0) (drop (i + 1) body))
    own = itself rules mode (get_or body i 0) (drop (i + 1) body) (sym e ∙ t)

    pub itself_room : to < length out
    itself_room = omega (arith, (written_room h refl).room, ap length own.text)

    pub written_itself : BodyWritten rules body buffer at (set out to (get_or body i 0)) (i + 1) mode (to + 1)
    written_itself =
        let p : Put out to (unit_text (unit_at rules mode (get_or body i 0) (drop (i + 1) body)).unit) (to + 1) (set out to (get_or body i 0)) =
        record { ends = omega (arith, ap length own.text); stored = ap (sets out to) (sym own.text) } in
        rw (own.used, own.stays) at (written_turn h refl p)

  pub written_end : length body ≤ i → Put buffer at (body_listing rules body) to out
  written_end h = owed_end k.owed (left_none rules mode body i h)

  pub written_long : length out ≡ length buffer
  written_long = k.owed.long

-- ---- how long a body's listing can be

module _ (rules : Rules) where
  Short : Mode → List ℕ → Type 0
  Short mode s = length (spelt (units_from rules mode s)) ≤ 9 * length s

  short_none : (mode : Mode) → Short mode []
  unfolding Short spelt
  short_none mode = omega (arith, ap (λ us. length (spelt us)) (units_none rules mode))

  short_more : (mode : Mode) (b : ℕ) (rest : List ℕ) → Short (unit_at rules mode b rest).mode (drop (unit_at rules mode b rest).used (b ∷ rest)) → Short mode (b ∷ rest)
  unfolding Short spelt
  short_more mode b rest h =
      let t = unit_at rules mode b rest in
      let left = spelt (units_from rules t.mode (drop t.used (b ∷ rest))) in
      omega
      (arith, ap (λ us. length (spelt us)) (units_more rules mode b rest), length-append (unit_text t.unit) left, unit_short t.unit, length-drop t.used (b ∷ rest), unit_takes rules mode b rest)

  pub body_short : (body : List ℕ) → length (body_listing rules body) ≤ 9 * length body
  unfolding body_listing Short
  body_short body = by_units rules Short short_none short_more Plain body
