-- Walking over a body: a unit takes at least one byte and no more than there are, so the units of a body are the first one and the units
-- of what is left.
-- Assumes nothing.
use Prim.Native.Nat.{ℕ, suc, ◌+◌, ◌-◌, ◌≤◌, ◌<◌}
use mathlib.Core.Path.{◌≡◌, refl, ap, ◌∙◌}
use mathlib.Core.Bool.{Bool, true, false, cond}
use mathlib.Core.List.{List, [], ◌∷◌}
use native.Mathlib.Numerals.{add-one}
use native.Mathlib.Omega.{arith}
use lib.Dec.{eqb}
use lib.ListN.{length, get_or, drop, length-drop, drop_of_length-le}
use lib.Seq.{drop-cons, drop-drop}
use Rattle.base_steps.proofs.Nearer.{Nearer, again_on, by_nearer}
use Rattle.image_units.specs.declared.Mode.{Mode}
use Rattle.image_units.specs.declared.Mode.TheVariants.{Plain, Quoted, Remark, Data, QuotedData}
use Rattle.image_units.specs.declared.Rules.{Rules}
use Rattle.image_units.specs.declared.Taken.{Taken}
use Rattle.image_units.specs.declared.Unit.{Unit}
use Rattle.image_units.specs.Units.{prefixed_unit, unquoted_unit, quoted_unit, unit_at, unit_on, units_from}

-- a unit takes a byte or more of those that there are
record Uses (more : ℕ) (t : Taken) : Type 0 where
  some : 1 ≤ t.used
  within : t.used ≤ suc more

either : (more : ℕ) (b : Bool) (x y : Taken) → Uses more x → Uses more y → Uses more (cond b x y)
either more true x y h k = h
either more false x y h k = k

prefixed_uses : (mode : Mode) (rest : List ℕ) → Uses (length rest) (prefixed_unit mode rest)
prefixed_uses mode [] = record { some = omega arith; within = omega arith }
prefixed_uses mode (b ∷ rest) = record { some = omega arith; within = omega arith }

module _ (rules : Rules) where
  unquoted_uses : (mode : Mode) (b : ℕ) (rest : List ℕ) → Uses (length rest) (unquoted_unit rules mode b rest)
  unfolding unquoted_unit
  unquoted_uses mode b rest =
      let n = length rest in
      either n (eqb b 0x22) _ _ (record { some = omega arith; within = omega arith })
      (either n (eqb b 0x64) _ _
      (either n rules.prefix _ _ (prefixed_uses mode rest) (record { some = omega arith; within = omega arith }))
      (record { some = omega arith; within = omega arith }))

  uses : (mode : Mode) (b : ℕ) (rest : List ℕ) → Uses (length rest) (unit_at rules mode b rest)
  unfolding unit_at quoted_unit
  uses Plain b rest = unquoted_uses Plain b rest
  uses Quoted b rest = record { some = omega arith; within = omega arith }
  uses Remark b rest = record { some = omega arith; within = omega arith }
  uses Data b rest = unquoted_uses Data b rest
  uses QuotedData b rest = record { some = omega arith; within = omega arith }

  pub unit_takes : (mode : Mode) (b : ℕ) (rest : List ℕ) → (1 ≤ (unit_at rules mode b rest).used) × ((unit_at rules mode b rest).used ≤ suc (length rest))
  unit_takes mode b rest = ((uses mode b rest).some, (uses mode b rest).within)

  nearer : Nearer (λ (x : Mode × List ℕ). length x.1) (λ f x. unit_on rules f x.0 x.1)
  nearer x f g alike = go x.1 alike
    where
      go : (s : List ℕ) → ((y : Mode × List ℕ) → length y.1 < length s → f y ≡ g y) → unit_on rules f x.0 s ≡ unit_on rules g x.0 s
      go [] h = refl
      go (b ∷ rest) h =
          let t = unit_at rules x.0 b rest in
          let k = uses x.0 b rest in
          ap (λ (us : List Unit). t.unit ∷ us) (h (t.mode, drop t.used (b ∷ rest)) (omega (arith, length-drop t.used (b ∷ rest), k.some)))

  -- no bytes, no units; a byte and what follows it, a unit and the units behind it
  pub units_none : (mode : Mode) → units_from rules mode [] ≡ []
  unfolding units_from
  units_none mode = refl

  pub units_more : (mode : Mode) (b : ℕ) (rest : List ℕ)
      → units_from rules mode (b ∷ rest) ≡ (unit_at rules mode b rest).unit ∷ units_from rules (unit_at rules mode b rest).mode (drop (unit_at rules mode b rest).used (b ∷ rest))
  unfolding units_from
  units_more mode b rest = again_on nearer [] (λ x. suc (length x.1)) (λ y. omega arith) (mode, b ∷ rest)

  -- what holds of no bytes, and of bytes whenever it holds of what is left behind their first unit, holds of all bytes
  pub by_units : (P : Mode → List ℕ → Type 0) → ((mode : Mode) → P mode [])
      → ((mode : Mode) (b : ℕ) (rest : List ℕ) → P (unit_at rules mode b rest).mode (drop (unit_at rules mode b rest).used (b ∷ rest)) → P mode (b ∷ rest))
      → (mode : Mode) (s : List ℕ) → P mode s
  by_units P none more mode s = by_nearer (λ (x : Mode × List ℕ). length x.1) (λ x. P x.0 x.1) (λ x ih. go x.0 x.1 ih) (mode, s)
    where
      go : (m : Mode) (u : List ℕ) → ((y : Mode × List ℕ) → length y.1 < length u → P y.0 y.1) → P m u
      go m [] ih = none m
      go m (b ∷ rest) ih =
          let t = unit_at rules m b rest in
          more m b rest (ih (t.mode, drop t.used (b ∷ rest)) (omega (arith, length-drop t.used (b ∷ rest), (uses m b rest).some)))

-- the same at a place of a body, as a loop over it needs it
pub units_end : (rules : Rules) (mode : Mode) (body : List ℕ) (i : ℕ) → length body ≤ i → units_from rules mode (drop i body) ≡ []
units_end rules mode body i h = ap (units_from rules mode) (drop_of_length-le body h) ∙ units_none rules mode

module _ (rules : Rules) (mode : Mode) (body : List ℕ) (i : ℕ) {t : Taken} (h : i < length body) (e : t ≡ unit_at rules mode (get_or body i 0) (drop (i + 1) body)) where
  pub unit_some : 1 ≤ t.used
  unit_some = rw e (uses rules mode (get_or body i 0) (drop (i + 1) body)).some

  pub unit_within : i + t.used ≤ length body
  unit_within =
      let k : t.used ≤ suc (length (drop (i + 1) body)) = rw e (uses rules mode (get_or body i 0) (drop (i + 1) body)).within in
      omega (arith, length-drop (i + 1) body)

  pub units_at : units_from rules mode (drop i body) ≡ t.unit ∷ units_from rules t.mode (drop (i + t.used) body)
  units_at =
      let c : drop i body ≡ get_or body i 0 ∷ drop (i + 1) body = rw add-one (drop-cons body i 0 h) in
      rw (← drop-drop t.used i body, c, e) (units_more rules mode (get_or body i 0) (drop (i + 1) body))

  -- the next place is nearer to the end
  pub unit_nearer : length body - (i + t.used) < length body - i
  unit_nearer = omega (arith, unit_some, unit_within)
