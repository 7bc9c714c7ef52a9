-- What a byte of a body is, case by case: the tests that were taken say which case of the definition holds.
-- Assumes nothing.
use Prim.Native.Nat.{ℕ, ◌+◌, ◌≤◌, ◌<◌}
use mathlib.Core.Logic.{◌⊎◌, inl, inr}
use mathlib.Core.Path.{◌≡◌, refl, ◌∙◌}
use mathlib.Core.Bool.{true, false, cond}
use mathlib.Core.List.{List}
use native.Mathlib.Omega.{arith}
use lib.ListN.{length, get_or, drop}
use lib.Seq.{drop-cons}
use borrow.Author.Tests.{eq-eqb, ne_eqb, lt-leb, le-leb}
use Rattle.image_units.specs.declared.Mode.{Mode}
use Rattle.image_units.specs.declared.Mode.TheVariants.{Plain, Quoted, Remark, Data, QuotedData}
use Rattle.image_units.specs.declared.Rules.{Rules}
use Rattle.image_units.specs.declared.Taken.{Taken}
use Rattle.image_units.specs.declared.Unit.{Unit}
use Rattle.image_units.specs.declared.Unit.TheVariants.{Char, Pair, Remarked}
use Rattle.image_units.specs.Units.{toggled_mode, mode_behind, one_unit, token_unit, prefixed_unit, unquoted_unit, quoted_unit, unit_at}

-- the mode behind a byte
module _ (rules : Rules) (b : ℕ) {mode : Mode} where
  module _ (is : mode ≡ Plain) where
    behind_token : {m : Mode} → b ≡ 0x8F → cond rules.remarks Remark Plain ≡ m → m ≡ mode_behind rules mode b
    unfolding mode_behind
    behind_token e o = rw (is, ← o) (simp (eq-eqb _ _ e))

    behind_items : {m : Mode} → b ≡ 0x83 → cond rules.items Data Plain ≡ m → m ≡ mode_behind rules mode b
    unfolding mode_behind
    behind_items e o = let n : b ≡ 0x8F → ⊥ = λ q. omega arith in rw (is, ← o) (simp (ne_eqb _ _ n, eq-eqb _ _ e))

    pub behind_remark_lem : b ≡ 0x8F → rules.remarks ≡ true → Remark ≡ mode_behind rules mode b
    behind_remark_lem e t = behind_token e (rw t)

    pub behind_no_remark : b ≡ 0x8F → rules.remarks ≡ false → mode ≡ mode_behind rules mode b
    behind_no_remark e t = behind_token e (rw (t, is))

    pub behind_data : b ≡ 0x83 → rules.items ≡ true → Data ≡ mode_behind rules mode b
    behind_data e t = behind_items e (rw t)

    pub behind_no_data : b ≡ 0x83 → rules.items ≡ false → mode ≡ mode_behind rules mode b
    behind_no_data e t = behind_items e (rw (t, is))

    pub behind_plain : (b ≡ 0x8F → ⊥) → (b ≡ 0x83 → ⊥) → mode ≡ mode_behind rules mode b
    unfolding mode_behind
    behind_plain n m = rw is (simp (ne_eqb _ _ n, ne_eqb _ _ m))

  pub behind_colon : mode ≡ Data → b ≡ 0x3A → Plain ≡ mode_behind rules mode b
  unfolding mode_behind
  behind_colon is e = rw is (simp (eq-eqb _ _ e))

  pub behind_item : mode ≡ Data → (b ≡ 0x3A → ⊥) → mode ≡ mode_behind rules mode b
  unfolding mode_behind
  behind_item is n = rw is (simp (ne_eqb _ _ n))

-- the other modes stay
pub behind_other : (rules : Rules) (b : ℕ) (mode : Mode) → (mode ≡ Plain → ⊥) → (mode ≡ Data → ⊥) → mode ≡ mode_behind rules mode b
unfolding mode_behind
behind_other rules b Plain n m = absurd (n refl)
behind_other rules b Quoted n m = refl
behind_other rules b Remark n m = refl
behind_other rules b Data n m = absurd (m refl)
behind_other rules b QuotedData n m = refl

-- a prefix with a byte behind it is a pair, and opens nothing
pub prefixed_pair : (body : List ℕ) (i : ℕ) (mode : Mode)
    → i + 1 < length body → ◌≡◌ {A = Taken} (record { unit = Pair (get_or body (i + 1) 0); used = 2; mode = mode }) (prefixed_unit mode (drop (i + 1) body))
prefixed_pair body i mode h = rw (drop-cons body (i + 1) 0 h)

-- an unquoted byte
module _ (rules : Rules) (mode : Mode) (b : ℕ) (rest : List ℕ) {r : Taken} {m : Mode} where
  pub unquoted_quote : b ≡ 0x22 → r ≡ one_unit (Char b) m → m ≡ toggled_mode mode → r ≡ unquoted_unit rules mode b rest
  unfolding unquoted_unit
  unquoted_quote e o t = rw (o, t) (simp (eq-eqb _ _ e))

  pub unquoted_token : {u : Unit} → 0x80 ≤ b → u ≡ token_unit rules b → r ≡ one_unit u m → m ≡ mode_behind rules mode b → r ≡ unquoted_unit rules mode b rest
  unfolding unquoted_unit
  unquoted_token l is o t =
      let n : b ≡ 0x22 → ⊥ = λ q. omega arith in
      let k : b ≡ 0x64 → ⊥ = λ q. omega arith in
      rw (o, t, is) (simp (ne_eqb _ _ n, ne_eqb _ _ k, le-leb _ _ l))

  pub unquoted_char : b < 0x80 → (b ≡ 0x22 → ⊥) → (b ≡ 0x64 → ⊥) → r ≡ one_unit (Char b) m → m ≡ mode_behind rules mode b → r ≡ unquoted_unit rules mode b rest
  unfolding unquoted_unit
  unquoted_char l n k o t = rw (o, t) (simp (ne_eqb _ _ n, ne_eqb _ _ k, lt-leb _ _ l))

module _ (rules : Rules) (mode : Mode) (b : ℕ) (rest : List ℕ) {r : Taken} where
  pub unquoted_prefix : b ≡ 0x64 → rules.prefix ≡ true → r ≡ prefixed_unit mode rest → r ≡ unquoted_unit rules mode b rest
  unfolding unquoted_unit
  unquoted_prefix e p o = let n : b ≡ 0x22 → ⊥ = λ q. omega arith in rw o (simp (ne_eqb _ _ n, eq-eqb _ _ e, p))

  pub unquoted_no_prefix : b ≡ 0x64 → rules.prefix ≡ false → r ≡ one_unit (Char b) mode → r ≡ unquoted_unit rules mode b rest
  unfolding unquoted_unit
  unquoted_no_prefix e p o = let n : b ≡ 0x22 → ⊥ = λ q. omega arith in rw o (simp (ne_eqb _ _ n, eq-eqb _ _ e, p))

-- a quoted byte
module _ (mode : Mode) (b : ℕ) {r : Taken} {m : Mode} (o : r ≡ one_unit (Char b) m) where
  pub quoted_quote : b ≡ 0x22 → m ≡ toggled_mode mode → r ≡ quoted_unit mode b
  unfolding quoted_unit
  quoted_quote e t = rw (o, t) (simp (eq-eqb _ _ e))

  pub quoted_char : (b ≡ 0x22 → ⊥) → m ≡ mode → r ≡ quoted_unit mode b
  unfolding quoted_unit
  quoted_char n t = rw (o, t) (simp (ne_eqb _ _ n))

-- a byte in a mode that is known
module _ (rules : Rules) {mode : Mode} (b : ℕ) (rest : List ℕ) {r : Taken} where
  pub unit_unquoted : (mode ≡ Plain) ⊎ (mode ≡ Data) → r ≡ unquoted_unit rules mode b rest → r ≡ unit_at rules mode b rest
  unfolding unit_at
  unit_unquoted (inl is) e = e ∙ rw is
  unit_unquoted (inr is) e = e ∙ rw is

  pub unit_quoted : (mode ≡ Quoted) ⊎ (mode ≡ QuotedData) → r ≡ quoted_unit mode b → r ≡ unit_at rules mode b rest
  unfolding unit_at
  unit_quoted (inl is) e = e ∙ rw is
  unit_quoted (inr is) e = e ∙ rw is

  pub unit_remarked : mode ≡ Remark → r ≡ one_unit (Remarked b) Remark → r ≡ unit_at rules mode b rest
  unfolding unit_at
  unit_remarked is e = e ∙ rw is

pub unit_in : (rules : Rules) {mode x : Mode} (b : ℕ) (rest : List ℕ) {r : Taken} → mode ≡ x → r ≡ unit_at rules x b rest → r ≡ unit_at rules mode b rest
unit_in rules b rest is e = rw is e
