-- The law of the bytes that are listed as themselves: such a byte is a unit of its own, its text is the byte, and the mode stays.
-- Assumes nothing.
use Prim.Native.Nat.{ℕ, ◌≤◌, ◌<◌}
use mathlib.Core.Path.{◌≡◌, refl, ◌∙◌}
use mathlib.Core.Bool.{Bool, true, false, cond}
use mathlib.Core.List.{List, [], ◌∷◌}
use native.Mathlib.Omega.{arith}
use lib.Dec.{eqb}
use borrow.Author.Tests.{eqb-false, eq-eqb, ne_eqb, lt-leb}
use Rattle.base_ascii.specs.Bytes.{between}
use Rattle.base_ascii.proofs.Ranges.{between_in, in_between}
use Rattle.list_bytes.specs.ByteTexts.{byte_text, remark_text}
use Rattle.image_units.specs.declared.Mode.{Mode}
use Rattle.image_units.specs.declared.Mode.TheVariants.{Plain, Quoted, Remark, Data, QuotedData}
use Rattle.image_units.specs.declared.Rules.{Rules}
use Rattle.image_units.specs.declared.Taken.{Taken}
use Rattle.image_units.specs.declared.Unit.TheVariants.{Char}
use Rattle.image_units.specs.Units.{mode_behind, one_unit, unquoted_unit, quoted_unit, unit_at}
use Rattle.list_spelling.specs.Pieces.{unit_text}
use Rattle.list_spelling.specs.ItselfHelpers.{lists_as_itself}

-- ---- the test

module _ (b : ℕ) where
  pub itself_quote : b ≡ 0x22 → false ≡ lists_as_itself b
  unfolding lists_as_itself
  itself_quote e = simp (eq-eqb _ _ e)

  pub itself_colon : b ≡ 0x3A → false ≡ lists_as_itself b
  unfolding lists_as_itself
  itself_colon e = let n : b ≡ 0x22 → ⊥ = λ q. omega arith in simp (ne_eqb _ _ n, eq-eqb _ _ e)

  pub itself_other : {r : Bool} → (b ≡ 0x22 → ⊥) → (b ≡ 0x3A → ⊥) → r ≡ between 0x20 0x5F b → r ≡ lists_as_itself b
  unfolding lists_as_itself
  itself_other n m e = e ∙ simp (ne_eqb _ _ n, ne_eqb _ _ m)

  -- what it says of a byte
  record Known : Type 0 where
    low : 0x20 ≤ b
    high : b ≤ 0x5F
    no_quote : b ≡ 0x22 → ⊥
    no_colon : b ≡ 0x3A → ⊥

  known : lists_as_itself b ≡ true → Known
  unfolding lists_as_itself
  known e = go (eqb b 0x22) (eqb b 0x3A) refl refl e
    where
      go : (p q : Bool) → eqb b 0x22 ≡ p → eqb b 0x3A ≡ q → cond p false (cond q false (between 0x20 0x5F b)) ≡ true → Known
      go true q f g h = let z : ◌≡◌ {A = ℕ} 0 1 = cc in absurd (omega arith)
      go false true f g h = let z : ◌≡◌ {A = ℕ} 0 1 = cc in absurd (omega arith)
      go false false f g h =
          let w = between_in 0x20 0x5F b h in
          record { low = w.0; high = w.1; no_quote = eqb-false _ _ f; no_colon = eqb-false _ _ g }

-- ---- the law of the unit

pub record ListsItself (mode : Mode) (b : ℕ) (t : Taken) : Type 0 where
  pub used : t.used ≡ 1
  pub stays : t.mode ≡ mode
  pub text : unit_text t.unit ≡ b ∷ []

module _ (rules : Rules) (b : ℕ) (rest : List ℕ) (k : Known b) where
  char_itself : byte_text b ≡ b ∷ []
  unfolding byte_text
  char_itself =
      let n : b ≡ 0 → ⊥ = λ q. omega arith in
      let m : b ≡ 0x0D → ⊥ = λ q. omega arith in
      simp (ne_eqb _ _ n, ne_eqb _ _ m, in_between 0x20 0x5F b k.low k.high)

  remarked_itself : remark_text b ≡ b ∷ []
  unfolding remark_text between
  remarked_itself = let l : b < 0x61 = omega arith in simp (lt-leb _ _ l) char_itself

  unquoted_itself : (mode : Mode) → mode_behind rules mode b ≡ mode → unquoted_unit rules mode b rest ≡ one_unit (Char b) mode
  unfolding unquoted_unit
  unquoted_itself mode stays =
      let n : b ≡ 0x64 → ⊥ = λ q. omega arith in
      let l : b < 0x80 = omega arith in
      simp (ne_eqb _ _ k.no_quote, ne_eqb _ _ n, lt-leb _ _ l, stays)

  quoted_itself : (mode : Mode) → quoted_unit mode b ≡ one_unit (Char b) mode
  unfolding quoted_unit
  quoted_itself mode = simp (ne_eqb _ _ k.no_quote)

  plain_stays : mode_behind rules Plain b ≡ Plain
  unfolding mode_behind
  plain_stays =
      let n : b ≡ 0x8F → ⊥ = λ q. omega arith in
      let m : b ≡ 0x83 → ⊥ = λ q. omega arith in
      simp (ne_eqb _ _ n, ne_eqb _ _ m)

  data_stays : mode_behind rules Data b ≡ Data
  unfolding mode_behind
  data_stays = simp (ne_eqb _ _ k.no_colon)

  as_char : (mode : Mode) {t : Taken} → t ≡ one_unit (Char b) mode → ListsItself mode b t
  unfolding unit_text
  as_char mode e = rw e (record { used = refl; stays = refl; text = char_itself })

  in_mode : (mode : Mode) → ListsItself mode b (unit_at rules mode b rest)
  unfolding unit_at unit_text
  in_mode Plain = as_char Plain (unquoted_itself Plain plain_stays)
  in_mode Quoted = as_char Quoted (quoted_itself Quoted)
  in_mode Remark = record { used = refl; stays = refl; text = remarked_itself }
  in_mode Data = as_char Data (unquoted_itself Data data_stays)
  in_mode QuotedData = as_char QuotedData (quoted_itself QuotedData)

pub itself : (rules : Rules) (mode : Mode) (b : ℕ) (rest : List ℕ) → lists_as_itself b ≡ true → ListsItself mode b (unit_at rules mode b rest)
itself rules mode b rest e = in_mode rules b rest (known b e) mode
