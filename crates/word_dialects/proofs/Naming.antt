-- What a word names, case by case.
-- Assumes nothing.
use Prim.Native.Nat.{ℕ, zero, suc, ◌+◌, ◌≤◌, ◌<◌}
use mathlib.Core.Path.{◌≡◌, refl, sym, ap, ◌∙◌}
use mathlib.Core.Bool.{Bool, true, false}
use mathlib.Core.List.{List, ◌∷◌, map}
use native.Mathlib.Numerals.{add-one}
use native.Mathlib.Omega.{arith}
use lib.ListN.{length, get_or, drop, drop_of_length-le, get_or-map, length-map}
use lib.Seq.{drop-cons}
use denote.Bor.{Bor}
use borrow.Author.Tests.{le-leb, lt-leb}
use Rattle.base_ascii.specs.Bytes.{is_ascii}
use Rattle.base_ascii.specs.Trim.{trim}
use Rattle.std.specs.Prelude.{Some, None}
use Rattle.word_search.specs.Compare.{alike}
use Rattle.word_search.specs.Find.{Name, meaning}
use Rattle.base_refusals.specs.Numbers.{unknown_dialect}
use Rattle.base_refusals.specs.Answer.{done, refused}
use Rattle.word_dialects.specs.declared.Dialect.{Dialect}
use Rattle.word_dialects.specs.Dialects.{by_number, dialect_names, dialect_found, named}

pub by_other : (n : ℕ) → (n ≡ 0 → ⊥) → (n ≡ 1 → ⊥) → (n ≡ 2 → ⊥) → (n ≡ 3 → ⊥) → refused unknown_dialect ≡ by_number n
unfolding by_number
by_other zero a b c d = absurd (a refl)
by_other (suc zero) a b c d = absurd (b refl)
by_other (suc (suc zero)) a b c d = absurd (c refl)
by_other (suc (suc (suc zero))) a b c d = absurd (d refl)
by_other (suc (suc (suc (suc n)))) a b c d = refl

module _ (w : List ℕ) where
  pub named_long : 64 < length w → refused unknown_dialect ≡ named w
  unfolding named
  named_long h = simp (lt-leb _ _ h)

  pub named_high : {a : Bool} → a ≡ false → a ≡ is_ascii w → length w ≤ 64 → refused unknown_dialect ≡ named w
  unfolding named
  named_high k g h = simp (le-leb _ _ h, sym g ∙ k)

  pub named_found : length w ≤ 64 → is_ascii w ≡ true → dialect_found (meaning dialect_names (trim w)) ≡ named w
  unfolding named
  named_found h a = simp (le-leb _ _ h, a)

-- ---- the table of names: of the rows from a place on, the first that the text is means what the first of all does

abbrev pub called : Bor (List ℕ) × Dialect → Name Dialect
called row = record { name = row.0.now; means = row.1 }

pub record Sought (table : List (Bor (List ℕ) × Dialect)) (text : List ℕ) (i : ℕ) : Type 0 where
  pub gives : meaning (drop i (map called table)) text ≡ meaning dialect_names text

module _ {table : List (Bor (List ℕ) × Dialect)} where
  pub sought_start : (text : List ℕ) → map called table ≡ dialect_names → Sought table text 0
  sought_start text e = record { gives = ap (λ (ns : List (Name Dialect)). meaning ns text) e }

  module _ {text : List ℕ} {i : ℕ} (s : Sought table text i) where
    pub sought_none : length table ≤ i → None ≡ meaning dialect_names text
    unfolding meaning
    sought_none h =
        let end : length (map called table) ≤ i = omega (arith, length-map table called) in
        rw (drop_of_length-le (map called table) end) at s.gives

    module _ (row : Bor (List ℕ) × Dialect) {r : Bool} (told : r ≡ alike (get_or table i row).0.now text) (h : i < length table) where
      rest : drop i (map called table) ≡ called (get_or table i row) ∷ drop (i + 1) (map called table)
      rest =
          let within : i < length (map called table) = omega (arith, length-map table called) in
          let here : get_or (map called table) i (called row) ≡ called (get_or table i row) = get_or-map called table i row in
          rw (← here, add-one) (drop-cons (map called table) i (called row) within)

      pub sought_turn : r ≡ false → Sought table text (i + 1)
      unfolding meaning
      sought_turn n = record { gives = sym (rw (rest, meaning, sym told ∙ n)) ∙ s.gives }

      pub sought_found : r ≡ true → Some (get_or table i row).1 ≡ meaning dialect_names text
      unfolding meaning
      sought_found y = sym (rw (rest, meaning, sym told ∙ y)) ∙ s.gives

module _ (w : List ℕ) {t : List ℕ} (e : t ≡ trim w) {a : Bool} (g : a ≡ is_ascii w) (k : a ≡ true) (l : length w ≤ 64) where
  trimmed : dialect_found (meaning dialect_names t) ≡ named w
  trimmed = ap (λ (x : List ℕ). dialect_found (meaning dialect_names x)) e ∙ named_found w l (sym g ∙ k)

  pub named_known : {d : Dialect} → Some d ≡ meaning dialect_names t → done d ≡ named w
  named_known f = ap dialect_found f ∙ trimmed

  pub named_unknown : None ≡ meaning dialect_names t → refused unknown_dialect ≡ named w
  named_unknown f = ap dialect_found f ∙ trimmed
