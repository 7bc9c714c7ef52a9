-- A name between braces, case by case: its four forms.
-- Assumes nothing.
use Prim.Native.Nat.{ℕ, suc, ◌+◌, ◌≤◌, ◌<◌}
use mathlib.Core.Path.{◌≡◌, refl, sym, ◌∙◌}
use mathlib.Core.Bool.{true, false, false≢true}
use mathlib.Core.List.{List, [], ◌∷◌}
use native.Mathlib.Omega.{arith}
use lib.Dec.{eqb}
use lib.ListN.{length, take}
use lib.Seq.{length-take-le}
use borrow.Author.Tests.{eqb-true}
use mir.Syntax.{w64}
use mir.Val.{Fits}
use Rattle.base_ascii.specs.Search.{equals, last}
use Rattle.base_ascii.proofs.Searching.{last_within}
use Rattle.word_search.specs.Find.{name_in}
use Rattle.word_search.specs.declared.Match.{Match}
use Rattle.word_tables.specs.Escapes.{escape_names}
use Rattle.escape_numbers.specs.Numbers.{number_of, hex_of}
use Rattle.escape_bytes.specs.Keys.{known, key_escape}
use Rattle.escape_bytes.specs.Escape.{name_escape}
use Rattle.escape_bytes.specs.declared.Escape.{Escape}
use Rattle.std.specs.Prelude.{Option, Some, None}

-- ---- a name

name_some : (name : List ℕ) (count : ℕ) → false ≡ eqb (length name) 0 → name_escape name count
    ≡ elim (number_of 10 255 name) [
      | Some v ↦ known v count
      | None ↦ elim (hex_of name) [
        | Some v ↦ known v count
        | None ↦ elim (name_in escape_names name) [ Some m ↦ known m.token count | None ↦ key_escape name count ]
      ]
    ]
unfolding name_escape
name_some [] count n = absurd (false≢true n)
name_some (b ∷ s) count n = refl

pub name_empty : (name : List ℕ) (count : ℕ) → true ≡ eqb (length name) 0 → None ≡ name_escape name count
unfolding name_escape
name_empty [] count h = refl
name_empty (b ∷ s) count h = let z : suc (length s) ≡ 0 = eqb-true (suc (length s)) 0 (sym h) in absurd (omega arith)

module _ (name : List ℕ) (count : ℕ) {d : (Option ℕ)} where
  pub name_decimal : {v : ℕ} → d ≡ Some v → d ≡ number_of 10 255 name → false ≡ eqb (length name) 0 → known v count ≡ name_escape name count
  name_decimal e p some = rw (name_some name count some, sym p ∙ e)

  pub name_hex : {x : (Option ℕ)} {v : ℕ} → x ≡ Some v → x ≡ hex_of name → d ≡ None → d ≡ number_of 10 255 name → false ≡ eqb (length name) 0 → known v count ≡ name_escape name count
  name_hex e q m p some = rw (name_some name count some, sym p ∙ m, sym q ∙ e)

  module _ {x : (Option ℕ)} {w : Option Match} where
    pub name_listed : {found : Match} → w ≡ Some found → w ≡ name_in escape_names name → x ≡ None → x ≡ hex_of name → d ≡ None → d ≡ number_of 10 255 name
        → false ≡ eqb (length name) 0 → known found.token count ≡ name_escape name count
    name_listed e f n q m p some = rw (name_some name count some, sym p ∙ m, sym q ∙ n, sym f ∙ e)

    pub name_keyed : {k : Option Escape} → k ≡ key_escape name count → w ≡ None → w ≡ name_in escape_names name → x ≡ None → x ≡ hex_of name → d ≡ None
        → d ≡ number_of 10 255 name → false ≡ eqb (length name) 0 → k ≡ name_escape name count
    name_keyed g e f n q m p some = g ∙ rw (name_some name count some, sym p ∙ m, sym q ∙ n, sym f ∙ e)

-- ---- a *

module _ (t : List ℕ) {n : ℕ} (l : Some n ≡ last (equals 42) t) where
  -- the place of a * is one of the text
  star_within : n < length t
  star_within = last_within (equals 42) t (sym l)

  pub star_next : n + 1 ≤ length t
  star_next = omega (arith, star_within)

  pub star_fits : Fits w64 (length t) → Fits w64 (n + 1)
  star_fits f = record { fits = omega (arith, star_within, f.fits) }

  -- the part before it is as long as it must be
  pub star_taken : n ≡ length (take n t)
  star_taken = sym (length-take-le n t (omega (arith, star_within)))
