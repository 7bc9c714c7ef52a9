-- The rule of groups: every word of a list begins with a byte from 20 to 5F, so no other byte has a group. Each list keeps it.
-- Assumes nothing.
use Prim.Native.Nat.{ℕ, suc, ◌≤◌}
use mathlib.Core.Path.{◌≡◌, refl, sym, ◌∙◌}
use mathlib.Core.Bool.{Bool, true, false, ◌&&◌, false≢true}
use mathlib.Core.List.{List, [], ◌∷◌}
use native.Mathlib.Omega.{arith}
use lib.Dec.{T, eqb}
use borrow.Author.Tests.{eqb-true}
use Rattle.base_ascii.specs.Bytes.{between}
use Rattle.word_search.specs.Find.{Entry}
use Rattle.word_search.proofs.Search.{and_left, and_right}
use Rattle.word_search.proofs.Sameness.{T_true}
use Rattle.word_tables.specs.Rom.{v2_words, operators}
use Rattle.word_tables.specs.Tsb.{tsb_words}
use Rattle.word_tables.specs.Escapes.{escape_names}
use Rattle.word_tables.specs.Basic35.{basic35_words}
use Rattle.word_tables.specs.WordsHelpers.{Placed, capitals, initial, grouped, groups_of, words_of}
use Rattle.word_tables.specs.declared.WordList.{WordList}
use Rattle.word_tables.specs.declared.WordList.TheVariants.{V2, Operators, Tsb, Escapes, Basic35}

-- every word of a list begins with a byte from 20 to 5F
unfoldable pub ranged : List Entry → Bool
unfolding initial between
ranged [] = true
ranged (e ∷ es) = between 32 95 (initial e.word) && ranged es

-- a list whose words all begin with bytes from 20 to 5F has no group of another byte
pub none_grouped : (b : ℕ) → between 32 95 b ≡ false → (es : List Entry) (k : ℕ) → T (ranged es) → grouped b k es ≡ []
unfolding grouped ranged
none_grouped b o [] k r = refl
none_grouped b o (e ∷ es) k r = go (eqb (initial e.word) b) refl (none_grouped b o es (suc k) (and_right (between 32 95 (initial e.word)) _ r))
  where
    go : (g : Bool) → eqb (initial e.word) b ≡ g → grouped b (suc k) es ≡ []
        → ◌≡◌ {A = List Placed} (elim g [ true ↦ record { place = k; word = e.word; token = e.token } ∷ grouped b (suc k) es | false ↦ grouped b (suc k) es ]) []
    go true u h =
        let is : initial e.word ≡ b = eqb-true (initial e.word) b u in
        let held : between 32 95 (initial e.word) ≡ true = T_true (between 32 95 (initial e.word)) (and_left (between 32 95 (initial e.word)) (ranged es) r) in
        absurd (false≢true (sym o ∙ rw (sym is) held))
    go false u h = h

-- each list keeps the rule of groups: its words begin with bytes from 20 to 5F
pub ranged_list : (l : WordList) → T (ranged (capitals (words_of l)))
unfolding ranged capitals v2_words operators tsb_words escape_names basic35_words
ranged_list V2 = tt
ranged_list Operators = tt
ranged_list Tsb = tt
ranged_list Escapes = tt
ranged_list Basic35 = tt

-- where the groups of a list begin in the index
pub groups_within : (l : WordList) → (723 ≤ groups_of l) × (groups_of l ≤ 979)
groups_within V2 = (omega arith, omega arith)
groups_within Operators = (omega arith, omega arith)
groups_within Tsb = (omega arith, omega arith)
groups_within Escapes = (omega arith, omega arith)
groups_within Basic35 = (omega arith, omega arith)
