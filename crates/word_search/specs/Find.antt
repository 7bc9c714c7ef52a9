-- The word of a list that stands in a text: the first, in the list's order, that passes the test asked of it
-- (document 01, "Crunching one body": "the first in table order winning").
-- Assumes nothing.
use Rattle.std.specs.Prelude.{ℕ, suc, Bool, true, false, ◌&&◌, List, [], ◌∷◌, length}
use Rattle.std.specs.Prelude.{Option, None, Some}
use Rattle.word_search.specs.Compare.{begins, alike, same, passes}
use Rattle.word_search.specs.declared.Test.{Test}
use Rattle.word_search.specs.declared.Test.TheVariants.{Begins, Alike, Same}
use Rattle.word_search.specs.declared.Match.{Match}
use Rattle.std.specs.Prelude.{Option, Some, None}

-- a word of a list, and the token that it stands for
pub record Entry : Type 0 where
  pub word : List ℕ
  pub token : ℕ

-- the first word that passes a test of its place and its bytes, places counted from k: its place, its length and its token
unfoldable pub first_that : (ℕ → List ℕ → Bool) → List Entry → ℕ → Option Match
first_that p [] k = None
first_that p (e ∷ es) k =
    elim (p k e.word) [ true ↦ Some (record { index = k; used = length e.word; token = e.token }) | false ↦ first_that p es (suc k) ]

-- the first word that passes a test of the text: that the text begins with it, is it, or is it case and all
abbrev pub match_in : Test → List Entry → List ℕ → Option Match
match_in test es t = first_that (λ k w. passes test w t) es 0

-- the first word that the text begins with
unfoldable pub word_in : List Entry → List ℕ → Option Match
unfolding first_that passes begins
word_in es t = match_in Begins es t

-- the same among the words that a set, a test of places, holds
unfoldable pub among_in : (ℕ → Bool) → List Entry → List ℕ → Option Match
unfolding first_that begins
among_in set es t = first_that (λ k w. set k && begins w t) es 0

-- the first word that the text is
unfoldable pub name_in : List Entry → List ℕ → Option Match
unfolding first_that passes alike
name_in es t = match_in Alike es t

-- the first word that is the same as the text, case and all
unfoldable pub same_in : List Entry → List ℕ → Option Match
unfolding first_that passes same
same_in es t = match_in Same es t

-- a name, and what it means
pub record Name (A : Type 0) : Type 0 where
  pub name : List ℕ
  pub means : A

-- what the first name that the text is, without regard to case, means
unfoldable pub meaning : {A : Type 0} → List (Name A) → List ℕ → Option A
unfolding alike
meaning [] t = None
meaning (n ∷ ns) t = elim (alike n.name t) [ true ↦ Some n.means | false ↦ meaning ns t ]
