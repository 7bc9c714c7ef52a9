-- Words compared with texts, without regard to case (document 01, "Crunching one body": "Words match without regard to case";
-- "Escapes": "Escape names are compared whole").
-- Assumes nothing.
use Rattle.std.specs.Prelude.{ℕ, Bool, true, false, ◌&&◌, List, [], ◌∷◌, length, eqb, ltb}
use Rattle.base_ascii.specs.Bytes.{upper}
use Rattle.word_search.specs.declared.Test.{Test}
use Rattle.word_search.specs.declared.Test.TheVariants.{Begins, Alike, Same, Shortens}

-- the word is a beginning of the text
unfoldable pub begins : List ℕ → List ℕ → Bool
begins [] t = true
begins (x ∷ w) [] = false
begins (x ∷ w) (y ∷ t) = elim (eqb (upper x) (upper y)) [ true ↦ begins w t | false ↦ false ]

-- the word is the whole text
unfoldable pub alike : List ℕ → List ℕ → Bool
unfolding begins
alike w t = eqb (length w) (length t) && begins w t

-- the two are the same, case and all
unfoldable pub same : List ℕ → List ℕ → Bool
same [] [] = true
same [] (y ∷ t) = false
same (x ∷ w) [] = false
same (x ∷ w) (y ∷ t) = elim (eqb x y) [ true ↦ same w t | false ↦ false ]

-- the text is a beginning of the word, one byte or more, and the word is longer
unfoldable pub shortens : List ℕ → List ℕ → Bool
unfolding begins
shortens w t = (ltb 0 (length t) && ltb (length t) (length w)) && begins t w

-- the text is one of the words
unfoldable pub member : List ℕ → List (List ℕ) → Bool
unfolding same
member t [] = false
member t (w ∷ ws) = elim (same w t) [ true ↦ true | false ↦ member t ws ]

-- the word passes a test of the text
unfoldable pub passes : Test → List ℕ → List ℕ → Bool
passes Begins w t = begins w t
passes Alike w t = alike w t
passes Same w t = same w t
passes Shortens w t = shortens w t
