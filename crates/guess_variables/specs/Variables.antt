-- Which TSB words a line uses as variables, step for step from source.rs, tsb_words_used_as_variables (document 01, "Guessing the
-- dialect": "the second skips spaces only and moves past the word"). A set of words is a truth value for each place of the list.
-- The Rust enters the first word that has the found one's length and spelling; proofs/Words.antt shows that this is the one found.
--
-- A scan knows what it has passed, from the last byte back to the first, and what is left.
-- Assumes nothing.
use Rattle.std.specs.Prelude.{ℕ, suc, Bool, true, false, ◌&&◌, ◌||◌, List, [], ◌∷◌, ◌++◌, reverse, eqb, leb, length, get_or, take, drop, set}
use Rattle.base_steps.specs.Again.{again}
use Rattle.base_ascii.specs.Search.{is_white, front, past}
use Rattle.base_ascii.specs.declared.search.Kind.TheVariants.{Space}
use Rattle.word_search.specs.Compare.{begins}
use Rattle.word_search.specs.Find.{word_in}
use Rattle.std.specs.Prelude.{Some, None}
use Rattle.word_search.specs.Spelling.{bytes_of}
use Rattle.word_tables.specs.Tsb.{tsb_words}
use Rattle.guess_uses.specs.Ahead.{assigns}
use Rattle.guess_places.specs.Places.{is_plain, aside}
use Rattle.guess_places.specs.declared.place.Place.{Place}
use Rattle.guess_places.specs.declared.place.Place.TheVariants.{Within, Quoted, Data}
use Rattle.guess_variables.specs.declared.Pass.{Pass}
use Rattle.guess_variables.specs.declared.Pass.TheVariants.{Remark, On, Name}

-- DIM stands before, with white space at most between; the Rust looks only from the fifth byte on
unfoldable pub after_dim : List ℕ → Bool
unfolding begins front
after_dim passed = leb 4 (length passed) && begins (bytes_of "MID") (past is_white passed)

-- a TSB word of so many bytes is a variable: it is assigned to, or stands behind DIM
unfoldable pub is_name : List ℕ → List ℕ → ℕ → Bool
unfolding assigns after_dim
is_name passed t used = assigns Space (drop used t) || after_dim passed

unfoldable pub word_pass : List ℕ → List ℕ → Pass
unfolding word_in tsb_words is_name
word_pass passed t =
    elim (word_in tsb_words t) [
      | Some m ↦ elim (is_name passed t m.used) [ true ↦ Name m.index m.used | false ↦ On m.used Within ]
      | None ↦ On 1 Within
    ]

-- a step outside strings and DATA
unfoldable pub plain_pass : List ℕ → List ℕ → Pass
unfolding begins word_pass
plain_pass passed t =
    elim (eqb (get_or t 0 0) 0x22) [
      | true ↦ On 1 Quoted
      | false ↦
          elim (begins (bytes_of "REM") t) [
            | true ↦ Remark
            | false ↦ elim (begins (bytes_of "DATA") t) [ true ↦ On 4 Data | false ↦ word_pass passed t ]
          ]
    ]

unfoldable pub pass_of : List ℕ → Place → List ℕ → Pass
unfolding is_plain aside plain_pass
pass_of passed place t = elim (is_plain place) [ true ↦ plain_pass passed t | false ↦ On 1 (aside place (get_or t 0 0)) ]

-- where the scan stands, and the words found so far
pub record NameScan : Type 0 where
  pub passed : List ℕ
  pub place : Place
  pub left : List ℕ
  pub found : List Bool

-- the scan so many bytes further on
abbrev pub on_by : NameScan → ℕ → Place → List Bool → NameScan
on_by s used place found =
    record { passed = reverse (take used s.left) ++ s.passed; place = place; left = drop used s.left; found = found }

-- a step where the scan stands; then on from behind it
unfoldable pub names_on : (NameScan → List Bool) → NameScan → List Bool
unfolding pass_of
names_on more s =
    elim s.left [
      | [] ↦ s.found
      | b ∷ t ↦
          elim (pass_of s.passed s.place s.left) [
            | Remark ↦ s.found
            | On used next ↦ more (on_by s used next s.found)
            | Name index used ↦ more (on_by s used Within (set s.found index true))
          ]
    ]

unfoldable pub names_from : NameScan → List Bool
unfolding again names_on
names_from s = again [] names_on (suc (length s.left)) s

-- the words that the line uses as variables, besides those that were found
unfoldable pub line_names : List ℕ → List Bool → List Bool
unfolding names_from
line_names l found = names_from (record { passed = []; place = Within; left = l; found = found })
