-- Which uses of a TSB word prove that a text is TSB (document 01, "Guessing the dialect"; source.rs, tsb_statement_evidence).
-- Assumes nothing.
use Rattle.std.specs.Prelude.{ℕ, Bool, true, false, not, ◌&&◌, ◌||◌, List, eqb, drop}
use Rattle.base_ascii.specs.Search.{is_white, starts_with, front, past}
use Rattle.base_ascii.specs.declared.search.Kind.TheVariants.{White}
use Rattle.word_search.specs.Compare.{begins}
use Rattle.word_search.specs.Spelling.{bytes_of}
use Rattle.guess_uses.specs.Ahead.{assigns}

-- a word of so many bytes is ELSE
unfoldable pub is_else : ℕ → List ℕ → Bool
unfolding begins
is_else used t = eqb used 4 && begins (bytes_of "ELSE") t

-- what follows a word assigns to it: % or $, then as behind any name
unfoldable pub assigned : List ℕ → Bool
unfolding starts_with assigns
assigned t =
    elim (starts_with 0x25 t) [
      | true ↦ assigns White (drop 1 t)
      | false ↦ elim (starts_with 0x24 t) [ true ↦ assigns White (drop 1 t) | false ↦ assigns White t ]
    ]

-- what follows a word calls it
unfoldable pub called : List ℕ → Bool
unfolding starts_with front
called t = starts_with 0x28 (past is_white t)

-- a TSB word proves it: ELSE anywhere; another at the start of a statement, unless it is assigned to; elsewhere one that is called
unfoldable pub proves : Bool → List ℕ → ℕ → Bool
unfolding is_else assigned called
proves start t used = is_else used t || elim start [ true ↦ not (assigned (drop used t)) | false ↦ called (drop used t) ]
