-- The words that crunching looks for, as data of the definitions (document 01, "Crunching one body", "Guessing the dialect": which TSB
-- words are live and which demoted; document 02, No. 5: the words of BASIC 3.5).
-- Assumes nothing.
use Rattle.std.specs.Prelude.{List}
use Rattle.word_search.specs.Find.{Entry}
use Rattle.word_tables.specs.Rom.{v2_words, operators as operator_words}
use Rattle.word_tables.specs.Tsb.{tsb_words}
use Rattle.word_tables.specs.Basic35.{basic35_words}
use Rattle.word_match.specs.declared.sets.Sets.{Sets}

-- the TSB words, and which of them are live and demoted; the V2 words, those of BASIC 3.5, and whether these are looked for; and the
-- operators
pub record Lexicon : Type 0 where
  pub tsb : List Entry
  pub sets : Sets
  pub v2 : List Entry
  pub basic35 : List Entry
  pub operators : List Entry

-- the documents' lists
abbrev pub lexicon : Sets → Lexicon
lexicon sets = record { tsb = tsb_words; sets = sets; v2 = v2_words; basic35 = basic35_words; operators = operator_words }
