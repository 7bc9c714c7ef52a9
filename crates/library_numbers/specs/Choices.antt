-- What callers in other languages give: options as numbers.
-- Assumes nothing.
use Rattle.std.specs.Prelude.{ℕ, Bool, not, cond, eqb}
use Rattle.word_dialects.specs.declared.Dialect.{Dialect}
use Rattle.image_readers.specs.declared.By.{By}
use Rattle.image_readers.specs.declared.By.TheVariants.{Terminators, Links}
use Rattle.list_options.specs.declared.ListOptions.{ListOptions}
use Rattle.crunch_rules.specs.declared.Options.{Options}
use Rattle.library_numbers.specs.declared.CrunchNumbers.{CrunchNumbers}
use Rattle.library_numbers.specs.declared.ListNumbers.{ListNumbers}

-- a choice: 0 is no, any other number yes
abbrev pub is_yes : ℕ → Bool
is_yes n = not (eqb n 0)

-- what a text is crunched with, the dialect known
abbrev pub crunch_options : CrunchNumbers → Dialect → Options
crunch_options o d = record { load = o.load; dialect = d; profile = is_yes o.profile; forms = is_yes o.forms }

abbrev pub reader_by : Bool → By
reader_by links = cond links Links Terminators

-- how an image is listed, the dialect known
abbrev pub list_options : ListNumbers → Dialect → ListOptions
list_options o d = record { dialect = d; remarks = is_yes o.remarks; by = reader_by (is_yes o.links) }
