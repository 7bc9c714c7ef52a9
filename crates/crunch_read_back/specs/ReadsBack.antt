-- What the third demand asks of a text's image, whole and damaged (document 01, "Reading and listing"; "How tight the promises are":
-- "Demand 3 is stated over demand 2's lines"). The lines are those that `crunched_lines` gives, the definition that the image is laid out from.
-- Assumes nothing.
use Rattle.std.specs.Prelude.{ℕ, ◌≡◌, Bool, List, map}
use Rattle.base_refusals.specs.Answer.{done}
use Rattle.image_readers.specs.NumberedBody.{NumberedBody}
use Rattle.image_readers.specs.Lines.{Reader}
use Rattle.image_layout.specs.Layout.{image_of}
use Rattle.image_layout.specs.Reads.{ReadAs, lines_at, place_of}
use Rattle.image_layout.specs.Changed.{lines_now, KeptOutside}
use Rattle.crunch_rules.specs.Crunched.{crunched}
use Rattle.crunch_rules.specs.declared.Options.{Options}

-- the text has an image, and a reader gives back the load address and the lines
pub record ReadsBack (step : Reader) (o : Options) (text : List ℕ) (ls : List NumberedBody) : Type 0 where
  pub image : crunched o text ≡ done (image_of o.load ls)
  pub reads : ReadAs step o.load ls (image_of o.load ls)

-- s is read as the lines with those in the set as they are now: every other line as before, and each line where it stood and with its link
pub record ReadsDamaged (step : Reader) (set : ℕ → Bool) (load : ℕ) (ls : List NumberedBody) (s : List ℕ) : Type 0 where
  pub reads : ReadAs step load (lines_now load ls s) s
  pub outside : KeptOutside set ls (lines_now load ls s)
  pub places : map place_of (lines_at load 2 (lines_now load ls s)) ≡ map place_of (lines_at load 2 ls)
