-- For the helpers that give the text of one byte, and for no promise of a public call: the text in an array.
-- Assumes nothing.
use Rattle.std.specs.Prelude.{ℕ, List, length, replicate}
use Rattle.std.proofs.lemmas.List.Edits.{sets}
use Rattle.list_bytes.specs.declared.ByteText.{ByteText}

-- a text of at most six bytes in an array of six
abbrev pub held : List ℕ → ByteText
held t = record { bytes = sets (replicate 6 0) 0 t; len = length t }
