-- Every line's offset fits its 16 bits (document 02, No. 13: "That every line's offset fits is proved"), and so does its number: a line that
-- is found lies five bytes or more before where its link leads, and a link of 16 bits leads no further than offset 65,537.
-- Assumes nothing.
use Prim.Native.Nat.{ℕ, ◌+◌, ◌<◌}
use mathlib.Core.Path.{◌≡◌}
use mathlib.Core.List.{List}
use native.Mathlib.Omega.{arith}
use lib.ListN.{get_or}
use Rattle.base_refusals.specs.Answer.{done}
use Rattle.image_readers.specs.declared.Line.{Line}
use Rattle.image_readers.specs.Links.{link_step}
use Rattle.image_readers.proofs.ByLinks.{link_found, link_sound}
use Rattle.image_readers.specs.IndexLines.{index_line}
use Rattle.std.specs.Prelude.{Some}

module _ (s : List ℕ) (bytes : (i : ℕ) → get_or s i 0 < 256) (p : ℕ) {l : Line} (e : link_step s p ≡ done (Some l)) where
  pub offset_fits : (index_line l).offset < 65536
  offset_fits = omega (arith, (link_found s p e).forward, (link_sound.lies s p e).starts, bytes p, bytes (p + 1))

  pub number_fits : (index_line l).number < 65536
  number_fits = omega (arith, (link_sound.lies s p e).number, bytes (p + 2), bytes (p + 2 + 1))
