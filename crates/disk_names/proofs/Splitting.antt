-- A word split at its last equals sign.
-- Assumes nothing.
use Prim.Native.Nat.{ℕ, ◌+◌}
use mathlib.Core.Path.{◌≡◌, sym, ◌∙◌}
use mathlib.Core.List.{List}
use lib.ListN.{drop}
use Rattle.base_ascii.specs.Search.{equals, last}
use Rattle.say_names.specs.Names.{plain_name}
use Rattle.disk_names.specs.Words.{given_text}
use Rattle.std.specs.Prelude.{Option, Some, None}

module _ (word : List ℕ) {f : (Option ℕ)} {r : List ℕ} where
  pub text_named : {n : ℕ} → r ≡ drop (n + 1) word → f ≡ Some n → f ≡ last (equals 0x3D) word → r ≡ given_text word
  unfolding given_text
  text_named g e l = g ∙ sym (rw (given_text, sym l ∙ e))

  pub text_unnamed : r ≡ plain_name word → f ≡ None → f ≡ last (equals 0x3D) word → r ≡ given_text word
  unfolding given_text
  text_unnamed g e l = g ∙ sym (rw (given_text, sym l ∙ e))
