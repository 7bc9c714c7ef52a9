-- Which file is saved, and under which name (docs/DECISIONS.md, "The desk's disks"): "FILE=NAME is split at its last =; without one, the name is that of the
-- file, without its folder, and without what stands from its last dot on".
-- Assumes nothing.
use Rattle.std.specs.Prelude.{ℕ, ◌+◌, List, drop}
use Rattle.base_ascii.specs.Search.{equals, last}
use Rattle.say_names.specs.Names.{before_last, plain_name}
use Rattle.std.specs.Prelude.{Some, None}

abbrev pub given_file : List ℕ → List ℕ
given_file word = before_last 0x3D word

unfoldable pub given_text : List ℕ → List ℕ
unfolding last plain_name
given_text word = elim (last (equals 0x3D) word) [ Some n ↦ drop (n + 1) word | None ↦ plain_name word ]
