-- Trimming: the white space at both ends is left out (document 01, "Text lines": "both ends are trimmed").
-- Assumes nothing.
use Rattle.std.specs.Prelude.{ℕ, List}
use Rattle.base_ascii.specs.Bytes.{is_space}
use Rattle.base_ascii.specs.Search.{front, past, past_end}

-- without the white space in front, and then without that at the end
unfoldable pub trim : List ℕ → List ℕ
unfolding front past_end
trim s = past_end is_space (past is_space s)
