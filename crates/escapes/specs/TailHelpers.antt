-- For helpers of escapes alone: what a text between braces shares with every end of it, so that many { in front of one } are resolved
-- in proportion to their text.
-- Assumes nothing.
use Rattle.std.specs.Prelude.{ℕ, zero, suc, ◌≤◌, ◌≡◌, true, false, List, ltb, length, take, drop}
use Rattle.base_ascii.specs.Bytes.{is_space}
use Rattle.base_ascii.specs.Search.{equals, past, last, past_end}
use Rattle.base_ascii.specs.Trim.{trim}
use Rattle.escape_bytes.specs.Escape.{escape_of, name_escape}
use Rattle.escape_numbers.specs.Numbers.{count_of}
use Rattle.escape_bytes.specs.declared.Escape.{Escape}
use Rattle.escapes.specs.declared.Repeat.{Repeat}
use Rattle.escapes.specs.declared.Tail.{Tail}
use Rattle.std.specs.Prelude.{Option, Some, None}

-- what a text is from place k on, where it ends at place end, and a count may stand there: the name before the *, so often as its count
-- says, where the * is in what is left; else the whole is the name
unfoldable pub tail_escape : List ℕ → ℕ → Option Repeat → ℕ → Option Escape
tail_escape t end (Some r) k =
    elim (ltb k r.from) [
      | true ↦ name_escape (past is_space (drop k (take r.name t))) r.count
      | false ↦ name_escape (past is_space (drop k (take end t))) 1
    ]
tail_escape t end None k = name_escape (past is_space (drop k (take end t))) 1

-- the tail of a text: what it makes of each end is the escape that document 01 gives it
pub record TailOf (t : List ℕ) (w : Tail) : Type 0 where
  pub end_within : w.end ≤ length t
  pub name_within : (r : Repeat) → w.repeat ≡ Some r → r.name ≤ length t
  pub gives : (k : ℕ) → escape_of (drop k t) ≡ tail_escape t w.end w.repeat k

-- a text that ends in no white space, with a * at place n, and the number behind it
unfoldable pub counted : List ℕ → ℕ → Option ℕ → Option Repeat
counted t n (Some zero) = None
counted t n (Some (suc k)) = Some (record { from = suc n; name = length (past_end is_space (take n t)); count = suc k })
counted t n None = None

-- the count at the end of such a text
unfoldable pub repeat_of : List ℕ → Option Repeat
unfolding counted
repeat_of t = elim (last (equals 42) t) [ Some n ↦ counted t n (count_of (trim (drop (suc n) t))) | None ↦ None ]
