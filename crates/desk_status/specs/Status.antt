-- What a command comes to: 0 done, 1 refused, 2 wrong usage, 3 something could not be read or written. Of two the greater number counts.
-- Assumes nothing.
use Rattle.std.specs.Prelude.{ℕ, Bool, true, false, cond, leb}
use Rattle.desk_status.specs.declared.Status.{Status}
use Rattle.desk_status.specs.declared.Status.TheVariants.{Done, Refused, Misused, Failed}

abbrev pub number : Status → ℕ
number Done = 0
number Refused = 1
number Misused = 2
number Failed = 3

abbrev pub is_done : Status → Bool
is_done Done = true
is_done Refused = false
is_done Misused = false
is_done Failed = false

-- the worse of two
abbrev pub worst : Status → Status → Status
worst a b = cond (leb (number a) (number b)) b a

-- a command that could not write what it was to write has failed, whatever it came to before
abbrev pub written : Bool → Status → Status
written done status = cond done status Failed
