-- For what the programs write, and for no promise of an entry point: a result lies within the buffer.
-- Assumes nothing.
use Rattle.std.specs.Prelude.{ℕ, ◌≤◌, List, length}
use Rattle.std.specs.Prelude.{Result, Ok, Err}
use Rattle.base_refusals.specs.declared.Refusal.{Refusal}

-- a result of so many bytes stands in a buffer
abbrev pub Holds : Result ℕ Refusal → List ℕ → Type 0
Holds (Ok count) buf = count ≤ length buf
Holds (Err r) buf = Unit {0}
