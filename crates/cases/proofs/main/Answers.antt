-- `cases::main` is safe and ends. The arrays' lengths come by a law: counted out, they are beyond what a search takes.
-- Assumes nothing.
use Prim.Native.Nat.{ℕ}
use mathlib.Core.Path.{sym}
use native.Mathlib.Nat.{le_refl}
use lib.ListN.{length-replicate}
use Rattle.cases.proofs.main.Goals as goal

pub slice_bounds-serve_all-end : goal.slice_bounds-serve_all-end
slice_bounds-serve_all-end c = sym (length-replicate {A = ℕ} 1048593 0)

pub slice_bounds-serve_all-end-2 : goal.slice_bounds-serve_all-end-2
slice_bounds-serve_all-end-2 c = sym (length-replicate {A = ℕ} 524288 0)

pub slice_bounds-serve_all-end-3 : goal.slice_bounds-serve_all-end-3
slice_bounds-serve_all-end-3 c = sym (length-replicate {A = ℕ} 1048593 0)

pub serve_all-requires : goal.serve_all-requires
serve_all-requires c = le_refl _
