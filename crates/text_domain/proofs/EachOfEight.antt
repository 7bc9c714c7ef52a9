-- Eight bytes at a time: what a bound of all says of each.
-- Assumes nothing.
use Prim.Native.Nat.{ℕ, zero, suc, ◌+◌, ◌≤◌, ◌<◌}
use mathlib.Core.List.{List}
use native.Mathlib.Numerals.{unary_clauses}
use native.Mathlib.Omega.{arith}
use lib.ListN.{get_or}
use Rattle.text_domain.specs.EightHelpers.{Tops}

-- the eight, each by its number
pub each_of : {t : List ℕ} {i r : ℕ} → Tops t i r → (k : ℕ) → k < 8 → get_or t (i + k) 0 ≤ r
each_of e zero h = simp unary_clauses e.first
each_of e (suc zero) h = e.second
each_of e (suc (suc zero)) h = e.third
each_of e (suc (suc (suc zero))) h = e.fourth
each_of e (suc (suc (suc (suc zero)))) h = e.fifth
each_of e (suc (suc (suc (suc (suc zero))))) h = e.sixth
each_of e (suc (suc (suc (suc (suc (suc zero)))))) h = e.seventh
each_of e (suc (suc (suc (suc (suc (suc (suc zero))))))) h = e.eighth
each_of e (suc (suc (suc (suc (suc (suc (suc (suc k)))))))) h = absurd (omega arith)
