-- Turns, eight at a time.
-- Assumes nothing.
use Rattle.std.proofs.Common.{◌≡◌, ℕ, zero, suc, ◌+◌, ◌≤◌, List, refl, ◌∙◌, add-zero, add-suc, arith}
use Rattle.digest_sha256.specs.Constants.{constants}
use Rattle.digest_sha256.specs.Sha256.{after_turns}
use Rattle.digest_sha256.specs.StepHelpers.{turns_from}
use Rattle.digest_sha256.proofs.Roots.{table, table_right}
use Rattle.digest_sha256.specs.declared.compress.Words.{Words}

pub more_turns : (w : List ℕ) (v : Words) (t n : ℕ) → after_turns w v (t + n) ≡ turns_from constants w (after_turns w v t) t n
unfolding after_turns turns_from
more_turns w v t zero = rw add-zero
more_turns w v t (suc n) = rw (add-suc, more_turns w v t n)

pub record Turning (w : List ℕ) (v₀ : Words) (k : List ℕ) (v : Words) (t : ℕ) : Type 0 where
  pub by : k ≡ constants
  pub so_far : v ≡ after_turns w v₀ t
  pub within : t ≤ 64

pub turning_start : (w : List ℕ) (v : Words) → Turning w v table v 0
unfolding after_turns
turning_start w v = record { by = table_right; so_far = refl; within = omega arith }

pub turning_turn : {w k : List ℕ} {v₀ v r : Words} {t n : ℕ} → Turning w v₀ k v t → r ≡ turns_from k w v t 8 → n ≡ t + 8 → n ≤ 64 → Turning w v₀ k r n
turning_turn {w} {k} {v₀} {v} {r} {t} g e m h =
    record { by = g.by; so_far = e ∙ rw (g.by, g.so_far, m, more_turns w v₀ t 8); within = h }

pub turning_end : {w k : List ℕ} {v₀ v : Words} {t : ℕ} → Turning w v₀ k v t → 64 ≤ t → v ≡ after_turns w v₀ 64
turning_end {w} {k} {v₀} {v} {t} g h = let e : t ≡ 64 = omega (arith, g.within) in rw e at g.so_far
