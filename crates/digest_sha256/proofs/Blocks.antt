-- The hash value, block by block.
-- Assumes nothing.
use Rattle.std.proofs.Common.{◌≡◌, ℕ, ◌+◌, ◌-◌, ◌*◌, ◌/◌, ◌<◌, ◌≤◌, List, length, take, drop, refl, ◌∙◌, add-one, arith, take-take}
use Rattle.digest_sha256.specs.Sha256.{block, compressed, hashed}
use Rattle.digest_sha256.specs.declared.compress.Words.{Words}

pub record Hashing (v₀ : Words) (bytes : List ℕ) (v : Words) (i : ℕ) : Type 0 where
  pub so_far : v ≡ hashed v₀ bytes i
  pub within : i ≤ length bytes / 64

pub hashing_start : (v : Words) (bytes : List ℕ) → Hashing v bytes v 0
unfolding hashed
hashing_start v bytes = record { so_far = refl; within = omega arith }

pub hashing_turn : {v₀ v r : Words} {bytes : List ℕ} {i : ℕ} → Hashing v₀ bytes v i → i < length bytes / 64
    → r ≡ compressed v (take 64 (take (length bytes - 64 * i) (drop (64 * i) bytes))) → Hashing v₀ bytes r (i + 1)
unfolding hashed block
hashing_turn {v₀} {v} {r} {bytes} {i} g h e =
    record { so_far = e ∙ rw (add-one, g.so_far, take-take 64 (length bytes - 64 * i) (drop (64 * i) bytes) (omega arith)); within = omega arith }

pub hashing_end : {v₀ v : Words} {bytes : List ℕ} {i : ℕ} → Hashing v₀ bytes v i → length bytes / 64 ≤ i → v ≡ hashed v₀ bytes (length bytes / 64)
hashing_end {v₀} {v} {bytes} {i} g h = let e : i ≡ length bytes / 64 = omega (arith, g.within) in rw e at g.so_far
