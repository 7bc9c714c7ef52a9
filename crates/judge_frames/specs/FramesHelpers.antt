-- For the driver's functions, and for no promise of an entry point: the numbers of a request, and answers that are put together.
-- Assumes nothing.
use Rattle.std.specs.Prelude.{ℕ, ◌+◌, ◌*◌, ◌^◌, ◌≤◌, List, get_or}
use Rattle.judge_frames.specs.declared.Answer.{Answer}

-- the number of two bytes at a place, the low byte first; then of four and of eight
abbrev pub u16_at : List ℕ → ℕ → ℕ
u16_at bytes at = get_or bytes at 0 + 2 ^ 8 * get_or bytes (at + 1) 0

abbrev pub u32_at : List ℕ → ℕ → ℕ
u32_at bytes at = u16_at bytes at + 2 ^ 16 * u16_at bytes (at + 2)

abbrev pub u64_at : List ℕ → ℕ → ℕ
u64_at bytes at = u32_at bytes at + 2 ^ 32 * u32_at bytes (at + 4)

-- the answer fits its bytes, and its body has begun
abbrev pub Sendable : Answer → Type 0
Sendable answer = (5 ≤ answer.len) × (answer.len ≤ 64)
