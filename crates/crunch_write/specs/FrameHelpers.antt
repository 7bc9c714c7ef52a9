-- For helpers of the writing pass alone: a line around its body.
-- Assumes nothing.
use Rattle.std.specs.Prelude.{ℕ, ◌+◌, ◌/◌, ◌%◌, ◌≤◌, ◌≡◌, List, length, set}

-- room for a line around a body of so many bytes, at an address
pub record FrameRoom (address size : ℕ) (buffer : List ℕ) : Type 0 where
  pub low : address ≤ 0xFFFF
  pub room : size + 5 ≤ length buffer

-- the link and the number stored in front of such a body, and the 00 behind it
pub record Framed (address number size : ℕ) (buffer : List ℕ) (n : ℕ) (after : List ℕ) : Type 0 where
  pub ends : n ≡ size + 5
  pub stored :
      after
      ≡ set (set (set (set (set buffer 0 ((address + 5 + size) % 256)) 1 ((address + 5 + size) / 256 % 256)) 2 (number % 256)) 3 (number / 256 % 256)) (size + 4) 0
