-- SHA-256 of a message of whole bytes (FIPS 180-4, Secure Hash Standard). A word is a number below 2 ^ 32, a byte one below 256.
-- Assumes nothing.
use Rattle.std.specs.Prelude.{ℕ, zero, suc, ◌+◌, ◌-◌, ◌*◌, ◌/◌, ◌%◌, ◌^◌, cond, List, [], ◌∷◌, ◌++◌, length, take, drop, replicate, bit_and, bit_or, bit_xor, nat_lt, slice_index, slice_index_or}
use mathlib.Core.List.{flat_map}
use Rattle.digest_sha256.specs.Constants.{constants, initials}
use Rattle.digest_sha256.specs.declared.compress.Words.{Words}

infixl 65 ◌⊞◌
-- 3.2: operations on words; addition is modulo 2 ^ 32
abbrev pub ◌⊞◌ : ℕ → ℕ → ℕ
x ⊞ y = (x + y) % 2 ^ 32

abbrev pub complement : ℕ → ℕ
complement x = (2 ^ 32 - 1) - x

abbrev pub SHR : ℕ → ℕ → ℕ
SHR n x = x / 2 ^ n

abbrev pub ROTR : ℕ → ℕ → ℕ
ROTR n x = bit_or (x / 2 ^ n) (x * 2 ^ (32 - n) % 2 ^ 32)

-- 4.1.2: the six functions
abbrev pub Ch : ℕ → ℕ → ℕ → ℕ
Ch x y z = bit_xor (bit_and x y) (bit_and (complement x) z)

abbrev pub Maj : ℕ → ℕ → ℕ → ℕ
Maj x y z = bit_xor (bit_xor (bit_and x y) (bit_and x z)) (bit_and y z)

abbrev pub Σ₀ : ℕ → ℕ
Σ₀ x = bit_xor (bit_xor (ROTR 2 x) (ROTR 13 x)) (ROTR 22 x)

abbrev pub Σ₁ : ℕ → ℕ
Σ₁ x = bit_xor (bit_xor (ROTR 6 x) (ROTR 11 x)) (ROTR 25 x)

abbrev pub σ₀ : ℕ → ℕ
σ₀ x = bit_xor (bit_xor (ROTR 7 x) (ROTR 18 x)) (SHR 3 x)

abbrev pub σ₁ : ℕ → ℕ
σ₁ x = bit_xor (bit_xor (ROTR 17 x) (ROTR 19 x)) (SHR 10 x)

-- 3.1: a number in so many bytes, the most significant first
unfoldable pub big_endian : ℕ → ℕ → List ℕ
big_endian zero v = []
big_endian (suc n) v = (v / 256 ^ n % 256) ∷ big_endian n v

-- 5.1.1: behind a message of n bytes a one bit, as few zero bits as fill a block, and the message's length in bits, in 64 bits
unfoldable pub padding : ℕ → List ℕ
padding n = 128 ∷ (replicate ((119 - n % 64) % 64) 0 ++ big_endian 8 (8 * n))

unfoldable pub padded : List ℕ → List ℕ
padded m = m ++ padding (length m)

-- 5.2.1: block i, from 0, and word t of a block
unfoldable pub block : List ℕ → ℕ → List ℕ
block m i = take 64 (drop (64 * i) m)

unfoldable pub block_word : List ℕ → ℕ → ℕ
block_word b t = ((slice_index b (4 * t) * 256 + slice_index b (4 * t + 1)) * 256 + slice_index b (4 * t + 2)) * 256 + slice_index b (4 * t + 3)

-- 6.2.2, 1: the message schedule's word t, from the sixteenth on, by those before it; its first t words
unfoldable pub next_word : List ℕ → ℕ → ℕ
next_word w t = σ₁ (slice_index w (t - 2)) ⊞ slice_index_or w (t - 7) 0 ⊞ σ₀ (slice_index w (t - 15)) ⊞ slice_index_or w (t - 16) 0

unfoldable pub scheduled : List ℕ → ℕ → List ℕ
scheduled b zero = []
scheduled b (suc t) = let w = scheduled b t in w ++ (cond (nat_lt t 16) (block_word b t) (next_word w t) ∷ [])

-- 6.2.2, 3: one turn with the constant k and the schedule's word w
unfoldable pub turned : Words → ℕ → ℕ → Words
turned v k w =
    let T₁ = v.h ⊞ Σ₁ v.e ⊞ Ch v.e v.f v.g ⊞ k ⊞ w in
    let T₂ = Σ₀ v.a ⊞ Maj v.a v.b v.c in
    record { a = T₁ ⊞ T₂; b = v.a; c = v.b; d = v.c; e = v.d ⊞ T₁; f = v.e; g = v.f; h = v.g }

-- the working variables after t turns
unfoldable pub after_turns : List ℕ → Words → ℕ → Words
after_turns w v zero = v
after_turns w v (suc t) = turned (after_turns w v t) (slice_index constants t) (slice_index w t)

-- 6.2.2, 4
unfoldable pub added_words : Words → Words → Words
added_words v u =
    record {
      a = u.a ⊞ v.a;
      b = u.b ⊞ v.b;
      c = u.c ⊞ v.c;
      d = u.d ⊞ v.d;
      e = u.e ⊞ v.e;
      f = u.f ⊞ v.f;
      g = u.g ⊞ v.g;
      h = u.h ⊞ v.h;
    }

unfoldable pub compressed : Words → List ℕ → Words
compressed v b = added_words v (after_turns (scheduled b 64) v 64)

-- 5.3.3
unfoldable pub initial_hash : Words
initial_hash =
    record {
      a = slice_index initials 0;
      b = slice_index initials 1;
      c = slice_index initials 2;
      d = slice_index initials 3;
      e = slice_index initials 4;
      f = slice_index initials 5;
      g = slice_index initials 6;
      h = slice_index initials 7;
    }

-- 6.2.2: the hash value after n blocks of a message
unfoldable pub hashed : Words → List ℕ → ℕ → Words
hashed v m zero = v
hashed v m (suc n) = compressed (hashed v m n) (block m n)

-- the eight words, one behind the other, and their 32 bytes
abbrev pub eight_words : Words → List ℕ
eight_words v = v.a ∷ v.b ∷ v.c ∷ v.d ∷ v.e ∷ v.f ∷ v.g ∷ v.h ∷ []

unfoldable pub digest_of : List ℕ → List ℕ
digest_of m = flat_map (big_endian 4) (eight_words (hashed initial_hash (padded m) (length (padded m) / 64)))
