-- The constants of SHA-256, worked out from the words of FIPS 180-4.
-- Assumes nothing.
use Rattle.std.specs.Prelude.{ℕ, zero, suc, ◌+◌, ◌*◌, ◌%◌, ◌^◌, Bool, true, false, cond, List, [], ◌∷◌, ◌++◌, map, ◌==◌, nat_le}

-- a number of the list divides n
unfoldable pub divided : List ℕ → ℕ → Bool
divided [] n = false
divided (p ∷ ps) n = cond (n % p == 0) true (divided ps n)

-- the primes below n: a number from 2 on is one if no smaller prime divides it
unfoldable pub primes_below : ℕ → List ℕ
primes_below zero = []
primes_below (suc n) = let ps = primes_below n in cond (nat_le 2 n) (cond (divided ps n) ps (ps ++ (n ∷ []))) ps

-- the largest number whose kth power is at most n, by its binary digits, the highest first: d digits behind those that make c
unfoldable pub root : ℕ → ℕ → ℕ → ℕ → ℕ
root k n zero c = c
root k n (suc d) c = root k n d (cond (nat_le ((c + 2 ^ d) ^ k) n) (c + 2 ^ d) c)

-- "the first thirty-two bits of the fractional part" of the kth root of p, which is below 8
unfoldable pub fraction : ℕ → ℕ → ℕ
fraction k p = root k (p * 2 ^ (32 * k)) 35 0 % 2 ^ 32

-- 4.2.2: "the first thirty-two bits of the fractional parts of the cube roots of the first sixty-four prime numbers"; 311 is the last of these
unfoldable pub constants : List ℕ
constants = map (fraction 3) (primes_below 312)

-- 5.3.3: "the first thirty-two bits of the fractional parts of the square roots of the first eight prime numbers"
unfoldable pub initials : List ℕ
initials = map (fraction 2) (primes_below 20)
