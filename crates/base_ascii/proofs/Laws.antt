-- Trimming, and the test whether each byte is below 80.
-- Assumes nothing.
use Prim.Native.Nat.{ℕ, ◌+◌, ◌-◌, ◌≤◌}
use mathlib.Core.Path.{◌≡◌, refl, ap, ◌∙◌}
use mathlib.Core.Bool.{Bool, true, false, ◌&&◌}
use mathlib.Core.List.{List, [], ◌∷◌}
use native.Mathlib.Omega.{arith}
use lib.ListN.{length, take, drop, length-drop}
use lib.Dec.{ltb}
use Rattle.std.specs.Prelude.{nat_lt}
use Rattle.std.specs.List.{list_all}
use Rattle.base_ascii.specs.Bytes.{is_space, is_ascii}
use Rattle.base_ascii.specs.Search.{front, past, past_end}
use Rattle.base_ascii.specs.Trim.{trim}
use Rattle.base_ascii.proofs.Searching.{tail, front_le, front_more, end_le, end_take}

-- ---- both ends

pub trim_told : (s : List ℕ) {a e : ℕ} → a ≡ front is_space s → e ≡ length (past_end is_space (take (length s - a) (drop a s)))
    → take e (take (length s - a) (drop a s)) ≡ trim s
unfolding trim
trim_told s {a} {e} from to =
    let rest : take (length s - a) (drop a s) ≡ past is_space s = tail s a ∙ ap (λ (n : ℕ). drop n s) from in
    rw (to, rest) (end_take is_space (past is_space s))

-- white space in front is not seen
pub trim_space : (b : ℕ) (s : List ℕ) → is_space b ≡ true → trim (b ∷ s) ≡ trim s
unfolding trim
trim_space b s e = rw (front_more is_space b s e)

-- the trimmed text stands behind the white space in front
pub trim_within : (s : List ℕ) → front is_space s + length (trim s) ≤ length s
unfolding trim
trim_within s = omega (arith, end_le is_space (past is_space s), length-drop (front is_space s) s, front_le is_space s)

pub trim_stands : (s : List ℕ) → take (length (trim s)) (drop (front is_space s) s) ≡ trim s
unfolding trim
trim_stands s = end_take is_space (past is_space s)

-- ---- each byte below 80

pub ascii_all : (s : List ℕ) → list_all (λ b. nat_lt b 0x80) s ≡ is_ascii s
unfolding is_ascii
ascii_all [] = refl
ascii_all (b ∷ s) = go (nat_lt b 0x80) (ascii_all s)
  where
    go : (r : Bool) → list_all (λ x. nat_lt x 0x80) s ≡ is_ascii s → (r && list_all (λ x. nat_lt x 0x80) s) ≡ elim r [ true ↦ is_ascii s | false ↦ false ]
    go true e = e
    go false e = refl
