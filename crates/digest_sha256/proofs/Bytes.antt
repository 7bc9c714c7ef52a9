-- Words and padding, stored byte by byte; hexadecimal digits.
-- Assumes nothing.
use Rattle.std.proofs.Common.{◌≡◌, ℕ, zero, suc, ◌+◌, ◌-◌, ◌*◌, ◌/◌, ◌%◌, ◌^◌, ◌<◌, ◌≤◌, List, [], ◌∷◌, ◌++◌, length, get_or, take, drop, set, replicate, sym, refl, ap, ◌∙◌, append_assoc, append-nil, le_trans, le_of_eq, mul-le-mul_left, mul-one, mul-suc, mul-add, add-one, arith, length-append, length-take-le, take_all, take-suc, take_at}
use mathlib.Core.List.{flat_map}
use lib.Seq.{sets, sets-eq, length-sets}
use borrow.Rule.Slice.PartMut.{put_mid}
use Rattle.std.proofs.lemmas.Slice.{put_mid-paste}
use Rattle.std.specs.Int.{to_be_bytes, w32, w64}
use Rattle.digest_sha256.specs.Sha256.{big_endian, padding}
use Rattle.digest_sha256.specs.StepHelpers.{Pads}
use Rattle.digest_sha256.specs.Hex.{hex_digit, hex_pair}

cons : {a b : ℕ} {s t : List ℕ} → a ≡ b → s ≡ t → ◌≡◌ {A = List ℕ} (a ∷ s) (b ∷ t)
cons p q = cc

-- a word, stored
pub be_bytes : (x : ℕ) → to_be_bytes w32 x ≡ big_endian 4 x
unfolding big_endian
be_bytes x = cons refl (cons refl (cons refl (cons (omega arith) refl)))

be_long : (n x : ℕ) → length (big_endian n x) ≡ n
unfolding big_endian
be_long zero x = refl
be_long (suc n) x = ap suc (be_long n x)

pub word_put : (n : ℕ) (out : List ℕ) (at x : ℕ) {ys : List ℕ} {k : ℕ} → ys ≡ big_endian n x → n ≡ k → at + n ≤ length out → put_mid at k out ys ≡ sets out at (big_endian n x)
word_put n out at x {ys} {k} e m h =
    let long : at + length (big_endian n x) ≤ length out = omega (arith, be_long n x) in
    let whole : take n (big_endian n x) ≡ big_endian n x = take_all n (big_endian n x) (omega (arith, be_long n x)) in
    put_mid-paste at k out ys (big_endian n x) n e m (sym (be_long n x)) ∙ rw whole (ap (λ (m : ℕ). take at out ++ big_endian n x ++ drop (at + m) out) (sym (be_long n x)))
    ∙ sym (sets-eq (big_endian n x) out at long)

-- a run stored behind what stands at the start
run_behind : (out : List ℕ) (i n : ℕ) (vs : List ℕ) → length vs ≡ n → i + n ≤ length out → take (i + n) (sets out i vs) ≡ take i out ++ vs
run_behind out i n vs e h =
    let r : i + length vs ≤ length out = omega arith in
    rw (sets-eq vs out i r) (take_at (take i out ++ vs) (drop (i + length vs) out) (i + n) (length-append (take i out) vs ∙ omega (arith, length-take-le i out (omega arith))))

take_replicate : (z n a : ℕ) → z ≤ n → take z (replicate n a) ≡ replicate z a
take_replicate zero n a h = refl
take_replicate (suc z) zero a h = absurd (omega arith)
take_replicate (suc z) (suc n) a h = ap (λ (l : List ℕ). a ∷ l) (take_replicate z n a (omega arith))

-- the length counts modulo 2 ^ 64, in bytes as in bits
same_bits : (n : ℕ) → big_endian 8 (8 * (n % 2 ^ 64)) ≡ big_endian 8 (8 * n)
unfolding big_endian
same_bits n =
    cons (omega arith) (cons (omega arith) (cons (omega arith) (cons (omega arith)
    (cons (omega arith) (cons (omega arith) (cons (omega arith) (cons (omega arith) refl)))))))

pub padding_same : (n : ℕ) → padding (n % 2 ^ 64) ≡ padding n
unfolding padding
padding_same n = let e : n % 2 ^ 64 % 64 ≡ n % 64 = omega arith in rw (e, same_bits n)

-- the length in bits, as it is stored
bits_stored : (n : ℕ) → to_be_bytes w64 (n * 2 ^ 3 % 2 ^ 64) ≡ big_endian 8 (8 * n)
unfolding big_endian
bits_stored n =
    cons (omega arith) (cons (omega arith) (cons (omega arith) (cons (omega arith)
    (cons (omega arith) (cons (omega arith) (cons (omega arith) (cons (omega arith) refl)))))))

abbrev zeros : ℕ → ℕ
zeros n = (119 - n % 64) % 64

abbrev base : List ℕ
base = set (replicate 72 0) 0 128

pub long_4 : (v : ℕ) → length (big_endian 4 v) ≡ 4
unfolding big_endian
long_4 v = refl

long_8 : (v : ℕ) → length (big_endian 8 v) ≡ 8
unfolding big_endian
long_8 v = refl

-- the padding, stored in an array: a byte, and the length
pub pads_made : (n : ℕ) {ys : List ℕ} {k : ℕ} → ys ≡ to_be_bytes w64 (n * 2 ^ 3 % 2 ^ 64) → 8 ≡ k → Pads (put_mid (zeros n + 1) k base ys) (zeros n + 9) n
unfolding padding
pads_made n {ys} {k} q m =
    let nine : zeros n + 9 ≡ zeros n + 1 + 8 = omega arith in
    let stored : put_mid (zeros n + 1) k base ys ≡ sets base (zeros n + 1) (big_endian 8 (8 * n)) = word_put 8 base (zeros n + 1) (8 * n) (q ∙ bits_stored n) m (omega arith) in
    record {
      within = rw stored (simp length-sets (omega arith));
      pads =
          rw (stored, nine)
          (run_behind base (zeros n + 1) 8 (big_endian 8 (8 * n)) (long_8 (8 * n)) (omega arith)
          ∙ ap (λ (k : ℕ). take k base ++ big_endian 8 (8 * n)) (add-one (zeros n)) ∙ ap (λ (l : List ℕ). 128 ∷ (l ++ big_endian 8 (8 * n))) (take_replicate (zeros n) 71 0 (omega arith)));
    }

pub flat_append : (f : ℕ → List ℕ) (a b : List ℕ) → flat_map f (a ++ b) ≡ flat_map f a ++ flat_map f b
unfolding flat_map
flat_append f [] b = refl
flat_append f (x ∷ a) b = rw (flat_append f a b) (sym (append_assoc (f x) (flat_map f a) (flat_map f b)))

-- what f makes of the first i entries of a list, n bytes of each, stands at the start of an array
pub record Spread (f : ℕ → List ℕ) (n : ℕ) (xs out : List ℕ) (i : ℕ) : Type 0 where
  pub spread : take (n * i) out ≡ flat_map f (take i xs)
  pub within : i ≤ length xs
  pub long : length out ≡ n * length xs

module _ {f : ℕ → List ℕ} {n : ℕ} (size : (x : ℕ) → length (f x) ≡ n) {xs out : List ℕ} {i : ℕ} (s : Spread f n xs out i) where
  pub spread_more : i < length xs → Spread f n xs (sets out (n * i) (f (get_or xs i 0))) (i + 1)
  unfolding flat_map
  spread_more h =
      record {
        spread = rw (mul-add, mul-one, run_behind out (n * i) n (f (get_or xs i 0)) (size _) room, s.spread, add-one, take-suc xs i 0 h, flat_append, append-nil);
        within = omega arith;
        long = length-sets out (n * i) (f (get_or xs i 0)) ∙ s.long;
      }
    where
      room : n * i + n ≤ length out
      room = le_trans (le_of_eq (sym (mul-suc n i))) (le_trans (mul-le-mul_left n h) (le_of_eq (sym s.long)))

  pub spread_all : length xs ≤ i → out ≡ flat_map f xs
  spread_all h =
      let e : i ≡ length xs = omega (arith, s.within) in
      sym (take_all (n * i) out (omega (arith, s.long, ap (λ (j : ℕ). n * j) e))) ∙ s.spread ∙ ap (flat_map f) (take_all i xs (omega arith))

pub words_start : (xs : List ℕ) → length xs ≡ 8 → Spread (big_endian 4) 4 xs (replicate 32 0) 0
unfolding flat_map
words_start xs e = record { spread = refl; within = omega arith; long = omega arith }

pub words_more : {xs out next : List ℕ} {i : ℕ} → Spread (big_endian 4) 4 xs out i → i < length xs → next ≡ sets out (4 * i) (big_endian 4 (get_or xs i 0))
    → Spread (big_endian 4) 4 xs next (i + 1)
words_more s h e = rw e (spread_more long_4 s h)

pub hex_start : (d : List ℕ) → length d ≡ 32 → Spread hex_pair 2 d (replicate 64 0) 0
unfolding flat_map
hex_start d e = record { spread = refl; within = omega arith; long = omega arith }

pub hex_more : {d out : List ℕ} {i x y : ℕ} → Spread hex_pair 2 d out i → i < 32 → length d ≡ 32 → x ≡ hex_digit (get_or d i 0 / 16) → y ≡ hex_digit (get_or d i 0 % 16)
    → Spread hex_pair 2 d (set (set out (2 * i) x) (2 * i + 1) y) (i + 1)
hex_more {d} {out} {i} s h w p q = let e : 2 * i + 1 ≡ suc (2 * i) = omega arith in rw (p, q, e) (spread_more (λ x. refl) s (omega arith))

pub spread_long : {f : ℕ → List ℕ} {n : ℕ} {xs out : List ℕ} {i : ℕ} → Spread f n xs out i → n * length xs ≡ length out
spread_long s = sym s.long
