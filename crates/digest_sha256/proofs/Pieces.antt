-- A message in pieces: what a state holds behind one more piece.
-- Assumes nothing.
use Rattle.std.proofs.Common.{◌≡◌, ℕ, zero, suc, ◌+◌, ◌-◌, ◌*◌, ◌/◌, ◌%◌, ◌^◌, ◌<◌, ◌≤◌, List, [], ◌∷◌, ◌++◌, length, take, drop, sym, refl, ap, ◌∙◌, ap₂, append_assoc, append-nil, add-zero, add-suc, mul_comm, mul-add, add-one, arith, length-append, length-drop, length-take-le, take_all, take-take, drop-drop}
use mathlib.Core.List.{flat_map}
use lib.Seq.{paste, take-append-le, drop-append-le, take-append-add, drop-append-add, take-paste}
use Rattle.digest_sha256.specs.Sha256.{big_endian, padding, padded, block, compressed, initial_hash, hashed, eight_words, digest_of}
use Rattle.digest_sha256.specs.Pieces.{HoldsMessage, joined_pieces}
use Rattle.digest_sha256.specs.StepHelpers.{Pads}
use Rattle.digest_sha256.proofs.Bytes.{padding_same}
use Rattle.digest_sha256.specs.declared.compress.Words.{Words}
use Rattle.digest_sha256.specs.declared.State.{State}

-- what follows a message changes nothing of its whole blocks
hashed_append : (v : Words) (m p : List ℕ) (n : ℕ) → 64 * n ≤ length m → hashed v (m ++ p) n ≡ hashed v m n
unfolding hashed block
hashed_append v m p zero h = refl
hashed_append v m p (suc n) h =
    rw (hashed_append v m p n (omega arith), drop-append-le (64 * n) m p (omega arith), take-append-le 64 (drop (64 * n) m) p (omega (arith, length-drop (64 * n) m)))

-- some blocks, and then those behind them
hashed_split : (v : Words) (l : List ℕ) (a b : ℕ) → hashed v l (a + b) ≡ hashed (hashed v l a) (drop (64 * a) l) b
unfolding hashed block
hashed_split v l a zero = rw add-zero
hashed_split v l a (suc b) = rw (add-suc, hashed_split v l a b, drop-drop (64 * b) (64 * a) l, mul-add 64 a b)

module _ {s : State} {m : List ℕ} (g : HoldsMessage s m) (long : length s.buffer ≡ 64) (p : List ℕ) where
  held_same : length m % 64 ≡ s.length % 64
  held_same = omega (arith, g.count)

  held : List ℕ
  held = take (s.length % 64) s.buffer

  held_long : length held ≡ s.length % 64
  unfolding held
  held_long = length-take-le (s.length % 64) s.buffer (omega arith)

  -- what stands behind the whole blocks
  behind : drop (64 * (length m / 64)) (m ++ p) ≡ held ++ p
  unfolding held
  behind = drop-append-le (64 * (length m / 64)) m p (omega arith) ∙ ap (λ (l : List ℕ). l ++ p) (sym g.rest ∙ ap (λ (k : ℕ). take k s.buffer) held_same)

  count_on : (s.length + length p) % 2 ^ 64 ≡ length (m ++ p) % 2 ^ 64
  count_on = omega (arith, g.count, length-append m p)

  abbrev room : ℕ
  room = 64 - s.length % 64

  abbrev rest : List ℕ
  rest = take (length p - room) (drop room p)

  abbrev tail : List ℕ
  tail = take (length rest - length rest / 64 * 64) (drop (length rest / 64 * 64) rest)

  module _ {r : State} where
    pub kept_holds : r.words ≡ s.words → r.buffer ≡ paste s.buffer (s.length % 64) p (length p) → r.length ≡ (s.length + length p) % 2 ^ 64
        → s.length % 64 + length p < 64 → HoldsMessage r (m ++ p)
    unfolding held
    kept_holds ws b c h =
        let n : length (m ++ p) / 64 ≡ length m / 64 = omega (arith, length-append m p, held_same) in
        let f : length (m ++ p) % 64 ≡ s.length % 64 + length p = omega (arith, length-append m p, held_same) in
        record {
          hash = ws ∙ g.hash ∙ sym (ap (hashed initial_hash (m ++ p)) n ∙ hashed_append initial_hash m p (length m / 64) (omega arith));
          rest =
              rw (f, b, n, behind)
              (take-paste s.buffer (s.length % 64) p (length p) (omega arith) (omega arith) ∙ ap (λ (l : List ℕ). take (s.length % 64) s.buffer ++ l) (take_all (length p) p (omega arith)));
          count = c ∙ count_on;
        }

    -- the block that was begun is filled from the piece, then come the whole blocks of its rest, and what is left is kept
    pub passed_holds : {full : List ℕ} {first : Words} → full ≡ paste s.buffer (s.length % 64) (take room p) (length (take room p))
        → first ≡ compressed s.words (take 64 full) → r.words ≡ hashed first rest (length rest / 64) → r.buffer ≡ paste full 0 tail (length tail)
        → r.length ≡ (s.length + length p) % 2 ^ 64 → 64 ≤ s.length % 64 + length p → HoldsMessage r (m ++ p)
    unfolding held hashed block
    passed_holds {full} {first} fe ce we be le h =
        let n : ℕ = length m / 64 in
        let k : ℕ = length rest / 64 in
        let re : rest ≡ drop room p = take_all (length p - room) (drop room p) (omega (arith, length-drop room p)) in
        let rl : length rest ≡ length p - room = ap length re ∙ length-drop room p in
        let te : tail ≡ drop (64 * k) rest =
        take_all (length rest - k * 64) (drop (k * 64) rest) (omega (arith, length-drop (k * 64) rest)) ∙ ap (λ (j : ℕ). drop j rest) (mul_comm k 64) in
        let tr : length (take room p) ≡ room = length-take-le room p (omega arith) in
        let e64 : 64 ≡ length held + room = omega (arith, held_long) in
        let sum : 64 ≡ s.length % 64 + room = omega arith in
        let full_is : take 64 full ≡ held ++ take room p =
        ap₂ take sum (fe ∙ ap (paste s.buffer (s.length % 64) (take room p)) tr) ∙ take-paste s.buffer (s.length % 64) (take room p) room (omega arith) (omega (arith, tr))
        ∙ ap (λ (l : List ℕ). held ++ l) (take-take room room p (omega arith)) in
        let block-is : take 64 (drop (64 * n) (m ++ p)) ≡ held ++ take room p =
        ap (take 64) behind ∙ ap (λ (j : ℕ). take j (held ++ p)) e64 ∙ take-append-add held p room in
        let first-is : first ≡ hashed initial_hash (m ++ p) (n + 1) =
        ce ∙ ap₂ compressed (g.hash ∙ sym (hashed_append initial_hash m p n (omega arith))) (full_is ∙ sym block-is) ∙ sym (ap (hashed initial_hash (m ++ p)) (add-one n)) in
        let rest-is : drop (64 * (n + 1)) (m ++ p) ≡ rest =
        ap (λ (j : ℕ). drop j (m ++ p)) (mul-add 64 n 1) ∙ sym (drop-drop 64 (64 * n) (m ++ p)) ∙ ap (drop 64) behind
        ∙ ap (λ (j : ℕ). drop j (held ++ p)) e64 ∙ drop-append-add held p room ∙ sym re in
        let blocks : length (m ++ p) / 64 ≡ (n + 1) + k = omega (arith, length-append m p, held_same, rl) in
        let whole : 64 * (n + 1) + 64 * k ≡ 64 * (length (m ++ p) / 64) = omega arith in
        let tl : length (m ++ p) % 64 ≡ 0 + length tail = omega (arith, length-append m p, held_same, rl, ap length te ∙ length-drop (64 * k) rest) in
        record {
          hash =
              we ∙ ap₂ (λ (v : Words) (l : List ℕ). hashed v l k) first-is (sym rest-is) ∙ sym (hashed_split initial_hash (m ++ p) (n + 1) k)
              ∙ sym (ap (hashed initial_hash (m ++ p)) blocks);
          rest =
              ap₂ take tl be ∙ take-paste full 0 tail (length tail) (omega arith) (omega arith) ∙ take_all (length tail) tail (omega arith)
              ∙ te ∙ ap (drop (64 * k)) (sym rest-is) ∙ drop-drop (64 * k) (64 * (n + 1)) (m ++ p) ∙ ap (λ (j : ℕ). drop j (m ++ p)) whole;
          count = le ∙ count_on;
        }

-- the padding is the last piece
pub finished : {s done : State} {m bytes r : List ℕ} {count : ℕ} → HoldsMessage s m → Pads bytes count s.length
    → ((k : List ℕ) → HoldsMessage s k → HoldsMessage done (k ++ take count bytes)) → r ≡ flat_map (big_endian 4) (eight_words done.words) → r ≡ digest_of m
unfolding digest_of padded
finished {s} {done} {m} {bytes} {r} {count} g p add e =
    let last : take count bytes ≡ padding (length m) = p.pads ∙ ap padding g.count ∙ padding_same (length m) in
    e ∙ ap (λ (v : Words). flat_map (big_endian 4) (eight_words v)) (rw last at (add m g)).hash

-- what `add` promises of each piece in turn, and `finish` of the end: the result is the digest of the pieces joined
abbrev pub AddsAll : State → List (List ℕ) → State → Type 0
AddsAll s [] t = s ≡ t
AddsAll s (p ∷ ps) t = (u : State) × (((m : List ℕ) → HoldsMessage s m → HoldsMessage u (m ++ p)) × AddsAll u ps t)

pieces_held : (s t : State) (ps : List (List ℕ)) (m : List ℕ) → AddsAll s ps t → HoldsMessage s m → HoldsMessage t (m ++ joined_pieces ps)
pieces_held s t [] m e g = rw append-nil (rw e at g)
pieces_held s t (p ∷ ps) m (u, (step, on)) g = rw append_assoc at (pieces_held u t ps (m ++ p) on (step m g))

pub pieces_joined : (s t : State) (ps : List (List ℕ)) {r : List ℕ} → HoldsMessage s [] → AddsAll s ps t → ((m : List ℕ) → HoldsMessage t m → r ≡ digest_of m) → r ≡ digest_of (joined_pieces ps)
pieces_joined s t ps g all finish = finish (joined_pieces ps) (pieces_held s t ps [] all g)
