-- Reading entries: fields that start behind whole bytes, the pair at a place, and the loop over the lines.
-- Assumes nothing.
use Prim.Native.Nat.{ℕ, zero, suc, ◌+◌, ◌-◌, ◌*◌, ◌/◌, ◌%◌, ◌^◌, ◌≤◌, ◌<◌, min}
use mathlib.Core.Path.{◌≡◌, refl, sym, ap, ◌∙◌}
use mathlib.Core.Bool.{cond}
use mathlib.Core.List.{List, [], ◌∷◌, ◌++◌, map}
use native.Mathlib.Omega.{arith}
use native.Mathlib.Nat.{suc-mul}
use lib.Dec.{eqb}
use lib.ListN.{length, get_or, take, drop, length-drop}
use lib.Seq.{take_all, drop-nil, drop-cons, drop-drop, drop-append-add}
use borrow.Author.Tests.{eq-eqb, ne_eqb}
use Rattle.base_bits.specs.Bits.{bits_of, bytes_bits, number_from, field_at}
use Rattle.base_bits.proofs.Bytes.{length_bits}
use Rattle.base_bits.proofs.Reading.{number_bits}
use Rattle.std.specs.Prelude.{Option, None}
use Rattle.image_index_entries.specs.declared.Numbers.{Numbers}
use Rattle.image_index_entries.specs.Entries.{Two, two_at, line_of, pairs_read, count_held, line_pairs, jump_pairs, numbers, entry_in, first_line, look_up}

-- ---- behind whole bytes

bits_drop : (d : ℕ) (x : List ℕ) → bytes_bits (drop d x) ≡ drop (8 * d) (bytes_bits x)
unfolding bytes_bits
bits_drop zero x = refl
bits_drop (suc d) [] = sym (drop-nil (8 * suc d))
bits_drop (suc d) (b ∷ bs) =
    let long : 8 * suc d ≡ length (bits_of 8 b) + 8 * d = omega (arith, length_bits 8 b) in
    bits_drop d bs ∙ sym (drop-append-add (bits_of 8 b) (bytes_bits bs) (8 * d)) ∙ ap (λ (n : ℕ). drop n (bits_of 8 b ++ bytes_bits bs)) (sym long)

field_drop : (d : ℕ) (x : List ℕ) (at width : ℕ) → field_at (drop d x) at width ≡ field_at x (8 * d + at) width
unfolding field_at
field_drop d x at width =
    ap (λ (bs : List ℕ). number_from 0 (take width (drop at bs))) (bits_drop d x)
    ∙ ap (λ (bs : List ℕ). number_from 0 (take width bs)) (drop-drop at (8 * d) (bytes_bits x))

pairs_drop : (width d : ℕ) (x : List ℕ) (at n : ℕ) → pairs_read width (drop d x) at n ≡ pairs_read width x (8 * d + at) n
unfolding pairs_read
pairs_drop width d x at zero = refl
pairs_drop width d x at (suc n) =
    let far : 8 * d + (at + (width + 16)) ≡ 8 * d + at + (width + 16) = omega arith in
    let next : 8 * d + (at + width) ≡ 8 * d + at + width = omega arith in
    ap (λ (v : ℕ). record { first = v; second = field_at (drop d x) (at + width) 16 } ∷ pairs_read width (drop d x) (at + (width + 16)) n) (field_drop d x at width)
    ∙ ap (λ (v : ℕ). record { first = field_at x (8 * d + at) width; second = v } ∷ pairs_read width (drop d x) (at + (width + 16)) n) (field_drop d x (at + width) 16 ∙ ap (λ (m : ℕ). field_at x m 16) next)
    ∙ ap (λ (ts : List Two). two_at width x (8 * d + at) ∷ ts) (pairs_drop width d x (at + (width + 16)) n ∙ ap (λ (m : ℕ). pairs_read width x m n) far)

-- ---- a field of two bytes

number_both : (a b : List ℕ) (v : ℕ) → number_from v (a ++ b) ≡ number_from (number_from v a) b
unfolding number_from
number_both [] b v = refl
number_both (c ∷ a) b v = number_both a b (2 * v + c)

two_bytes_lem : (b c : ℕ) (bs : List ℕ) → b ≤ 255 → c ≤ 255 → field_at (b ∷ c ∷ bs) 0 16 ≡ 256 * b + c
unfolding field_at bytes_bits bits_of
two_bytes_lem b c bs h g =
    let both : take 16 (bits_of 8 b ++ (bits_of 8 c ++ bytes_bits bs)) ≡ bits_of 8 b ++ bits_of 8 c = refl in
    ap (number_from 0) both ∙ number_both (bits_of 8 b) (bits_of 8 c) 0 ∙ number_bits 8 c (number_from 0 (bits_of 8 b)) (omega arith)
    ∙ ap (λ (n : ℕ). n * 2 ^ 8 + c) (number_bits 8 b 0 (omega arith)) ∙ omega arith

pub word_is : (x : List ℕ) (at : ℕ) {r s : ℕ} → at + 2 ≤ length x → r ≡ get_or x at 0 → r ≤ 255 → s ≡ get_or x (at + 1) 0 → s ≤ 255 → 256 * r + s ≡ field_at x (8 * at) 16
word_is x at {r} {s} h e f g k =
    let next : suc at ≡ at + 1 = omega arith in
    let whole : 8 * at + 0 ≡ 8 * at = omega arith in
    let split : drop at x ≡ r ∷ s ∷ drop (suc (at + 1)) x =
    drop-cons x at 0 (omega arith) ∙ ap (λ (n : ℕ). n ∷ drop (suc at) x) (sym e) ∙ ap (λ (n : ℕ). r ∷ drop n x) next
    ∙ ap (λ (l : List ℕ). r ∷ l) (drop-cons x (at + 1) 0 (omega arith) ∙ ap (λ (n : ℕ). n ∷ drop (suc (at + 1)) x) (sym g)) in
    sym (two_bytes_lem r s (drop (suc (at + 1)) x) f k) ∙ ap (λ (l : List ℕ). field_at l 0 16) (sym split) ∙ field_drop at x 0 16 ∙ ap (λ (n : ℕ). field_at x n 16) whole

-- ---- the pair at a place

entry_at : (width : ℕ) (x : List ℕ) (n at k : ℕ) → k < n
    → entry_in (pairs_read width x at n) (suc k) ≡ numbers (field_at x (at + k * (width + 16)) width) (field_at x (at + k * (width + 16) + width) 16)
unfolding pairs_read entry_in
entry_at width x zero at k h = absurd (omega arith)
entry_at width x (suc n) at zero h =
    let here : at ≡ at + 0 * (width + 16) = omega arith in
    ap (λ (m : ℕ). numbers (field_at x m width) (field_at x (m + width) 16)) here
entry_at width x (suc n) at (suc k) h =
    let other : suc (suc k) ≡ 1 → ⊥ = λ e. omega arith in
    let far : at + (width + 16) + k * (width + 16) ≡ at + suc k * (width + 16) = omega (arith, suc-mul k (width + 16)) in
    simp (ne_eqb _ _ other) (ap (entry_in (pairs_read width x (at + (width + 16)) n)) (omega arith) ∙ entry_at width x n (at + (width + 16)) k (omega arith)
    ∙ ap (λ (m : ℕ). numbers (field_at x m width) (field_at x (m + width) 16)) far)

pub entry_none : (ts : List Two) (place : ℕ) → place ≡ 0 → None ≡ entry_in ts place
unfolding entry_in
entry_none [] place e = refl
entry_none (t ∷ ts) place e =
    let other : place ≡ 1 → ⊥ = λ f. omega arith in
    simp (ne_eqb _ _ other) (entry_none ts (place - 1) (omega arith))

entry_beyond : (width : ℕ) (x : List ℕ) (n at place : ℕ) → n < place → None ≡ entry_in (pairs_read width x at n) place
unfolding pairs_read entry_in
entry_beyond width x zero at place h = refl
entry_beyond width x (suc n) at place h =
    let other : place ≡ 1 → ⊥ = λ f. omega arith in
    simp (ne_eqb _ _ other) (entry_beyond width x n (at + (width + 16)) (place - 1) (omega arith))

-- ---- a line

module _ (x : List ℕ) where
  module _ {r : ℕ} (e : r ≡ min (count_held x) ((8 * length x - 16) / 32)) (place : ℕ) where
    pub line_beyond : r < place → None ≡ entry_in (line_pairs x) place
    unfolding line_pairs
    line_beyond h = entry_beyond 16 x (min (count_held x) ((8 * length x - 16) / 32)) 16 place (omega arith)

    pub line_there : {a b : ℕ} → a ≡ field_at x (8 * (4 * place - 2)) 16 → b ≡ field_at x (8 * (4 * place)) 16 → place ≤ r → (place ≡ 0 → ⊥)
        → numbers a b ≡ entry_in (line_pairs x) place
    unfolding line_pairs
    line_there {a} {b} f g h z =
        let here : place ≡ suc (place - 1) = omega (arith, z) in
        let first : 16 + (place - 1) * (16 + 16) ≡ 8 * (4 * place - 2) = omega arith in
        let second : 16 + (place - 1) * (16 + 16) + 16 ≡ 8 * (4 * place) = omega arith in
        ap (λ (n : ℕ). numbers n b) (f ∙ ap (λ (n : ℕ). field_at x n 16) (sym first))
        ∙ ap (numbers (field_at x (16 + (place - 1) * (16 + 16)) 16)) (g ∙ ap (λ (n : ℕ). field_at x n 16) (sym second))
        ∙ sym (entry_at 16 x (min (count_held x) ((8 * length x - 16) / 32)) 16 (place - 1) (omega arith))
        ∙ ap (entry_in (pairs_read 16 x 16 (min (count_held x) ((8 * length x - 16) / 32)))) (sym here)

-- ---- a jump

abbrev part : List ℕ → ℕ → List ℕ
part x d = take (length x - d) (drop d x)

part_is : (x : List ℕ) (d : ℕ) → part x d ≡ drop d x
part_is x d = take_all (length x - d) (drop d x) (omega (arith, length-drop d x))

pub part_long : (x : List ℕ) (d : ℕ) → length (part x d) ≡ length x - d
part_long x d = ap length (part_is x d) ∙ length-drop d x

module _ (x : List ℕ) (place : ℕ) where
  pub packed_beyond : 8 * (length x / 29) + 8 * (length x % 29) / 29 < place → None ≡ entry_in (pairs_read 13 x 0 (8 * length x / 29)) place
  packed_beyond h = entry_beyond 13 x (8 * length x / 29) 0 place (omega arith)

  -- where the eight jumps begin that it is one of, and its own offset there
  abbrev group : ℕ
  group = 29 * ((place - 1) / 8)

  abbrev within : ℕ
  within = 29 * ((place - 1) % 8)

  pub packed_there : {a b : ℕ} → a ≡ field_at (part x group) within 13 → b ≡ field_at (part x group) (within + 13) 16
      → place ≤ 8 * (length x / 29) + 8 * (length x % 29) / 29 → (place ≡ 0 → ⊥) → numbers a b ≡ entry_in (pairs_read 13 x 0 (8 * length x / 29)) place
  packed_there {a} {b} f g h z =
      let here : place ≡ suc (place - 1) = omega (arith, z) in
      let first : 8 * group + within ≡ 0 + (place - 1) * (13 + 16) = omega arith in
      let second : 8 * group + (within + 13) ≡ 0 + (place - 1) * (13 + 16) + 13 = omega arith in
      ap (λ (n : ℕ). numbers n b) (f ∙ moved within 13 ∙ ap (λ (n : ℕ). field_at x n 13) first)
      ∙ ap (numbers (field_at x (0 + (place - 1) * (13 + 16)) 13)) (g ∙ moved (within + 13) 16 ∙ ap (λ (n : ℕ). field_at x n 16) second)
      ∙ sym (entry_at 13 x (8 * length x / 29) 0 (place - 1) (omega arith)) ∙ ap (entry_in (pairs_read 13 x 0 (8 * length x / 29))) (sym here)
    where
      moved : (at width : ℕ) → field_at (part x group) at width ≡ field_at x (8 * group + at) width
      moved at width = ap (λ (y : List ℕ). field_at y at width) (part_is x group) ∙ field_drop group x at width

  no_pairs : (at n : ℕ) → n ≡ 0 → None ≡ entry_in (pairs_read 13 x at n) place
  unfolding pairs_read entry_in
  no_pairs at n e = ap (λ (m : ℕ). entry_in (pairs_read 13 x at m) place) (sym e)

  pub jump_short : length x < 2 → None ≡ entry_in (jump_pairs x) place
  unfolding jump_pairs
  jump_short h = no_pairs (16 + 32 * count_held x) ((8 * length x - (16 + 32 * count_held x)) / 29) (omega arith)

  module _ {r : ℕ} (e : r ≡ field_at x (8 * 0) 16) where
    pub jump_none : length x < 2 + 4 * r → None ≡ entry_in (jump_pairs x) place
    unfolding jump_pairs
    jump_none h = no_pairs (16 + 32 * count_held x) ((8 * length x - (16 + 32 * count_held x)) / 29) (omega arith)

    pub jump_there : {a : Option Numbers} → a ≡ entry_in (pairs_read 13 (part x (2 + 4 * r)) 0 (8 * length (part x (2 + 4 * r)) / 29)) place → 2 + 4 * r ≤ length x
        → a ≡ entry_in (jump_pairs x) place
    unfolding jump_pairs
    jump_there f h =
        let many : 8 * length (part x (2 + 4 * r)) / 29 ≡ (8 * length x - (16 + 32 * count_held x)) / 29 = omega (arith, part_long x (2 + 4 * r)) in
        let far : 8 * (2 + 4 * r) + 0 ≡ 16 + 32 * count_held x = omega arith in
        f ∙ ap (λ (n : ℕ). entry_in (pairs_read 13 (part x (2 + 4 * r)) 0 n) place) many
        ∙ ap (λ (y : List ℕ). entry_in (pairs_read 13 y 0 ((8 * length x - (16 + 32 * count_held x)) / 29)) place) (part_is x (2 + 4 * r))
        ∙ ap (λ (ts : List Two). entry_in ts place) (pairs_drop 13 (2 + 4 * r) x 0 ((8 * length x - (16 + 32 * count_held x)) / 29)
        ∙ ap (λ (n : ℕ). pairs_read 13 x n ((8 * length x - (16 + 32 * count_held x)) / 29)) far)

-- ---- the loop over the lines

pub record Looking (number : ℕ) (x : List ℕ) (held before : ℕ) : Type 0 where
  pub up : before ≤ held
  pub same : first_line number before (map line_of (pairs_read 16 x (16 + 32 * before) (held - before))) ≡ look_up number x

pub looking_start : (number : ℕ) (x : List ℕ) {r : ℕ} → r ≡ min (count_held x) ((8 * length x - 16) / 32) → Looking number x r 0
unfolding look_up
looking_start number x {r} e =
    let all : r - 0 ≡ min (count_held x) ((8 * length x - 16) / 32) = omega arith in
    record { up = omega arith; same = ap (λ (n : ℕ). first_line number 0 (map line_of (pairs_read 16 x 16 n))) all }

module _ (number : ℕ) (x : List ℕ) {held before : ℕ} (k : Looking number x held before) where
  first_read : (n at : ℕ) → first_line number before (map line_of (pairs_read 16 x at (suc n)))
      ≡ cond (eqb (field_at x at 16) number) (numbers (before + 1) (field_at x (at + 16) 16)) (first_line number (before + 1) (map line_of (pairs_read 16 x (at + 32) n)))
  unfolding first_line pairs_read
  first_read n at = refl

  here : before < held → look_up number x
      ≡ cond (eqb (field_at x (16 + 32 * before) 16) number) (numbers (before + 1) (field_at x (16 + 32 * before + 16) 16))
      (first_line number (before + 1) (map line_of (pairs_read 16 x (16 + 32 * before + 32) (held - (before + 1)))))
  here h =
      let more : held - before ≡ suc (held - (before + 1)) = omega arith in
      sym k.same ∙ ap (λ (n : ℕ). first_line number before (map line_of (pairs_read 16 x (16 + 32 * before) n))) more ∙ first_read (held - (before + 1)) (16 + 32 * before)

  module _ {r : ℕ} (h : before < held) (e : r ≡ field_at x (8 * (2 + 4 * before)) 16) where
    told : r ≡ field_at x (16 + 32 * before) 16
    told = let w : 8 * (2 + 4 * before) ≡ 16 + 32 * before = omega arith in e ∙ ap (λ (n : ℕ). field_at x n 16) w

    pub looking_found : {s : ℕ} → r ≡ number → s ≡ field_at x (8 * (4 + 4 * before)) 16 → numbers (before + 1) s ≡ look_up number x
    looking_found f g =
        let w : 8 * (4 + 4 * before) ≡ 16 + 32 * before + 16 = omega arith in
        ap (numbers (before + 1)) (g ∙ ap (λ (n : ℕ). field_at x n 16) w) ∙ sym (here h ∙ simp (eq-eqb _ _ (sym told ∙ f)))

    pub looking_turn : (r ≡ number → ⊥) → Looking number x held (before + 1)
    looking_turn f =
        let w : 16 + 32 * (before + 1) ≡ 16 + 32 * before + 32 = omega arith in
        let other : field_at x (16 + 32 * before) 16 ≡ number → ⊥ = λ g. f (told ∙ g) in
        record {
          up = omega arith;
          same =
              ap (λ (n : ℕ). first_line number (before + 1) (map line_of (pairs_read 16 x n (held - (before + 1))))) w
              ∙ sym (here h ∙ simp (ne_eqb _ _ other));
        }

  pub looking_end : held ≤ before → None ≡ look_up number x
  unfolding first_line pairs_read
  looking_end h =
      let none : held - before ≡ 0 = omega arith in
      nothing ∙ ap (λ (n : ℕ). first_line number before (map line_of (pairs_read 16 x (16 + 32 * before) n))) (sym none) ∙ k.same
    where
      nothing : None ≡ first_line number before (map line_of (pairs_read 16 x (16 + 32 * before) 0))
      nothing = refl
