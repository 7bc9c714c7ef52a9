-- Reading an index back gives the same lines and jumps (document 02, No. 13: "reading the index back gives the same entries").
-- Assumes nothing.
use Prim.Native.Nat.{ℕ, ◌+◌, ◌-◌, ◌*◌, ◌/◌, ◌^◌, ◌<◌, min}
use mathlib.Core.Path.{◌≡◌, refl, sym, ap, ◌∙◌}
use mathlib.Core.List.{List, [], ◌∷◌, ◌++◌, map, append_assoc}
use native.Mathlib.Omega.{arith}
use native.Mathlib.Nat.{suc-mul}
use lib.ListN.{length, take, drop, replicate, length-append, length-replicate, length-map}
use lib.Seq.{drop-drop, take_at, drop_at}
use Rattle.base_bits.specs.Bits.{Field, field, bits_of, field_bits, bytes_bits, number_from, field_at, packed}
use Rattle.base_bits.proofs.Bytes.{Padded, packed_back, length_bits}
use Rattle.base_bits.proofs.Reading.{number_bits, length_bytes}
use Rattle.image_readers.specs.IndexLines.{IndexLine}
use Rattle.image_index.specs.Index.{IndexJump, LineIndex, line_fields, jump_fields, index_fields}
use Rattle.image_index_entries.specs.Entries.{Two, pairs_read, count_held, line_pairs, jump_pairs, line_of, jump_of, lines_held, jumps_held, first_line, look_up}

-- ---- a field behind other bits

-- the bits from an offset on
abbrev From : List ℕ → ℕ → List ℕ → Type 0
From x at bs = drop at (bytes_bits x) ≡ bs

field_here : (x : List ℕ) (at width v : ℕ) (bs : List ℕ) → v < 2 ^ width → From x at (bits_of width v ++ bs) → field_at x at width ≡ v
unfolding field_at
field_here x at width v bs h e =
    ap (λ (l : List ℕ). number_from 0 (take width l)) e ∙ ap (number_from 0) (take_at (bits_of width v) bs width (length_bits width v)) ∙ number_bits width v 0 h ∙ omega arith

field_behind : (x : List ℕ) (at width v : ℕ) (bs : List ℕ) → From x at (bits_of width v ++ bs) → From x (at + width) bs
field_behind x at width v bs e =
    sym (drop-drop width at (bytes_bits x)) ∙ ap (drop width) e ∙ drop_at (bits_of width v) bs width (length_bits width v)

-- ---- pairs of fields

unfoldable pair_fields : ℕ → List Two → List Field
pair_fields width [] = []
pair_fields width (t ∷ ts) = field width t.first ∷ field 16 t.second ∷ pair_fields width ts

-- all numbers of pairs fit their bits
unfoldable pub Fit : ℕ → List Two → Type 0
Fit width [] = Unit {0}
Fit width (t ∷ ts) = (t.first < 2 ^ width) × (t.second < 65536) × Fit width ts

pairs_back : (width : ℕ) (x : List ℕ) (ts : List Two) (at : ℕ) (bs : List ℕ) → Fit width ts → From x at (field_bits (pair_fields width ts) ++ bs)
    → pairs_read width x at (length ts) ≡ ts
unfolding pairs_read field_bits pair_fields Fit
pairs_back width x [] at bs f e = refl
pairs_back width x (t ∷ ts) at bs f e =
    let rest = field_bits (pair_fields width ts) ++ bs in
    let here : From x at (bits_of width t.first ++ (bits_of 16 t.second ++ rest)) = e ∙ simp append_assoc in
    let next : From x (at + width) (bits_of 16 t.second ++ rest) = field_behind x at width t.first (bits_of 16 t.second ++ rest) here in
    let far : at + width + 16 ≡ at + (width + 16) = omega arith in
    ap (λ (v : ℕ). record { first = v; second = field_at x (at + width) 16 } ∷ pairs_read width x (at + (width + 16)) (length ts)) (field_here x at width t.first (bits_of 16 t.second ++ rest) f.0 here)
    ∙ ap (λ (v : ℕ). record { first = t.first; second = v } ∷ pairs_read width x (at + (width + 16)) (length ts)) (field_here x (at + width) 16 t.second rest f.1 next)
    ∙ ap (λ (us : List Two). t ∷ us) (pairs_back width x ts (at + (width + 16)) bs f.2 (ap (λ (n : ℕ). drop n (bytes_bits x)) (sym far) ∙ field_behind x (at + width) 16 t.second rest next))

pairs_long : (width : ℕ) (ts : List Two) → length (field_bits (pair_fields width ts)) ≡ length ts * (width + 16)
unfolding field_bits pair_fields
pairs_long width [] = omega arith
pairs_long width (t ∷ ts) =
    let rest = field_bits (pair_fields width ts) in
    length-append (bits_of width t.first) (bits_of 16 t.second ++ rest)
    ∙ omega (arith, length-append (bits_of 16 t.second) rest, length_bits width t.first, length_bits 16 t.second, pairs_long width ts, suc-mul (length ts) (width + 16))

fields_both : (a b : List Field) → field_bits (a ++ b) ≡ field_bits a ++ field_bits b
unfolding field_bits
fields_both [] b = refl
fields_both (f ∷ a) b = ap (λ (l : List ℕ). bits_of f.width f.value ++ l) (fields_both a b) ∙ sym (append_assoc (bits_of f.width f.value) (field_bits a) (field_bits b))

-- ---- lines and jumps as pairs

abbrev pub line_two : IndexLine → Two
line_two l = record { first = l.number; second = l.offset }

abbrev pub jump_two : IndexJump → Two
jump_two j = record { first = j.place; second = j.target }

line_fields_lem : (ls : List IndexLine) → line_fields ls ≡ pair_fields 16 (map line_two ls)
unfolding line_fields pair_fields
line_fields_lem [] = refl
line_fields_lem (l ∷ ls) = ap (λ (fs : List Field). field 16 l.number ∷ field 16 l.offset ∷ fs) (line_fields_lem ls)

jump_fields_lem : (js : List IndexJump) → jump_fields js ≡ pair_fields 13 (map jump_two js)
unfolding jump_fields pair_fields
jump_fields_lem [] = refl
jump_fields_lem (j ∷ js) = ap (λ (fs : List Field). field 13 j.place ∷ field 16 j.target ∷ fs) (jump_fields_lem js)

lines_same : (ls : List IndexLine) → map line_of (map line_two ls) ≡ ls
lines_same [] = refl
lines_same (l ∷ ls) = ap (λ (ms : List IndexLine). l ∷ ms) (lines_same ls)

jumps_same : (js : List IndexJump) → map jump_of (map jump_two js) ≡ js
jumps_same [] = refl
jumps_same (j ∷ js) = ap (λ (is : List IndexJump). j ∷ is) (jumps_same js)

-- ---- the index

-- all its numbers fit their fields
pub record Fits (y : LineIndex) : Type 0 where
  pub count : length y.lines < 65536
  pub lines : Fit 16 (map line_two y.lines)
  pub jumps : Fit 13 (map jump_two y.jumps)

module _ (y : LineIndex) (fits : Fits y) where
  unfoldable x : List ℕ
  x = packed (index_fields y)

  unfoldable n : ℕ
  n = length y.lines

  unfoldable lines_two : List Two
  lines_two = map line_two y.lines

  unfoldable jumps_two : List Two
  jumps_two = map jump_two y.jumps

  padded : Padded (field_bits (index_fields y)) x
  unfolding x
  padded = packed_back (index_fields y)

  unfoldable behind : List ℕ
  behind = field_bits (pair_fields 13 jumps_two) ++ replicate padded.zeros 0

  whole : From x 0 (bits_of 16 n ++ (field_bits (pair_fields 16 lines_two) ++ behind))
  unfolding n lines_two jumps_two behind index_fields field_bits
  whole =
      padded.are ∙ ap (λ (l : List ℕ). (bits_of 16 (length y.lines) ++ l) ++ replicate padded.zeros 0) (
      fields_both (line_fields y.lines) (jump_fields y.jumps) ∙ ap (λ (fs : List Field). field_bits fs ++ field_bits (jump_fields y.jumps)) (line_fields_lem y.lines)
      ∙ ap (λ (fs : List Field). field_bits (pair_fields 16 (map line_two y.lines)) ++ field_bits fs) (jump_fields_lem y.jumps)) ∙ simp append_assoc

  count_back : count_held x ≡ n
  unfolding n
  count_back = field_here x 0 16 n (field_bits (pair_fields 16 lines_two) ++ behind) fits.count whole

  at_lines : From x 16 (field_bits (pair_fields 16 lines_two) ++ behind)
  at_lines = field_behind x 0 16 n (field_bits (pair_fields 16 lines_two) ++ behind) whole

  lines_many : length lines_two ≡ n
  unfolding lines_two n
  lines_many = length-map y.lines line_two

  at_jumps : From x (16 + 32 * n) behind
  at_jumps =
      let long : length (field_bits (pair_fields 16 lines_two)) ≡ 32 * n = pairs_long 16 lines_two ∙ omega (arith, lines_many) in
      sym (drop-drop (32 * n) 16 (bytes_bits x)) ∙ ap (drop (32 * n)) at_lines ∙ drop_at (field_bits (pair_fields 16 lines_two)) behind (32 * n) long

  size : 8 * length x ≡ 16 + 32 * n + 29 * length jumps_two + padded.zeros
  unfolding behind
  size =
      let rest = field_bits (pair_fields 16 lines_two) ++ behind in
      sym (length_bytes x) ∙ ap length whole
      ∙ omega (arith, length-append (bits_of 16 n) rest, length_bits 16 n, length-append (field_bits (pair_fields 16 lines_two)) behind, length-append (field_bits (pair_fields 13 jumps_two)) (replicate padded.zeros 0), length-replicate {A = ℕ} padded.zeros 0, pairs_long 16 lines_two, pairs_long 13 jumps_two, lines_many)

  line_pairs_lem : line_pairs x ≡ lines_two
  unfolding line_pairs lines_two
  line_pairs_lem =
      let many : min (count_held x) ((8 * length x - 16) / 32) ≡ length lines_two = omega (arith, count_back, size, lines_many) in
      ap (pairs_read 16 x 16) many ∙ pairs_back 16 x lines_two 16 behind fits.lines at_lines

  jump_pairs_lem : jump_pairs x ≡ jumps_two
  unfolding jump_pairs jumps_two behind
  jump_pairs_lem =
      let many : (8 * length x - (16 + 32 * count_held x)) / 29 ≡ length jumps_two = omega (arith, count_back, size, padded.fewer) in
      ap (pairs_read 13 x (16 + 32 * count_held x)) many ∙ ap (λ (m : ℕ). pairs_read 13 x (16 + 32 * m) (length jumps_two)) count_back
      ∙ pairs_back 13 x jumps_two (16 + 32 * n) (replicate padded.zeros 0) fits.jumps at_jumps

  pub lines_back : lines_held (packed (index_fields y)) ≡ y.lines
  unfolding lines_held x lines_two
  lines_back = ap (map line_of) line_pairs_lem ∙ lines_same y.lines

  pub jumps_back : jumps_held (packed (index_fields y)) ≡ y.jumps
  unfolding jumps_held x jumps_two
  jumps_back = ap (map jump_of) jump_pairs_lem ∙ jumps_same y.jumps

  -- "Looking up a target in the index is proved equal to searching the full list, first match taken"
  pub look_up_searches : (number : ℕ) → look_up number (packed (index_fields y)) ≡ first_line number 0 y.lines
  unfolding look_up
  look_up_searches number = ap (first_line number 0) lines_back
