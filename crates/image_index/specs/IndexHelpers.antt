-- What the contracts of the passes over an image say. Targets are cut, as the steps over a body tell them. The report leaves
-- out the jumps to marked numbers; the index leaves out none, since nothing is marked.
-- Assumes nothing.
use Rattle.std.specs.Prelude.{ℕ, Result, Ok, Err, ◌+◌, ◌-◌, ◌≤◌, ◌≡◌, cond, List, [], ◌∷◌, ◌++◌, map, ltb, length}
use Rattle.base_refusals.specs.Answer.{Answer, done, refused}
use Rattle.image_readers.specs.declared.Line.{Line}
use Rattle.image_readers.specs.Bodies.{body_of}
use Rattle.image_readers.specs.Lines.{lines_from}
use Rattle.image_readers.specs.Links.{link_step}
use Rattle.image_marks.specs.Marks.{has_mark}
use Rattle.image_jumps.specs.Jumps.{jumps_from, jumps_of, low}
use Rattle.base_bits.specs.Bits.{bits_of}
use Rattle.image_readers.specs.IndexLines.{IndexLine, has_line}
use Rattle.base_refusals.specs.declared.Refusal.{Refusal}
use Rattle.base_refusals.specs.declared.Refusal.TheVariants.{TargetTooHigh}

-- the lines from p on, and none where there is a fault
abbrev pub lines_listed : Answer (List Line) → List Line
lines_listed (done ls) = ls
lines_listed (refused n) = []

abbrev pub found_from : List ℕ → ℕ → List Line
found_from s p = lines_listed (lines_from link_step s p)

-- no fault from p on
abbrev pub Sound : List ℕ → ℕ → Type 0
Sound s p = lines_from link_step s p ≡ done (found_from s p)

-- the targets of a body, cut
abbrev pub low_jumps : List ℕ → List ℕ
low_jumps body = map low (jumps_of body)

-- those of lines
unfoldable pub low_targets : List ℕ → List Line → List ℕ
unfolding jumps_from
low_targets s [] = []
low_targets s (l ∷ ls) = low_jumps (body_of s l) ++ low_targets s ls

-- the marks are at the numbers up to 65535 that lines have
pub record NumbersMarked (lines : List IndexLine) (marked : List ℕ) : Type 0 where
  pub tells : (t : ℕ) → t ≤ 65535 → has_mark marked t ≡ has_line lines t

-- how many of the targets are not marked, behind n of them, unless one is too high
unfoldable pub targets_counted : List ℕ → ℕ → List ℕ → Result ℕ Refusal
targets_counted marked n [] = Ok n
targets_counted marked n (t ∷ ts) = cond (ltb 65535 t) (Err TargetTooHigh) (targets_counted marked (cond (has_mark marked t) n (n + 1)) ts)

-- so many, and no more than a count; no other refusal
abbrev pub AtMost : ℕ → Result ℕ Refusal → Type 0
AtMost most (Ok n) = n ≤ most
AtMost most (Err f) = f ≡ TargetTooHigh

pub record CountedIs (marked : List ℕ) (n : ℕ) (ts : List ℕ) (most : ℕ) (r : Result ℕ Refusal) : Type 0 where
  pub is : r ≡ targets_counted marked n ts
  pub few : AtMost most r

-- two numbers, the second of 16 bits
abbrev pub pair_bits : ℕ → ℕ → ℕ → List ℕ
pair_bits width a b = bits_of width a ++ bits_of 16 b

-- the bits of lines
unfoldable pub line_bits : List Line → List ℕ
unfolding bits_of
line_bits [] = []
line_bits (l ∷ ls) = pair_bits 16 l.number (l.from - 4) ++ line_bits ls

-- the bits of a jump, unless its target is marked
unfoldable pub target_bit : List ℕ → ℕ → ℕ → List ℕ
unfolding bits_of
target_bit marked place t = cond (has_mark marked t) [] (pair_bits 13 place t)

-- those of a line's jumps
unfoldable pub target_bits : List ℕ → ℕ → List ℕ → List ℕ
unfolding target_bit
target_bits marked place [] = []
target_bits marked place (t ∷ ts) = target_bit marked place t ++ target_bits marked place ts

-- those of lines, v being before these
unfoldable pub jump_bits : List ℕ → List ℕ → ℕ → List Line → List ℕ
unfolding jumps_from target_bits
jump_bits marked s v [] = []
jump_bits marked s v (l ∷ ls) = target_bits marked (v + 1) (low_jumps (body_of s l)) ++ jump_bits marked s (v + 1) ls

-- those of the whole index
abbrev pub index_bits : List ℕ → ℕ → List ℕ
index_bits s n = bits_of 16 n ++ (line_bits (found_from s 2) ++ jump_bits [] s 0 (found_from s 2))

-- an image without a fault, and how many lines it has
pub record Faultless (s : List ℕ) (n : ℕ) : Type 0 where
  pub sound : Sound s 2
  pub count : n ≡ length (found_from s 2)
  pub short : 2 ≤ length s
  pub long : length s ≤ 1048576
