-- Over blank marks, the numbers of lines marked are those that a line has.
-- Assumes nothing.
use Prim.Native.Nat.{ℕ, zero, suc}
use mathlib.Core.Path.{◌≡◌, refl, sym, ap, ◌∙◌}
use mathlib.Core.Bool.{Bool, true, false, not, ◌&&◌, ◌||◌}
use mathlib.Core.List.{List, [], ◌∷◌, map}
use lib.Dec.{ltb, eqb}
use lib.ListN.{length, get_or, set, replicate, length-set, length-replicate}
use lib.Seq.{set_out, get_or-set_same, get_or-set_other}
use borrow.Author.Tests.{ltb-true, ltb-false, eqb-true, eqb-false}
use Rattle.image_readers.specs.declared.Line.{Line}
use Rattle.image_readers.specs.IndexLines.{index_line, has_line}
use Rattle.image_marks.specs.Marks.{line_marks, has_mark}

or_true : (b : Bool) → (b || true) ≡ true
or_true true = refl
or_true false = refl

or_none : (b c : Bool) → b ≡ (b || (c && false))
or_none true c = refl
or_none false true = refl
or_none false false = refl

marks_tell : (marked : List ℕ) (ls : List Line) (t : ℕ)
    → has_mark (line_marks marked ls) t ≡ (has_mark marked t || (ltb t (length marked) && has_line (map index_line ls) t))
unfolding line_marks has_line
marks_tell marked [] t = or_none (has_mark marked t) (ltb t (length marked))
marks_tell marked (l ∷ ls) t = marks_tell (set marked l.number 1) ls t ∙ rw (length-set marked l.number 1) (go (eqb l.number t) refl (ltb t (length marked)) refl)
  where
    go : (b : Bool) → eqb l.number t ≡ b → (d : Bool) → ltb t (length marked) ≡ d
        → (has_mark (set marked l.number 1) t || (d && has_line (map index_line ls) t)) ≡ (has_mark marked t || (d && (b || has_line (map index_line ls) t)))
    go true e true f =
        let same : l.number ≡ t = eqb-true l.number t e in
        let one : get_or (set marked l.number 1) t 0 ≡ 1 = rw (← same) (get_or-set_same marked l.number 1 0 (rw same (ltb-true t (length marked) f))) in
        ap (λ (x : ℕ). not (eqb x 0) || has_line (map index_line ls) t) one ∙ sym (or_true (has_mark marked t))
    go true e false f =
        let same : l.number ≡ t = eqb-true l.number t e in
        ap (λ (m : List ℕ). has_mark m t || false) (set_out marked l.number 1 (rw same (ltb-false t (length marked) f)))
    go false e d f =
        ap (λ (x : ℕ). not (eqb x 0) || (d && has_line (map index_line ls) t))
        (get_or-set_other marked l.number t 1 0 (λ q. eqb-false l.number t e (sym q)))

blank_at : (n t : ℕ) → ◌≡◌ {A = ℕ} (get_or (replicate n 0) t 0) 0
blank_at zero t = refl
blank_at (suc n) zero = refl
blank_at (suc n) (suc t) = blank_at n t

-- there are marks for all numbers of 16 bits
pub numbers_marked : (ls : List Line) (t : ℕ) → has_mark (line_marks (replicate 65536 0) ls) t ≡ (ltb t 65536 && has_line (map index_line ls) t)
numbers_marked ls t =
    marks_tell (replicate 65536 0) ls t
    ∙ ap (λ (x : ℕ). not (eqb x 0) || (ltb t (length (replicate {A = ℕ} 65536 0)) && has_line (map index_line ls) t)) (blank_at 65536 t)
    ∙ ap (λ (n : ℕ). ltb t n && has_line (map index_line ls) t) (length-replicate {A = ℕ} 65536 0)
