-- Lines with their text lines, one more at the end, and the entry at a place. A text line gives a line exactly where it is not blank.
-- Assumes nothing.
use Prim.Native.Nat.{ℕ, suc, ◌+◌, ◌-◌}
use mathlib.Core.Path.{◌≡◌, refl, ap, ◌∙◌}
use mathlib.Core.Bool.{Bool, true, false, cond}
use mathlib.Core.List.{List, [], ◌∷◌, ◌++◌}
use Rattle.std.specs.Prelude.{Some}
use native.Mathlib.Omega.{arith}
use lib.Dec.{eqb, leb}
use lib.ListN.{length}
use borrow.Author.Tests.{eq-eqb, ne_eqb}
use Rattle.base_refusals.specs.Answer.{done}
use Rattle.base_ascii.specs.Bytes.{is_digit}
use Rattle.base_ascii.specs.Trim.{trim}
use Rattle.text_numbers.specs.Numbering.{ReadLine, blank_line, missing_number, number_too_high, numbered_text, decimal_from, digits_read, trimmed_read, read_line}
use Rattle.body.specs.Body.{crunched_body}
use Rattle.body_rules.specs.Lexicon.{Lexicon}
use Rattle.image_readers.specs.declared.Line.{Line}
use Rattle.image_readers.specs.NumberedBody.{NumberedBody}
use Rattle.image_layout.specs.Layout.{link_of, end_address}
use Rattle.image_layout.specs.Reads.{placed_line, lines_at}
use Rattle.image_layout.proofs.Laying.{end_above}
use Rattle.crunch_rules.specs.Crunched.{lines_read, text_line}
use Rattle.crunch_rules.specs.Measured.{unless_blank, with_text_lines, entry_from}
use Rattle.crunch_rules.specs.declared.MeasuredLine.{MeasuredLine}

-- ---- one line more

-- it stands where the lines before it end
pub lines_at_more : (ls : List NumberedBody) (l : NumberedBody) (a p : ℕ)
    → lines_at a p (ls ++ l ∷ []) ≡ lines_at a p ls ++ placed_line (end_address a ls) (link_of (end_address a ls) l.body) (p + end_address a ls - a) l ∷ []
unfolding lines_at end_address
lines_at_more [] l a p = let e : p ≡ p + a - a = omega arith in ap (λ (i : ℕ). placed_line a (link_of a l.body) i l ∷ []) e
lines_at_more (m ∷ ls) l a p =
    let b = link_of a m.body in
    let q = p + 5 + length m.body in
    let e : q + end_address b ls - b ≡ p + end_address b ls - a = omega (arith, end_above b ls) in
    ap (λ (xs : List Line). placed_line a b p m ∷ xs)
    (lines_at_more ls l b q ∙ ap (λ (i : ℕ). lines_at b q ls ++ placed_line (end_address b ls) (link_of (end_address b ls) l.body) i l ∷ []) e)

pub lines_at_length : (ls : List NumberedBody) (a p : ℕ) → length (lines_at a p ls) ≡ length ls
unfolding lines_at
lines_at_length [] a p = refl
lines_at_length (l ∷ ls) a p = ap suc (lines_at_length ls (link_of a l.body) (p + 5 + length l.body))

pub with_length : (ls : List Line) (ts : List ℕ) → length ls ≡ length ts → length (with_text_lines ls ts) ≡ length ls
unfolding with_text_lines
with_length [] ts e = refl
with_length (l ∷ ls) [] e = absurd (omega arith)
with_length (l ∷ ls) (t ∷ ts) e = ap suc (with_length ls ts (omega arith))

pub with_more : (ls : List Line) (ts : List ℕ) (l : Line) (k : ℕ) → length ls ≡ length ts
    → with_text_lines (ls ++ l ∷ []) (ts ++ k ∷ []) ≡ with_text_lines ls ts ++ record { line = l; origin = k } ∷ []
unfolding with_text_lines
with_more [] [] l k e = refl
with_more [] (t ∷ ts) l k e = absurd (omega arith)
with_more (x ∷ ls) [] l k e = absurd (omega arith)
with_more (x ∷ ls) (t ∷ ts) l k e = ap (λ (xs : List MeasuredLine). record { line = x; origin = t } ∷ xs) (with_more ls ts l k (omega arith))

-- ---- the entry at a place

module _ {A : Type 0} (place : ℕ) where
  pub entry_here : (n : ℕ) (xs : List A) (x : A) → place ≡ n + length xs → entry_from place n (xs ++ x ∷ []) ≡ Some x
  unfolding entry_from
  entry_here n [] x h = simp (eq-eqb place n (omega arith))
  entry_here n (y ∷ xs) x h = let e : eqb place n ≡ false = ne_eqb place n (λ q. omega arith) in simp e (entry_here (n + 1) xs x (omega arith))

  pub entry_past : (n : ℕ) (xs : List A) (x : A) → (place ≡ n + length xs → ⊥) → entry_from place n (xs ++ x ∷ []) ≡ entry_from place n xs
  unfolding entry_from
  entry_past n [] x h = let e : eqb place n ≡ false = ne_eqb place n (λ q. h (omega arith)) in simp e
  entry_past n (y ∷ xs) x h = ap (cond (eqb place n) (Some y)) (entry_past (n + 1) xs x (λ q. h (omega arith)))

-- ---- text lines that are blank

neither : (r : Bool) (x y : ReadLine) → (x ≡ blank_line → ⊥) → (y ≡ blank_line → ⊥) → elim r [ true ↦ x | false ↦ y ] ≡ blank_line → ⊥
neither true x y p q e = p e
neither false x y p q e = q e

-- a trimmed line with a byte in it is not blank
some_read : (b : ℕ) (t : List ℕ) → trimmed_read (b ∷ t) ≡ blank_line → ⊥
unfolding trimmed_read digits_read
some_read b t =
    neither (is_digit b) (digits_read (b ∷ t)) missing_number
    (neither (leb (decimal_from 0 (b ∷ t)) 65535) _ _ (λ p. let z : ◌≡◌ {A = ℕ} 0 1 = cc in omega arith) (λ p. let z : ◌≡◌ {A = ℕ} 0 1 = cc in omega arith))
    (λ p. let z : ◌≡◌ {A = ℕ} 0 1 = cc in omega arith)

-- a text line gives as many lines as it has places
module _ (words : Lexicon) (k : ℕ) where
  many_read : (r : ReadLine) {new : List NumberedBody} → (r ≡ blank_line → ⊥) → lines_read words k r ≡ done new → 1 ≡ length new
  many_read blank_line n e = absurd (n refl)
  many_read missing_number n e = let z : ◌≡◌ {A = ℕ} 0 1 = cc in absurd (omega arith)
  many_read (number_too_high v) n e = let z : ◌≡◌ {A = ℕ} 0 1 = cc in absurd (omega arith)
  many_read (numbered_text v t) {new} n e = let s : record { number = v; body = crunched_body words t } ∷ [] ≡ new = cc in ap length s

  many_trimmed : (t : List ℕ) {new : List NumberedBody} → lines_read words k (trimmed_read t) ≡ done new → length (unless_blank k t) ≡ length new
  unfolding trimmed_read
  many_trimmed [] {new} e = let s : [] ≡ new = cc in ap length s
  many_trimmed (b ∷ t) e = many_read (trimmed_read (b ∷ t)) (some_read b t) e

  place_none : (t : List ℕ) → length (unless_blank k t) ≡ 0 → unless_blank k t ≡ []
  place_none [] e = refl
  place_none (b ∷ t) e = absurd (omega arith)

  place_one : (t : List ℕ) → length (unless_blank k t) ≡ 1 → unless_blank k t ≡ k ∷ []
  place_one [] e = absurd (omega arith)
  place_one (b ∷ t) e = refl

  module _ (line : List ℕ) where
    pub as_many : {new : List NumberedBody} → text_line words k line ≡ done new → length (unless_blank k (trim line)) ≡ length new
    unfolding text_line read_line
    as_many e = many_trimmed (trim line) e

    pub blank_place : text_line words k line ≡ done [] → unless_blank k (trim line) ≡ []
    blank_place e = place_none (trim line) (as_many e)

    pub line_place : {l : NumberedBody} → text_line words k line ≡ done (l ∷ []) → unless_blank k (trim line) ≡ k ∷ []
    line_place e = place_one (trim line) (as_many e)
