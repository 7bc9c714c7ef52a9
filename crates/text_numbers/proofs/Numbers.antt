-- The number of a line: the loop over its digits, and what a line is, case by case.
-- Assumes nothing.
use Prim.Native.Nat.{ℕ, zero, suc, ◌+◌, ◌-◌, ◌*◌, ◌≤◌, ◌<◌, min}
use mathlib.Core.Path.{◌≡◌, refl, sym, ap, ◌∙◌}
use mathlib.Core.Bool.{Bool, true, false, not}
use mathlib.Core.List.{List, [], ◌∷◌}
use native.Mathlib.Omega.{arith}
use mir.Syntax.{w64}
use mir.Val.{Fits}
use mir.Facts.{Fits-le}
use lib.ListN.{length, get_or, take, drop, drop_of_length-le, length-drop}
use lib.Seq.{drop-drop, take-nil}
use lib.Dec.{leb}
use borrow.Author.Tests.{le-leb, lt-leb, leb-true, not-true, not-false}
use Rattle.base_ascii.specs.Bytes.{is_digit, is_space}
use Rattle.base_ascii.specs.Search.{equals, front, past}
use Rattle.base_ascii.specs.Trim.{trim}
use Rattle.base_ascii.proofs.Laws.{trim_space, trim_within, trim_stands}
use Rattle.base_ascii.proofs.Ranges.{between_in}
use Rattle.base_ascii.proofs.Searching.{Onward, onward_start, front_turn, front_found, front_end, front_more, front_none, front_le, tail, here}
use Rattle.text_numbers.specs.Numbering.{ReadLine, blank_line, missing_number, number_too_high, numbered_text, decimal_from, digits_read, trimmed_read, read_line}
use Rattle.text_numbers.specs.NumberHelpers.{digits_in, placed, told, trimmed_end, numbering}
use Rattle.text_numbers.specs.declared.Digits.{Digits}
use Rattle.text_numbers.specs.declared.Numbering.{Numbering}
use Rattle.text_numbers.specs.declared.Numbering.TheVariants.{Blank, Missing, OutOfRange, Numbered}
use Rattle.base_ascii.proofs.Choice.{taken, left}

-- ---- a value that is cut at 32 bits, digit by digit

abbrev most : ℕ
most = 4294967295

digit_taken : (v b : ℕ) (s : List ℕ) → is_digit b ≡ true → decimal_from v (b ∷ s) ≡ decimal_from (v * 10 + (b - 48)) s
unfolding decimal_from
digit_taken v b s t = taken _ _ t

digit_left : (v b : ℕ) (s : List ℕ) → is_digit b ≡ false → decimal_from v (b ∷ s) ≡ v
unfolding decimal_from
digit_left v b s t = left _ _ t

-- cutting before the other digits are read changes nothing
cut_early : (s : List ℕ) (v : ℕ) → min (decimal_from (min v most) s) most ≡ min (decimal_from v s) most
unfolding decimal_from
cut_early [] v = omega arith
cut_early (b ∷ s) v = go (is_digit b) refl (cut_early s)
  where
    go : (r : Bool) → is_digit b ≡ r → ((w : ℕ) → min (decimal_from (min w most) s) most ≡ min (decimal_from w s) most)
        → min (decimal_from (min v most) (b ∷ s)) most ≡ min (decimal_from v (b ∷ s)) most
    go true e f =
        let early : min (min v most * 10 + (b - 48)) most ≡ min (v * 10 + (b - 48)) most = omega arith in
        ap (λ (n : ℕ). min n most) (digit_taken (min v most) b s e) ∙ sym (f _) ∙ ap (λ (n : ℕ). min (decimal_from n s) most) early
        ∙ f _ ∙ ap (λ (n : ℕ). min n most) (sym (digit_taken v b s e))
    go false e f =
        let early : min (min v most) most ≡ min v most = omega arith in
        ap (λ (n : ℕ). min n most) (digit_left (min v most) b s e) ∙ early ∙ ap (λ (n : ℕ). min n most) (sym (digit_left v b s e))

-- ---- the loop over the digits

-- i digits passed, of the value v
pub record Valued (s : List ℕ) (i v : ℕ) : Type 0 where
  pub counted : Onward (front is_digit) s 0 i
  pub small : v ≤ most
  pub gives : min (decimal_from v (drop i s)) most ≡ min (decimal_from 0 s) most

pub valued_start : (s : List ℕ) → Valued s 0 0
valued_start s = record { counted = onward_start (front is_digit) s 0; small = omega arith; gives = refl }

module _ {s : List ℕ} {i v : ℕ} where
  valued_is : i ≡ front is_digit s → decimal_from v (drop i s) ≡ v → Valued s i v → record { count = i; value = v } ≡ digits_in s
  unfolding digits_in
  valued_is n e k =
      let w : v ≡ min (decimal_from 0 s) most = omega arith in
      cc

  pub valued_end : length s ≤ i → Valued s i v → record { count = length s; value = v } ≡ digits_in s
  unfolding decimal_from
  valued_end h k =
      let e : length s ≡ i = omega (arith, front_end is_digit h k.counted, front_le is_digit s) in
      rw e (valued_is (front_end is_digit h k.counted) (rw (drop_of_length-le s h)) k)

  module _ {r : Bool} where
    pub valued_stop : not r ≡ true → r ≡ is_digit (get_or s i 0) → i < length s → Valued s i v → record { count = i; value = v } ≡ digits_in s
    valued_stop t q h k = valued_is (front_found is_digit t q h k.counted) (rw (here s i h) (digit_left _ _ _ (sym q ∙ not-true r t))) k

    pub valued_turn : {w : ℕ} → w ≡ min (v * 10 + (get_or s i 0 - 48)) most → not r ≡ false → r ≡ is_digit (get_or s i 0) → i < length s → Valued s i v → Valued s (i + 1) w
    valued_turn {w} e t q h k =
        let d = get_or s i 0 - 48 in
        record {
          counted = front_turn is_digit t q h k.counted;
          small = omega arith;
          gives =
              ap (λ (n : ℕ). min (decimal_from n (drop (i + 1) s)) most) e ∙ cut_early (drop (i + 1) s) (v * 10 + d)
              ∙ ap (λ (n : ℕ). min n most) (sym (ap (decimal_from v) (here s i h) ∙ digit_taken v _ _ (sym q ∙ not-false r t))) ∙ k.gives;
        }

pub digit_low : (b : ℕ) {r : Bool} → not r ≡ false → r ≡ is_digit b → 48 ≤ b
digit_low b {r} t q = (between_in 48 57 b (sym q ∙ not-false r t)).0

-- ---- what a line is, by what the code finds

pub line_blank : (l t : List ℕ) → length t ≡ 0 → t ≡ trim l → Blank ≡ numbering l
unfolding numbering read_line trimmed_read
line_blank l [] h e = ap (λ (x : List ℕ). placed l (trimmed_read x)) e
line_blank l (b ∷ t) h e = absurd (omega arith)

pub line_empty : (l : List ℕ) → length l ≡ 0 → Blank ≡ numbering l
unfolding numbering
line_empty [] h = refl
line_empty (b ∷ l) h = absurd (omega arith)

-- a line that is not blank, by how many digits stand in front
trimmed_missing : (t : List ℕ) → (length t ≡ 0 → ⊥) → front is_digit t ≡ 0 → trimmed_read t ≡ missing_number
unfolding trimmed_read
trimmed_missing [] n z = absurd (n refl)
trimmed_missing (b ∷ t) n z = go (is_digit b) refl
  where
    go : (r : Bool) → is_digit b ≡ r → trimmed_read (b ∷ t) ≡ missing_number
    go true q = absurd (omega (arith, front_more is_digit b t q))
    go false q = left _ _ q

trimmed_digits : (t : List ℕ) → (front is_digit t ≡ 0 → ⊥) → trimmed_read t ≡ digits_read t
unfolding trimmed_read front
trimmed_digits [] n = absurd (n refl)
trimmed_digits (b ∷ t) n = go (is_digit b) refl
  where
    go : (r : Bool) → is_digit b ≡ r → trimmed_read (b ∷ t) ≡ digits_read (b ∷ t)
    go true q = taken _ _ q
    go false q = absurd (n (front_none is_digit b t q))

module _ (t : List ℕ) {d : Digits} (e : d ≡ digits_in t) where
  is_count : d.count ≡ front is_digit t
  unfolding digits_in
  is_count = ap (λ (x : Digits). x.count) e

  is_value : d.value ≡ min (decimal_from 0 t) most
  unfolding digits_in
  is_value = ap (λ (x : Digits). x.value) e

  pub count_within_lem : d.count ≤ length t
  count_within_lem = omega (arith, is_count, front_le is_digit t)

  some : (d.count ≡ 0 → ⊥) → trimmed_read t ≡ digits_read t
  some n = trimmed_digits t (λ z. n (is_count ∙ z))

by_read : (l t : List ℕ) {x : ReadLine} → t ≡ trim l → trimmed_read t ≡ x → placed l x ≡ numbering l
unfolding numbering read_line
by_read l t e q = ap (placed l) (sym q ∙ ap trimmed_read e)

-- the trimmed line stands within the line
pub end_fits : (l t : List ℕ) {a : ℕ} → a ≡ front is_space l → t ≡ trim l → Fits w64 (length l) → Fits w64 (a + length t)
end_fits l t from e f = Fits-le (omega (arith, trim_within l, ap length e)) f

pub count_fits : (l t : List ℕ) {d : Digits} {a : ℕ} → a ≡ front is_space l → t ≡ trim l → d ≡ digits_in t → Fits w64 (length l) → Fits w64 (a + d.count)
count_fits l t from e q f = Fits-le (omega (arith, trim_within l, ap length e, count_within_lem t q)) f

module _ (l t : List ℕ) {d : Digits} where
  pub line_missing : d.count ≡ 0 → d ≡ digits_in t → t ≡ trim l → (length t ≡ 0 → ⊥) → Missing ≡ numbering l
  line_missing z q e n = by_read l t e (trimmed_missing t n (sym (is_count t q) ∙ z))

  pub line_range : (d.value < 65536 → ⊥) → d ≡ digits_in t → t ≡ trim l → (d.count ≡ 0 → ⊥) → OutOfRange d.value ≡ numbering l
  unfolding digits_read
  line_range h q e n =
      let high : 65535 < decimal_from 0 t = omega (arith, is_value t q) in
      ap OutOfRange (is_value t q) ∙ by_read l t e (some t q n ∙ left _ _ (lt-leb _ _ high))

  module _ {k a : ℕ} (from : a ≡ front is_space l) (s : k ≡ front (equals 0x20) (take (length t - d.count) (drop d.count t))) (q : d ≡ digits_in t) (e : t ≡ trim l) where
    rest : take (length t - d.count) (drop d.count t) ≡ past is_digit t
    rest = tail t d.count ∙ ap (λ (m : ℕ). drop m t) (is_count t q)

    body_long : length (past (equals 0x20) (past is_digit t)) ≡ length t - (d.count + k)
    body_long =
        omega (arith, is_count t q, s ∙ ap (front (equals 0x20)) rest, length-drop (front (equals 0x20) (past is_digit t)) (past is_digit t), length-drop (front is_digit t) t)

    -- the body stands within the line
    body_low : d.count + k ≤ length t
    body_low =
        omega (arith, count_within_lem t q, s, ap length rest, front_le (equals 0x20) (take (length t - d.count) (drop d.count t)), length-drop (front is_digit t) t, is_count t q)

    pub body_fits : Fits w64 (length l) → Fits w64 (a + d.count + k)
    body_fits f = Fits-le (omega (arith, body_low, trim_within l, ap length e)) f

    pub line_numbered : {v : ℕ} → (d.value < 65536) × (v ≡ d.value) → (d.count ≡ 0 → ⊥) → Numbered v (a + d.count + k) (a + length t) ≡ numbering l
    unfolding digits_read
    line_numbered {v = number} h n =
        let low : decimal_from 0 t ≤ 65535 = omega (arith, is_value t q, h) in
        let v : number ≡ decimal_from 0 t = omega (arith, is_value t q, h) in
        let end : a + length t ≡ trimmed_end l = omega (arith, ap length e) in
        let start : a + d.count + k ≡ trimmed_end l - length (past (equals 0x20) (past is_digit t)) = omega (arith, body_long, body_low) in
        rw (v, start, end) (by_read l t e (some t q n ∙ taken _ _ (le-leb _ _ low)))

-- ---- what was read of a line, by its numbering

-- blanks in front change nothing
pub read_space : (b : ℕ) (l : List ℕ) → is_space b ≡ true → read_line (b ∷ l) ≡ read_line l
unfolding read_line
read_space b l q = ap trimmed_read (trim_space b l q)

-- a number that was read fits 16 bits, and its text is the end of the trimmed line
record Read (l : List ℕ) (n : ℕ) (text : List ℕ) : Type 0 where
  small : n ≤ 65535
  at : ℕ
  low : at ≤ length (trim l)
  is_end : drop at (trim l) ≡ text

digits_read_lem : (t : List ℕ) {n : ℕ} {text : List ℕ} → digits_read t ≡ numbered_text n text → (n ≤ 65535) × (drop (front is_digit t + front (equals 0x20) (past is_digit t)) t ≡ text)
unfolding digits_read
digits_read_lem t {n} {text} e = go (leb (decimal_from 0 t) 65535) refl e
  where
    go : (r : Bool) → leb (decimal_from 0 t) 65535 ≡ r
        → elim r [ true ↦ numbered_text (decimal_from 0 t) (past (equals 0x20) (past is_digit t)) | false ↦ number_too_high (min (decimal_from 0 t) most) ] ≡ numbered_text n text
        → (n ≤ 65535) × (drop (front is_digit t + front (equals 0x20) (past is_digit t)) t ≡ text)
    go true h p =
        let v : decimal_from 0 t ≡ n = cc in
        let x : past (equals 0x20) (past is_digit t) ≡ text = cc in
        (omega (arith, leb-true (decimal_from 0 t) 65535 h), sym (drop-drop (front (equals 0x20) (past is_digit t)) (front is_digit t) t) ∙ x)
    go false h p = let z : ◌≡◌ {A = ℕ} 0 1 = cc in absurd (omega arith)

trimmed_read_lem : (t : List ℕ) {n : ℕ} {text : List ℕ} → trimmed_read t ≡ numbered_text n text → digits_read t ≡ numbered_text n text
unfolding trimmed_read
trimmed_read_lem [] e = let z : ◌≡◌ {A = ℕ} 0 1 = cc in absurd (omega arith)
trimmed_read_lem (b ∷ t) {n} {text} e = go (is_digit b) e
  where
    go : (r : Bool) → elim r [ true ↦ digits_read (b ∷ t) | false ↦ missing_number ] ≡ numbered_text n text → digits_read (b ∷ t) ≡ numbered_text n text
    go true p = p
    go false p = let z : ◌≡◌ {A = ℕ} 0 1 = cc in absurd (omega arith)

is_read : (l : List ℕ) {n : ℕ} {text : List ℕ} → read_line l ≡ numbered_text n text → Read l n text
unfolding read_line
is_read l e =
    let r = digits_read_lem (trim l) (trimmed_read_lem (trim l) e) in
    let t = trim l in
    let low : front is_digit t + front (equals 0x20) (past is_digit t) ≤ length t =
    omega (arith, front_le is_digit t, front_le (equals 0x20) (past is_digit t), length-drop (front is_digit t) t) in
    record { small = r.0; at = front is_digit t + front (equals 0x20) (past is_digit t); low = low; is_end = r.1 }

pub number_fits : (l : List ℕ) {n : ℕ} {text : List ℕ} → read_line l ≡ numbered_text n text → n ≤ 65535
number_fits l e = (is_read l e).small

drop_take : (k n : ℕ) (s : List ℕ) → drop k (take n s) ≡ take (n - k) (drop k s)
drop_take zero n s = let e : n ≡ n - 0 = omega arith in ap (λ (m : ℕ). take m s) e
drop_take (suc k) zero s = let e : 0 ≡ 0 - suc k = omega arith in ap (λ (m : ℕ). take m (drop (suc k) s)) e
drop_take (suc k) (suc n) [] = sym (take-nil (suc n - suc k))
drop_take (suc k) (suc n) (b ∷ s) =
    let e : n - k ≡ suc n - suc k = omega arith in drop_take k n s ∙ ap (λ (m : ℕ). take m (drop k s)) e

-- where the text of a numbered line stands
pub record Placed (l : List ℕ) (f t : ℕ) : Type 0 where
  pub up : f ≤ t
  pub within : t ≤ length l

module _ (l : List ℕ) where
  read_part : {n : ℕ} {text : List ℕ} → read_line l ≡ numbered_text n text → take (trimmed_end l - (trimmed_end l - length text)) (drop (trimmed_end l - length text) l) ≡ text
  read_part {n} {text} e =
      let r = is_read l e in
      let long : length text ≡ length (trim l) - r.at = sym (ap length r.is_end) ∙ length-drop r.at (trim l) in
      let starts : trimmed_end l - length text ≡ front is_space l + r.at = omega (arith, r.low) in
      let size : trimmed_end l - (front is_space l + r.at) ≡ length (trim l) - r.at = omega (arith, r.low) in
      rw (starts, size, ← drop-drop r.at (front is_space l) l, ← drop_take r.at (length (trim l)) (drop (front is_space l) l), trim_stands l) r.is_end

  as_placed : (r : ReadLine) → read_line l ≡ r → told l (placed l r) ≡ r
  as_placed blank_line e = refl
  as_placed missing_number e = refl
  as_placed (number_too_high v) e = refl
  as_placed (numbered_text n text) e = ap (numbered_text n) (read_part e)

  -- the numbering tells what was read
  pub read_told : {m : Numbering} → m ≡ numbering l → told l m ≡ read_line l
  unfolding numbering
  read_told e = ap (told l) e ∙ as_placed (read_line l) refl

  pub numbered_placed : {m : Numbering} {n f t : ℕ} → m ≡ Numbered n f t → m ≡ numbering l → Placed l f t
  unfolding numbering
  numbered_placed {m} {n} {f} {t} q e = go (read_line l) (sym e ∙ q)
    where
      go : (r : ReadLine) → placed l r ≡ Numbered n f t → Placed l f t
      go (numbered_text k text) p =
          let to : trimmed_end l ≡ t = cc in
          let from : trimmed_end l - length text ≡ f = cc in
          record { up = omega arith; within = omega (arith, trim_within l) }
      go blank_line p = let z : ◌≡◌ {A = ℕ} 0 1 = cc in absurd (omega arith)
      go missing_number p = let z : ◌≡◌ {A = ℕ} 0 1 = cc in absurd (omega arith)
      go (number_too_high v) p = let z : ◌≡◌ {A = ℕ} 0 1 = cc in absurd (omega arith)
