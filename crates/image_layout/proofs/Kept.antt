-- Bytes changed in place in a set of lines (document 02, No. 14). A part of a line that may change lies in the line, so the lines can be taken one
-- after the other (`Kept`), and whatever bytes stand between a line's offset and its terminator are a line again (`stands_any`).
-- Assumes nothing.
use Prim.Native.Nat.{ℕ, suc, ◌+◌, ◌*◌, ◌/◌, ◌%◌, ◌≤◌, ◌<◌}
use mathlib.Core.Path.{◌≡◌, refl, sym, ap, ◌∙◌}
use mathlib.Core.Bool.{Bool, true, false, ◌&&◌, ◌||◌}
use mathlib.Core.List.{List, [], ◌∷◌, ◌++◌, append_assoc}
use native.Mathlib.Nat.{add-mul-div_left, add-mul-mod_self_left, mod-eq_of_lt}
use native.Mathlib.Omega.{arith}
use lib.Dec.{lit<, leb}
use lib.ListN.{length, get_or, take, drop, length-drop, take-append-drop}
use lib.Seq.{drop-cons, drop-drop, length-take-le, ext_get_or, get_or-take, get_or-drop, take-append_seam}
use borrow.Author.Tests.{lt-leb, le-ltb}
use Rattle.image_bytes.specs.ImageBytes.{low_first_at}
use Rattle.image_readers.specs.declared.Line.{Line}
use Rattle.image_readers.specs.NumberedBody.{NumberedBody}
use Rattle.image_layout.specs.Changed.{number_or_body, link_byte, in_some}
use Rattle.image_layout.specs.Layout.{two_bytes, linked_bytes, link_of}
use Rattle.image_layout.specs.Reads.{placed_line, lines_at}
use Rattle.image_layout.proofs.Standing.{Holds, Stands, body_there, long_as, number_there}

-- ---- which offsets may change

pub and_false : (b : Bool) → b && false ≡ false
and_false true = refl
and_false false = refl

-- a part of a line lies in the line
pub record InLine (part : Line → ℕ → Bool) : Type 0 where
  pub none_before : (a link p i : ℕ) (l : NumberedBody) → i < p → part (placed_line a link p l) i ≡ false
  pub none_behind : (a link p i : ℕ) (l : NumberedBody) → p + 5 + length l.body ≤ i → part (placed_line a link p l) i ≡ false

pub number_or_body_in : InLine number_or_body
number_or_body_in =
    record {
      none_before = λ a link p i l h. simp (lt-leb (p + 4) (i + 2) (omega arith));
      none_behind = λ a link p i l h. rw (le-ltb i (p + 4 + length l.body) (omega arith)) (and_false (leb (p + 4) (i + 2)));
    }

pub link_byte_in : InLine link_byte
link_byte_in =
    record {
      none_before = λ a link p i l h. simp (lt-leb (p + 4) (i + 4) (omega arith));
      none_behind = λ a link p i l h. rw (le-ltb (i + 2) (p + 4) (omega arith)) (and_false (leb (p + 4) (i + 4)));
    }

-- from an offset on s is t, but for bytes of a part of the lines in a set
pub record Kept (part : Line → ℕ → Bool) (set : ℕ → Bool) (a p : ℕ) (ls : List NumberedBody) (t s : List ℕ) : Type 0 where
  pub long : length s ≡ length t
  pub others : (i : ℕ) → p ≤ i → in_some part set (lines_at a p ls) i ≡ false → get_or s i 0 ≡ get_or t i 0
  pub bytes : (i : ℕ) → p ≤ i → in_some part set (lines_at a p ls) i ≡ true → get_or s i 0 < 256

abbrev pub after : (ℕ → Bool) → ℕ → Bool
after set k = set (suc k)

module _ {part : Line → ℕ → Bool} (lies : InLine part) where
  pub none_in : (set : ℕ → Bool) (ls : List NumberedBody) (a p i : ℕ) → i < p → in_some part set (lines_at a p ls) i ≡ false
  unfolding in_some lines_at
  none_in set [] a p i h = refl
  none_in set (l ∷ ls) a p i h =
      rw (lies.none_before a (link_of a l.body) p i l h, and_false (set 0)) (none_in (after set) ls (link_of a l.body) (p + 5 + length l.body) i (omega arith))

  module _ {set : ℕ → Bool} {a p : ℕ} {l : NumberedBody} {ls : List NumberedBody} {t s : List ℕ} (k : Kept part set a p (l ∷ ls) t s) where
    abbrev first : Line
    first = placed_line a (link_of a l.body) p l

    abbrev behind : ℕ
    behind = p + 5 + length l.body

    -- within the first line only its part may change, if it is in the set
    in_first : (i : ℕ) → i < behind → in_some part set (lines_at a p (l ∷ ls)) i ≡ (set 0 && part first i) || false
    unfolding in_some lines_at
    in_first i h = ap (λ (b : Bool). (set 0 && part first i) || b) (none_in (after set) ls (link_of a l.body) behind i h)

    pub kept_beside : (i : ℕ) → p ≤ i → i < behind → part first i ≡ false → get_or s i 0 ≡ get_or t i 0
    kept_beside i h j e = k.others i h (in_first i j ∙ ap (λ (b : Bool). (set 0 && b) || false) e ∙ ap (λ (b : Bool). b || false) (and_false (set 0)))

    pub kept_outside : set 0 ≡ false → (i : ℕ) → p ≤ i → i < behind → get_or s i 0 ≡ get_or t i 0
    kept_outside e i h j = k.others i h (in_first i j ∙ ap (λ (b : Bool). (b && part first i) || false) e)

    pub byte_there : (i : ℕ) → p ≤ i → i < behind → get_or t i 0 < 256 → get_or s i 0 < 256
    byte_there i h j small = go ((set 0 && part first i) || false) (in_first i j)
      where
        go : (b : Bool) → in_some part set (lines_at a p (l ∷ ls)) i ≡ b → get_or s i 0 < 256
        go true e = k.bytes i h e
        go false e = omega (arith, k.others i h e)

    -- and so on, from the next line
    behind_first : (i : ℕ) → behind ≤ i → in_some part set (lines_at a p (l ∷ ls)) i ≡ in_some part (after set) (lines_at (link_of a l.body) behind ls) i
    unfolding in_some lines_at
    behind_first i h =
        ap (λ (b : Bool). (set 0 && b) || in_some part (after set) (lines_at (link_of a l.body) behind ls) i) (lies.none_behind a (link_of a l.body) p i l h)
        ∙ ap (λ (b : Bool). b || in_some part (after set) (lines_at (link_of a l.body) behind ls) i) (and_false (set 0))

    pub kept_on : Kept part (after set) (link_of a l.body) behind ls t s
    kept_on =
        record {
          long = k.long;
          others = λ i h e. k.others i (omega arith) (behind_first i h ∙ e);
          bytes = λ i h e. k.bytes i (omega arith) (behind_first i h ∙ e);
        }

-- where no line is left nothing changes
pub kept_end : {part : Line → ℕ → Bool} {set : ℕ → Bool} {a p : ℕ} {t s bytes : List ℕ} → Kept part set a p [] t s → Holds t p bytes → Holds s p bytes
unfolding in_some lines_at
kept_end {p = p} {t = t} {s = s} k h =
    record {
      there =
          ext_get_or 0 (drop p s) (drop p t) (omega (arith, length-drop p s, length-drop p t, k.long)) (λ i j.
          get_or-drop p s i 0 ∙ k.others (p + i) (omega arith) refl ∙ sym (get_or-drop p t i 0))
          ∙ h.there;
    }

-- ---- any bytes before a terminator are a line

-- two bytes as a number, and laid out again
two_bytes_lem : (low high : ℕ) → low < 256 → high < 256 → two_bytes (low + 256 * high) ≡ low ∷ high ∷ []
two_bytes_lem low high h k =
    let e : (low + 256 * high) % 256 ≡ low = add-mul-mod_self_left low 256 high ∙ mod-eq_of_lt h in
    let d : low / 256 + high ≡ high = omega arith in
    let f : (low + 256 * high) / 256 % 256 ≡ high = ap (λ (n : ℕ). n % 256) (add-mul-div_left low high (lit< tt) ∙ d) ∙ mod-eq_of_lt k in
    rw (e, f)

-- two bytes at an offset, and what stands behind them
two_at_lem : (s : List ℕ) (p : ℕ) → p + 2 ≤ length s → get_or s p 0 < 256 → get_or s (p + 1) 0 < 256 → drop p s ≡ two_bytes (low_first_at s p) ++ drop (p + 2) s
two_at_lem s p h low high =
    let e : p + 1 ≡ suc p = omega arith in
    let f : p + 2 ≡ suc (suc p) = omega arith in
    drop-cons s p 0 (omega arith)
    ∙ ap (λ (x : List ℕ). get_or s p 0 ∷ x) (drop-cons s (suc p) 0 (omega arith))
    ∙ ap (λ (i : ℕ). get_or s p 0 ∷ get_or s i 0 ∷ drop (suc (suc p)) s) (sym e)
    ∙ ap (λ (i : ℕ). get_or s p 0 ∷ get_or s (p + 1) 0 ∷ drop i s) (sym f)
    ∙ ap (λ (b : List ℕ). b ++ drop (p + 2) s) (sym (two_bytes_lem (get_or s p 0) (get_or s (p + 1) 0) low high))

-- the number and the body of a line at an offset
abbrev pub read_at : List ℕ → ℕ → ℕ → NumberedBody
read_at s p n = record { number = low_first_at s (p + 2); body = take n (drop (p + 4) s) }

pub stands_any : (s : List ℕ) (p n : ℕ) → p + 5 + n ≤ length s → ((i : ℕ) → p ≤ i → i < p + 4 → get_or s i 0 < 256) → get_or s (p + 4 + n) 0 ≡ 0
    → Stands s p (low_first_at s p) (read_at s p n) (drop (p + 5 + n) s)
unfolding linked_bytes
stands_any s p n long small zero_there =
    let body = take n (drop (p + 4) s) in
    let next : p + 5 + n ≡ suc (p + 4 + n) = omega arith in
    let rest : drop n (drop (p + 4) s) ≡ 0 ∷ drop (p + 5 + n) s =
    drop-drop n (p + 4) s
    ∙ drop-cons s (p + 4 + n) 0 (omega arith)
    ∙ ap (λ (b : ℕ). b ∷ drop (suc (p + 4 + n)) s) zero_there
    ∙ ap (λ (i : ℕ). 0 ∷ drop i s) (sym next) in
    let e : drop (p + 2 + 2) s ≡ drop (p + 4) s = ap (λ (i : ℕ). drop i s) (let f : p + 2 + 2 ≡ p + 4 = omega arith in f) in
    let link = two_bytes (low_first_at s p) in
    let number = two_bytes (low_first_at s (p + 2)) in
    record {
      holds = record {
        there =
            two_at_lem s p (omega arith) (small p (omega arith) (omega arith)) (small (p + 1) (omega arith) (omega arith))
            ∙ ap (λ (x : List ℕ). link ++ x) (two_at_lem s (p + 2) (omega arith) (small (p + 2) (omega arith) (omega arith)) (small (p + 2 + 1) (omega arith) (omega arith)))
            ∙ ap (λ (x : List ℕ). link ++ (number ++ x)) (e ∙ sym (take-append-drop n (drop (p + 4) s)) ∙ ap (λ (x : List ℕ). body ++ x) rest ∙ sym (append_assoc body (0 ∷ []) (drop (p + 5 + n) s)));
      };
    }

-- a line whose number and body are as before is the line that was laid out
pub line_same : {t : List ℕ} (s : List ℕ) {p link : ℕ} {l : NumberedBody} {rest : List ℕ} → Stands t p link l rest → length s ≡ length t → l.number ≤ 65535
    → ((i : ℕ) → p + 2 ≤ i → i < p + 4 + length l.body → get_or s i 0 ≡ get_or t i 0) → read_at s p (length l.body) ≡ l
line_same {t} s {p} {link} {l} {rest} k long fits same =
    let n = length l.body in
    let number : low_first_at s (p + 2) ≡ l.number =
    omega (arith, same (p + 2) (omega arith) (omega arith), same (p + 2 + 1) (omega arith) (omega arith), number_there k fits) in
    let long-s : length (take n (drop (p + 4) s)) ≡ n = length-take-le n (drop (p + 4) s) (omega (arith, length-drop (p + 4) s, long_as k)) in
    let long-t : length (take n (drop (p + 4) t)) ≡ n = length-take-le n (drop (p + 4) t) (omega (arith, length-drop (p + 4) t, long_as k)) in
    let body : take n (drop (p + 4) s) ≡ l.body =
    ext_get_or 0 (take n (drop (p + 4) s)) (take n (drop (p + 4) t)) (long-s ∙ sym long-t) (λ i h.
    let j : i < n = omega (arith, long-s) in
    get_or-take n (drop (p + 4) s) i 0 j
    ∙ get_or-drop (p + 4) s i 0
    ∙ same (p + 4 + i) (omega arith) (omega arith)
    ∙ sym (get_or-drop (p + 4) t i 0)
    ∙ sym (get_or-take n (drop (p + 4) t) i 0 j))
    ∙ ap (take n) (body_there k)
    ∙ take-append_seam l.body (0 ∷ rest) in
    rw (number, body)
