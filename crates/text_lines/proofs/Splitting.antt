-- The lines of a text, one after the other where they stand: what is in front of a text, the first line of a text, the line at a place;
-- and the loop that looks for a line's end.
-- Assumes nothing.
use Prim.Native.Nat.{ℕ, zero, suc, ◌+◌, ◌-◌, ◌≤◌, ◌<◌}
use mathlib.Core.Path.{◌≡◌, refl, sym, ap, ◌∙◌, subst}
use mathlib.Core.Bool.{Bool, true, false, not, cond, ◌&&◌, false≢true}
use mathlib.Core.List.{List, [], ◌∷◌, map}
use native.Mathlib.Decide.{dec_lt}
use native.Mathlib.Omega.{arith}
use lib.Dec.{eqb, ltb}
use lib.ListN.{length, get_or, take, drop, drop_of_length-le, length-drop}
use lib.Seq.{drop-drop}
use borrow.Author.Tests.{eqb-true, ne_eqb, lt-ltb, le-ltb, not-true, not-false}
use Rattle.base_ascii.specs.Search.{starts_with, is_blank, front}
use Rattle.base_ascii.proofs.Searching.{Onward, onward_start, onward_by, onward_end, tail, here, starts_long, front_nil, front_more, front_none}
use Rattle.text_lines.specs.TextLines.{cr_lf, lone_cr, onto, at_lf, text_lines}
use Rattle.text_lines.specs.SplitHelpers.{end_mark, line_length, line_used, line_from, AboveCr}
use Rattle.text_lines.specs.declared.LineRule.{LineRule}
use Rattle.text_lines.specs.declared.LineRule.TheVariants.{AsGiven, AfterCr}
use Rattle.text_lines.specs.declared.TextLine.{TextLine}
use Rattle.text_lines.proofs.Blanks.{blank_lf, blank_cr, past_blanks}
use Rattle.base_ascii.proofs.Choice.{taken, left}

-- ---- the line end in front, by what the first bytes are

module _ (rule : LineRule) (t : List ℕ) {x : Bool} where
  pub mark_lf : x ≡ true → x ≡ starts_with 0x0A t → 1 ≡ end_mark rule t
  unfolding end_mark
  mark_lf e p = rw (← p, e)

  module _ {y : Bool} where
    pub mark_none : not y ≡ true → y ≡ starts_with 0x0D t → x ≡ false → x ≡ starts_with 0x0A t → 0 ≡ end_mark rule t
    unfolding end_mark
    mark_none f q e p = rw (← p, e, ← q, not-true y f)

    -- a CR, and what follows it
    module _ {z : Bool} where
      behind_cr : not y ≡ false → y ≡ starts_with 0x0D t → x ≡ false → x ≡ starts_with 0x0A t → z ≡ starts_with 0x0A (take (length t - 1) (drop 1 t))
          → end_mark rule t ≡ cond z 2 (elim rule [ AsGiven ↦ 0 | AfterCr ↦ 1 ])
      unfolding end_mark
      behind_cr f q e p w = rw (← p, e, ← q, not-false y f, ← tail t 1, ← w)

      pub mark_two : z ≡ true → z ≡ starts_with 0x0A (take (length t - 1) (drop 1 t)) → not y ≡ false → y ≡ starts_with 0x0D t → x ≡ false → x ≡ starts_with 0x0A t → 2 ≡ end_mark rule t
      mark_two g w f q e p = rw (behind_cr f q e p w, g)

      pub mark_given : rule ≡ AsGiven → z ≡ false → z ≡ starts_with 0x0A (take (length t - 1) (drop 1 t)) → not y ≡ false → y ≡ starts_with 0x0D t → x ≡ false → x ≡ starts_with 0x0A t → 0 ≡ end_mark rule t
      mark_given k g w f q e p = rw (behind_cr f q e p w, g, k)

      pub mark_lone : rule ≡ AfterCr → z ≡ false → z ≡ starts_with 0x0A (take (length t - 1) (drop 1 t)) → not y ≡ false → y ≡ starts_with 0x0D t → x ≡ false → x ≡ starts_with 0x0A t → 1 ≡ end_mark rule t
      mark_lone k g w f q e p = rw (behind_cr f q e p w, g, k)

-- it takes two bytes at most
pub mark_small : (rule : LineRule) (t : List ℕ) {m : ℕ} → m ≡ end_mark rule t → m ≤ 2
unfolding end_mark
mark_small rule t e = rw e (go (starts_with 0x0A t) (starts_with 0x0D t) (starts_with 0x0A (drop 1 t)) rule)
  where
    go : (x y z : Bool) (rule : LineRule) → cond x 1 (cond y (cond z 2 (elim rule [ AsGiven ↦ 0 | AfterCr ↦ 1 ])) 0) ≤ 2
    go true y z rule = omega arith
    go false false z rule = omega arith
    go false true true rule = omega arith
    go false true false AsGiven = omega arith
    go false true false AfterCr = omega arith

pub cr_some : (t : List ℕ) {y : Bool} → not y ≡ false → y ≡ starts_with 0x0D t → 1 ≤ length t
cr_some t {y} f q = starts_long 0x0D t (sym q ∙ not-false y f)

-- ---- what is in front of a text: a byte of the first line, or a line end of n + 1 bytes

data Ahead (rule : LineRule) (b : ℕ) (s : List ℕ) : Type 0 where
  byte : end_mark rule (b ∷ s) ≡ 0 → text_lines rule (b ∷ s) ≡ onto b (text_lines rule s) → Ahead rule b s
  end : (n : ℕ) → n ≤ length s → end_mark rule (b ∷ s) ≡ suc n → text_lines rule (b ∷ s) ≡ [] ∷ text_lines rule (drop n s) → Ahead rule b s

lf : (rule : LineRule) (s : List ℕ) → Ahead rule 0x0A s
unfolding end_mark text_lines cr_lf lone_cr at_lf starts_with
lf AsGiven s = end 0 (omega arith) refl refl
lf AfterCr s = end 0 (omega arith) refl refl

cr_lf_lem : (rule : LineRule) (s : List ℕ) → starts_with 0x0A s ≡ true → Ahead rule 0x0D s
unfolding end_mark text_lines cr_lf lone_cr at_lf starts_with
cr_lf_lem rule [] z = absurd (false≢true z)
cr_lf_lem rule (b ∷ s) z = subst (λ (x : ℕ). Ahead rule 0x0D (x ∷ s)) (sym (eqb-true _ _ z)) (both rule)
  where
    both : (rule : LineRule) → Ahead rule 0x0D (0x0A ∷ s)
    both AsGiven = end 1 (omega arith) refl refl
    both AfterCr = end 1 (omega arith) refl refl

-- a CR that no LF follows stays
kept : (s : List ℕ) → starts_with 0x0A s ≡ false → cr_lf (0x0D ∷ s) ≡ 0x0D ∷ cr_lf s
unfolding cr_lf
kept s z = left _ _ z

lone : (rule : LineRule) (s : List ℕ) → starts_with 0x0A s ≡ false → Ahead rule 0x0D s
unfolding end_mark text_lines lone_cr at_lf starts_with
lone AsGiven s z = byte (rw z) (ap (λ (l : List ℕ). at_lf (map (lone_cr AsGiven) l)) (kept s z))
lone AfterCr s z = end 0 (omega arith) (rw z) (ap (λ (l : List ℕ). at_lf (map (lone_cr AfterCr) l)) (kept s z))

-- any other byte is a byte of its line
module _ (rule : LineRule) (b : ℕ) (s : List ℕ) (x : eqb b 0x0A ≡ false) (y : eqb b 0x0D ≡ false) where
  same : (rule : LineRule) → lone_cr rule b ≡ b
  unfolding lone_cr
  same AsGiven = refl
  same AfterCr = rw y

  other : cr_lf (b ∷ s) ≡ b ∷ cr_lf s
  unfolding cr_lf
  other = left _ _ (ap (λ (r : Bool). r && starts_with 0x0A s) y)

  no_end : end_mark rule (b ∷ s) ≡ 0
  unfolding end_mark starts_with
  no_end = simp (x, y)

  plain : Ahead rule b s
  unfolding text_lines at_lf
  plain =
      byte no_end
      (ap (λ (l : List ℕ). at_lf (map (lone_cr rule) l)) other
      ∙ ap (λ (c : ℕ). at_lf (c ∷ map (lone_cr rule) (cr_lf s))) (same rule)
      ∙ left _ _ x)

ahead : (rule : LineRule) (b : ℕ) (s : List ℕ) → Ahead rule b s
ahead rule b s = go (eqb b 0x0A) refl (eqb b 0x0D) refl (starts_with 0x0A s) refl
  where
    go : (x : Bool) → eqb b 0x0A ≡ x → (y : Bool) → eqb b 0x0D ≡ y → (z : Bool) → starts_with 0x0A s ≡ z → Ahead rule b s
    go true p y q z r = subst (λ (c : ℕ). Ahead rule c s) (sym (eqb-true _ _ p)) (lf rule s)
    go false p true q true r = subst (λ (c : ℕ). Ahead rule c s) (sym (eqb-true _ _ q)) (cr_lf_lem rule s r)
    go false p true q false r = subst (λ (c : ℕ). Ahead rule c s) (sym (eqb-true _ _ q)) (lone rule s r)
    go false p false q z r = plain rule b s p q

-- ---- the first line of a text that is not empty

-- how long it is, by what is in front
module _ (rule : LineRule) (b : ℕ) (s : List ℕ) where
  length_byte : end_mark rule (b ∷ s) ≡ 0 → line_length rule (b ∷ s) ≡ suc (line_length rule s)
  unfolding line_length
  length_byte e = rw (line_length, e)

  length_end : {n : ℕ} → end_mark rule (b ∷ s) ≡ suc n → line_length rule (b ∷ s) ≡ 0
  unfolding line_length
  length_end e = rw (line_length, e)

-- where the text ends there is no line end, and no line
pub nothing_left : (rule : LineRule) → (end_mark rule [] ≡ 0) × (line_length rule [] ≡ 0) × (text_lines rule [] ≡ [])
unfolding end_mark starts_with line_length text_lines cr_lf at_lf
nothing_left rule = (refl, refl, refl)

pub record First (rule : LineRule) (t : List ℕ) : Type 0 where
  pub used : line_used rule t ≤ length t
  pub some : 0 < line_used rule t
  pub lines : text_lines rule t ≡ take (line_length rule t) t ∷ text_lines rule (drop (line_used rule t) t)

pub first : (rule : LineRule) (t : List ℕ) → 0 < length t → First rule t
unfolding onto
first rule [] h = absurd (omega arith)
first rule (b ∷ s) h = go s (ahead rule b s) (first rule s)
  where
    go : (s : List ℕ) → Ahead rule b s → (0 < length s → First rule s) → First rule (b ∷ s)
    -- the line ends at once
    go s (end n l e q) f =
        let z : line_length rule (b ∷ s) ≡ 0 = length_end rule b s e in
        let u : line_used rule (b ∷ s) ≡ suc n = rw z (omega (arith, e)) in
        record { used = omega arith; some = omega arith; lines = rw (u, z) q }
    -- a byte alone
    go [] (byte e q) f =
        let n = nothing_left rule in
        let z : line_length rule (b ∷ []) ≡ 1 = length_byte rule b [] e ∙ ap suc n.1 in
        let u : line_used rule (b ∷ []) ≡ 1 = rw z (omega (arith, n.0)) in
        record { used = omega arith; some = omega arith; lines = rw (u, z) (q ∙ rw n.2) }
    -- a byte in front of others
    go (c ∷ s) (byte e q) f =
        let g = f (omega arith) in
        let z : line_length rule (b ∷ c ∷ s) ≡ suc (line_length rule (c ∷ s)) = length_byte rule b (c ∷ s) e in
        let u : line_used rule (b ∷ c ∷ s) ≡ suc (line_used rule (c ∷ s)) = rw z (omega arith) in
        record { used = omega (arith, g.used); some = omega arith; lines = rw (u, z) (q ∙ ap (onto b) g.lines) }

-- blanks in front are bytes of the first line
led : (rule : LineRule) (t : List ℕ) → front is_blank t + line_length rule (drop (front is_blank t) t) ≡ line_length rule t
led rule [] = rw (front_nil is_blank) (omega arith)
led rule (b ∷ s) = go (is_blank b) refl (led rule s)
  where
    go : (r : Bool) → is_blank b ≡ r → front is_blank s + line_length rule (drop (front is_blank s) s) ≡ line_length rule s
        → front is_blank (b ∷ s) + line_length rule (drop (front is_blank (b ∷ s)) (b ∷ s)) ≡ line_length rule (b ∷ s)
    go true q f = rw (front_more is_blank b s q) (omega (arith, length_byte rule b s (no_end rule b s (blank_lf b q) (blank_cr b q))))
    go false q f = rw (front_none is_blank b s q) (omega arith)

-- ---- the line at a place

pub record Stepped (rule : LineRule) (t : List ℕ) (from : ℕ) (r : TextLine) : Type 0 where
  pub low : from ≤ r.end
  pub begins : r.begin ≤ r.end
  pub high : r.end ≤ length t
  pub onward : from < r.next
  pub within : r.next ≤ length t
  pub lines : text_lines rule (drop from t) ≡ take (r.end - from) (drop from t) ∷ text_lines rule (drop r.next t)

module _ (rule : LineRule) (t : List ℕ) (from : ℕ) where
  stepped : from < length t → Stepped rule t from (line_from rule t from)
  unfolding line_from
  stepped h =
      let f = first rule (drop from t) (omega (arith, length-drop from t)) in
      let n : from + line_length rule (drop from t) - from ≡ line_length rule (drop from t) = omega arith in
      record {
        low = omega arith;
        begins = omega (arith, led rule (drop from t));
        high = omega (arith, length-drop from t, f.used);
        onward = omega (arith, f.some);
        within = omega (arith, length-drop from t, f.used);
        lines = rw (n, ← drop-drop (line_used rule (drop from t)) from t) f.lines;
      }

  -- a step of the code gives the first of the lines that are left, and goes on
  pub line_step : {r : TextLine} → from < length t → r ≡ line_from rule t from → Stepped rule t from r
  line_step h e = subst (λ (x : TextLine). Stepped rule t from x) (sym e) (stepped h)

-- what one blank in front of a line does not change is the same behind all of them
module _ {A : Type 0} (P : List ℕ → A) (same : (b : ℕ) (l : List ℕ) → is_blank b ≡ true → P (b ∷ l) ≡ P l) (rule : LineRule) (t : List ℕ) (from : ℕ) where
  behind : P (take ((line_from rule t from).end - (line_from rule t from).begin) (drop (line_from rule t from).begin t)) ≡ P (take ((line_from rule t from).end - from) (drop from t))
  unfolding line_from
  behind =
      let g = front is_blank (drop from t) in
      let l = line_length rule (drop from t) in
      let m : from + l - (from + g) ≡ l - g = omega arith in
      let n : from + l - from ≡ l = omega arith in
      rw (m, n, ← drop-drop g from t) (past_blanks P same (drop from t) l (omega (arith, led rule (drop from t))))

  pub line_behind_lem : {r : TextLine} → r ≡ line_from rule t from → P (take (r.end - r.begin) (drop r.begin t)) ≡ P (take (r.end - from) (drop from t))
  line_behind_lem e =
      subst (λ (x : TextLine). P (take (x.end - x.begin) (drop x.begin t)) ≡ P (take (x.end - from) (drop from t))) (sym e) behind

-- behind the text there is none
pub lines_end : (rule : LineRule) (t : List ℕ) (from : ℕ) → length t ≤ from → text_lines rule (drop from t) ≡ []
lines_end rule t from h = rw (drop_of_length-le t h) (nothing_left rule).2

-- the lines that steps from a place on give, so many at most
unfoldable pub lines_from : LineRule → List ℕ → ℕ → ℕ → List (List ℕ)
unfolding line_from
lines_from rule t zero from = []
lines_from rule t (suc k) from =
    elim (ltb from (length t)) [
      | true ↦ take ((line_from rule t from).end - from) (drop from t) ∷ lines_from rule t k (line_from rule t from).next
      | false ↦ []
    ]

lines_from_lem : (rule : LineRule) (t : List ℕ) (k from : ℕ) → length t ≤ from + k → lines_from rule t k from ≡ text_lines rule (drop from t)
unfolding lines_from
lines_from_lem rule t zero from h = sym (lines_end rule t from (omega arith))
lines_from_lem rule t (suc k) from h = go (dec_lt from (length t)) (lines_from_lem rule t k (line_from rule t from).next)
  where
    go : Dec (from < length t) → (length t ≤ (line_from rule t from).next + k → lines_from rule t k (line_from rule t from).next ≡ text_lines rule (drop (line_from rule t from).next t))
        → lines_from rule t (suc k) from ≡ text_lines rule (drop from t)
    go (yes l) f =
        let s = stepped rule t from l in
        taken _ _ (lt-ltb _ _ l) ∙ ap (λ (ls : List (List ℕ)). take ((line_from rule t from).end - from) (drop from t) ∷ ls) (f (omega (arith, s.onward)))
        ∙ sym s.lines
    go (no n) f = let l : length t ≤ from = omega arith in left _ _ (le-ltb _ _ l) ∙ sym (lines_end rule t from l)

-- steps one after the other from the start on give exactly the lines
pub all_lines : (rule : LineRule) (t : List ℕ) → lines_from rule t (length t) 0 ≡ text_lines rule t
all_lines rule t = lines_from_lem rule t (length t) 0 (omega arith)

-- ---- the loop that looks for the end of the line that begins at a place

-- it may start behind the blanks
pub seeking_start : (rule : LineRule) (t : List ℕ) (from : ℕ) {begin : ℕ} → begin ≡ from + front is_blank (drop from t) → Onward (line_length rule) t from begin
seeking_start rule t from {begin} q =
    let g = front is_blank (drop from t) in
    let d : drop g (drop from t) ≡ drop begin t = drop-drop g from t ∙ ap (λ (n : ℕ). drop n t) (sym q) in
    record { gives = omega (arith, led rule (drop from t), ap (line_length rule) d) }

module _ (rule : LineRule) {t : List ℕ} {from i : ℕ} where
  seeking_is : {begin m : ℕ} → line_length rule (drop i t) ≡ 0 → m ≡ end_mark rule (drop i t) → begin ≡ from + front is_blank (drop from t) → Onward (line_length rule) t from i
      → record { begin = begin; end = i; next = i + m } ≡ line_from rule t from
  unfolding line_from
  seeking_is {m = m} e u q o =
      let l = line_length rule (drop from t) in
      let a : i ≡ from + l = onward_end o e in
      let d : drop i t ≡ drop l (drop from t) = ap (λ (n : ℕ). drop n t) a ∙ sym (drop-drop l from t) in
      let b : i + m ≡ from + (l + end_mark rule (drop l (drop from t))) = omega (arith, ap (end_mark rule) d) in
      cc

  pub seeking_end : {begin : ℕ} → length t ≤ i → begin ≡ from + front is_blank (drop from t) → Onward (line_length rule) t from i → record { begin = begin; end = i; next = i } ≡ line_from rule t from
  seeking_end {begin} h q o =
      let z : drop i t ≡ [] = drop_of_length-le t h in
      let n : i + 0 ≡ i = omega arith in
      rw n at (seeking_is {begin = begin} {m = 0} (rw z (nothing_left rule).1) (rw z (sym (nothing_left rule).0)) q o)

  seeking_on : end_mark rule (get_or t i 0 ∷ drop (i + 1) t) ≡ 0 → i < length t → Onward (line_length rule) t from i → Onward (line_length rule) t from (i + 1)
  seeking_on e h o =
      let l : line_length rule (drop i t) ≡ suc (line_length rule (drop (i + 1) t)) = rw (here t i h) (length_byte rule _ _ e) in
      onward_by o 1 (omega arith)

  pub seeking_above : 0x0D < get_or t i 0 → i < length t → Onward (line_length rule) t from i → Onward (line_length rule) t from (i + 1)
  seeking_above l h o =
      seeking_on (no_end rule _ _ (ne_eqb (get_or t i 0) 0x0A (λ e. omega arith)) (ne_eqb (get_or t i 0) 0x0D (λ e. omega arith))) h o

  -- a line end, or none
  pub seeking_turn : {m : ℕ} → m ≤ 0 → m ≡ end_mark rule (take (length t - i) (drop i t)) → i < length t → Onward (line_length rule) t from i → Onward (line_length rule) t from (i + 1)
  seeking_turn z q h o = seeking_on (omega (arith, ap (end_mark rule) (sym (here t i h)), ap (end_mark rule) (tail t i))) h o

  pub seeking_found : {begin m : ℕ} → 0 < m → m ≡ end_mark rule (take (length t - i) (drop i t)) → i < length t → begin ≡ from + front is_blank (drop from t) → Onward (line_length rule) t from i
      → record { begin = begin; end = i; next = i + m } ≡ line_from rule t from
  seeking_found {m = m} p q h b o =
      let at : m ≡ end_mark rule (drop i t) = q ∙ ap (end_mark rule) (tail t i) in
      let up : end_mark rule (get_or t i 0 ∷ drop (i + 1) t) ≡ suc (m - 1) = omega (arith, ap (end_mark rule) (here t i h)) in
      seeking_is (rw (here t i h) (length_end rule _ _ up)) at b o

-- an LF in front ends a line without bytes
pub seeking_none : (rule : LineRule) (t : List ℕ) (from : ℕ) → get_or t from 0 ≡ 0x0A → from < length t → record { begin = from; end = from; next = from + 1 } ≡ line_from rule t from
unfolding starts_with
seeking_none rule t from b h =
    let s = drop (from + 1) t in
    let d : drop from t ≡ 0x0A ∷ s = here t from h ∙ ap (λ (x : ℕ). x ∷ s) b in
    let m : end_mark rule (0x0A ∷ s) ≡ 1 = sym (mark_lf rule (0x0A ∷ s) refl refl) in
    let g : front is_blank (drop from t) ≡ 0 = rw d (front_none is_blank 0x0A s refl) in
    seeking_is rule (rw d (length_end rule _ _ m)) (rw d (sym m)) (omega (arith, g)) (onward_start (line_length rule) t from)

-- it may pass bytes above CR at once
seeking_by : (rule : LineRule) {t : List ℕ} {from i : ℕ} → Onward (line_length rule) t from i → (n : ℕ) → ((k : ℕ) → i ≤ k → k < i + n → (k < length t) × (0x0D < get_or t k 0))
    → Onward (line_length rule) t from (i + n)
seeking_by rule {t} {from} {i} o zero f = let e : i ≡ i + 0 = omega arith in subst (Onward (line_length rule) t from) e o
seeking_by rule {t} {from} {i} o (suc n) f =
    let a = f (i + n) (omega arith) (omega arith) in
    let e : i + n + 1 ≡ i + suc n = omega arith in
    subst (Onward (line_length rule) t from) e (seeking_above rule a.1 a.0 (seeking_by rule o n (λ k h l. f k h (omega arith))))

pub seeking_passed : (rule : LineRule) {t : List ℕ} {from i j : ℕ} → AboveCr t (i + 1) j → 0x0D < get_or t i 0 → i < length t → Onward (line_length rule) t from i → Onward (line_length rule) t from j
seeking_passed rule {t} {from} {i} {j} a b h o =
    let e : i + 1 + (j - (i + 1)) ≡ j = omega (arith, a.up) in
    subst (Onward (line_length rule) t from) e (seeking_by rule (seeking_above rule b h o) (j - (i + 1)) (λ k g l. a.above k g (omega (arith, a.up))))

pub passed_less : {t : List ℕ} {i j : ℕ} → AboveCr t (i + 1) j → i < length t → length t - j < length t - i
passed_less a h = omega (arith, a.up)

-- ---- bytes above CR, four at a time

pub above_none : (t : List ℕ) (from : ℕ) → AboveCr t from from
above_none t from = record { up = omega arith; above = λ k h l. absurd (omega arith) }

module _ {t : List ℕ} {from : ℕ} where
  above_one : {i j : ℕ} → j ≡ i + 1 → 0x0D < get_or t i 0 → i < length t → AboveCr t from i → AboveCr t from j
  above_one {i} {j} e b h o = record { up = omega (arith, o.up); above = λ k l m. go k l m (dec_lt k i) }
    where
      go : (k : ℕ) → from ≤ k → k < j → Dec (k < i) → (k < length t) × (0x0D < get_or t k 0)
      go k l m (yes y) = o.above k l y
      go k l m (no n) = let q : i ≡ k = omega arith in subst (λ (x : ℕ). (x < length t) × (0x0D < get_or t x 0)) q (h, b)

  pub above_first : 0x0D < get_or t from 0 → from < length t → AboveCr t from (from + 1)
  above_first b h = above_one refl b h (above_none t from)

  module _ {i : ℕ} (h : 4 ≤ length t - i) (o : AboveCr t from i) where
    pub first_above : 0x0D < get_or t i 0 → AboveCr t from (i + 1)
    first_above a = above_one (omega arith) a (omega arith) o

    pub two_above : 0x0D < get_or t (i + 1) 0 → 0x0D < get_or t i 0 → AboveCr t from (i + 2)
    two_above b a = above_one {i = i + 1} (omega arith) b (omega arith) (first_above a)

    pub three_above : 0x0D < get_or t (i + 2) 0 → 0x0D < get_or t (i + 1) 0 → 0x0D < get_or t i 0 → AboveCr t from (i + 3)
    three_above c b a = above_one {i = i + 2} (omega arith) c (omega arith) (two_above b a)

    pub four_above : 0x0D < get_or t (i + 3) 0 → 0x0D < get_or t (i + 2) 0 → 0x0D < get_or t (i + 1) 0 → 0x0D < get_or t i 0 → AboveCr t from (i + 4)
    four_above d c b a = above_one {i = i + 3} (omega arith) d (omega arith) (three_above c b a)
