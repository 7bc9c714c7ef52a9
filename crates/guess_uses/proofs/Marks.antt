-- Marks of lists: the pass from a line's end, byte by byte; and what a mark says of an assignment.
-- Assumes nothing.
use Prim.Native.Nat.{ℕ, zero, suc, ◌+◌, ◌-◌, ◌*◌, ◌≤◌, ◌<◌}
use mathlib.Core.Path.{◌≡◌, refl, sym, ap, ◌∙◌, subst}
use mathlib.Core.Bool.{Bool, true, false, cond, false≢true}
use mathlib.Core.List.{List, [], ◌∷◌}
use native.Mathlib.Omega.{arith}
use lib.Dec.{eqb}
use lib.ListN.{length, get_or, drop, drop_of_length-le, length-drop}
use borrow.Author.Tests.{eqb-true, eqb-false}
use Rattle.base_ascii.specs.Search.{of_kind, starts_with, front, past}
use Rattle.base_ascii.specs.declared.search.Kind.{Kind}
use Rattle.base_ascii.proofs.Searching.{tail, here, starts_long}
use Rattle.guess_uses.specs.Ahead.{closing, behind_list, assigns}
use Rattle.guess_uses.specs.MarkHelpers.{is_on, Turned, last_bit, equals_ahead, behind_open, Marked, MarksOf}
use Rattle.guess_uses.proofs.Behind.{rest, rest_long, assigns_list, close_last, close_one, open_one, keep}

pub ahead_kind : (blank : Kind) (b : ℕ) (behind : Bool) {k r : Bool} → r ≡ behind → k ≡ true → k ≡ of_kind blank b → r ≡ cond (of_kind blank b) behind (eqb b 0x3D)
ahead_kind blank b behind q e p = q ∙ sym (ap (λ (x : Bool). cond x behind (eqb b 0x3D)) (sym p ∙ e))

pub ahead_other : (blank : Kind) (b : ℕ) (behind : Bool) {k : Bool} → k ≡ false → k ≡ of_kind blank b → eqb b 0x3D ≡ cond (of_kind blank b) behind (eqb b 0x3D)
ahead_other blank b behind e p = sym (ap (λ (x : Bool). cond x behind (eqb b 0x3D)) (sym p ∙ e))

-- ---- a byte

ahead_on : (blank : Kind) (b : ℕ) (s : List ℕ) → equals_ahead blank (b ∷ s) ≡ cond (of_kind blank b) (equals_ahead blank s) (eqb b 0x3D)
unfolding equals_ahead starts_with front
ahead_on blank b s = go (of_kind blank b)
  where
    go : (r : Bool) → starts_with 0x3D (drop (elim r [ true ↦ suc (front (of_kind blank) s) | false ↦ 0 ]) (b ∷ s)) ≡ cond r (starts_with 0x3D (past (of_kind blank) s)) (eqb b 0x3D)
    go true = refl
    go false = refl

-- what is known of the text s: of each list that may be open before it, and of each list in it
pub record Stands (blank : Kind) (s : List ℕ) (marks levels : List ℕ) (count : ℕ) (ahead : Bool) : Type 0 where
  pub follows : ahead ≡ equals_ahead blank s
  pub ends : (depth : ℕ) → last_bit levels (count - depth) ≡ equals_ahead blank (behind_open depth s)
  pub marked : Marked blank marks s

stands_none : (blank : Kind) (marks levels : List ℕ) → Stands blank [] marks levels 0 false
unfolding equals_ahead starts_with front closing last_bit Marked
stands_none blank marks levels = record { follows = refl; ends = ends; marked = tt }
  where
    ends : (depth : ℕ) → last_bit levels (0 - depth) ≡ false
    ends d = let e : 0 - d ≡ 0 = omega arith in ap (last_bit levels) e

module _ {bits after : List ℕ} {n : ℕ} {on : Bool} (u : Turned bits n on after) where
  last_kept : (k : ℕ) → k ≤ n → last_bit after k ≡ last_bit bits k
  unfolding last_bit
  last_kept zero h = refl
  last_kept (suc k) h = u.others k (λ e. omega arith)

  last_new : last_bit after (suc n) ≡ on
  unfolding last_bit
  last_new = u.there

  marked_kept : (blank : Kind) (s : List ℕ) → length s ≤ n → Marked blank bits s → Marked blank after s
  unfolding Marked
  marked_kept blank [] h k = tt
  marked_kept blank (b ∷ s) h k = (λ e. u.others (length s) (λ q. omega arith) ∙ k.0 e, marked_kept blank s (omega arith) k.1)

module _ {blank : Kind} {s marks levels : List ℕ} {count : ℕ} {ahead : Bool} (b : ℕ) {next : Bool} (q : next ≡ cond (of_kind blank b) ahead (eqb b 0x3D))
    (k : Stands blank s marks levels count ahead) where
  follows_on : next ≡ equals_ahead blank (b ∷ s)
  follows_on = q ∙ ap (λ (x : Bool). cond (of_kind blank b) x (eqb b 0x3D)) k.follows ∙ sym (ahead_on blank b s)

  -- what follows a list is the same from the byte before on
  behind_on : (depth d : ℕ) → closing depth (b ∷ s) ≡ suc (closing d s) → equals_ahead blank (behind_open d s) ≡ equals_ahead blank (behind_open depth (b ∷ s))
  behind_on depth d e = sym (ap (λ (n : ℕ). equals_ahead blank (drop n (b ∷ s))) e)

  stands_close : {after : List ℕ} → b ≡ 0x29 → Turned levels count ahead after → Stands blank (b ∷ s) marks after (count + 1) next
  unfolding Marked
  stands_close {after} e u = record { follows = follows_on; ends = ends; marked = (λ f. absurd (omega arith), k.marked) }
    where
      ends : (depth : ℕ) → last_bit after (count + 1 - depth) ≡ equals_ahead blank (behind_open depth (b ∷ s))
      ends zero =
          let i : count + 1 - 0 ≡ suc count = omega arith in
          ap (last_bit after) i ∙ last_new u ∙ k.follows ∙ sym (ap (λ (n : ℕ). equals_ahead blank (drop n (b ∷ s))) (close_last b s e))
      ends (suc d) =
          let i : count + 1 - suc d ≡ count - d = omega arith in
          ap (last_bit after) i ∙ last_kept u (count - d) (omega arith) ∙ k.ends d ∙ behind_on (suc d) d (close_one b s d e)

  stands_open : {after : List ℕ} {f : Bool} {less : ℕ} → b ≡ 0x28 → less ≡ count - 1 → f ≡ last_bit levels count → Turned marks (length s) f after → Stands blank (b ∷ s) after levels less next
  unfolding Marked
  stands_open {after} {f} {less} e l t u =
      let less_by : (d : ℕ) → less - d ≡ count - suc d = λ d. omega arith in
      let none-off : count ≡ count - 0 = omega arith in
      record {
        follows = follows_on;
        ends = λ d. ap (last_bit levels) (less_by d) ∙ k.ends (suc d) ∙ behind_on d (suc d) (open_one b s d (λ c. omega arith) e);
        marked = (λ _. u.there ∙ t ∙ ap (last_bit levels) none-off ∙ k.ends 0, marked_kept u blank s (omega arith) k.marked);
      }

  stands_other : (b ≡ 0x29 → ⊥) → (b ≡ 0x28 → ⊥) → Stands blank (b ∷ s) marks levels count next
  unfolding Marked
  stands_other n m = record { follows = follows_on; ends = λ d. k.ends d ∙ behind_on d d (keep b s d n m); marked = (λ e. absurd (m e), k.marked) }

-- ---- the pass

-- n bytes at the line's end passed, with room for marks and levels of these sizes
pub record Marking (blank : Kind) (line : List ℕ) (size room : ℕ) (marks levels : List ℕ) (count : ℕ) (ahead : Bool) (n : ℕ) : Type 0 where
  pub within : n ≤ length line
  pub few : count ≤ n
  pub enough : length line ≤ 8 * size
  pub deep : length line ≤ 8 * room
  pub marks_size : length marks ≡ size
  pub levels_size : length levels ≡ room
  pub stands : Stands blank (drop (length line - n) line) marks levels count ahead

pub marking_start : (blank : Kind) (line marks levels : List ℕ) → length line ≤ 8 * length marks → length line ≤ 8 * length levels
    → Marking blank line (length marks) (length levels) marks levels 0 false 0
marking_start blank line marks levels h g =
    let e : drop (length line - 0) line ≡ [] = drop_of_length-le line {i = length line - 0} (omega arith) in
    record {
      within = omega arith;
      few = omega arith;
      enough = h;
      deep = g;
      marks_size = refl;
      levels_size = refl;
      stands = rw e (stands_none blank marks levels);
    }

pub marking_end : {blank : Kind} {line marks levels : List ℕ} {size room count : ℕ} {ahead : Bool} {n : ℕ} → length line ≤ n → Marking blank line size room marks levels count ahead n → MarksOf blank line marks
marking_end {blank} {line} {marks} {levels} {size} {room} {count} {ahead} {n} h k =
    let z : length line - n ≡ 0 = omega arith in
    let e : drop (length line - n) line ≡ line = ap (λ (i : ℕ). drop i line) z in
    record { room = λ _. omega (arith, k.enough, k.marks_size); right = λ _. rw e at k.stands.marked }

module _ {blank : Kind} {line marks levels : List ℕ} {size room count : ℕ} {ahead : Bool} {n : ℕ} {next : Bool}
    (k : Marking blank line size room marks levels count ahead n) (h : n < length line)
    (q : next ≡ cond (of_kind blank (get_or line (length line - 1 - n) 0)) ahead (eqb (get_or line (length line - 1 - n) 0) 0x3D)) where
  from_there : drop (length line - (n + 1)) line ≡ get_or line (length line - 1 - n) 0 ∷ drop (length line - n) line
  from_there =
      let i : ℕ = length line - 1 - n in
      let p : length line - (n + 1) ≡ i = omega arith in
      let q : i + 1 ≡ length line - n = omega arith in
      ap (λ (j : ℕ). drop j line) p ∙ here line i (omega arith) ∙ ap (λ (j : ℕ). get_or line i 0 ∷ drop j line) q

  long : length (drop (length line - n) line) ≡ n
  long = omega (arith, length-drop (length line - n) line)

  pub marking_close : {after : List ℕ} → Turned levels count ahead after → get_or line (length line - 1 - n) 0 ≡ 0x29 → Marking blank line size room marks after (count + 1) next (n + 1)
  marking_close u e =
      record {
        within = omega arith;
        few = omega (arith, k.few);
        enough = k.enough;
        deep = k.deep;
        marks_size = k.marks_size;
        levels_size = u.size ∙ k.levels_size;
        stands = rw from_there (stands_close _ q k.stands e u);
      }

  pub marking_open : {after : List ℕ} {f : Bool} {less : ℕ} → Turned marks n f after → f ≡ last_bit levels count → less ≡ count - 1 → get_or line (length line - 1 - n) 0 ≡ 0x28
      → Marking blank line size room after levels less next (n + 1)
  marking_open {after} {f} u t l e =
      record {
        within = omega arith;
        few = omega (arith, k.few);
        enough = k.enough;
        deep = k.deep;
        marks_size = u.size ∙ k.marks_size;
        levels_size = k.levels_size;
        stands = rw from_there (stands_open _ q k.stands e l t (subst (λ (m : ℕ). Turned marks m f after) (sym long) u));
      }

  pub marking_on : (get_or line (length line - 1 - n) 0 ≡ 0x29 → ⊥) → (get_or line (length line - 1 - n) 0 ≡ 0x28 → ⊥) → Marking blank line size room marks levels count next (n + 1)
  marking_on a b =
      record {
        within = omega arith;
        few = omega (arith, k.few);
        enough = k.enough;
        deep = k.deep;
        marks_size = k.marks_size;
        levels_size = k.levels_size;
        stands = rw from_there (stands_other _ q k.stands a b);
      }

pub marking_space : {blank : Kind} {line marks levels : List ℕ} {size room count : ℕ} {ahead : Bool} {n : ℕ} → Marking blank line size room marks levels count ahead n → n < length line
    → get_or line (length line - 1 - n) 0 ≡ 0x20 → of_kind blank 0x20 ≡ true → Marking blank line size room marks levels count ahead (n + 1)
marking_space {blank} {line} {marks} {levels} {size} {room} {count} {ahead} {n} k h e t =
    let b : ℕ = get_or line (length line - 1 - n) 0 in
    marking_on k h (sym (ap (λ (x : Bool). cond x ahead (eqb b 0x3D)) (ap (of_kind blank) e ∙ t))) (λ f. omega arith) (λ f. omega arith)

-- ---- marks of a part, and what they say

marked_drop : (blank : Kind) (marks : List ℕ) (a : ℕ) (t : List ℕ) → Marked blank marks t → Marked blank marks (drop a t)
unfolding Marked
marked_drop blank marks zero t k = k
marked_drop blank marks (suc a) [] k = k
marked_drop blank marks (suc a) (b ∷ t) k = marked_drop blank marks a t k.1

pub marks_rest : {blank : Kind} (t : List ℕ) (a : ℕ) {marks : List ℕ} → MarksOf blank t marks → MarksOf blank (rest t a) marks
marks_rest {blank} t a {marks} k =
    record {
      room = λ h. omega (arith, k.room h, rest_long t a);
      right = λ h. subst (Marked blank marks) (sym (tail t a)) (marked_drop blank marks a t (k.right h));
    }

pub no_marks : (blank : Kind) (t : List ℕ) → MarksOf blank t []
no_marks blank t = record { room = λ h. omega arith; right = λ h. absurd (omega arith) }

list_marked : (blank : Kind) (marks t : List ℕ) → starts_with 0x28 t ≡ true → Marked blank marks t → is_on marks (length t - 1) ≡ equals_ahead blank (behind_list t)
unfolding starts_with Marked behind_list
list_marked blank marks [] e k = absurd (false≢true e)
list_marked blank marks (b ∷ s) e k = ap (is_on marks) (omega arith) ∙ k.0 (eqb-true _ _ e)

-- there are marks
pub some_marks : (marks : List ℕ) {x : Bool} → x ≡ eqb (length marks) 0 → x ≡ false → length marks ≡ 0 → ⊥
some_marks marks q e = eqb-false _ _ (sym q ∙ e)

module _ (blank : Kind) (t : List ℕ) (a : ℕ) {marks : List ℕ} {x : Bool} where
  pub mark_within : x ≡ true → x ≡ starts_with 0x28 (rest t a) → (length marks ≡ 0 → ⊥) → MarksOf blank t marks → length (rest t a) - 1 < 8 * length marks
  mark_within e q n k = omega (arith, k.room (omega arith), rest_long t a, starts_long 0x28 (rest t a) (sym q ∙ e))

  pub assigns_marked : {y : Bool} → y ≡ is_on marks (length (rest t a) - 1) → x ≡ true → x ≡ starts_with 0x28 (rest t a) → a ≡ front (of_kind blank) t → (length marks ≡ 0 → ⊥) → MarksOf blank t marks
      → y ≡ assigns blank t
  assigns_marked r e q p n k =
      assigns_list blank t (r ∙ list_marked blank marks (rest t a) (sym q ∙ e) ((marks_rest t a k).right (omega arith))) e q p
