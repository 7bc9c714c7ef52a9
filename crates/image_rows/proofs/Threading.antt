-- The row of a number that is jumped to: its jumps, one behind the other.
-- Assumes nothing.
use Prim.Native.Nat.{ℕ, zero, suc, ◌+◌, ◌*◌, ◌-◌, ◌≤◌, ◌<◌}
use mathlib.Core.Path.{◌≡◌, refl, sym, ap, ◌∙◌, subst}
use mathlib.Core.Bool.{Bool, true, false, cond}
use mathlib.Core.List.{List, [], ◌∷◌, ◌++◌, append_assoc, append-nil}
use native.Mathlib.Omega.{arith}
use lib.Dec.{eqb}
use lib.ListN.{length, get_or}
use mir.Syntax.{w64}
use mir.Val.{Fits}
use borrow.Author.Tests.{eq-eqb, ne_eqb}
use Rattle.base_steps.specs.Each.{Each}
use Rattle.word_search.specs.Spelling.{bytes_of}
use Rattle.base_refusals.specs.Answer.{done, refused}
use Rattle.base_refusals.specs.Numbers.{no_room}
use Rattle.base_lent.specs.Lent.{Lent, into_buffer}
use Rattle.base_lent.specs.Stores.{Put}
use Rattle.base_lent.proofs.Storing.{put_as, put_both, put_none}
use Rattle.base_lent.proofs.Outcomes.{into_none, into_done}
use Rattle.say_put.specs.Rows.{filled}
use Rattle.image_references.specs.References.{Chained, source_of, row_from}
use Rattle.image_references.specs.declared.Row.{Row}
use Rattle.std.specs.Prelude.{Option, Some, None}
use Rattle.image_marks.specs.Marks.{has_mark}
use Rattle.image_rows.specs.Jumps.{target_text, places_on, sources_text, jump_row, jump_rows, jumps_text}
use Rattle.image_rows.specs.PartHelpers.{Adds, AddsMany}

module _ (n : ℕ) {there : Bool} {buffer after : List ℕ} {at behind : ℕ} where
  pub adds_there : there ≡ true → Adds buffer at (filled (bytes_of "#:") n 0 0) behind after → Adds buffer at (target_text n there) behind after
  unfolding target_text
  adds_there e p = rw e p

  pub adds_missing : there ≡ false → Adds buffer at (filled (bytes_of "# (missing):") n 0 0) behind after → Adds buffer at (target_text n there) behind after
  unfolding target_text
  adds_missing e p = rw e p

-- ---- the loop over the jumps

places_more : (nexts : List ℕ) (k p q : ℕ) → 0 < k → q ≡ get_or nexts p 0 → (q ≡ 0 → ⊥) → places_on nexts k p ≡ p ∷ places_on nexts (k - 1) q
unfolding places_on
places_more nexts zero p q h e z = absurd (omega arith)
places_more nexts (suc k) p q h e z =
    let m : suc k - 1 ≡ k = omega arith in
    rw (m, e) (rw (ne_eqb (get_or nexts p 0) 0 (λ f. z (e ∙ f))))

places_last : (nexts : List ℕ) (k p q : ℕ) → 0 < k → q ≡ get_or nexts p 0 → q ≡ 0 → places_on nexts k p ≡ p ∷ []
unfolding places_on
places_last nexts zero p q h e z = absurd (omega arith)
places_last nexts (suc k) p q h e z = rw (eq-eqb (get_or nexts p 0) 0 (sym e ∙ z))

-- of the jumps some are stored, and the rest follows
pub record Sourcing (x nexts : List ℕ) (first at : ℕ) (buffer out : List ℕ) (left place to : ℕ) : Type 0 where
  pub text : List ℕ
  pub put : Put buffer at text to out
  pub near : to + 2560 * left ≤ at + 2560 * length nexts
  pub onward : sources_text x (places_on nexts (length nexts) first) ≡ text ++ sources_text x (places_on nexts left place)

pub sourcing_start : (x nexts buffer : List ℕ) (first at : ℕ) → Sourcing x nexts first at buffer buffer (length nexts) first at
sourcing_start x nexts buffer first at = record { text = []; put = put_none buffer at; near = omega arith; onward = refl }

module _ {x nexts : List ℕ} {first at : ℕ} {buffer out : List ℕ} {left place to : ℕ} (i : Sourcing x nexts first at buffer out left place to) where
  pub sourcing_room : at ≤ 1125899906842624 → length nexts ≤ 65536 → to ≤ 1152921504606846976
  sourcing_room a b = omega (arith, i.near)

  module _ {v q mid : ℕ} {half : List ℕ} (h : 0 < left) (s : v ≡ source_of x place) (a : Adds out to (filled (bytes_of " #") v 0 0) mid half) (e : q ≡ get_or nexts place 0) where
    pub sourcing_turn : (q ≡ 0 → ⊥) → Sourcing x nexts first at buffer half (left - 1) q mid
    unfolding sources_text
    sourcing_turn z =
        record {
          text = i.text ++ filled (bytes_of " #") v 0 0;
          put = put_both i.text (filled (bytes_of " #") v 0 0) i.put a.put;
          near = omega (arith, i.near, a.near);
          onward =
              i.onward ∙ ap (λ (ps : List ℕ). i.text ++ sources_text x ps) (places_more nexts left place q h e z)
              ∙ ap (λ (n : ℕ). i.text ++ (filled (bytes_of " #") n 0 0 ++ sources_text x (places_on nexts (left - 1) q))) (sym s)
              ∙ sym (append_assoc i.text (filled (bytes_of " #") v 0 0) (sources_text x (places_on nexts (left - 1) q)));
        }

    pub sourcing_last : q ≡ 0 → AddsMany (length nexts) buffer at (sources_text x (places_on nexts (length nexts) first)) mid half
    unfolding sources_text
    sourcing_last z =
        record {
          put =
              put_as
              (sym (i.onward ∙ ap (λ (ps : List ℕ). i.text ++ sources_text x ps) (places_last nexts left place q h e z)
              ∙ ap (λ (n : ℕ). i.text ++ (filled (bytes_of " #") n 0 0 ++ [])) (sym s) ∙ ap (λ (t : List ℕ). i.text ++ t) (append-nil (filled (bytes_of " #") v 0 0))))
              (put_both i.text (filled (bytes_of " #") v 0 0) i.put a.put);
          near = omega (arith, i.near, a.near);
        }

  pub sourcing_end : left ≤ 0 → AddsMany (length nexts) buffer at (sources_text x (places_on nexts (length nexts) first)) to out
  unfolding sources_text places_on
  sourcing_end h =
      let z : left ≡ 0 = omega arith in
      record {
        put = put_as (sym (i.onward ∙ ap (λ (n : ℕ). i.text ++ sources_text x (places_on nexts n place)) z ∙ append-nil i.text)) i.put;
        near = omega (arith, i.near);
      }

-- ---- the loop over the numbers

module _ (x firsts nexts marked : List ℕ) where
  -- what a row says of the rows of k numbers from n on: it is the first, and the others follow; or there is none
  Splits : ℕ → ℕ → Option Row → Type 0
  Splits n k (Some r) =
      (n ≤ r.number) × (r.number < n + k) × (jump_rows x firsts nexts marked n k ≡ jump_row x nexts r.number r.first r.there ++ jump_rows x firsts nexts marked (r.number + 1) (n + k - (r.number + 1)))
  Splits n k None = jump_rows x firsts nexts marked n k ≡ []

  later : (n k : ℕ) (r : Option Row) → jump_rows x firsts nexts marked n (suc k) ≡ jump_rows x firsts nexts marked (n + 1) k → Splits (n + 1) k r → Splits n (suc k) r
  unfolding Splits
  later n k (Some r) e h =
      let low : n + 1 ≤ r.number = h.0 in
      let high : r.number < n + 1 + k = h.1 in
      let same : n + 1 + k - (r.number + 1) ≡ n + suc k - (r.number + 1) = omega arith in
      (omega arith, omega arith, e ∙ h.2 ∙ ap (λ (i : ℕ). jump_row x nexts r.number r.first r.there ++ jump_rows x firsts nexts marked (r.number + 1) i) same)
  later n k None e h = e ∙ h

  splits : (n k : ℕ) → Splits n k (row_from (λ m. get_or firsts m 0) marked n k)
  unfolding row_from Splits jump_rows
  splits n zero = refl
  splits n (suc k) = go (splits (n + 1) k) (eqb (get_or firsts n 0) 0) refl
    where
      go : Splits (n + 1) k (row_from (λ m. get_or firsts m 0) marked (n + 1) k) → (b : Bool) → eqb (get_or firsts n 0) 0 ≡ b
          → Splits n (suc k) (cond b (row_from (λ m. get_or firsts m 0) marked (n + 1) k) (Some (record { number = n; first = get_or firsts n 0; there = has_mark marked n })))
      go behind true e = later n k (row_from (λ m. get_or firsts m 0) marked (n + 1) k) (rw e) behind
      go behind false e =
          let same : k ≡ n + suc k - (n + 1) = omega arith in
          (omega arith, omega arith, rw e (ap (λ (i : ℕ). jump_row x nexts n (get_or firsts n 0) (has_mark marked n) ++ jump_rows x firsts nexts marked (n + 1) i) same))

-- of the rows some are stored, and the rest follows; a row has at most 65,538 parts
pub record Rowing (x firsts nexts marked buffer out : List ℕ) (from to : ℕ) : Type 0 where
  pub text : List ℕ
  pub put : Put buffer 0 text to out
  pub few : from ≤ length firsts
  pub near : to ≤ 167777280 * from
  pub onward : jumps_text x firsts nexts marked ≡ text ++ jump_rows x firsts nexts marked from (length firsts - from)

pub rowing_start : (x firsts nexts marked buffer : List ℕ) → Rowing x firsts nexts marked buffer buffer 0 0
unfolding jumps_text
rowing_start x firsts nexts marked buffer =
    let all : length firsts ≡ length firsts - 0 = omega arith in
    record { text = []; put = put_none buffer 0; few = omega arith; near = omega arith; onward = ap (λ (k : ℕ). jump_rows x firsts nexts marked 0 k) all }

module _ {x firsts nexts marked buffer out : List ℕ} {from to : ℕ} (i : Rowing x firsts nexts marked buffer out from to) where
  pub rowing_room : length firsts ≤ 65536 → to ≤ 1152921504606846976
  rowing_room h = omega (arith, i.near, i.few)

  pub rowing_sources : {o text : List ℕ} {m : ℕ} → length firsts ≤ 65536 → Adds out to text m o → m ≤ 1125899906842624
  rowing_sources h a = omega (arith, i.near, i.few, a.near)

  pub rowing_end_room : {o1 o2 t1 t2 : List ℕ} {m1 m2 : ℕ} → length firsts ≤ 65536 → length nexts ≤ 65536 → Adds out to t1 m1 o1 → AddsMany (length nexts) o1 m1 t2 m2 o2
      → m2 ≤ 1152921504606846976
  rowing_end_room h k a b = omega (arith, i.near, i.few, a.near, b.near)

  module _ {w : Row} {r : Option Row} (is : r ≡ Some w) (e : r ≡ row_from (λ m. get_or firsts m 0) marked from (length firsts - from)) where
    next : Splits x firsts nexts marked from (length firsts - from) (Some w)
    next = subst (λ (s : Option Row). Splits x firsts nexts marked from (length firsts - from) s) (sym e ∙ is) (splits x firsts nexts marked from (length firsts - from))

    pub rowing_turn : {o1 o2 o3 : List ℕ} {m1 m2 m3 : ℕ} → length nexts ≤ 65536 → Adds out to (target_text w.number w.there) m1 o1
        → AddsMany (length nexts) o1 m1 (sources_text x (places_on nexts (length nexts) w.first)) m2 o2 → Adds o2 m2 (0x0A ∷ []) m3 o3
        → Rowing x firsts nexts marked buffer o3 (w.number + 1) m3
    unfolding Splits jump_row
    rowing_turn k a b c =
        let low : from ≤ w.number = next.0 in
        let high : w.number < from + (length firsts - from) = next.1 in
        let same : from + (length firsts - from) - (w.number + 1) ≡ length firsts - (w.number + 1) = omega (arith, i.few) in
        let row : List ℕ = jump_row x nexts w.number w.first w.there in
        record {
          text = i.text ++ row;
          put =
              put_both i.text row i.put
              (put_both (target_text w.number w.there) _ a.put (put_both (sources_text x (places_on nexts (length nexts) w.first)) (0x0A ∷ []) b.put c.put));
          few = omega (arith, i.few);
          near = omega (arith, i.near, a.near, b.near, c.near);
          onward =
              i.onward ∙ ap (λ (t : List ℕ). i.text ++ t) next.2 ∙ sym (append_assoc i.text row _)
              ∙ ap (λ (n : ℕ). (i.text ++ row) ++ jump_rows x firsts nexts marked (w.number + 1) n) same;
        }

    pub rowing_fits : length firsts ≤ 65536 → Fits w64 (w.number + 1)
    unfolding Splits
    rowing_fits h = let high : w.number < from + (length firsts - from) = next.1 in record { fits = omega (arith, i.few) }

  pub rowing_end : {r : Option Row} → r ≡ None → r ≡ row_from (λ m. get_or firsts m 0) marked from (length firsts - from) → Put buffer 0 (jumps_text x firsts nexts marked) to out
  unfolding Splits
  rowing_end is e =
      let none : jump_rows x firsts nexts marked from (length firsts - from) ≡ [] =
      subst (λ (s : Option Row). Splits x firsts nexts marked from (length firsts - from) s) (sym e ∙ is) (splits x firsts nexts marked from (length firsts - from)) in
      put_as (sym (i.onward ∙ ap (λ (t : List ℕ). i.text ++ t) none ∙ append-nil i.text)) i.put

-- ---- the whole

module _ (text out : List ℕ) {small small' : List ℕ} {k : ℕ} (s : Put small 0 text k small') where
  pub whole_none : length out < k → ◌≡◌ {A = Lent} (record { answer = refused (no_room k); buffer = out }) (into_buffer (done text) out)
  whole_none h = let size : k ≡ length text = omega (arith, s.ends) in into_none out (done text) (ap done size) h

  pub whole_stored : k ≤ length out → {m : ℕ} {after : List ℕ} → Put out 0 text m after → ◌≡◌ {A = Lent} (record { answer = done m; buffer = after }) (into_buffer (done text) out)
  whole_stored h p = let size : k ≡ length text = omega (arith, s.ends) in into_done out (done text) refl (record { room = omega arith }) p

-- ---- threads that tell some places, each above 0, give the row of just these

pub chained_places : (nexts : List ℕ) (k s p : ℕ) (ps : List ℕ) → Chained nexts s (p ∷ ps) → length ps < k → Each (λ q. 0 < q) ps → places_on nexts k s ≡ p ∷ ps
unfolding places_on
chained_places nexts zero s p ps c h a = absurd (omega arith)
chained_places nexts (suc k) s p [] c h a = rw c.0 (rw (eq-eqb (get_or nexts p 0) 0 c.1))
chained_places nexts (suc k) s p (q ∷ ps) c h a =
    let other : get_or nexts p 0 ≡ 0 → ⊥ = λ f. omega (arith, c.1.0, a.0, f) in
    rw c.0 (rw (ne_eqb (get_or nexts p 0) 0 other) (ap (λ (t : List ℕ). p ∷ t) (chained_places nexts k (get_or nexts p 0) q ps c.1 (omega arith) a.1)))
