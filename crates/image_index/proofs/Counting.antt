-- Counting the jumps: the loop over a body, and the loop over an image's lines.
-- Assumes nothing.
use Prim.Native.Nat.{ℕ, ◌+◌, ◌-◌, ◌*◌, ◌≤◌, ◌<◌}
use mathlib.Core.Path.{◌≡◌, refl, sym, ap, ◌∙◌, subst}
use mathlib.Core.Bool.{Bool, true, false, cond}
use mathlib.Core.List.{List, [], ◌∷◌, ◌++◌}
use native.Mathlib.Omega.{arith}
use lib.Dec.{ltb}
use lib.ListN.{length}
use borrow.Author.Tests.{lt-ltb, le-ltb}
use Rattle.base_refusals.specs.declared.Refusal.{Refusal}
use Rattle.image_readers.specs.declared.Line.{Line}
use Rattle.image_readers.specs.Bodies.{body_of}
use Rattle.image_readers.specs.Links.{link_step}
use Rattle.image_readers.proofs.Reading.{body_length_lem}
use Rattle.image_marks.specs.Marks.{has_mark}
use Rattle.image_units.specs.declared.Mode.TheVariants.{Plain}
use Rattle.image_jumps.specs.declared.Cursor.{Cursor}
use Rattle.image_jumps.specs.declared.Jump.{Jump}
use Rattle.image_jumps.specs.JumpHelpers.{left_of, distance, JumpsTo, NextIs}
use Rattle.image_jumps.proofs.Stepping.{left_text}
use Rattle.base_refusals.specs.declared.Refusal.TheVariants.{TargetTooHigh}
use Rattle.image_index.specs.IndexHelpers.{found_from, Sound, low_jumps, low_targets, targets_counted, AtMost, CountedIs}
use Rattle.image_index.proofs.Sounding.{SoundLine, sound_line, sound_end, sound_refused}
use Rattle.std.specs.Prelude.{Option, Some, None, Result, Ok, Err}
use Rattle.base_refusals.specs.Answer.{answered}

-- ---- the cases of `counted`

module _ (marked : List ℕ) (n t : ℕ) (ts : List ℕ) where
  counted_high : 65535 < t → targets_counted marked n (t ∷ ts) ≡ (Err TargetTooHigh)
  unfolding targets_counted
  counted_high h = simp (lt-ltb _ _ h)

  counted_more : t ≤ 65535 → targets_counted marked n (t ∷ ts) ≡ targets_counted marked (cond (has_mark marked t) n (n + 1)) ts
  unfolding targets_counted
  counted_more h = simp (le-ltb _ _ h)

counted_none : (marked : List ℕ) (n : ℕ) → targets_counted marked n [] ≡ Ok n
unfolding targets_counted
counted_none marked n = refl

-- what is counted of a list, and then of another
abbrev then_counted : List ℕ → List ℕ → Result ℕ Refusal → Result ℕ Refusal
then_counted marked us (Err f) = Err f
then_counted marked us (Ok m) = targets_counted marked m us

counted_both : (marked ts us : List ℕ) (n : ℕ) → targets_counted marked n (ts ++ us) ≡ then_counted marked us (targets_counted marked n ts)
unfolding targets_counted
counted_both marked [] us n = refl
counted_both marked (t ∷ ts) us n = go (ltb 65535 t) (counted_both marked ts us (cond (has_mark marked t) n (n + 1)))
  where
    m : ℕ
    m = cond (has_mark marked t) n (n + 1)

    go : (b : Bool) → targets_counted marked m (ts ++ us) ≡ then_counted marked us (targets_counted marked m ts)
        → cond b (Err TargetTooHigh) (targets_counted marked m (ts ++ us)) ≡ then_counted marked us (cond b (Err TargetTooHigh) (targets_counted marked m ts))
    go true ih = refl
    go false ih = ih

-- ---- the loop over a body

pub record CountingBody (marked body : List ℕ) (n₀ n : ℕ) (c : Cursor) : Type 0 where
  pub same : targets_counted marked n (left_of body c) ≡ targets_counted marked n₀ (low_jumps body)
  pub few : n + distance body c ≤ n₀ + 2 * length body

pub counting_start : (marked body : List ℕ) (n : ℕ) {c : Cursor} → c ≡ record { at = 0; mode = Plain; listed = false; part = None } → CountingBody marked body n n c
counting_start marked body n e =
    rw e (record {
      same = ap (targets_counted marked n) (left_text body (record { at = 0; mode = Plain; listed = false; part = None }) refl);
      few = omega arith;
    })

module _ {marked body : List ℕ} {n₀ n : ℕ} {c : Cursor} (k : CountingBody marked body n₀ n c) {r : Option Jump} (next : NextIs body c r) where
  module _ {j : Jump} (is : r ≡ Some j) where
    jumped : JumpsTo body c j.target j.cursor
    jumped = subst (NextIs body c) is next

    pub counting_high : 65535 < j.target → CountedIs marked n₀ (low_jumps body) (n₀ + 2 * length body) (Err TargetTooHigh)
    counting_high h =
        record {
          is = sym (counted_high marked n j.target (left_of body j.cursor) h) ∙ ap (targets_counted marked n) (sym jumped.same) ∙ k.same;
          few = refl;
        }

    module _ (h : j.target ≤ 65535) {b : Bool} (e : b ≡ has_mark marked j.target) where
      turned : targets_counted marked (cond b n (n + 1)) (left_of body j.cursor) ≡ targets_counted marked n₀ (low_jumps body)
      turned = rw e (sym (counted_more marked n j.target (left_of body j.cursor) h) ∙ ap (targets_counted marked n) (sym jumped.same) ∙ k.same)

      -- a j.target that is not marked counts
      pub counting_turn : b ≡ false → CountingBody marked body n₀ (n + 1) j.cursor
      counting_turn f = record { same = rw f at turned; few = omega (arith, k.few, jumped.nearer) }

      pub counting_past : b ≡ true → CountingBody marked body n₀ n j.cursor
      counting_past f = record { same = rw f at turned; few = omega (arith, k.few, jumped.nearer) }

    pub counting_less : distance body j.cursor < distance body c
    counting_less = jumped.nearer

  pub counting_end : r ≡ None → CountedIs marked n₀ (low_jumps body) (n₀ + 2 * length body) (Ok n)
  counting_end is =
      record {
        is = sym (counted_none marked n) ∙ ap (targets_counted marked n) (sym (subst (NextIs body c) is next)) ∙ k.same;
        few = omega (arith, k.few);
      }

-- ---- the loop over the lines

pub record CountingLines (marked s : List ℕ) (p n : ℕ) : Type 0 where
  pub sound : Sound s p
  pub same : targets_counted marked n (low_targets s (found_from s p)) ≡ targets_counted marked 0 (low_targets s (found_from s 2))
  pub few : n ≤ 2 * p
  pub within : p ≤ length s

pub lines_start : {marked s : List ℕ} → Sound s 2 → 2 ≤ length s → CountingLines marked s 2 0
lines_start sound h = record { sound = sound; same = refl; few = omega arith; within = h }

low_first : (s : List ℕ) (l : Line) (ls : List Line) → low_targets s (l ∷ ls) ≡ low_jumps (body_of s l) ++ low_targets s ls
unfolding low_targets
low_first s l ls = refl

low_none : (s : List ℕ) → low_targets s [] ≡ []
unfolding low_targets
low_none s = refl

pub count_low : {marked s : List ℕ} {p n : ℕ} → CountingLines marked s p n → length s ≤ 1048576 → n ≤ 4294967296
count_low k h = omega (arith, k.few, k.within)

module _ {marked s : List ℕ} {p n : ℕ} {r : Result (Option Line) Refusal} (e : answered r ≡ link_step s p) (k : CountingLines marked s p n) where
  module _ {l : Line} (is : r ≡ Ok (Some l)) where
    at : SoundLine s p l
    at = sound_line s p e k.sound is

    pub body_runs : l.from ≤ l.to
    body_runs = at.lies.runs

    pub body_within : l.to ≤ length s
    body_within = omega (arith, at.lies)

    pub body_low : length s ≤ 1048576 → length (body_of s l) ≤ 1048576
    body_low h = omega (arith, body_length_lem at.lies, at.lies)

    here : targets_counted marked n (low_targets s (found_from s p)) ≡ then_counted marked (low_targets s (found_from s l.next)) (targets_counted marked n (low_jumps (body_of s l)))
    here =
        ap (λ (ls : List Line). targets_counted marked n (low_targets s ls)) at.line ∙ ap (targets_counted marked n) (low_first s l (found_from s l.next))
        ∙ counted_both marked (low_jumps (body_of s l)) (low_targets s (found_from s l.next)) n

    module _ {t : Result ℕ Refusal} {most : ℕ} (c : CountedIs marked n (low_jumps (body_of s l)) most t) where
      told_body : targets_counted marked 0 (low_targets s (found_from s 2)) ≡ then_counted marked (low_targets s (found_from s l.next)) t
      told_body = sym k.same ∙ here ∙ ap (then_counted marked (low_targets s (found_from s l.next))) (sym c.is)

      pub lines_high : {f : Refusal} → t ≡ Err f → CountedIs marked 0 (low_targets s (found_from s 2)) 2097152 (Err f)
      lines_high f = record { is = sym (told_body ∙ ap (then_counted marked (low_targets s (found_from s l.next))) f); few = subst (AtMost most) f c.few }

    pub lines_turn : {t : Result ℕ Refusal} {m : ℕ} → CountedIs marked n (low_jumps (body_of s l)) (n + 2 * length (body_of s l)) t → t ≡ Ok m → CountingLines marked s l.next m
    lines_turn {t} {m} c f =
        let few : m ≤ n + 2 * length (body_of s l) = subst (AtMost (n + 2 * length (body_of s l))) f c.few in
        record {
          sound = at.behind;
          same = sym (told_body c ∙ ap (then_counted marked (low_targets s (found_from s l.next))) f);
          few = omega (arith, k.few, body_length_lem at.lies, at.lies);
          within = at.lies.within;
        }

    pub lines_less : length s - l.next < length s - p
    lines_less = omega (arith, at.lies)

  pub lines_end : r ≡ Ok None → length s ≤ 1048576 → CountedIs marked 0 (low_targets s (found_from s 2)) 2097152 (Ok n)
  lines_end is h =
      record {
        is =
            sym (counted_none marked n) ∙ ap (targets_counted marked n) (sym (low_none s))
            ∙ ap (λ (ls : List Line). targets_counted marked n (low_targets s ls)) (sym (sound_end s p e k.sound is)) ∙ k.same;
        few = omega (arith, k.few, k.within);
      }

  pub lines_fault : {f : Refusal} {most : ℕ} → r ≡ Err f → CountedIs marked 0 (low_targets s (found_from s 2)) most (Ok n)
  lines_fault is = absurd (sound_refused s p e k.sound is)
