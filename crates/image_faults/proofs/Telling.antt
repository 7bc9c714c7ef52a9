-- The faults one by one: a law for each answer.
-- Assumes nothing.
use Prim.Native.Nat.{ℕ, ◌+◌, ◌-◌, ◌≤◌, ◌<◌}
use mathlib.Core.Path.{◌≡◌, refl, sym, ap, ◌∙◌}
use mathlib.Core.Bool.{Bool, true, false}
use mathlib.Core.List.{List, [], ◌∷◌}
use native.Mathlib.Omega.{arith}
use lib.ListN.{length, get_or, drop, length-drop, get_or-eq_default}
use lib.Seq.{length-take-le}
use mir.Syntax.{w64}
use mir.Val.{Fits}
use borrow.Author.Tests.{le-ltb, lt-ltb}
use Rattle.base_refusals.specs.declared.Refusal.{Refusal}
use Rattle.base_refusals.specs.Answer.{Answer, done}
use Rattle.image_limits.specs.declared.Limits.{Limits}
use Rattle.image_limits.specs.Limits.{c64, is_too_high, is_not_ascending, is_bad_length, in_basic_memory}
use Rattle.image_readers.specs.declared.Line.{Line}
use Rattle.image_readers.specs.Bodies.{body_of, body_found, body_at}
use Rattle.image_bytes.specs.ImageBytes.{low_first_at, before_zero, body_end}
use Rattle.image_bytes.proofs.Zeros.{body_end_within}
use Rattle.image_readers.specs.Terminators.{terminated_line, terminator_step}
use Rattle.image_readers.proofs.ByLinks.{link_found, link_sound}
use Rattle.image_readers.proofs.ByTerminators.{terminator_line}
use Rattle.image_readers.proofs.Equations.{LiesAt}
use Rattle.image_readers.proofs.Reading.{body_length_lem}
use Rattle.image_relink.specs.declared.Relinked.{Relinked}
use Rattle.image_relink.specs.declared.Relinked.TheVariants.{Same, Changed, Leaves, Endless}
use Rattle.image_relink.specs.Relinking.{relinking, relinked_answer}
use Rattle.image_faults.specs.declared.Fault.TheVariants.{OutsideMemory, NumberTooHigh, NotAscending, ZeroInBody, BodyLength, LinkChanges, LinksLeave, LinksEndless}
use Rattle.image_faults.specs.Faults.{memory_faults, number_faults, order_faults, first_zero, zero_faults, length_faults, relink_fault, relink_faults}
use Rattle.image_faults.specs.ToldHelpers.{LineIs}
use Rattle.std.specs.Prelude.{Option, Some, Result, Ok, Err}

-- ---- bytes

module _ (s : List ℕ) {p : ℕ} (h : length s ≤ p) where
  pub byte_beyond : 0 ≡ get_or s p 0
  byte_beyond = sym (get_or-eq_default s 0 h)

  pub number_beyond : 0 ≡ low_first_at s (p + 2)
  number_beyond =
      let low : get_or s (p + 2) 0 ≡ 0 = get_or-eq_default s 0 (omega arith) in
      let high : get_or s (p + 2 + 1) 0 ≡ 0 = get_or-eq_default s 0 (omega arith) in
      omega arith

-- ---- the machine's limits

module _ {m : Limits} (is : m ≡ c64) where
  module _ (s : List ℕ) {load : ℕ} {b : Bool} (e : load ≡ low_first_at s 0) (d : b ≡ in_basic_memory m load (length s)) where
    within : in_basic_memory c64 (low_first_at s 0) (length s) ≡ b
    within = ap (λ (x : Limits). in_basic_memory x (low_first_at s 0) (length s)) (sym is) ∙ ap (λ (n : ℕ). in_basic_memory m n (length s)) (sym e) ∙ sym d

    pub memory_none : b ≡ true → [] ≡ memory_faults s
    unfolding memory_faults
    memory_none h = rw (within, h)

    pub memory_told : b ≡ false → OutsideMemory load (length s) ∷ [] ≡ memory_faults s
    unfolding memory_faults
    memory_told h = rw (within, h, e)

  module _ (l : Line) {b : Bool} (d : b ≡ is_too_high m l.number) where
    high : is_too_high c64 l.number ≡ b
    high = ap (λ (x : Limits). is_too_high x l.number) (sym is) ∙ sym d

    pub number_told : b ≡ true → NumberTooHigh l.number ∷ [] ≡ number_faults l
    unfolding number_faults
    number_told h = rw (high, h)

    pub number_none : b ≡ false → [] ≡ number_faults l
    unfolding number_faults
    number_none h = rw (high, h)

module _ (least : ℕ) (l : Line) {b : Bool} (d : b ≡ is_not_ascending least l.number) where
  pub order_told : b ≡ true → NotAscending l.number ∷ [] ≡ order_faults least l
  unfolding order_faults
  order_told h = rw (sym d, h)

  pub order_none : b ≡ false → [] ≡ order_faults least l
  unfolding order_faults
  order_none h = rw (sym d, h)

-- ---- its body

module _ (s : List ℕ) (p : ℕ) {l : Line} (is : LineIs s p l) where
  lies : LiesAt s p l
  lies = link_sound.lies s p is

  pub line_runs : l.from ≤ l.to
  line_runs = lies.runs

  pub line_within : l.to ≤ length s
  line_within = omega (arith, lies)

  pub line_low : l.to ≤ 1048576
  line_low = omega (arith, lies, link_sound.not_too_long s p is)

  pub line_from_lem : 4 ≤ l.from
  line_from_lem = omega (arith, lies)

  low_length : length (body_of s l) ≡ l.to - l.from
  low_length = body_length_lem lies

  module _ {m : Limits} (machine : m ≡ c64) {b : Bool} (d : b ≡ is_bad_length m (l.to - l.from)) where
    bad : is_bad_length c64 (l.to - l.from) ≡ b
    bad = ap (λ (x : Limits). is_bad_length x (l.to - l.from)) (sym machine) ∙ sym d

    pub length_told : b ≡ true → BodyLength l.number (l.to - l.from) ∷ [] ≡ length_faults s l
    unfolding length_faults
    length_told h = rw (low_length, bad, h)

    pub length_none : b ≡ false → [] ≡ length_faults s l
    unfolding length_faults
    length_none h = rw (low_length, bad, h)

  -- the body by terminators ends at the first zero
  from_is : l.from ≡ p + 4
  from_is = lies.starts

  before : length (body_at terminator_step s p) ≡ before_zero (drop (p + 4) s)
  before =
      let k = link_found s p is in
      let t : done (Some (terminated_line s p)) ≡ terminator_step s p =
      terminator_line s p (link_sound.not_too_long s p is) (link_sound.long_enough s p is) (omega (arith, k.forward, k.inside))
      (omega (arith, k.forward, k.inside)) k.no_end (omega (arith, k.forward, k.inside)) refl in
      ap (λ (a : Answer (Option Line)). length (body_found s a)) (sym t)
      ∙ length-take-le (body_end s p - (p + 4)) (drop (p + 4) s)
      (omega (arith, body_end_within s p (omega (arith, k.forward, k.inside)), length-drop (p + 4) s))
      ∙ omega arith

  module _ {r : List ℕ} (d : r ≡ body_at terminator_step s p) where
    zero_is : l.from + length r ≡ first_zero s l
    zero_is = ap (λ (x : ℕ). l.from + x) (ap length d ∙ before ∙ ap (λ (q : ℕ). before_zero (drop q s)) (sym from_is))

    pub zero_fits : Fits w64 (l.from + length r)
    zero_fits =
        let k = link_found s p is in
        record {
          fits = omega (arith, from_is, ap length d, before, body_end_within s p (omega (arith, k.forward, k.inside)), link_sound.not_too_long s p is);
        }

    pub zero_told : {load : ℕ} → l.from + length r < l.to → load ≡ low_first_at s 0
        → ZeroInBody l.number (load + (l.from + length r) - 2) ∷ [] ≡ zero_faults s l
    unfolding zero_faults
    zero_told h e = let w : first_zero s l < l.to = omega (arith, zero_is) in rw (e, zero_is) (simp (lt-ltb _ _ w))

    pub zero_none : l.to ≤ l.from + length r → [] ≡ zero_faults s l
    unfolding zero_faults
    zero_none h = let w : l.to ≤ first_zero s l = omega (arith, zero_is) in simp (le-ltb _ _ w)

-- ---- what the machine does

module _ (s : List ℕ) {r : Result Relinked Refusal} (e : relinked_answer r ≡ relinking s) where
  relink_by_lem : {x : Result Relinked Refusal} → r ≡ x → relink_fault s (relinked_answer x) ≡ relink_faults s
  unfolding relink_faults
  relink_by_lem is = ap (λ (y : Result Relinked Refusal). relink_fault s (relinked_answer y)) (sym is) ∙ ap (relink_fault s) e

  pub relink_same : r ≡ Ok Same → [] ≡ relink_faults s
  relink_same is = relink_by_lem is

  pub relink_changed : {p link number : ℕ} → r ≡ Ok (Changed p link) → number ≡ low_first_at s (p + 2) → LinkChanges number link ∷ [] ≡ relink_faults s
  relink_changed is n = rw n (relink_by_lem is)

  pub relink_leaves : r ≡ Ok Leaves → LinksLeave ∷ [] ≡ relink_faults s
  relink_leaves is = relink_by_lem is

  pub relink_endless : r ≡ Ok Endless → LinksEndless ∷ [] ≡ relink_faults s
  relink_endless is = relink_by_lem is

  pub relink_refused : {n : Refusal} → r ≡ Err n → [] ≡ relink_faults s
  relink_refused is = relink_by_lem is
