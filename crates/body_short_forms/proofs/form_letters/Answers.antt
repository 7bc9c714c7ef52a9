-- `body_short_forms::form_letters` meets its contract.
-- Assumes nothing.
use Prim.Native.Nat.{◌<◌}
use native.Mathlib.Omega.{arith}
use lib.ListN.{length}
use Rattle.body_short_forms.proofs.Standing.{letters_none, letters_all, letters_other, letters_count, letters_some}
use Rattle.body_short_forms.proofs.form_letters.Goals.{in_default-via-in-Some+then-n-gt0+else-between, in_default-via-in-Some+else-n-gt0, in_default-via-in_default}
use Rattle.body_short_forms.proofs.form_letters.Goals as goal

pub overflow_add-result : goal.overflow_add-result
overflow_add-result c = let h : c.small_letters-n.result < length c.args.text.now = c.in-Some.ensures.lookup.3.0 in record { fits = omega arith }

pub slice_bounds-result-end : goal.slice_bounds-result-end
slice_bounds-result-end c = letters_count _ c.in-Some.ensures.lookup.3.0

pub returns-in-Some : goal.returns-in-Some
returns-in-Some c = letters_some _ (c.in-Some.ensures.lookup.3.1 0) c.if-between.true c.between.ensures c.if-n-gt0.true c.small_letters-n.ensures

pub returns-in_default : goal.returns-in_default
returns-in_default c =
    elim c.in_default.branch [
      | in_default-via-in-Some+then-n-gt0+else-between w ↦ letters_other _ (w.in-Some.ensures.lookup.3.1 0) w.if-between.false w.between.ensures c.small_letters-n.ensures
      | in_default-via-in-Some+else-n-gt0 w ↦ letters_none _ w.if-n-gt0.false c.small_letters-n.ensures
      | in_default-via-in_default w ↦ letters_all _ w.in_default.ensures.lookup.3 c.small_letters-n.ensures
    ]
