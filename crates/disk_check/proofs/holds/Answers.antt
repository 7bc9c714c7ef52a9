-- `disk_check::holds` meets its contract.
-- Assumes nothing.
use mathlib.Core.Path.{◌≡◌, refl}
use mathlib.Core.Bool.{◌&&◌}
use lib.Dec.{eqb}
use lib.ListN.{get_or}
use borrow.Author.Tests.{eq-eqb, ne_eqb}
use borrow.Author.Rules.{rules}
use Rattle.disk_rules.specs.Lists.{none_twice}
use Rattle.disk_rules.specs.Entries.{entries_good}
use Rattle.disk_check.proofs.Holding.{and_made, and_left_out, all_held}
use Rattle.disk_check.proofs.Looking.{log_sectors, log_entries}
use Rattle.disk_check.proofs.holds.Goals as goal
use Rattle.disk_check.proofs.holds.Goals.{then-disk-eq18, else-disk-eq18, then-disk-eq1, else-disk-eq1, then-ends, else-ends, then-none_twice, else-none_twice}

pub none_twice-requires : goal.none_twice-requires
none_twice-requires c = search log_sectors

pub entries_good-requires : goal.entries_good-requires
entries_good-requires c = search (rules, log_entries)

pub chains_hold-requires : goal.chains_hold-requires
chains_hold-requires c = search (rules, log_entries)

pub returns-then-entries_good : goal.returns-then-entries_good
returns-then-entries_good c =
    let a : c.if-disk-eq18.value ≡ (eqb (get_or c.args.disk.now 91392 0) 18 && eqb (get_or c.args.disk.now 91393 0) 1) =
    elim c.if-disk-eq18.branch [
      | then-disk-eq18 w ↦ and_made (eq-eqb _ 18 w.if-disk-eq18.true) w.value-is refl
      | else-disk-eq18 w ↦ and_left_out _ (ne_eqb _ 18 w.if-disk-eq18.false) w.value-is
    ]
    in
    let b : c.if-disk-eq1.value ≡ (c.if-disk-eq18.value && c.args.ends) =
    elim c.if-disk-eq1.branch
    [ then-disk-eq1 w ↦ and_made w.if-disk-eq1.true w.value-is refl | else-disk-eq1 w ↦ and_left_out _ w.if-disk-eq1.false w.value-is ]
    in
    let e : c.if-ends.value ≡ (c.if-disk-eq1.value && none_twice c.args.sectors.now) =
    elim c.if-ends.branch
    [ then-ends w ↦ and_made w.if-ends.true w.value-is w.none_twice.ensures | else-ends w ↦ and_left_out _ w.if-ends.false w.value-is ]
    in
    let f : c.if-none_twice.value ≡ (c.if-ends.value && entries_good c.args.disk.now c.args.files.now) =
    elim c.if-none_twice.branch
    [ then-none_twice w ↦ and_made w.if-none_twice.true w.value-is w.entries_good.ensures | else-none_twice w ↦ and_left_out _ w.if-none_twice.false w.value-is ]
    in
    all_held c.args.disk.now c.args.sectors.now c.args.files.now c.requires.0 c.requires.1 c.requires.3 c.requires.2 a b e f (and_made c.if-entries_good.true refl c.chains_hold.ensures)

pub returns-else-entries_good : goal.returns-else-entries_good
returns-else-entries_good c =
    let a : c.if-disk-eq18.value ≡ (eqb (get_or c.args.disk.now 91392 0) 18 && eqb (get_or c.args.disk.now 91393 0) 1) =
    elim c.if-disk-eq18.branch [
      | then-disk-eq18 w ↦ and_made (eq-eqb _ 18 w.if-disk-eq18.true) w.value-is refl
      | else-disk-eq18 w ↦ and_left_out _ (ne_eqb _ 18 w.if-disk-eq18.false) w.value-is
    ]
    in
    let b : c.if-disk-eq1.value ≡ (c.if-disk-eq18.value && c.args.ends) =
    elim c.if-disk-eq1.branch
    [ then-disk-eq1 w ↦ and_made w.if-disk-eq1.true w.value-is refl | else-disk-eq1 w ↦ and_left_out _ w.if-disk-eq1.false w.value-is ]
    in
    let e : c.if-ends.value ≡ (c.if-disk-eq1.value && none_twice c.args.sectors.now) =
    elim c.if-ends.branch
    [ then-ends w ↦ and_made w.if-ends.true w.value-is w.none_twice.ensures | else-ends w ↦ and_left_out _ w.if-ends.false w.value-is ]
    in
    let f : c.if-none_twice.value ≡ (c.if-ends.value && entries_good c.args.disk.now c.args.files.now) =
    elim c.if-none_twice.branch
    [ then-none_twice w ↦ and_made w.if-none_twice.true w.value-is w.entries_good.ensures | else-none_twice w ↦ and_left_out _ w.if-none_twice.false w.value-is ]
    in
    all_held c.args.disk.now c.args.sectors.now c.args.files.now c.requires.0 c.requires.1 c.requires.3 c.requires.2 a b e f (and_left_out _ c.if-entries_good.false refl)
