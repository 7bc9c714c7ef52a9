-- `disk_saves::save_on` meets its contract.
-- Assumes nothing.
use native.Mathlib.Omega.{arith}
use Rattle.disk_check.proofs.Looking.{known_sectors}
use Rattle.disk_saves.proofs.Placing.{place_in, saved_in, directory_some, last_in, last_below}
use Rattle.disk_saves.proofs.Lowest.{lowest_below}
use borrow.Author.Rules.{rules}
use Rattle.disk_saves.proofs.save_on.Goals as goal

pub entries_that-requires : goal.entries_that-requires
entries_that-requires c = (search rules, search known_sectors, omega arith, search rules)

pub put_file-requires : goal.put_file-requires
put_file-requires c = search (rules, place_in)

pub returns-then-entries_that-gt0 : goal.returns-then-entries_that-gt0
returns-then-entries_that-gt0 c = search saved_in

pub overflow_sub-sectors : goal.overflow_sub-sectors
overflow_sub-sectors c = search directory_some

pub bounds-sectors-sectors : goal.bounds-sectors-sectors
bounds-sectors-sectors c = search last_in

pub put_grown-requires : goal.put_grown-requires
put_grown-requires c = search (rules, last_below, lowest_below)
