-- `image_readers::terminators::step` meets its contract: the tests that were passed say which answer is given. The end is left to the lemma that
-- src/terminators.rt names.
-- Assumes nothing.
use Rattle.std.proofs.Common.{◌+◌, ◌≢◌, get_or, arith}
use Rattle.image_readers.proofs.ByTerminators.{terminator_long, terminator_short, terminator_beyond, terminator_lone, terminator_cut, terminator_line}
use Rattle.image_readers.proofs.terminators.step.Goals as goal

pub returns-then-length-gt-LONGEST : goal.returns-then-length-gt-LONGEST
returns-then-length-gt-LONGEST c = search terminator_long

pub returns-then-length-lt2 : goal.returns-then-length-lt2
returns-then-length-lt2 c = search terminator_short

pub returns-then-offset-length : goal.returns-then-offset-length
returns-then-offset-length c = search terminator_beyond

pub returns-then-length-offset-lt2 : goal.returns-then-length-offset-lt2
returns-then-length-offset-lt2 c = search terminator_lone

pub returns-then-length-offset-lt4 : goal.returns-then-length-offset-lt4
returns-then-length-offset-lt4 c =
    let ne : get_or c.args.image.now (c.args.offset + 1) 0 ≢ 0 = omega arith in
    search (terminator_cut, ne)

pub returns : goal.returns
returns c =
    let ne : get_or c.args.image.now (c.args.offset + 1) 0 ≢ 0 = omega arith in
    search (terminator_line, ne)
