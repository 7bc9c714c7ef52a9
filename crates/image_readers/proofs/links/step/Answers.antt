-- `image_readers::links::step` meets its contract: the tests that were passed say which answer is given. The end is left to the lemma that
-- src/links.rt names.
-- Assumes nothing.
use Rattle.std.proofs.Common.{◌+◌, ◌≢◌, get_or, arith}
use Rattle.image_readers.proofs.ByLinks.{link_long, link_short, link_missing, link_backward_lem, link_outside_lem, link_no_end_lem, link_line}
use Rattle.image_readers.proofs.links.step.Goals as goal

pub returns-then-length-gt-LONGEST : goal.returns-then-length-gt-LONGEST
returns-then-length-gt-LONGEST c = search link_long

pub returns-then-length-lt2 : goal.returns-then-length-lt2
returns-then-length-lt2 c = search link_short

pub returns-then-offset-length : goal.returns-then-offset-length
returns-then-offset-length c = search link_missing

pub returns-then-target-offset : goal.returns-then-target-offset
returns-then-target-offset c =
    let ne : get_or c.args.image.now (c.args.offset + 1) 0 ≢ 0 = omega arith in
    link_backward_lem _ _ (search) (search) (search) ne c.if-target-offset.true (search)

pub returns-then-target-length : goal.returns-then-target-length
returns-then-target-length c =
    let ne : get_or c.args.image.now (c.args.offset + 1) 0 ≢ 0 = omega arith in
    link_outside_lem _ _ (search) (search) (search) ne c.if-target-offset.false c.if-target-length.true (search)

pub returns-then-image-target-ne0 : goal.returns-then-image-target-ne0
returns-then-image-target-ne0 c =
    let ne : get_or c.args.image.now (c.args.offset + 1) 0 ≢ 0 = omega arith in
    link_no_end_lem _ _ (search) (search) (search) ne c.if-target-offset.false c.if-target-length.false
    c.if-image-target-ne0.true (search)

pub returns : goal.returns
returns c =
    let ne : get_or c.args.image.now (c.args.offset + 1) 0 ≢ 0 = omega arith in
    search (link_line, ne)
