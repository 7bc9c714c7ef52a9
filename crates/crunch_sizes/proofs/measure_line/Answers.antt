-- `crunch_sizes::measure_line` meets its contract: the numbering of the line says which case holds, and then the profile, if it is asked.
-- Assumes nothing.
use Rattle.std.proofs.lemmas.Result.{err_from_is_err_and}
use Rattle.crunch_sizes.proofs.Sizing.{sized_blank, sized_missing, sized_range, sized_some, sized_over, sized_not, says_plain, says_allowed}
use Rattle.crunch_rules.proofs.Lining.{body_up, body_within}
use Rattle.crunch_sizes.proofs.measure_line.Goals as goal
use Rattle.crunch_sizes.proofs.measure_line.Goals.{then-spot+in_ok-allow_line-in-Numbered, else-spot}

pub slice_bounds-body-count : goal.slice_bounds-body-count
slice_bounds-body-count c = search body_up

pub slice_bounds-body-start : goal.slice_bounds-body-start
slice_bounds-body-start c = search body_up

pub slice_bounds-body-end : goal.slice_bounds-body-end
slice_bounds-body-end c = search body_within

pub returns-in-Blank : goal.returns-in-Blank
returns-in-Blank c = search sized_blank

pub returns-in-Missing : goal.returns-in-Missing
returns-in-Missing c = search sized_missing

pub returns-in-OutOfRange : goal.returns-in-OutOfRange
returns-in-OutOfRange c = search sized_range

pub returns-in_err-allow_line-in-Numbered : goal.returns-in_err-allow_line-in-Numbered
returns-in_err-allow_line-in-Numbered c =
    let p = err_from_is_err_and c.from_residual.result c.from_residual.ensures.1 in
    rw (p.1, p.2)
    (sized_not _ _ _ _ _ _ c.measure_body-length.ensures c.in-Numbered.is c.number_line.ensures c.if-spot.true c.holds_zero-zero.ensures _ c.allow_line.ensures
    c.in_err-allow_line-in-Numbered.was)

pub returns-in_err-size_line-in-Numbered : goal.returns-in_err-size_line-in-Numbered
returns-in_err-size_line-in-Numbered c =
    let p = err_from_is_err_and c.from_residual-in_err-size_line-in-Numbered.result c.from_residual-in_err-size_line-in-Numbered.ensures.1 in
    rw (p.1, p.2)
    (sized_over _ _ _ _ _ _ c.measure_body-length.ensures c.in-Numbered.is c.number_line.ensures
    (elim c.if-spot.branch [
      | then-spot+in_ok-allow_line-in-Numbered w ↦
          says_allowed _ _ _ _ _ c.args.spot.address c.measure_body-length.ensures c.in-Numbered.is c.number_line.ensures w.if-spot.true w.holds_zero-zero.ensures _
          w.allow_line.ensures w.in_ok-allow_line-in-Numbered.was
      | else-spot w ↦ says_plain _ _ _ _ _ c.args.spot.address c.measure_body-length.ensures c.in-Numbered.is c.number_line.ensures w.if-spot.false
    ])
    c.in_err-size_line-in-Numbered.was c.size_line.ensures)

pub returns-in_ok-size_line-in-Numbered : goal.returns-in_ok-size_line-in-Numbered
returns-in_ok-size_line-in-Numbered c =
    sized_some _ _ _ _ _ _ c.measure_body-length.ensures c.in-Numbered.is c.number_line.ensures
    (elim c.if-spot.branch [
      | then-spot+in_ok-allow_line-in-Numbered w ↦
          says_allowed _ _ _ _ _ c.args.spot.address c.measure_body-length.ensures c.in-Numbered.is c.number_line.ensures w.if-spot.true w.holds_zero-zero.ensures _
          w.allow_line.ensures w.in_ok-allow_line-in-Numbered.was
      | else-spot w ↦ says_plain _ _ _ _ _ c.args.spot.address c.measure_body-length.ensures c.in-Numbered.is c.number_line.ensures w.if-spot.false
    ])
    c.in_ok-size_line-in-Numbered.was c.size_line.ensures
