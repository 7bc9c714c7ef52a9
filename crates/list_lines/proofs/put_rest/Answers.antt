-- `list_lines::put_rest` meets its contract: body and line end, one behind the other.
-- Assumes nothing.
use native.Mathlib.Omega.{arith}
use Rattle.list_lines.proofs.Lining.{rest_body, rest_end, rest_put}
use Rattle.list_lines.proofs.put_rest.Goals as goal

pub put_body-to-requires : goal.put_body-to-requires
put_body-to-requires c = search rest_body

pub bounds-out-to : goal.bounds-out-to
bounds-out-to c = search rest_end

pub overflow_add-result : goal.overflow_add-result
overflow_add-result c = omega (arith, bounds-out-to c)

pub returns : goal.returns
returns c = search rest_put
