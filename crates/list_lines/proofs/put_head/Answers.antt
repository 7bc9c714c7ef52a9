-- `list_lines::put_head` meets its contract: number and space, one behind the other.
-- Assumes nothing.
use native.Mathlib.Omega.{arith}
use Rattle.list_lines.proofs.Lining.{head_number, head_space, head_put}
use Rattle.list_lines.proofs.put_head.Goals as goal

pub put_decimal-space-requires : goal.put_decimal-space-requires
put_decimal-space-requires c = search head_number

pub bounds-out-space : goal.bounds-out-space
bounds-out-space c = search head_space

pub overflow_add-result : goal.overflow_add-result
overflow_add-result c = omega (arith, bounds-out-space c)

pub returns : goal.returns
returns c = search head_put
