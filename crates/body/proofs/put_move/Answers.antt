-- `body::put_move` meets its contract.
-- Assumes nothing.
use native.Mathlib.Omega.{arith}
use Rattle.body.proofs.Writing.{move_prefix, move_rest, move_put, one_room, one_put}
use Rattle.body.proofs.put_move.Goals as goal

pub put_prefix-from-requires : goal.put_prefix-from-requires
put_prefix-from-requires c = search move_prefix

pub bounds-out-from : goal.bounds-out-from
bounds-out-from c = search one_room

pub overflow_add-result : goal.overflow_add-result
overflow_add-result c = omega (arith, bounds-out-from c)

pub returns-then-m-eq1 : goal.returns-then-m-eq1
returns-then-m-eq1 c = search one_put

pub fill-requires : goal.fill-requires
fill-requires c = search move_rest

pub returns : goal.returns
returns c = search move_put
