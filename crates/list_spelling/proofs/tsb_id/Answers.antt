-- `list_spelling::tsb_id` meets its contract.
-- Assumes nothing.
use borrow.Author.Tests.{ne_eqb}
use Rattle.word_tables.specs.Tsb.{tsb_id}
use Rattle.list_spelling.proofs.tsb_id.Goals as goal

pub returns-in-177 : goal.returns-in-177
unfolding tsb_id
returns-in-177 c = rw c.in-177.is

pub returns-in-178 : goal.returns-in-178
unfolding tsb_id
returns-in-178 c = rw c.in-178.is

pub returns-in-179 : goal.returns-in-179
unfolding tsb_id
returns-in-179 c = rw c.in-179.is

pub returns-in_default : goal.returns-in_default
unfolding tsb_id
returns-in_default c = simp (ne_eqb _ _ c.in_default.in_default-own.rest.0.0.1, ne_eqb _ _ c.in_default.in_default-own.rest.0.1, ne_eqb _ _ c.in_default.in_default-own.rest.1)
