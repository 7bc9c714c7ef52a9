-- `base_ascii::search::starts_with` meets its contract.
-- Assumes nothing.
use borrow.Author.Tests.{le-ltb}
use mathlib.Core.Path.{◌∙◌}
use Rattle.base_ascii.proofs.Searching.{starts_none, starts_some}
use Rattle.base_ascii.proofs.search.starts_with.Goals as goal

pub returns-then-s-gt0 : goal.returns-then-s-gt0
returns-then-s-gt0 c = starts_some c.args.b c.args.s.now c.if-s-gt0.true

pub returns-else-s-gt0 : goal.returns-else-s-gt0
returns-else-s-gt0 c = le-ltb _ _ c.if-s-gt0.false ∙ starts_none c.args.b c.args.s.now c.if-s-gt0.false
