-- `editor_strange_bytes::byte_at` meets its contract.
-- Assumes nothing.
use Rattle.std.proofs.Common.{ap, ◌∙◌, ℕ, arith}
use Rattle.std.specs.Prelude.{Option}
use Rattle.std.specs.Option.{unwrap_or}
use Rattle.editor_strange_bytes.proofs.Knowing.{copied_is}
use Rattle.editor_strange_bytes.proofs.byte_at.Goals as goal

pub returns : goal.returns
returns c = c.unwrap_or.ensures ∙ ap (λ (r : Option ℕ). unwrap_or r 0) (c.copied.ensures ∙ copied_is _) ∙ c.get.ensures.lookup.4 (omega arith) 0
