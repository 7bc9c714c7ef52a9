-- Two answers that meet the promise of `dialect_by_name` or of `dialect_by_number` are the same. (The other promises of this crate are
-- equations of the result itself.)
-- Assumes nothing.
use mathlib.Core.Path.{◌≡◌}
use Rattle.std.specs.Prelude.{Result}
use Rattle.base_refusals.specs.Answer.{Answer, answered}
use Rattle.base_refusals.specs.declared.Refusal.{Refusal}
use Rattle.base_refusals.proofs.Tight.{answered_tight}
use Rattle.word_dialects.specs.declared.Dialect.{Dialect}

pub named_tight : (a : Answer Dialect) (r s : Result Dialect Refusal) → answered r ≡ a → answered s ≡ a → r ≡ s
named_tight = answered_tight
