-- How tight the promise of `resolved_dialect` is (document 01): any two answers that meet it are equal.
-- Assumes nothing.
use Prim.Native.Nat.{ℕ}
use mathlib.Core.Path.{◌≡◌}
use mathlib.Core.List.{List}
use Rattle.base_refusals.specs.Answer.{answered}
use Rattle.base_refusals.proofs.Tight.{answered_tight}
use Rattle.word_dialects.specs.declared.Dialect.{Dialect}
use Rattle.guess.specs.Guess.{resolved}
use Rattle.std.specs.Prelude.{Result}
use Rattle.base_refusals.specs.declared.Refusal.{Refusal}

pub resolved_tight : (d : Dialect) (t : List ℕ) (r s : Result Dialect Refusal) → answered r ≡ resolved d t → answered s ≡ resolved d t → r ≡ s
resolved_tight d t = answered_tight (resolved d t)
