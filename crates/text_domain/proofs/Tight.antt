-- How tight the promise of `check_text` is (document 01): any two results that meet it are equal. (The other promises of this crate are
-- equations of the result itself, or bounds.)
-- Assumes nothing.
use Prim.Native.Nat.{ℕ}
use mathlib.Core.Path.{◌≡◌}
use mathlib.Core.List.{List}
use Rattle.std.specs.Prelude.{Result}
use Rattle.base_refusals.specs.Answer.{answered}
use Rattle.base_refusals.specs.declared.Refusal.{Refusal}
use Rattle.base_refusals.proofs.Tight.{answered_tight}
use Rattle.text_domain.specs.Domain.{checked_text}

pub check_text_tight : (t : List ℕ) (r s : Result (Unit {0}) Refusal) → answered r ≡ checked_text t → answered s ≡ checked_text t → r ≡ s
check_text_tight t = answered_tight (checked_text t)
