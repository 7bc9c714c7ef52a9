-- Two results that show the same disk in the same buffer are equal.
-- Assumes nothing.
use Prim.Native.Nat.{ℕ}
use mathlib.Core.Path.{◌≡◌, sym, ap, ◌∙◌}
use mathlib.Core.Bool.{false≢true}
use mathlib.Core.List.{List}
use Rattle.base_refusals.proofs.Tight.{numbered_tight}
use Rattle.disk_directory.specs.Listing.{Shows}
use Rattle.std.specs.Prelude.{Result, Ok, Err}
use Rattle.base_refusals.specs.declared.Refusal.{Refusal}

pub shows_tight : (d out : List ℕ) (r s : Result ℕ Refusal) (b c : List ℕ) → Shows d out r b → Shows d out s c → (r ≡ s) × (b ≡ c)
shows_tight d out (Ok n) (Ok m) b c p q = (ap Ok (p.1.ends ∙ sym q.1.ends), p.1.stored ∙ sym q.1.stored)
shows_tight d out (Ok n) (Err y) b c p q = absurd (false≢true (sym q.0 ∙ p.0))
shows_tight d out (Err x) (Ok m) b c p q = absurd (false≢true (sym p.0 ∙ q.0))
shows_tight d out (Err x) (Err y) b c p q = (ap Err (numbered_tight x y (p.1 ∙ sym q.1)), p.2 ∙ sym q.2)
