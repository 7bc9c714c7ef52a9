-- How tight the promise is (document 01): any two results that meet it are equal.
-- Assumes nothing.
use Prim.Native.Nat.{ℕ}
use mathlib.Core.Path.{◌≡◌, sym, ◌∙◌}
use mathlib.Core.List.{List}
use Rattle.image_units.specs.declared.Mode.{Mode}
use Rattle.image_units.specs.declared.Rules.{Rules}
use Rattle.image_units.specs.declared.Taken.{Taken}
use Rattle.image_units.specs.Units.{unit_at}

-- `unit_at`
pub unit_tight : (rules : Rules) (mode : Mode) (b : ℕ) (rest : List ℕ) (t u : Taken) → t ≡ unit_at rules mode b rest → u ≡ unit_at rules mode b rest → t ≡ u
unit_tight rules mode b rest t u d e = d ∙ sym e
