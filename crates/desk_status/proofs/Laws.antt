-- The worse of two is the greater by its number, and in which order several are joined does not matter: what files come to together does not hang
-- on their order, and no failure is forgotten.
-- Assumes nothing.
use Prim.Native.Nat.{ℕ, max, ◌≤◌, ◌<◌}
use mathlib.Core.Path.{◌≡◌, refl, sym, ap, ◌∙◌}
use mathlib.Core.Bool.{Bool, true, false, cond}
use mathlib.Core.List.{[], ◌∷◌}
use native.Mathlib.Nat.{max_comm}
use native.Mathlib.Omega.{arith}
use lib.Dec.{leb}
use lib.ListN.{get_or}
use borrow.Author.Tests.{leb-true, leb-false}
use Rattle.desk_status.specs.declared.Status.{Status}
use Rattle.desk_status.specs.declared.Status.TheVariants.{Done, Refused, Misused, Failed}
use Rattle.desk_status.specs.Status.{number, worst}

-- the status of a number
abbrev numbered : ℕ → Status
numbered n = get_or (Done ∷ Refused ∷ Misused ∷ []) n Failed

numbered_number : (a : Status) → numbered (number a) ≡ a
numbered_number Done = refl
numbered_number Refused = refl
numbered_number Misused = refl
numbered_number Failed = refl

-- the number tells the statuses apart
pub number_tight : (a b : Status) → number a ≡ number b → a ≡ b
number_tight a b e = sym (numbered_number a) ∙ ap numbered e ∙ numbered_number b

-- the maximum
pub worst_number : (a b : Status) → number (worst a b) ≡ max (number a) (number b)
worst_number a b = go (leb (number a) (number b)) refl
  where
    go : (t : Bool) → leb (number a) (number b) ≡ t → number (cond t b a) ≡ max (number a) (number b)
    go true e = let h : number a ≤ number b = leb-true _ _ e in omega arith
    go false e = let h : number b < number a = leb-false _ _ e in omega arith

pub worst_either_way : (a b : Status) → worst a b ≡ worst b a
worst_either_way a b = number_tight _ _ (worst_number a b ∙ max_comm _ _ ∙ sym (worst_number b a))

pub worst_in_any_order : (a b c : Status) → worst (worst a b) c ≡ worst a (worst b c)
worst_in_any_order a b c =
    number_tight _ _ (omega (arith, worst_number a b, worst_number (worst a b) c, worst_number b c, worst_number a (worst b c)))

pub worst_of_one : (a : Status) → worst a a ≡ a
worst_of_one a = number_tight _ _ (omega (arith, worst_number a a))

pub number_small : (a : Status) → number a ≤ 3
number_small Done = omega arith
number_small Refused = omega arith
number_small Misused = omega arith
number_small Failed = omega arith
