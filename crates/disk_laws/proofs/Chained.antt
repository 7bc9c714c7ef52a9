-- The chains of all listed files: each file's chain, one after the other.
-- Assumes nothing.
use Prim.Native.Nat.{ℕ}
use mathlib.Core.Path.{◌≡◌, refl, ap, ◌∙◌}
use mathlib.Core.Bool.{Bool, true, ◌&&◌}
use mathlib.Core.List.{List, [], ◌∷◌, ◌++◌}
use Rattle.disk_rules.specs.Chains.{Chain}
use Rattle.disk_rules.specs.Entries.{chain_of, chains}
use Rattle.disk_rules.proofs.Counting.{and_left, and_right}

-- the sectors of each entry's chain, one after the other
unfoldable pub all_sectors : List ℕ → List ℕ → List ℕ
all_sectors d [] = []
all_sectors d (p ∷ l) = (chain_of d p).sectors ++ all_sectors d l

-- each entry's chain ends as it should
unfoldable pub AllEnd : List ℕ → List ℕ → Type 0
AllEnd d [] = Unit
AllEnd d (p ∷ l) = ((chain_of d p).ends ≡ true) × AllEnd d l

pub chains_all : (d l : List ℕ) → (chains d l).sectors ≡ all_sectors d l
unfolding chains all_sectors
chains_all d [] = refl
chains_all d (p ∷ l) = ap (λ (x : List ℕ). (chain_of d p).sectors ++ x) (chains_all d l)

pub chains_end : (d l : List ℕ) → (chains d l).ends ≡ true → AllEnd d l
unfolding chains AllEnd
chains_end d [] e = tt
chains_end d (p ∷ l) e = (and_left (chain_of d p).ends (chains d l).ends e, chains_end d l (and_right (chain_of d p).ends (chains d l).ends e))

pub chains_together : (d l : List ℕ) → AllEnd d l → chains d l ≡ record { sectors = all_sectors d l; ends = true }
unfolding chains all_sectors AllEnd
chains_together d [] e = refl
chains_together d (p ∷ l) e =
    ap (λ (x : Chain). record { sectors = (chain_of d p).sectors ++ x.sectors; ends = (chain_of d p).ends && x.ends }) (chains_together d l e.1)
    ∙ ap (λ (q : Bool). record { sectors = (chain_of d p).sectors ++ all_sectors d l; ends = q && true }) e.0
