-- For the helpers that put a text together, and for no promise of a public call.
-- Assumes nothing.
use Rattle.std.specs.Prelude.{ℕ, ◌+◌, ◌*◌, ◌≤◌, ◌≡◌, List, [], ◌∷◌, ◌++◌, length}
use Rattle.base_refusals.specs.Answer.{Answer, done, refused}
use Rattle.base_lent.specs.Stores.{Put}

-- a part was added, and it is not long
pub record Adds (buffer : List ℕ) (at : ℕ) (text : List ℕ) (behind : ℕ) (after : List ℕ) : Type 0 where
  pub put : Put buffer at text behind after
  pub near : behind ≤ at + 2560

-- the same with an end of a row
pub record AddsTwo (buffer : List ℕ) (at : ℕ) (text : List ℕ) (behind : ℕ) (after : List ℕ) : Type 0 where
  pub put : Put buffer at (text ++ (0x0A ∷ [])) behind after
  pub near : behind ≤ at + 5120

-- so many parts
pub record AddsMany (count : ℕ) (buffer : List ℕ) (at : ℕ) (text : List ℕ) (behind : ℕ) (after : List ℕ) : Type 0 where
  pub put : Put buffer at text behind after
  pub near : behind ≤ at + 2560 * count

-- where there is a text, it was stored from the start on
pub record Stores (a : Answer (List ℕ)) (buffer : List ℕ) (behind : ℕ) (after : List ℕ) : Type 0 where
  pub stores : (text : List ℕ) → a ≡ done text → Put buffer 0 text behind after
  pub sized : length after ≡ length buffer

-- there is a text
abbrev pub IsText : Answer (List ℕ) → Type 0
IsText (done text) = Unit {0}
IsText (refused n) = ⊥
