-- When a search gives 19 (document 02, No. 4: "19 LimitReached, given exactly when that many headers were visited without a match and the end
-- marker isn't next").
-- Assumes nothing.
use Rattle.std.specs.Prelude.{ℕ, ◌≤◌, ◌≡◌, List, length}
use Rattle.base_steps.specs.Each.{Each}
use Rattle.base_refusals.specs.Answer.{done}
use Rattle.image_readers.specs.declared.Line.{Line}
use Rattle.image_readers.specs.Chain.{Chain}
use Rattle.image_readers.specs.Links.{link_step}
use Rattle.std.specs.Prelude.{None}

-- neither 7 nor 8; the first `limit` lines that the links lead to, none with the number; and what stands next is not the end marker
pub record LimitMet (number limit : ℕ) (s : List ℕ) : Type 0 where
  pub few : length s ≤ 1048576
  pub some : 2 ≤ length s
  pub visited : List Line
  pub next : ℕ
  pub lead : Chain (link_step s) 2 visited next
  pub many : length visited ≡ limit
  pub others : Each (λ l. l.number ≡ number → ⊥) visited
  pub more : link_step s next ≡ done None → ⊥
