-- Chains of sectors (docs/RULES.md, "Disks", "The check"). The directory's chain "stays on 18/1 to 18/18 until a link with track 00, whatever its second
-- byte"; a file's "stays on existing sectors off track 18 until a link with track 00 whose second byte is not 00".
-- Assumes nothing.
use Rattle.std.specs.Prelude.{ℕ, ◌*◌, Bool, true, false, cond, not, ◌&&◌, List, [], ◌∷◌, leb, ltb, eqb, length}
use Rattle.base_steps.specs.Again.{again}
use Rattle.disk_rules.specs.Places.{off_track18}
use Rattle.disk_rules.specs.Links.{link_at}
use Rattle.disk_rules.specs.declared.Link.{Link}
use Rattle.disk_rules.specs.declared.Link.TheVariants.{Last, To, Astray}

-- the sectors that are met, in order, and whether the chain ends as it should
pub record Chain : Type 0 where
  pub sectors : List ℕ
  pub ends : Bool

-- whether a chain, the directory's or a file's, may go over a sector
abbrev pub may_hold : Bool → ℕ → Bool
may_hold true n = leb 358 n && leb n 375
may_hold false n = ltb n 683 && off_track18 n

-- whether it may end with this second byte
abbrev pub may_end : Bool → ℕ → Bool
may_end true b = true
may_end false b = not (eqb b 0)

abbrev pub broken_chain : Chain
broken_chain = record { sectors = []; ends = false }

-- the sector n and what f meets from the one that its link leads to
abbrev pub chain_onward : Bool → ℕ → (ℕ → Chain) → Link → Chain
chain_onward dir n f (Last b) = record { sectors = n ∷ []; ends = may_end dir b }
chain_onward dir n f (To m) = record { sectors = n ∷ (f m).sectors; ends = (f m).ends }
chain_onward dir n f Astray = record { sectors = n ∷ []; ends = false }

abbrev pub chain_on : Bool → List ℕ → (ℕ → Chain) → ℕ → Chain
chain_on dir disk f n = cond (may_hold dir n) (chain_onward dir n f (link_at disk (256 * n))) broken_chain

-- the chain from n on. One that comes back to a sector goes on for ever, and does not end; so a step for each byte of the disk is more than any chain
-- that ends takes, and which number it is does not matter (`chain_any`, proofs/Ends.antt)
unfoldable pub chain : Bool → List ℕ → ℕ → Chain
unfolding again
chain dir disk n = again broken_chain (chain_on dir disk) (length disk) n
