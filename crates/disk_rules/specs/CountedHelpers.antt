-- Chains with a count, as the code follows them into a log of so many sectors: one that goes on behind them does not end as it should. The directory's log has
-- 18, that of the files 683 in all. That this is the check, for any log that is long enough, is `sound_counted` (proofs/Counted.antt).
-- Assumes nothing.
use Rattle.std.specs.Prelude.{ℕ, ◌+◌, ◌-◌, Bool, true, false, cond, List, [], ◌∷◌, ◌++◌, length}
use Rattle.base_steps.specs.Again.{again}
use Rattle.disk_rules.specs.Links.{link_at}
use Rattle.disk_rules.specs.declared.Link.{Link}
use Rattle.disk_rules.specs.declared.Link.TheVariants.{Last, To, Astray}
use Rattle.disk_rules.specs.Chains.{Chain, broken_chain, chain_on}
use Rattle.disk_rules.specs.Entries.{entries_that}
use Rattle.disk_rules.specs.Check.{checked}

-- the chain from n on, of at most so many sectors
abbrev pub chain_within : Bool → ℕ → List ℕ → ℕ → Chain
chain_within dir k disk = again broken_chain (chain_on dir disk) k

abbrev pub chain_by_within : List ℕ → ℕ → Link → Chain
chain_by_within disk k (Last b) = broken_chain
chain_by_within disk k (To n) = chain_within false k disk n
chain_by_within disk k Astray = broken_chain

-- an entry's chain, of at most so many sectors
abbrev pub chain_of_within : ℕ → List ℕ → ℕ → Chain
chain_of_within k disk p = chain_by_within disk k (link_at disk (p + 1))

-- one chain and what f, told how many sectors it takes, meets behind it
abbrev pub chains_behind : Chain → (ℕ → Chain) → Chain
chains_behind c f = cond c.ends (record { sectors = c.sectors ++ (f (length c.sectors)).sectors; ends = (f (length c.sectors)).ends }) c

-- the chains of entries one after the other, of at most so many sectors in all
unfoldable pub chains_within : ℕ → List ℕ → List ℕ → Chain
unfolding again
chains_within k disk [] = record { sectors = []; ends = true }
chains_within k disk (p ∷ ps) = chains_behind (chain_of_within k disk p) (λ n. chains_within (k - n) disk ps)

-- the directory's chain, of at most so many sectors, and the entries listed there
unfoldable pub directory_within : ℕ → List ℕ → Chain
unfolding again
directory_within j disk = chain_within true j disk 358

abbrev pub listed_within : ℕ → List ℕ → List ℕ
listed_within j disk = entries_that true disk (directory_within j disk).sectors

-- the check, with a log for the directory and one for the files
unfoldable pub sound_within : ℕ → ℕ → List ℕ → Bool
unfolding directory_within chains_within
sound_within j k disk = checked disk (directory_within j disk) (chains_within k disk (listed_within j disk))
