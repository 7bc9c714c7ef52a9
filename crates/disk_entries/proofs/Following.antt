-- The chains of entries, one after the other: the loop's invariant, a turn, and its ends.
-- Assumes nothing.
use Prim.Native.Nat.{ℕ, suc, ◌+◌, ◌-◌, ◌≤◌, ◌<◌}
use mathlib.Core.Path.{◌≡◌, refl, sym, ap, ◌∙◌}
use mathlib.Core.Bool.{true, false, not}
use mathlib.Core.Logic.{◌⊎◌, inl, inr}
use mathlib.Core.List.{List, [], ◌++◌}
use lib.ListN.{length, get_or, drop, drop_of_length-le, length-append}
use lib.Seq.{sets, length-sets, drop-cons}
use native.Mathlib.Numerals.{add-one}
use native.Mathlib.Omega.{arith}
use borrow.Author.Tests.{not-true, not-false}
use Rattle.base_lent.proofs.Storing.{sets_append}
use Rattle.disk_rules.specs.Links.{link_at}
use Rattle.disk_rules.specs.declared.Link.{Link}
use Rattle.disk_rules.specs.declared.Link.TheVariants.{Last, To, Astray}
use Rattle.disk_rules.specs.Chains.{Chain, broken_chain}
use Rattle.disk_rules.specs.CountedHelpers.{chain_within, chain_by_within, chain_of_within, chains_behind, chains_within}
use Rattle.disk_chains.specs.ChainHelpers.{Traces}
use Rattle.disk_chains.specs.declared.Traced.{Traced}
use Rattle.disk_chains.proofs.Tracing.{Owes}
use Rattle.disk_entries.specs.EntryHelpers.{Entries}

-- ---- one entry

module _ (d log : List ℕ) (p at : ℕ) {l : Link} (e : l ≡ link_at d (p + 1)) where
  chained : {k : Link} → l ≡ k → chain_by_within d (length log - at) k ≡ chain_of_within (length log - at) d p
  chained {k} f = let g : k ≡ link_at d (p + 1) = sym f ∙ e in ap (chain_by_within d (length log - at)) g

  pub entry_to : {n : ℕ} {r : Traced} {after : List ℕ} → l ≡ To n → Traces (chain_within false (length log - at) d n) log at r after
      → Traces (chain_of_within (length log - at) d p) log at r after
  entry_to f t = rw (chained f) at t

  nothing : at ≤ length log → Traces broken_chain log at (record { to = at; ends = false }) log
  nothing h = record { to = omega arith; within = h; ends = refl; logged = refl }

  pub entry_none : ((b : ℕ) × (l ≡ Last b)) ⊎ (l ≡ Astray) → at ≤ length log → Traces (chain_of_within (length log - at) d p) log at (record { to = at; ends = false }) log
  entry_none (inl (b, f)) h = rw (chained f) at (nothing h)
  entry_none (inr f) h = rw (chained f) at (nothing h)

-- ---- all

pub record Following (d l log₀ log : List ℕ) (at i : ℕ) : Type 0 where
  pub within : at ≤ length log₀
  pub sized : length log ≡ length log₀
  pub entries : Entries l
  pub owes : Owes (chains_within (length log₀) d l) log₀ 0 (chains_within (length log₀ - at) d (drop i l)) log at

pub follow_start : (d : List ℕ) {l : List ℕ} (log : List ℕ) → Entries l → Following d l log log 0 0
follow_start d {l} log e =
    let z : length log - 0 ≡ length log = omega arith in
    record { within = omega arith; sized = refl; entries = e; owes = rw z (record { counts = refl; ends = refl; logs = refl }) }

module _ {d l log₀ log : List ℕ} {at i : ℕ} (f : Following d l log₀ log at i) where
  pub follow_room : i < length l → get_or l i 0 + 30 ≤ 174848
  follow_room h = f.entries.within i h

  pub follow_in : at ≤ length log
  follow_in = omega (arith, f.within, f.sized)

  pub follow_end : length l ≤ i → Traces (chains_within (length log₀) d l) log₀ 0 (record { to = at; ends = true }) log
  unfolding chains_within
  follow_end h =
      let o : Owes (chains_within (length log₀) d l) log₀ 0 (record { sectors = []; ends = true }) log at = rw (drop_of_length-le l {i = i} h) at f.owes in
      let m : at + 0 ≡ 0 + length (chains_within (length log₀) d l).sectors = o.counts in
      record { to = omega arith; within = f.within; ends = o.ends; logged = o.logs }

  module _ (h : i < length l) {r : Traced} {after : List ℕ} (t : Traces (chain_of_within (length log - at) d (get_or l i 0)) log at r after) where
    abbrev this : Chain
    this = chain_of_within (length log - at) d (get_or l i 0)

    -- what is owed, by whether this chain ends
    owed : Owes (chains_within (length log₀) d l) log₀ 0 (chains_behind this (λ n. chains_within (length log - at - n) d (drop (suc i) l))) log at
    unfolding chains_within
    owed = rw f.sized (rw (drop-cons l i 0 h) at f.owes)

    pub follow_broken : not r.ends ≡ true → Traces (chains_within (length log₀) d l) log₀ 0 r after
    follow_broken e =
        let b : this.ends ≡ false = sym t.ends ∙ not-true r.ends e in
        let o : Owes (chains_within (length log₀) d l) log₀ 0 this log at = simp b at owed in
        record {
          to = t.to ∙ o.counts;
          within = omega (arith, t.within, f.sized);
          ends = t.ends ∙ o.ends;
          logged = t.logged ∙ o.logs;
        }

    pub follow_turn : not r.ends ≡ false → Following d l log₀ after r.to (i + 1)
    follow_turn e =
        let b : this.ends ≡ true = sym t.ends ∙ not-false r.ends e in
        let k : length log - at - length this.sectors ≡ length log₀ - r.to = omega (arith, t.to, f.sized) in
        let rest : Chain = chains_within (length log₀ - r.to) d (drop (suc i) l) in
        let o : Owes (chains_within (length log₀) d l) log₀ 0 (record { sectors = this.sectors ++ rest.sectors; ends = rest.ends }) log at =
        rw k at (simp b at owed)
        in
        record {
          within = omega (arith, t.within, f.sized);
          sized = ap length t.logged ∙ length-sets log at this.sectors ∙ f.sized;
          entries = f.entries;
          owes =
              rw add-one
              (record {
                counts = omega (arith, o.counts, length-append this.sectors rest.sectors, t.to);
                ends = o.ends;
                logs =
                    ap (λ (b : List ℕ). sets b r.to rest.sectors) t.logged
                    ∙ ap (λ (k : ℕ). sets (sets log at this.sectors) k rest.sectors) t.to
                    ∙ sym (sets_append log at this.sectors rest.sectors)
                    ∙ o.logs;
              });
        }
