-- Following a chain: its loop's invariant, a turn, and its ends.
-- Assumes nothing.
use Prim.Native.Nat.{ℕ, suc, ◌+◌, ◌-◌, ◌*◌, ◌≤◌, ◌<◌}
use mathlib.Core.Path.{◌≡◌, refl, sym, ◌∙◌}
use mathlib.Core.Bool.{Bool, true, false, not, ◌&&◌}
use mathlib.Core.List.{List, [], ◌∷◌}
use lib.Dec.{leb, ltb}
use lib.ListN.{length, set, length-set}
use lib.Seq.{sets}
use native.Mathlib.Numerals.{add-one}
use native.Mathlib.Omega.{arith}
use mir.Val.{Fits}
use mir.Syntax.{w64}
use borrow.Author.Tests.{leb-true, ltb-true, not-true, not-false}
use Rattle.base_steps.specs.Again.{again}
use Rattle.disk_rules.specs.Links.{link_at}
use Rattle.disk_rules.specs.Chains.{Chain, may_hold, may_end, chain_onward}
use Rattle.disk_rules.specs.CountedHelpers.{chain_within}
use Rattle.disk_rules.specs.declared.Link.{Link}
use Rattle.disk_rules.specs.declared.Link.TheVariants.{Last, To, Astray}
use Rattle.disk_chains.specs.ChainHelpers.{Traces}
use Rattle.disk_chains.specs.declared.Traced.{Traced}

and_left : (a b : Bool) → (a && b) ≡ true → a ≡ true
and_left true b e = refl
and_left false b e = e

and_right : (a b : Bool) → (a && b) ≡ true → b ≡ true
and_right true b e = e
and_right false b e = let z : ◌≡◌ {A = Bool} false true = e in absurd (let y : ◌≡◌ {A = ℕ} 0 1 = cc in omega arith)

-- ---- where a chain may go

pub held_below : (dir : Bool) (n : ℕ) → may_hold dir n ≡ true → n < 683
held_below true n e = let h : n ≤ 375 = leb-true n 375 (and_right (leb 358 n) (leb n 375) e) in omega arith
held_below false n e = ltb-true n 683 (and_left (ltb n 683) _ e)

-- ---- the loop

-- of a chain that is to be logged from a place on, what is left, and the log so far
pub record Owes (c : Chain) (log₀ : List ℕ) (at : ℕ) (x : Chain) (log : List ℕ) (to : ℕ) : Type 0 where
  pub counts : to + length x.sectors ≡ at + length c.sectors
  pub ends : x.ends ≡ c.ends
  pub logs : sets log to x.sectors ≡ sets log₀ at c.sectors

pub record Tracing (dir : Bool) (d : List ℕ) (c : Chain) (log₀ : List ℕ) (at : ℕ) (log : List ℕ) (n to : ℕ) : Type 0 where
  pub size : length d ≡ 174848
  pub sized : length log ≡ length log₀
  pub within : to ≤ length log₀
  pub owes : Owes c log₀ at (chain_within dir (length log₀ - to) d n) log to

pub trace_start : (dir : Bool) (d log : List ℕ) (at n : ℕ) → length d ≡ 174848 → at ≤ length log
    → Tracing dir d (chain_within dir (length log - at) d n) log at log n at
trace_start dir d log at n e h =
    record { size = e; sized = refl; within = h; owes = record { counts = refl; ends = refl; logs = refl } }

module _ {c : Chain} {log₀ : List ℕ} {at : ℕ} {log : List ℕ} {to : ℕ} where
  -- nothing is left
  owes_none : {e : Bool} → to ≤ length log₀ → Owes c log₀ at (record { sectors = []; ends = e }) log to
      → Traces c log₀ at (record { to = to; ends = e }) log
  owes_none h o =
      record { to = let e : to + 0 ≡ at + length c.sectors = o.counts in omega arith; within = h; ends = o.ends; logged = o.logs }

  -- a sector is logged
  owes_one : {n : ℕ} {x : Chain} → Owes c log₀ at (record { sectors = n ∷ x.sectors; ends = x.ends }) log to
      → Owes c log₀ at x (set log to n) (to + 1)
  owes_one {n} {x} o =
      record {
        counts = let e : to + suc (length x.sectors) ≡ at + length c.sectors = o.counts in omega arith;
        ends = o.ends;
        logs = rw add-one o.logs;
      }

module _ {dir : Bool} {d : List ℕ} {c : Chain} {log₀ : List ℕ} {at : ℕ} {log : List ℕ} {n to : ℕ} (t : Tracing dir d c log₀ at log n to) where
  abbrev traced : Bool → Traced
  traced e = record { to = to; ends = e }

  one_more : to < length log₀ → length log₀ - to ≡ suc (length log₀ - (to + 1))
  one_more h = omega (arith, t.sized)

  -- the log is full
  pub trace_full : length log₀ ≤ to → Traces c log₀ at (record { to = length log; ends = false }) log
  unfolding again
  trace_full h =
      let z : length log₀ - to ≡ 0 = omega arith in
      let e : to ≡ length log = omega (arith, t.sized, t.within) in
      rw (← e) (owes_none t.within (rw z at t.owes))

  pub trace_not : {r : Bool} → to < length log₀ → not r ≡ true → r ≡ may_hold dir n → Traces c log₀ at (record { to = to; ends = false }) log
  unfolding again
  trace_not {r} h e g =
      let m : may_hold dir n ≡ false = sym g ∙ not-true r e in
      owes_none t.within (simp m at (rw (one_more h) at t.owes))

  module _ {r : Bool} (h : to < length log₀) (e : not r ≡ false) (g : r ≡ may_hold dir n) where
    held : may_hold dir n ≡ true
    held = sym g ∙ not-false r e

    pub trace_fits : Fits w64 (256 * n)
    trace_fits = let b : n < 683 = held_below dir n held in omega arith

    pub trace_room : 256 * n + 1 < length d
    trace_room = let b : n < 683 = held_below dir n held in omega (arith, t.size)

    module _ {l : Link} (f : l ≡ link_at d (256 * n)) where
      -- what is owed, by the sector's link
      linked : {k : Link} → l ≡ k → Owes c log₀ at (chain_onward dir n (chain_within dir (length log₀ - (to + 1)) d) k) log to
      unfolding again
      linked {k} i =
          let m : link_at d (256 * n) ≡ k = sym f ∙ i in
          rw m at (simp held at (rw (one_more h) at t.owes))

      pub trace_last : {b : ℕ} {q : Bool} → l ≡ Last b → q ≡ may_end dir b → Traces c log₀ at (record { to = to + 1; ends = q }) (set log to n)
      trace_last {b} {q} i j =
          rw j (owes_none (omega (arith, t.sized)) (owes_one {x = record { sectors = []; ends = may_end dir b }} (linked i)))

      pub trace_astray : l ≡ Astray → Traces c log₀ at (record { to = to + 1; ends = false }) (set log to n)
      trace_astray i = owes_none (omega (arith, t.sized)) (owes_one {x = record { sectors = []; ends = false }} (linked i))

      pub trace_turn : {m : ℕ} → l ≡ To m → Tracing dir d c log₀ at (set log to n) m (to + 1)
      trace_turn {m} i =
          record {
            size = t.size;
            sized = length-set log to n ∙ t.sized;
            within = omega (arith, t.sized);
            owes = owes_one {x = chain_within dir (length log₀ - (to + 1)) d m} (linked i);
          }
