-- A chain that ends meets no sector twice, since a second time it would go on as it did the first: so it has no more sectors than there are for it, 18 in the
-- directory and 683 for a file, and with every count that is no less it is the same.
-- Assumes nothing.
use Prim.Native.Nat.{ℕ, zero, suc, ◌+◌, ◌*◌, ◌≤◌, ◌<◌}
use mathlib.Core.Path.{◌≡◌, refl, sym, ap, ◌∙◌}
use mathlib.Core.Bool.{Bool, true, false, cond, ◌||◌}
use mathlib.Core.List.{List, ◌∷◌}
use lib.Dec.{eqb, leb, ltb}
use lib.ListN.{length}
use native.Mathlib.Decide.{dec_lt}
use native.Mathlib.Omega.{arith}
use borrow.Author.Tests.{eqb-true, leb-true, ltb-true}
use Rattle.base_steps.specs.Again.{again}
use Rattle.disk_rules.specs.Places.{off_track18}
use Rattle.disk_rules.specs.Lists.{some, is_in, none_twice}
use Rattle.disk_rules.specs.Links.{link_at}
use Rattle.disk_rules.specs.declared.Link.{Link}
use Rattle.disk_rules.specs.declared.Link.TheVariants.{Last, To, Astray}
use Rattle.disk_rules.specs.Chains.{Chain, chain, broken_chain, may_hold, chain_onward}
use Rattle.disk_rules.specs.CountedHelpers.{chain_within}
use Rattle.disk_rules.proofs.Counting.{never, and_left, and_right, run_few}

-- a chain that ends is the same wherever it is let have its sectors
pub chain_let : (dir : Bool) (k j : ℕ) (d : List ℕ) (n : ℕ) → (chain_within dir k d n).ends ≡ true → length (chain_within dir k d n).sectors ≤ j
    → chain_within dir j d n ≡ chain_within dir k d n
unfolding again
chain_let dir zero j d n e h = never e
chain_let dir (suc k) zero d n e h = go (may_hold dir n) (link_at d (256 * n)) e h where
  go : (q : Bool) (l : Link) → (cond q (chain_onward dir n (chain_within dir k d) l) broken_chain).ends ≡ true → length (cond q (chain_onward dir n (chain_within dir k d) l) broken_chain).sectors ≤ 0
      → broken_chain ≡ cond q (chain_onward dir n (chain_within dir k d) l) broken_chain
  go false l f g = refl
  go true (Last b) f g = absurd (omega arith)
  go true (To m) f g = absurd (omega arith)
  go true Astray f g = absurd (omega arith)
chain_let dir (suc k) (suc j) d n e h = go (may_hold dir n) (link_at d (256 * n)) (chain_let dir k j d) e h where
  go : (q : Bool) (l : Link)
      → ((m : ℕ) → (chain_within dir k d m).ends ≡ true → length (chain_within dir k d m).sectors ≤ j → chain_within dir j d m ≡ chain_within dir k d m)
      → (cond q (chain_onward dir n (chain_within dir k d) l) broken_chain).ends ≡ true → length (cond q (chain_onward dir n (chain_within dir k d) l) broken_chain).sectors ≤ suc j
      → cond q (chain_onward dir n (chain_within dir j d) l) broken_chain ≡ cond q (chain_onward dir n (chain_within dir k d) l) broken_chain
  go false l i f g = refl
  go true (Last b) i f g = refl
  go true (To m) i f g = ap (λ (c : Chain). record { sectors = n ∷ c.sectors; ends = c.ends }) (i m f (omega arith))
  go true Astray i f g = refl

-- no chain has more sectors than it is let have
pub chain_few : (dir : Bool) (k : ℕ) (d : List ℕ) (n : ℕ) → length (chain_within dir k d n).sectors ≤ k
unfolding again
chain_few dir zero d n = omega arith
chain_few dir (suc k) d n = go (may_hold dir n) (link_at d (256 * n)) (chain_few dir k d) where
  go : (q : Bool) (l : Link) → ((m : ℕ) → length (chain_within dir k d m).sectors ≤ k)
      → length (cond q (chain_onward dir n (chain_within dir k d) l) broken_chain).sectors ≤ suc k
  go false l i = omega arith
  go true (Last b) i = omega arith
  go true (To m) i = omega (arith, i m)
  go true Astray i = omega arith

-- it goes over sectors that it may hold
pub chain_held : (dir : Bool) (k : ℕ) (d : List ℕ) (n m : ℕ) → is_in (chain_within dir k d n).sectors m ≡ true → may_hold dir m ≡ true
unfolding again some
chain_held dir zero d n m e = never e
chain_held dir (suc k) d n m e = go (may_hold dir n) refl (link_at d (256 * n)) (λ x. chain_held dir k d x m) e where
  head : (r : Bool) → may_hold dir n ≡ true → (r ≡ true → may_hold dir m ≡ true) → (q : Bool) → eqb m n ≡ q → (q || r) ≡ true → may_hold dir m ≡ true
  head r f g true h i = rw (eqb-true m n h) f
  head r f g false h i = g i

  go : (q : Bool) → may_hold dir n ≡ q → (l : Link) → ((x : ℕ) → is_in (chain_within dir k d x).sectors m ≡ true → may_hold dir m ≡ true)
      → is_in (cond q (chain_onward dir n (chain_within dir k d) l) broken_chain).sectors m ≡ true → may_hold dir m ≡ true
  go false f l g h = never h
  go true f (Last b) g h = head false f never (eqb m n) refl h
  go true f (To x) g h = head (is_in (chain_within dir k d x).sectors m) f (g x) (eqb m n) refl h
  go true f Astray g h = head false f never (eqb m n) refl h

module _ (dir : Bool) (d : List ℕ) where
  -- two counts with which it ends
  ended_same : (k j n : ℕ) → (chain_within dir k d n).ends ≡ true → (chain_within dir j d n).ends ≡ true → chain_within dir j d n ≡ chain_within dir k d n
  ended_same k j n e f = go (dec_lt k j) where
    go : Dec (k < j) → chain_within dir j d n ≡ chain_within dir k d n
    go (yes h) = chain_let dir k j d n e (omega (arith, chain_few dir k d n))
    go (no h) = sym (chain_let dir j k d n f (omega (arith, chain_few dir j d n)))

  -- the chain from m on ends, with some count, and has no more than so many sectors
  record Later (m most : ℕ) : Type 0 where
    count : ℕ
    ends : (chain_within dir count d m).ends ≡ true
    few : length (chain_within dir count d m).sectors ≤ most

  -- so does a chain that ends from each of its sectors on
  later : (k n m : ℕ) → (chain_within dir k d n).ends ≡ true → is_in (chain_within dir k d n).sectors m ≡ true → Later m (length (chain_within dir k d n).sectors)
  unfolding again some
  later zero n m e i = never e
  later (suc k) n m e i = own (λ x. later k x m) (eqb m n) refl where
    on : (q : Bool) (l : Link) → eqb m n ≡ false
        → ((x : ℕ) → (chain_within dir k d x).ends ≡ true → is_in (chain_within dir k d x).sectors m ≡ true → Later m (length (chain_within dir k d x).sectors))
        → (cond q (chain_onward dir n (chain_within dir k d) l) broken_chain).ends ≡ true → is_in (cond q (chain_onward dir n (chain_within dir k d) l) broken_chain).sectors m ≡ true
        → Later m (length (cond q (chain_onward dir n (chain_within dir k d) l) broken_chain).sectors)
    on false l f c a b = never a
    on true (Last y) f c a b = never (rw f at b)
    on true (To x) f c a b =
        let r : Later m (length (chain_within dir k d x).sectors) = c x a (rw f at b) in
        record { count = r.count; ends = r.ends; few = omega (arith, r.few) }
    on true Astray f c a b = never a

    own : ((x : ℕ) → (chain_within dir k d x).ends ≡ true → is_in (chain_within dir k d x).sectors m ≡ true → Later m (length (chain_within dir k d x).sectors))
        → (q : Bool) → eqb m n ≡ q → Later m (length (chain_within dir (suc k) d n).sectors)
    own c true f =
        let z : m ≡ n = eqb-true m n f in
        record {
          count = suc k;
          ends = ap (λ (x : ℕ). (chain_within dir (suc k) d x).ends) z ∙ e;
          few = let y : length (chain_within dir (suc k) d m).sectors ≡ length (chain_within dir (suc k) d n).sectors = ap (λ (x : ℕ). length (chain_within dir (suc k) d x).sectors) z in omega arith;
        }
    own c false f = on (may_hold dir n) (link_at d (256 * n)) f c e i

  -- "no sector is met twice": not in a chain that ends
  pub ends_once : (k n : ℕ) → (chain_within dir k d n).ends ≡ true → none_twice (chain_within dir k d n).sectors ≡ true
  unfolding again none_twice some
  ends_once zero n e = never e
  ends_once (suc k) n e = go (may_hold dir n) (link_at d (256 * n)) refl refl (ends_once k) e where
    go : (q : Bool) (l : Link) → may_hold dir n ≡ q → link_at d (256 * n) ≡ l → ((x : ℕ) → (chain_within dir k d x).ends ≡ true → none_twice (chain_within dir k d x).sectors ≡ true)
        → (cond q (chain_onward dir n (chain_within dir k d) l) broken_chain).ends ≡ true → none_twice (cond q (chain_onward dir n (chain_within dir k d) l) broken_chain).sectors ≡ true
    go false l a b c f = never f
    go true (Last y) a b c f = refl
    go true (To x) a b c f = rw (out (is_in (chain_within dir k d x).sectors n) refl) (c x f) where
      this : chain_within dir (suc k) d n ≡ record { sectors = n ∷ (chain_within dir k d x).sectors; ends = (chain_within dir k d x).ends }
      this = ap (λ (q : Bool). cond q (chain_onward dir n (chain_within dir k d) (link_at d (256 * n))) broken_chain) a ∙ ap (chain_onward dir n (chain_within dir k d)) b

      out : (q : Bool) → is_in (chain_within dir k d x).sectors n ≡ q → is_in (chain_within dir k d x).sectors n ≡ false
      out false g = g
      out true g =
          let r : Later n (length (chain_within dir k d x).sectors) = later k x n f g in
          let z : chain_within dir r.count d n ≡ chain_within dir (suc k) d n = ended_same (suc k) r.count n e r.ends in
          let y : length (chain_within dir r.count d n).sectors ≡ suc (length (chain_within dir k d x).sectors) = ap (λ (c : Chain). length c.sectors) (z ∙ this) in
          absurd (omega (arith, r.few))
    go true Astray a b c f = never f

-- the sectors there are for a chain: so many from one on
abbrev first : Bool → ℕ
first true = 358
first false = 0

abbrev pub most : Bool → ℕ
most true = 18
most false = 683

pub in_run : (dir : Bool) (m : ℕ) → may_hold dir m ≡ true → (first dir ≤ m) × (m < first dir + most dir)
in_run true m e = (leb-true 358 m (and_left (leb 358 m) (leb m 375) e), let h : m ≤ 375 = leb-true m 375 (and_right (leb 358 m) (leb m 375) e) in omega arith)
in_run false m e = (omega arith, ltb-true m 683 (and_left (ltb m 683) (off_track18 m) e))

module _ (dir : Bool) (d : List ℕ) (n : ℕ) where
  -- where a chain ends for any count, it ends within 18 sectors of the directory, or 683 for a file
  pub ends_soon : (k : ℕ) → (chain_within dir k d n).ends ≡ true → length (chain_within dir k d n).sectors ≤ most dir
  ends_soon k e = run_few (chain_within dir k d n).sectors (first dir) (most dir) (ends_once dir d k n e) (λ m i. in_run dir m (chain_held dir k d n m i))

  pub ends_within : (k j : ℕ) → (chain_within dir k d n).ends ≡ true → most dir ≤ j → chain_within dir j d n ≡ chain_within dir k d n
  ends_within k j e h = chain_let dir k j d n e (omega (arith, ends_soon k e))

  -- the count of `chain` hides nothing: on a disk, a chain that ends with any count is that chain
  pub chain_any : (k : ℕ) → length d ≡ 174848 → (chain_within dir k d n).ends ≡ true → chain dir d n ≡ chain_within dir k d n
  unfolding chain
  chain_any k l e = ends_within k (length d) e (room dir) where
    room : (q : Bool) → most q ≤ length d
    room true = omega arith
    room false = omega arith

  -- and so it is with any count that is no less than the sectors there are
  pub chain_counted : (j : ℕ) → (chain dir d n).ends ≡ true → most dir ≤ j → chain_within dir j d n ≡ chain dir d n
  unfolding chain
  chain_counted j e h = ends_within (length d) j e h
