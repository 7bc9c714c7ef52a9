-- A way that ends as it should is the chain (disk_rules), and a chain that ends is the way. The steps are over chains with a count (CountedHelpers).
-- Assumes nothing.
use Prim.Native.Nat.{ℕ, zero, suc, ◌+◌, ◌*◌, ◌≤◌}
use mathlib.Core.Path.{◌≡◌, refl, sym, ap, subst, ◌∙◌}
use mathlib.Core.Bool.{Bool, true, false, not, cond, ◌&&◌, ◌||◌, and-false}
use mathlib.Core.List.{List, [], ◌∷◌}
use lib.Dec.{eqb}
use lib.ListN.{length}
use native.Mathlib.Omega.{arith}
use borrow.Author.Tests.{eqb-true, eq-eqb}
use Rattle.base_steps.specs.Again.{again}
use Rattle.disk_rules.specs.Lists.{some, is_in, none_twice}
use Rattle.disk_rules.specs.Links.{link_on, link_to, link_at}
use Rattle.disk_rules.specs.declared.Link.{Link}
use Rattle.disk_rules.specs.declared.Link.TheVariants.{Last, To, Astray as NoSector}
use Rattle.disk_rules.specs.Chains.{Chain, chain, broken_chain, chain_onward, may_hold, may_end}
use Rattle.disk_rules.specs.CountedHelpers.{chain_within}
use Rattle.disk_rules.specs.Entries.{chain_by, chain_of}
use Rattle.disk_rules.proofs.Counting.{never}
use Rattle.disk_rules.proofs.Ends.{ends_once, most, chain_any, chain_counted}
use Rattle.disk_ways.specs.Ways.{tracks_over, may_go, link_there, Way, stopped, refused_at, way_onward, way, way_by, way_of, ends_as}
use Rattle.disk_ways.specs.declared.Over.{Over}
use Rattle.disk_ways.specs.declared.Stop.TheVariants.{Ended, Barred, Again}

-- what a way with one sector more has not met
or_false : (a b : Bool) → (a || b) ≡ false → (a ≡ false) × (b ≡ false)
or_false true b e = never (sym e)
or_false false b e = (refl, e)

and_split : (a b : Bool) → (not a && b) ≡ true → (a ≡ false) × (b ≡ true)
and_split false b e = (refl, e)
and_split true b e = never e

-- a way over 35 tracks has the links of `Links`
module _ (over : Over) (tr : tracks_over over ≡ 35) (d : List ℕ) where
  pub link_same : (at : ℕ) → link_there over d at ≡ link_at d at
  unfolding link_on link_to
  link_same at = rw tr

  module _ (k : ℕ) (met : ℕ → Bool) (n : ℕ) where
    step : may_go over n ≡ true → met n ≡ false → way over (suc k) d met n ≡ way_onward d n (way over k d (λ m. eqb m n || met m)) (link_at d (256 * n))
    unfolding way
    step e f = rw (e, f, link_same (256 * n))

    halt : (may_go over n && not (met n)) ≡ false → way over (suc k) d met n ≡ stopped (refused_at over n)
    unfolding way
    halt e = rw e

-- no way that is refused at a sector ends
refused_not : (dir : Bool) (over : Over) (n : ℕ) → ends_as dir (refused_at over n) ≡ false
refused_not dir over n = go (may_go over n) where
  go : (q : Bool) → ends_as dir (cond q (Again n) (Barred n)) ≡ false
  go true = refl
  go false = refl

-- ---- a way that ends is the chain

pub record Chained (dir : Bool) (met : ℕ → Bool) (w : Way) (c : Chain) : Type 0 where
  pub same : c ≡ record { sectors = w.sectors; ends = true }
  pub once : none_twice w.sectors ≡ true
  pub apart : (m : ℕ) → is_in w.sectors m ≡ true → met m ≡ false

module _ (dir : Bool) (over : Over) (tr : tracks_over over ≡ 35) (may : (n : ℕ) → may_go over n ≡ may_hold dir n) (d : List ℕ) where
  chain_step : (k n : ℕ) → may_hold dir n ≡ true → chain_within dir (suc k) d n ≡ chain_onward dir n (chain_within dir k d) (link_at d (256 * n))
  unfolding again
  chain_step k n e = rw e

  module _ (k : ℕ) (met : ℕ → Bool) (n : ℕ) (f : met n ≡ false) where
    last_chained : (b : ℕ) → may_end dir b ≡ true → Chained dir met (record { sectors = n ∷ []; stop = Ended n b }) (chain_onward dir n (chain_within dir k d) (Last b))
    unfolding none_twice some
    last_chained b e = record { same = rw e; once = refl; apart = λ m i. go m (eqb m n) refl i } where
      go : (m : ℕ) (q : Bool) → eqb m n ≡ q → (q || false) ≡ true → met m ≡ false
      go m true g i = rw (eqb-true m n g) f
      go m false g i = never i

    to_chained : (w : Way) (m : ℕ) → Chained dir (λ j. eqb j n || met j) w (chain_within dir k d m)
        → Chained dir met (record { sectors = n ∷ w.sectors; stop = w.stop }) (chain_onward dir n (chain_within dir k d) (To m))
    unfolding none_twice some
    to_chained w m r =
        record {
          same = ap (λ (c : Chain). record { sectors = n ∷ c.sectors; ends = c.ends }) r.same;
          once = go (is_in w.sectors n) refl;
          apart = λ j i. by j (eqb j n) refl i (r.apart j);
        } where
          go : (q : Bool) → is_in w.sectors n ≡ q → (not q && none_twice w.sectors) ≡ true
          go false g = r.once
          go true g = never (sym (or_false (eqb n n) (met n) (r.apart n g)).0 ∙ eq-eqb n n refl)

          by : (j : ℕ) (q : Bool) → eqb j n ≡ q → (q || is_in w.sectors j) ≡ true → (is_in w.sectors j ≡ true → (eqb j n || met j) ≡ false) → met j ≡ false
          by j true g i x = rw (eqb-true j n g) f
          by j false g i x = (or_false (eqb j n) (met j) (x i)).1

  within_chained : (k : ℕ) (met : ℕ → Bool) (n : ℕ) → ends_as dir (way over k d met n).stop ≡ true → Chained dir met (way over k d met n) (chain_within dir k d n)
  unfolding way
  within_chained zero met n e = never (sym (refused_not dir over n) ∙ e)
  within_chained (suc k) met n e = go (may_hold dir n) refl (met n) refl (within_chained k (λ j. eqb j n || met j)) where
    rest : ℕ → Way
    rest = way over k d (λ j. eqb j n || met j)

    halted : (may_go over n && not (met n)) ≡ false → ends_as dir (way over (suc k) d met n).stop ≡ false
    halted h = ap (λ (w : Way). ends_as dir w.stop) (halt over tr d k met n h) ∙ refused_not dir over n

    by : met n ≡ false → (l : Link) → ((m : ℕ) → ends_as dir (rest m).stop ≡ true → Chained dir (λ j. eqb j n || met j) (rest m) (chain_within dir k d m))
        → ends_as dir (way_onward d n rest l).stop ≡ true → Chained dir met (way_onward d n rest l) (chain_onward dir n (chain_within dir k d) l)
    by f (Last b) x g = last_chained k met n f b g
    by f (To m) x g = to_chained k met n f (rest m) m (x m g)
    by f NoSector x g = never g

    go : (q : Bool) → may_hold dir n ≡ q → (r : Bool) → met n ≡ r
        → ((m : ℕ) → ends_as dir (rest m).stop ≡ true → Chained dir (λ j. eqb j n || met j) (rest m) (chain_within dir k d m))
        → Chained dir met (way over (suc k) d met n) (chain_within dir (suc k) d n)
    go q h true f x = never (sym (halted (rw (f, and-false))) ∙ e)
    go false h false f x = never (sym (halted (rw (may n, h))) ∙ e)
    go true h false f x =
        let w : way over (suc k) d met n ≡ way_onward d n rest (link_at d (256 * n)) = step over tr d k met n (may n ∙ h) f in
        rw (w, chain_step k n h) (by f (link_at d (256 * n)) x (sym (ap (λ (w : Way). ends_as dir w.stop) w) ∙ e))

  pub way_chained : length d ≡ 174848 → (k : ℕ) (met : ℕ → Bool) (n : ℕ) → ends_as dir (way over k d met n).stop ≡ true → Chained dir met (way over k d met n) (chain dir d n)
  way_chained z k met n e =
      let c : Chained dir met (way over k d met n) (chain_within dir k d n) = within_chained k met n e in
      record { same = chain_any dir d n k z (ap (λ (x : Chain). x.ends) c.same) ∙ c.same; once = c.once; apart = c.apart }

-- ---- a chain that ends is the way

-- the sector n stands in what a chain goes on with from it, and in nothing behind it where none is twice
first_in_lem : (dir : Bool) (n : ℕ) (f : ℕ → Chain) (l : Link) → is_in (chain_onward dir n f l).sectors n ≡ true
unfolding some
first_in_lem dir n f (Last b) = rw (eq-eqb n n refl)
first_in_lem dir n f (To m) = rw (eq-eqb n n refl)
first_in_lem dir n f NoSector = rw (eq-eqb n n refl)

others : (n : ℕ) (met : ℕ → Bool) (l : List ℕ) (i : ℕ) → is_in l i ≡ true → is_in l n ≡ false → (is_in (n ∷ l) i ≡ true → met i ≡ false) → (eqb i n || met i) ≡ false
unfolding some
others n met l i v f z = go (eqb i n) refl z where
  go : (q : Bool) → eqb i n ≡ q → ((q || is_in l i) ≡ true → met i ≡ false) → (q || met i) ≡ false
  go true e x = never (sym f ∙ ap (is_in l) (sym (eqb-true i n e)) ∙ v)
  go false e x = x v

pub record Walked (dir : Bool) (c : Chain) (w : Way) : Type 0 where
  pub sectors : w.sectors ≡ c.sectors
  pub ends : ends_as dir w.stop ≡ true

module _ (dir : Bool) (over : Over) (tr : tracks_over over ≡ 35) (may : (n : ℕ) → may_hold dir n ≡ true → may_go over n ≡ true) (d : List ℕ) where
  within_walked : (k j : ℕ) (met : ℕ → Bool) (n : ℕ) → k ≤ j → (chain_within dir k d n).ends ≡ true → none_twice (chain_within dir k d n).sectors ≡ true
      → ((m : ℕ) → is_in (chain_within dir k d n).sectors m ≡ true → met m ≡ false) → Walked dir (chain_within dir k d n) (way over j d met n)
  unfolding again none_twice some
  within_walked zero j met n h e o a = never e
  within_walked (suc k) zero met n h e o a = absurd (omega arith)
  within_walked (suc k) (suc j) met n h e o a = go (may_hold dir n) refl (link_at d (256 * n)) refl (λ m. within_walked k j (λ i. eqb i n || met i) m (omega arith)) e o a where
    here : (q : Bool) (l : Link) → Chain
    here q l = cond q (chain_onward dir n (chain_within dir k d) l) broken_chain

    rest : ℕ → Way
    rest = way over j d (λ i. eqb i n || met i)

    on : may_hold dir n ≡ true → met n ≡ false → {l : Link} → link_at d (256 * n) ≡ l → way over (suc j) d met n ≡ way_onward d n rest l
    on p f i = step over tr d j met n (may n p) f ∙ ap (way_onward d n rest) i

    by : may_hold dir n ≡ true → met n ≡ false → (l : Link) → link_at d (256 * n) ≡ l
        → ((m : ℕ) → (chain_within dir k d m).ends ≡ true → none_twice (chain_within dir k d m).sectors ≡ true → ((i : ℕ) → is_in (chain_within dir k d m).sectors i ≡ true → (eqb i n || met i) ≡ false) → Walked dir (chain_within dir k d m) (rest m))
        → (here true l).ends ≡ true → none_twice (here true l).sectors ≡ true → ((m : ℕ) → is_in (here true l).sectors m ≡ true → met m ≡ false)
        → Walked dir (here true l) (way over (suc j) d met n)
    by p f (Last b) i x g y z = rw (on p f i) (record { sectors = refl; ends = g })
    by p f (To m) i x g y z =
        let s : (is_in (chain_within dir k d m).sectors n ≡ false) × (none_twice (chain_within dir k d m).sectors ≡ true) = and_split (is_in (chain_within dir k d m).sectors n) (none_twice (chain_within dir k d m).sectors) y in
        let w : Walked dir (chain_within dir k d m) (rest m) = x m g s.1 (λ i v. others n met (chain_within dir k d m).sectors i v s.0 (z i)) in
        rw (on p f i) (record { sectors = ap (λ (l : List ℕ). n ∷ l) w.sectors; ends = w.ends })
    by p f NoSector i x g y z = never g

    go : (q : Bool) → may_hold dir n ≡ q → (l : Link) → link_at d (256 * n) ≡ l
        → ((m : ℕ) → (chain_within dir k d m).ends ≡ true → none_twice (chain_within dir k d m).sectors ≡ true → ((i : ℕ) → is_in (chain_within dir k d m).sectors i ≡ true → (eqb i n || met i) ≡ false) → Walked dir (chain_within dir k d m) (rest m))
        → (here q l).ends ≡ true → none_twice (here q l).sectors ≡ true → ((m : ℕ) → is_in (here q l).sectors m ≡ true → met m ≡ false)
        → Walked dir (here q l) (way over (suc j) d met n)
    go false p l i x f g y = never f
    go true p l i x f g y = by p (y n (first_in_lem dir n (chain_within dir k d) l)) l i x f g y

  pub chain_walked : (j : ℕ) (met : ℕ → Bool) (n : ℕ) → most dir ≤ j → (chain dir d n).ends ≡ true → ((m : ℕ) → is_in (chain dir d n).sectors m ≡ true → met m ≡ false)
      → Walked dir (chain dir d n) (way over j d met n)
  chain_walked j met n h e a =
      let c : chain_within dir (most dir) d n ≡ chain dir d n = chain_counted dir d n (most dir) e (omega arith) in
      let f : (chain_within dir (most dir) d n).ends ≡ true = ap (λ (x : Chain). x.ends) c ∙ e in
      subst (λ (x : Chain). Walked dir x (way over j d met n)) c
      (within_walked (most dir) j met n h f (ends_once dir d (most dir) n f) (λ m i. a m (sym (ap (λ (x : Chain). is_in x.sectors m) c) ∙ i)))

-- ---- an entry's file

module _ (over : Over) (tr : tracks_over over ≡ 35) (d : List ℕ) where
  pub entry_chained : ((n : ℕ) → may_go over n ≡ may_hold false n) → length d ≡ 174848 → (k : ℕ) (met : ℕ → Bool) (p : ℕ) → ends_as false (way_of over k d met p).stop ≡ true
      → Chained false met (way_of over k d met p) (chain_of d p)
  entry_chained may z k met p e = rw (link_same over tr d (p + 1)) (go (link_at d (p + 1)) (rw (link_same over tr d (p + 1)) at e)) where
    go : (l : Link) → ends_as false (way_by d (p + 1) (way over k d met) l).stop ≡ true → Chained false met (way_by d (p + 1) (way over k d met) l) (chain_by d l)
    go (Last b) f = never f
    go (To n) f = way_chained false over tr may d z k met n f
    go NoSector f = never f

  pub entry_walked : ((n : ℕ) → may_hold false n ≡ true → may_go over n ≡ true) → (j : ℕ) → 683 ≤ j → (met : ℕ → Bool) (p : ℕ)
      → (chain_of d p).ends ≡ true → ((m : ℕ) → is_in (chain_of d p).sectors m ≡ true → met m ≡ false) → Walked false (chain_of d p) (way_of over j d met p)
  entry_walked may j h met p e a = rw (link_same over tr d (p + 1)) (go (link_at d (p + 1)) e a) where
    go : (l : Link) → (chain_by d l).ends ≡ true → ((m : ℕ) → is_in (chain_by d l).sectors m ≡ true → met m ≡ false)
        → Walked false (chain_by d l) (way_by d (p + 1) (way over j d met) l)
    go (Last b) f g = never f
    go (To n) f g = chain_walked false over tr may d j met n h f g
    go NoSector f g = never f
