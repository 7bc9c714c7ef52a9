-- Loops over a run of numbers: those that pass a test stored in a list.
-- Assumes nothing.
use Prim.Native.Nat.{ℕ, suc, ◌+◌, ◌-◌, ◌≤◌, ◌<◌}
use mathlib.Core.Path.{◌≡◌, refl, sym, ap, subst, ◌∙◌}
use mathlib.Core.Bool.{Bool, true, false}
use mathlib.Core.List.{List, [], ◌∷◌, map}
use lib.ListN.{length, set, length-set}
use lib.Seq.{sets}
use native.Mathlib.Numerals.{add-one}
use native.Mathlib.Omega.{arith}
use Rattle.disk_rules.specs.Lists.{numbers_from, those}
use Rattle.disk_rules.specs.Map.{is_free}
use Rattle.disk_rules.specs.Free.{free_sectors}
use Rattle.disk_chains.specs.ChainHelpers.{Lists}

-- the run behind a number that is below its end
one_more : (i n : ℕ) → i < n → n - i ≡ suc (n - (i + 1))
one_more i n h = omega arith

none_left : (i n : ℕ) → n ≤ i → n - i ≡ 0
none_left i n h = omega arith

-- ---- the numbers of a list that pass a test, stored from another's start on: those of what is left are still to be stored

pub record Picks (test : ℕ → Bool) (whole list₀ list : List ℕ) (count : ℕ) (rest : List ℕ) : Type 0 where
  pub sized : length list ≡ length list₀
  pub counts : count + length (those test rest) ≡ length (those test whole)
  pub stores : sets list count (those test rest) ≡ sets list₀ 0 (those test whole)

pub picks_start : (test : ℕ → Bool) (whole list : List ℕ) → Picks test whole list list 0 whole
picks_start test whole list = record { sized = refl; counts = omega arith; stores = refl }

module _ {test : ℕ → Bool} {whole list₀ list : List ℕ} {count : ℕ} where
  pub picks_in : {n : ℕ} {rest : List ℕ} → Picks test whole list₀ list count (n ∷ rest) → test n ≡ true → Picks test whole list₀ (set list count n) (count + 1) rest
  unfolding those
  picks_in {n} {rest} p q =
      let m : count + suc (length (those test rest)) ≡ length (those test whole) = simp q at p.counts in
      record { sized = length-set list count n ∙ p.sized; counts = omega arith; stores = rw add-one (simp q at p.stores) }

  pub picks_out : {n : ℕ} {rest : List ℕ} → Picks test whole list₀ list count (n ∷ rest) → test n ≡ false → Picks test whole list₀ list count rest
  unfolding those
  picks_out p q = record { sized = p.sized; counts = simp q at p.counts; stores = simp q at p.stores }

  pub picks_end : Picks test whole list₀ list count [] → Lists (those test whole) list₀ count list
  unfolding those
  picks_end p =
      let m : count + 0 ≡ length (those test whole) = p.counts in record { counts = omega arith; stored = p.stores }

-- of the run of numbers below n, each made an entry's place or left as it is
pub record Picking (f : ℕ → ℕ) (test : ℕ → Bool) (n : ℕ) (list₀ list : List ℕ) (count i : ℕ) : Type 0 where
  pub within : i ≤ n
  pub few : count ≤ i
  pub picks : Picks test (map f (numbers_from 0 n)) list₀ list count (map f (numbers_from i (n - i)))

pub pick_start : (f : ℕ → ℕ) (test : ℕ → Bool) (n : ℕ) (list : List ℕ) → Picking f test n list list 0 0
pick_start f test n list =
    let e : n - 0 ≡ n = omega arith in record { within = omega arith; few = omega arith; picks = rw e (picks_start test (map f (numbers_from 0 n)) list) }

module _ {f : ℕ → ℕ} {test : ℕ → Bool} {n : ℕ} {list₀ list : List ℕ} {count i : ℕ} (p : Picking f test n list₀ list count i) where
  picks_onward : i < n → Picks test (map f (numbers_from 0 n)) list₀ list count (f i ∷ map f (numbers_from (i + 1) (n - (i + 1))))
  unfolding numbers_from
  picks_onward h = rw (one_more i n h) at p.picks

  pub pick_in : {r : Bool} {m : ℕ} → i < n → r ≡ true → r ≡ test m → m ≡ f i → Picking f test n list₀ (set list count m) (count + 1) (i + 1)
  pick_in {r} h e g j =
      rw j (record { within = omega arith; few = omega (arith, p.few); picks = picks_in (picks_onward h) (rw j at (sym g ∙ e)) })

  pub pick_out : {r : Bool} {m : ℕ} → i < n → r ≡ false → r ≡ test m → m ≡ f i → Picking f test n list₀ list count (i + 1)
  pick_out {r} h e g j =
      record { within = omega arith; few = omega (arith, p.few); picks = picks_out (picks_onward h) (rw j at (sym g ∙ e)) }

  pub pick_end : n ≤ i → Lists (those test (map f (numbers_from 0 n))) list₀ count list
  unfolding numbers_from
  pick_end h = picks_end (rw (none_left i n h) at p.picks)

map_id : (l : List ℕ) → map (λ n. n) l ≡ l
map_id [] = refl
map_id (n ∷ l) = ap (λ (r : List ℕ). n ∷ r) (map_id l)

pub free_listed : (d : List ℕ) {list₀ list : List ℕ} {count : ℕ} → Lists (those (is_free d) (map (λ n. n) (numbers_from 0 683))) list₀ count list
    → Lists (free_sectors d) list₀ count list
unfolding free_sectors
free_listed d {list₀} {list} {count} l = subst (λ (ns : List ℕ). Lists (those (is_free d) ns) list₀ count list) (map_id (numbers_from 0 683)) l
