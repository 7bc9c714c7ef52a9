-- The routine followed: a byte in memory, the search for a 00, a line, and line after line.
-- Assumes nothing.
use Prim.Native.Nat.{ℕ, zero, suc, ◌+◌, ◌*◌, ◌-◌, ◌%◌, ◌≤◌, ◌<◌}
use mathlib.Core.Path.{◌≡◌, refl, sym, ap, ◌∙◌, subst}
use mathlib.Core.Bool.{Bool, true, false, cond, not, ◌&&◌}
use mathlib.Core.List.{List}
use native.Mathlib.Omega.{arith}
use lib.Dec.{eqb, ltb}
use lib.ListN.{length, get_or}
use mir.Syntax.{w64}
use mir.Val.{Fits}
use borrow.Author.Tests.{le-ltb, lt-ltb, ltb-true, eq-eqb, ne_eqb, eqb-true, eqb-false, not-true, not-false}
use Rattle.base_steps.proofs.Nearer.{Nearer, again_once}
use Rattle.base_refusals.specs.Answer.{done, refused}
use Rattle.base_refusals.specs.Numbers.{image_too_long, too_short}
use Rattle.image_bytes.specs.ImageBytes.{low_first_at, address_at}
use Rattle.image_readers.proofs.Finding.{sized_long, sized_short, sized_right}
use Rattle.image_relink.specs.declared.Zero.{Zero}
use Rattle.image_relink.specs.declared.Zero.TheVariants.{At, Outside as ZeroOutside, Nowhere}
use Rattle.image_relink.specs.declared.Passed.{Passed}
use Rattle.image_relink.specs.declared.Passed.TheVariants.{End, Kept as KeptLink, Changed as ChangedLink, Outside, Endless as EndlessLine}
use Rattle.image_relink.specs.Relinking.{come_round, in_memory, zero_sought, new_link, old_link, stored, behind_zero, relink_step, Relinking, same, changed, leaves, endless, relink_by, relink_on, relink_from, relinking}

-- ---- a byte in memory

module _ (s : List ℕ) (p : ℕ) where
  pub not_within : length s ≤ p → ltb p (length s) ≡ in_memory s p
  unfolding in_memory
  not_within h = rw (le-ltb p (length s) h)

  pub within_is : p < length s → ltb (length s) 65539 ≡ in_memory s p
  unfolding in_memory
  within_is h = rw (lt-ltb p (length s) h)

  memory_within : in_memory s p ≡ true → p < length s
  unfolding in_memory
  memory_within e = go (ltb p (length s)) refl e
    where
      go : (b : Bool) → ltb p (length s) ≡ b → (b && ltb (length s) 65539) ≡ true → p < length s
      go true f g = ltb-true p (length s) f
      go false f g = let z : ◌≡◌ {A = ℕ} 0 1 = ap (λ (x : Bool). cond x 1 0) g in absurd (omega arith)

  module _ {b : Bool} (e : b ≡ in_memory s p) where
    pub known_within : not b ≡ false → p < length s
    known_within n = memory_within (sym e ∙ not-false b n)

-- ---- the search

module _ (s : List ℕ) (p : ℕ) where
  sought_step : (n y : ℕ) → 0 < n
      → zero_sought s p n y
      ≡ cond (in_memory s (come_round (p + y))) (cond (eqb (get_or s (come_round (p + y)) 0) 0) (At y) (zero_sought s p (n - 1) ((y + 1) % 256))) ZeroOutside
  unfolding zero_sought
  sought_step zero y h = absurd (omega arith)
  sought_step (suc n) y h = let e : suc n - 1 ≡ n = omega arith in rw e

  -- a count is one byte
  count_small : (n y : ℕ) {z : ℕ} → y < 256 → zero_sought s p n y ≡ At z → z < 256
  unfolding zero_sought
  count_small zero y h e = let z : ◌≡◌ {A = ℕ} 0 1 = cc in absurd (omega arith)
  count_small (suc n) y {z} h e = go (λ f. count_small n ((y + 1) % 256) (omega arith) f) (in_memory s (come_round (p + y))) (eqb (get_or s (come_round (p + y)) 0) 0) e
    where
      go : (zero_sought s p n ((y + 1) % 256) ≡ At z → z < 256) → (b c : Bool) → cond b (cond c (At y) (zero_sought s p n ((y + 1) % 256))) ZeroOutside ≡ At z → z < 256
      go on true true g = let same_count : y ≡ z = cc in omega arith
      go on true false g = on g
      go on false c g = let z : ◌≡◌ {A = ℕ} 0 1 = cc in absurd (omega arith)

pub count_fits : (s : List ℕ) (p : ℕ) {r : Zero} {y : ℕ} → r ≡ At y → r ≡ zero_sought s p 256 5 → Fits w64 (y + 1)
count_fits s p is e = record { fits = omega (arith, count_small s p 256 5 (omega arith) (sym e ∙ is)) }

-- the counts from 5 to i are passed, none of them a 00's; behind 255 they come round to 0
pub record ZeroAhead (s : List ℕ) (p i : ℕ) : Type 0 where
  pub gives : zero_sought s p (261 - i) (i % 256) ≡ zero_sought s p 256 5

pub ahead_start : (s : List ℕ) (p : ℕ) → ZeroAhead s p 5
ahead_start s p = record { gives = refl }

module _ {s : List ℕ} {p i : ℕ} (k : ZeroAhead s p i) where
  module _ {b : Bool} {at : ℕ} (h : i < 261) (is : at ≡ come_round (p + i % 256)) (e : b ≡ in_memory s at) where
    memory_is : in_memory s (come_round (p + i % 256)) ≡ b
    memory_is = ap (in_memory s) (sym is) ∙ sym e

    pub ahead_outside : not b ≡ true → ZeroOutside ≡ zero_sought s p 256 5
    ahead_outside n =
        let f : in_memory s (come_round (p + i % 256)) ≡ false = memory_is ∙ not-true b n in
        sym (sym k.gives ∙ sought_step s p (261 - i) (i % 256) (omega arith) ∙ rw f)

    module _ (n : not b ≡ false) where
      pub ahead_found : get_or s at 0 ≡ 0 → At (i % 256) ≡ zero_sought s p 256 5
      ahead_found z =
          let f : in_memory s (come_round (p + i % 256)) ≡ true = memory_is ∙ not-false b n in
          let o : get_or s (come_round (p + i % 256)) 0 ≡ 0 = ap (λ (j : ℕ). get_or s j 0) (sym is) ∙ z in
          sym (sym k.gives ∙ sought_step s p (261 - i) (i % 256) (omega arith) ∙ rw (f, eq-eqb (get_or s (come_round (p + i % 256)) 0) 0 o))

      pub ahead_turn : (get_or s at 0 ≡ 0 → ⊥) → ZeroAhead s p (i + 1)
      ahead_turn o =
          let f : in_memory s (come_round (p + i % 256)) ≡ true = memory_is ∙ not-false b n in
          let other : get_or s (come_round (p + i % 256)) 0 ≡ 0 → ⊥ = λ z. o (ap (λ (j : ℕ). get_or s j 0) is ∙ z) in
          let left : 261 - (i + 1) ≡ 261 - i - 1 = omega arith in
          let round : (i + 1) % 256 ≡ (i % 256 + 1) % 256 = omega arith in
          record {
            gives =
                rw (left, round)
                (sym (sym k.gives ∙ sought_step s p (261 - i) (i % 256) (omega arith) ∙ rw (f, ne_eqb (get_or s (come_round (p + i % 256)) 0) 0 other)));
          }

  pub ahead_end : 261 ≤ i → Nowhere ≡ zero_sought s p 256 5
  unfolding zero_sought
  ahead_end h = let e : 261 - i ≡ 0 = omega arith in rw e at k.gives

-- ---- a line

-- the new link is stored
module _ (s : List ℕ) (p count : ℕ) {low : ℕ} {b : Bool} (i : low ≡ come_round p) (e : b ≡ in_memory s low) where
  pub store_outside : not b ≡ true → Outside ≡ stored s p count
  unfolding stored
  store_outside n = let f : in_memory s (come_round p) ≡ false = ap (in_memory s) (sym i) ∙ sym e ∙ not-true b n in rw f

  module _ {load read old high : ℕ} (n : not b ≡ false) (j : high ≡ come_round (p + 1)) (q : load ≡ read) (a : read ≡ low_first_at s 0) (c : old ≡ get_or s low 0 + 256 * get_or s high 0) where
    compared : stored s p count
        ≡ cond (eqb ((load + p - 2 + count) % 65536) old) (cond (eqb count 0) EndlessLine (KeptLink (p + count))) (ChangedLink ((load + p - 2 + count) % 65536))
    unfolding stored
    compared =
        let f : in_memory s (come_round p) ≡ true = ap (in_memory s) (sym i) ∙ sym e ∙ not-false b n in
        let o : old_link s p ≡ old = ap (λ (x : ℕ). get_or s x 0 + 256 * get_or s (come_round (p + 1)) 0) (sym i) ∙ ap (λ (x : ℕ). get_or s low 0 + 256 * get_or s x 0) (sym j) ∙ sym c in
        rw (f, o, ← (q ∙ a))

    pub store_changed : ((load + p - 2 + count) % 65536 ≡ old → ⊥) → ChangedLink ((load + p - 2 + count) % 65536) ≡ stored s p count
    store_changed other = sym (compared ∙ rw (ne_eqb ((load + p - 2 + count) % 65536) old other))

    module _ (stays : (load + p - 2 + count) % 65536 ≡ old) where
      pub store_round : count ≡ 0 → EndlessLine ≡ stored s p count
      store_round z = sym (compared ∙ rw (eq-eqb ((load + p - 2 + count) % 65536) old stays, eq-eqb count 0 z))

      pub store_kept : (count ≡ 0 → ⊥) → KeptLink (p + count) ≡ stored s p count
      store_kept o = sym (compared ∙ rw (eq-eqb ((load + p - 2 + count) % 65536) old stays, ne_eqb count 0 o))

module _ (s : List ℕ) (p : ℕ) {high : ℕ} {b : Bool} (i : high ≡ come_round (p + 1)) (e : b ≡ in_memory s high) where
  high_in : in_memory s (come_round (p + 1)) ≡ b
  high_in = ap (in_memory s) (sym i) ∙ sym e

  high_is : get_or s (come_round (p + 1)) 0 ≡ get_or s high 0
  high_is = ap (λ (x : ℕ). get_or s x 0) (sym i)

  pub pass_outside : not b ≡ true → Outside ≡ relink_step s p
  unfolding relink_step
  pass_outside n = let f : in_memory s (come_round (p + 1)) ≡ false = high_in ∙ not-true b n in rw f

  module _ (n : not b ≡ false) where
    pub pass_end : get_or s high 0 ≡ 0 → End ≡ relink_step s p
    unfolding relink_step
    pass_end z =
        let f : in_memory s (come_round (p + 1)) ≡ true = high_in ∙ not-false b n in
        rw (f, eq-eqb (get_or s (come_round (p + 1)) 0) 0 (high_is ∙ z))

    module _ {r : Zero} (o : get_or s high 0 ≡ 0 → ⊥) (d : r ≡ zero_sought s p 256 5) where
      step_by_lem : relink_step s p ≡ behind_zero s p r
      unfolding relink_step
      step_by_lem =
          let f : in_memory s (come_round (p + 1)) ≡ true = high_in ∙ not-false b n in
          let other : get_or s (come_round (p + 1)) 0 ≡ 0 → ⊥ = λ z. o (sym high_is ∙ z) in
          rw (f, ne_eqb (get_or s (come_round (p + 1)) 0) 0 other, d)

      pub pass_beyond : r ≡ ZeroOutside → Outside ≡ relink_step s p
      pass_beyond is = sym (step_by_lem ∙ ap (behind_zero s p) is)

      pub pass_endless : r ≡ Nowhere → EndlessLine ≡ relink_step s p
      pass_endless is = sym (step_by_lem ∙ ap (behind_zero s p) is)

      pub pass_stored : {y : ℕ} {t : Passed} → r ≡ At y → t ≡ stored s p ((y + 1) % 256) → t ≡ relink_step s p
      pass_stored is f = f ∙ sym (step_by_lem ∙ ap (behind_zero s p) is)

-- ---- line after line

-- how far the line at p is from the top of memory
abbrev pub from_top : List ℕ → ℕ → ℕ
from_top s p = 65536 - address_at s p % 65536

-- the routine goes on at a higher address, and not round the top
pub record Behind (s : List ℕ) (p q : ℕ) : Type 0 where
  pub up : p < q
  pub nearer : from_top s q < from_top s p
  pub below : 2 ≤ p → low_first_at s 0 % 65536 + p ≤ 65537 → low_first_at s 0 % 65536 + q ≤ 65537

-- a link whose high byte is not 0 leads to no address below 0100
rising : (load p n low high : ℕ) → 0 < n → n < 256 → 0 < high → (load + p - 2 + n) % 65536 ≡ low + 256 * high
    → (65536 - (load + (p + n) - 2) % 65536 < 65536 - (load + p - 2) % 65536) × (2 ≤ p → load % 65536 + p ≤ 65537 → load % 65536 + (p + n) ≤ 65537)
rising load p n low high some small up stays = (omega arith, λ two fits. omega arith)

positive : (n : ℕ) → (n ≡ 0 → ⊥) → 0 < n
positive zero o = absurd (o refl)
positive (suc n) o = omega arith

module _ (s : List ℕ) where
  pub kept_behind : (p : ℕ) {q : ℕ} → relink_step s p ≡ KeptLink q → Behind s p q
  unfolding relink_step stored
  kept_behind p {q} e = go (in_memory s (come_round (p + 1))) (eqb (get_or s (come_round (p + 1)) 0) 0) refl e
    where
      leads : (n : ℕ) → n < 256 → (get_or s (come_round (p + 1)) 0 ≡ 0 → ⊥) → (a b : Bool) → eqb (new_link s p n) (old_link s p) ≡ b → (c : Bool) → eqb n 0 ≡ c
          → cond a (cond b (cond c EndlessLine (KeptLink (p + n))) (ChangedLink (new_link s p n))) Outside ≡ KeptLink q → Behind s p q
      leads n h o true true f false g k =
          let is : p + n ≡ q = cc in
          let some : 0 < n = positive n (eqb-false n 0 g) in
          let d = rising (low_first_at s 0) p n (get_or s (come_round p) 0) (get_or s (come_round (p + 1)) 0) some h (positive _ o) (eqb-true (new_link s p n) (old_link s p) f) in
          subst (Behind s p) is (record { up = omega arith; nearer = d.0; below = d.1 })
      leads n h o true true f true g k = let z : ◌≡◌ {A = ℕ} 0 1 = cc in absurd (omega arith)
      leads n h o true false f c g k = let z : ◌≡◌ {A = ℕ} 0 1 = cc in absurd (omega arith)
      leads n h o false b f c g k = let z : ◌≡◌ {A = ℕ} 0 1 = cc in absurd (omega arith)

      zeros : (r : Zero) → zero_sought s p 256 5 ≡ r → (get_or s (come_round (p + 1)) 0 ≡ 0 → ⊥) → behind_zero s p r ≡ KeptLink q → Behind s p q
      zeros (At y) f o k = leads ((y + 1) % 256) (omega arith) o (in_memory s (come_round p)) (eqb (new_link s p ((y + 1) % 256)) (old_link s p)) refl (eqb ((y + 1) % 256) 0) refl k
      zeros ZeroOutside f o k = let z : ◌≡◌ {A = ℕ} 0 1 = cc in absurd (omega arith)
      zeros Nowhere f o k = let z : ◌≡◌ {A = ℕ} 0 1 = cc in absurd (omega arith)

      go : (b c : Bool) → eqb (get_or s (come_round (p + 1)) 0) 0 ≡ c → cond b (cond c End (behind_zero s p (zero_sought s p 256 5))) Outside ≡ KeptLink q → Behind s p q
      go true true f k = let z : ◌≡◌ {A = ℕ} 0 1 = cc in absurd (omega arith)
      go true false f k = zeros (zero_sought s p 256 5) refl (eqb-false (get_or s (come_round (p + 1)) 0) 0 f) k
      go false c f k = let z : ◌≡◌ {A = ℕ} 0 1 = cc in absurd (omega arith)

  nearer : Nearer (from_top s) (relink_on s)
  nearer p f g alike = go (relink_step s p) refl
    where
      go : (r : Passed) → relink_step s p ≡ r → relink_by f p r ≡ relink_by g p r
      go End e = refl
      go (KeptLink q) e = alike q (kept_behind p e).nearer
      go (ChangedLink link) e = refl
      go Outside e = refl
      go EndlessLine e = refl

  pub relink_from_lem : (p : ℕ) → relink_from s p ≡ relink_by (relink_from s) p (relink_step s p)
  unfolding relink_from
  relink_from_lem p = again_once nearer endless 65537 p (omega arith)

-- the routine came to p without a change
pub record Followed (s : List ℕ) (p : ℕ) : Type 0 where
  pub up : 2 ≤ p
  pub below : low_first_at s 0 % 65536 + p ≤ 65537
  pub gives : relink_from s p ≡ relink_from s 2

pub followed_start : (s : List ℕ) → Followed s 2
followed_start s = record { up = omega arith; below = omega arith; gives = refl }

module _ {s : List ℕ} {p : ℕ} {r : Passed} (k : Followed s p) (e : r ≡ relink_step s p) where
  by_step : relink_from s 2 ≡ relink_by (relink_from s) p r
  by_step = sym k.gives ∙ relink_from_lem s p ∙ ap (relink_by (relink_from s) p) (sym e)

  module _ {q : ℕ} (is : r ≡ KeptLink q) where
    pub followed_turn : Followed s q
    followed_turn =
        let d = kept_behind s p (sym e ∙ is) in
        record { up = omega (arith, k.up, d.up); below = d.below k.up k.below; gives = sym (by_step ∙ ap (relink_by (relink_from s) p) is) }

    pub followed_nearer : from_top s q < from_top s p
    followed_nearer = (kept_behind s p (sym e ∙ is)).nearer

  module _ (long : length s ≤ 1048576) (short : 2 ≤ length s) where
    ends : {x : Relinking} → relink_by (relink_from s) p r ≡ x → done x ≡ relinking s
    unfolding relinking
    ends f = ap done (sym (by_step ∙ f)) ∙ sized_right s (done (relink_from s 2)) long short

    pub ends_same : r ≡ End → done same ≡ relinking s
    ends_same is = ends (ap (relink_by (relink_from s) p) is)

    pub ends_changed : {link : ℕ} → r ≡ ChangedLink link → done (changed p link) ≡ relinking s
    ends_changed is = ends (ap (relink_by (relink_from s) p) is)

    pub ends_leaving : r ≡ Outside → done leaves ≡ relinking s
    ends_leaving is = ends (ap (relink_by (relink_from s) p) is)

    pub ends_endless : r ≡ EndlessLine → done endless ≡ relinking s
    ends_endless is = ends (ap (relink_by (relink_from s) p) is)

module _ (s : List ℕ) where
  pub relinking_long : 1048576 < length s → refused (image_too_long (length s)) ≡ relinking s
  unfolding relinking
  relinking_long h = sized_long s (done (relink_from s 2)) h

  pub relinking_short : length s < 2 → refused too_short ≡ relinking s
  unfolding relinking
  relinking_short h = sized_short s (done (relink_from s 2)) h
