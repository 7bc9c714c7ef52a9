-- The check holds on a fresh disk.
-- Assumes nothing.
use Prim.Native.Nat.{ℕ, zero, suc, ◌+◌, ◌*◌, ◌/◌, ◌%◌, ◌≤◌, ◌<◌}
use mathlib.Core.Path.{◌≡◌, refl, ap, ◌∙◌}
use mathlib.Core.Bool.{Bool, true, false, not, cond, ◌&&◌, ◌||◌}
use mathlib.Core.List.{List, [], ◌∷◌, map}
use lib.Dec.{eqb, ltb}
use lib.ListN.{length, get_or, set, replicate, length-set, length-replicate}
use lib.Seq.{sets, length-sets, get_or-set_same}
use native.Mathlib.Omega.{arith}
use borrow.Author.Tests.{eq-eqb}
use Rattle.base_steps.specs.Again.{again}
use Rattle.disk_rules.specs.Places.{sectors_on}
use Rattle.disk_rules.specs.Lists.{numbers_from, those, every, some, is_in, none_twice}
use Rattle.disk_rules.specs.Links.{link_to, link_at}
use Rattle.disk_rules.specs.declared.Link.TheVariants.{Last}
use Rattle.disk_rules.specs.Map.{bit_of, map_at}
use Rattle.disk_rules.specs.Free.{bit_agrees, map_agrees}
use Rattle.disk_rules.specs.Chains.{Chain, chain, chain_onward}
use Rattle.disk_rules.specs.CountedHelpers.{chain_within}
use Rattle.disk_rules.specs.Entries.{directory, entry_at, is_that, entries_that, listed, entries_good, chains}
use Rattle.disk_rules.specs.Check.{files, sound}
use Rattle.disk_rules.specs.Calls.{repeated_bytes, fresh_header, fresh}
use Rattle.disk_laws.proofs.Totals.{all_hold}
use Rattle.disk_laws.proofs.Elsewhere.{before, behind, sets_off}

-- bytes that were set are there
pub sets_at : (l : List ℕ) (i : ℕ) (vs : List ℕ) (k : ℕ) → i + length vs ≤ length l → k < length vs → get_or (sets l i vs) (i + k) 0 ≡ get_or vs k 0
sets_at l i [] k h g = absurd (omega arith)
sets_at l i (v ∷ vs) zero h g =
    let e : i + 0 ≡ i = omega arith in
    rw e (sets_off (set l i v) (suc i) vs i (before (omega arith)) ∙ get_or-set_same l i v 0 (omega arith))
sets_at l i (v ∷ vs) (suc k) h g =
    let e : i + suc k ≡ suc i + k = omega arith in
    rw e (sets_at (set l i v) (suc i) vs k (omega (arith, length-set l i v)) (omega arith))

pub none_those : (test : ℕ → Bool) (f : ℕ → ℕ) (from k : ℕ) → ((e : ℕ) → from ≤ e → e < from + k → test (f e) ≡ false) → those test (map f (numbers_from from k)) ≡ []
unfolding those numbers_from
none_those test f from zero h = refl
none_those test f from (suc k) h =
    ap (λ (q : Bool). cond q (f from ∷ those test (map f (numbers_from (from + 1) k))) (those test (map f (numbers_from (from + 1) k)))) (h from (omega arith) (omega arith))
    ∙ none_those test f (from + 1) k (λ e a b. h e (omega arith) (omega arith))

every_same : (p q : ℕ → Bool) (from k : ℕ) → ((i : ℕ) → from ≤ i → i < from + k → p i ≡ q i) → every p (numbers_from from k) ≡ every q (numbers_from from k)
unfolding every numbers_from
every_same p q from zero h = refl
every_same p q from (suc k) h =
    ap (λ (x : Bool). x && every p (numbers_from (from + 1) k)) (h from (omega arith) (omega arith))
    ∙ ap (λ (x : Bool). q from && x) (every_same p q (from + 1) k (λ i a b. h i (omega arith) (omega arith)))

header_long : length fresh_header ≡ 171
unfolding fresh_header
header_long = refl

header_first : get_or fresh_header 0 0 ≡ 18
unfolding fresh_header
header_first = refl

header_second : get_or fresh_header 1 0 ≡ 1
unfolding fresh_header
header_second = refl

-- the bits as they stand in the header, beside no chain
abbrev header_agrees : ℕ → ℕ → Bool
header_agrees t s = eqb t 18 || eqb (bit_of (get_or fresh_header (4 * t + 1 + s / 8) 0) (s % 8)) (cond (ltb s (sectors_on t) && true) 1 0)

header_agrees_lem : every (λ i. header_agrees (1 + i / 24) (i % 24)) (numbers_from 0 840) ≡ true
unfolding every numbers_from fresh_header repeated_bytes bit_of sectors_on
header_agrees_lem = refl

-- a disk of 00s, with the header and the directory's end
module _ (b : List ℕ) (l : length b ≡ 174848) (z : (j : ℕ) → get_or b j 0 ≡ 0) where
  abbrev last : List ℕ
  last = 0x00 ∷ 0xFF ∷ []

  abbrev d : List ℕ
  d = sets (sets b 91392 fresh_header) 91648 last

  long : length d ≡ 174848
  long = length-sets (sets b 91392 fresh_header) 91648 last ∙ length-sets b 91392 fresh_header ∙ l

  in_header : (k : ℕ) → k < 171 → get_or d (91392 + k) 0 ≡ get_or fresh_header k 0
  in_header k h =
      sets_off (sets b 91392 fresh_header) 91648 last (91392 + k) (before (omega arith))
      ∙ sets_at b 91392 fresh_header k (omega (arith, header_long)) (omega (arith, header_long))

  in_last : (k : ℕ) → k < 2 → get_or d (91648 + k) 0 ≡ get_or last k 0
  in_last k h = sets_at (sets b 91392 fresh_header) 91648 last k (omega (arith, length-sets b 91392 fresh_header)) h

  behind_last_lem : (j : ℕ) → 91650 ≤ j → get_or d j 0 ≡ 0
  behind_last_lem j h =
      sets_off (sets b 91392 fresh_header) 91648 last j (behind h) ∙ sets_off b 91392 fresh_header j (behind (omega (arith, header_long))) ∙ z j

  ended : link_at d (256 * 358) ≡ Last 0xFF
  unfolding link_to
  ended = ap (λ (t : ℕ). link_to t (get_or d 91649 0)) (in_last 0 (omega arith)) ∙ ap (λ (s : ℕ). link_to 0 s) (in_last 1 (omega arith))

  dir_is : directory d ≡ record { sectors = 358 ∷ []; ends = true }
  unfolding directory chain again
  dir_is = go (length d) (omega (arith, long)) where
    go : (k : ℕ) → 1 ≤ k → chain_within true k d 358 ≡ record { sectors = 358 ∷ []; ends = true }
    go zero h = absurd (omega arith)
    go (suc k) h = ap (chain_onward true 358 (chain_within true k d)) ended

  none_listed : listed d ≡ []
  unfolding entries_that
  none_listed =
      ap (λ (c : Chain). entries_that true d c.sectors) dir_is
      ∙ none_those (is_that true d) (entry_at (358 ∷ [])) 0 8 (λ e f g. ap (λ (x : ℕ). not (eqb x 0)) (behind_last_lem (entry_at (358 ∷ []) e) (above e g)))
    where
      above : (e : ℕ) → e < 0 + 8 → 91650 ≤ entry_at (358 ∷ []) e
      above e g = let y : e / 8 ≡ 0 = omega arith in rw y (omega arith)

  files_are : files d ≡ record { sectors = []; ends = true }
  unfolding chains
  files_are = ap (λ (x : List ℕ). chains d x) none_listed

  map_agrees_lem : map_agrees d (is_in []) ≡ true
  unfolding map_agrees some
  map_agrees_lem =
      every_same (λ i. bit_agrees d (is_in []) (1 + i / 24) (i % 24)) (λ i. header_agrees (1 + i / 24) (i % 24)) 0 840 (λ i f g. same (1 + i / 24) (i % 24) (omega arith) (omega arith))
      ∙ header_agrees_lem
    where
      same : (t s : ℕ) → t ≤ 35 → s < 24 → bit_agrees d (is_in []) t s ≡ header_agrees t s
      same t s h g =
          let e : map_at t + 1 + s / 8 ≡ 91392 + (4 * t + 1 + s / 8) = omega arith in
          ap (λ (x : ℕ). eqb t 18 || eqb (bit_of x (s % 8)) (cond (ltb s (sectors_on t) && true) 1 0))
          (ap (λ (j : ℕ). get_or d j 0) e ∙ in_header (4 * t + 1 + s / 8) (omega arith))

  made_sound : sound d ≡ true
  unfolding none_twice some entries_good
  made_sound =
      all_hold d
      (record {
        size = eq-eqb (length d) 174848 long;
        track = ap (λ (x : ℕ). eqb x 18) (in_header 0 (omega arith) ∙ header_first);
        sector = ap (λ (x : ℕ). eqb x 1) (in_header 1 (omega arith) ∙ header_second);
        ends = ap (λ (c : Chain). c.ends) dir_is;
        once = ap (λ (c : Chain). none_twice c.sectors) dir_is;
        good = ap (λ (x : List ℕ). entries_good d x) none_listed;
        through = ap (λ (c : Chain). c.ends) files_are;
        apart = ap (λ (c : Chain). none_twice c.sectors) files_are;
        agrees = ap (λ (c : Chain). map_agrees d (is_in c.sectors)) files_are ∙ map_agrees_lem;
      })

zeros : (n j : ℕ) → ◌≡◌ {A = ℕ} (get_or (replicate n 0) j 0) 0
zeros zero j = refl
zeros (suc n) zero = refl
zeros (suc n) (suc j) = zeros n j

-- the check holds on a fresh disk
pub fresh_sound : sound fresh ≡ true
unfolding fresh
fresh_sound = made_sound (replicate 174848 0) (length-replicate {A = ℕ} 174848 0) (zeros 174848)
