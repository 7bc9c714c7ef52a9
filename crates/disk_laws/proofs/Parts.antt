-- The check by its parts, over each file's own chain; and what of a disk they hang on.
-- Assumes nothing.
use Prim.Native.Nat.{ℕ, zero, suc, ◌+◌, ◌*◌, ◌/◌, ◌%◌, ◌≤◌, ◌<◌}
use mathlib.Core.Path.{◌≡◌, refl, sym, ap, ◌∙◌}
use mathlib.Core.Bool.{Bool, true, false, not, ◌&&◌, ◌||◌}
use mathlib.Core.List.{List, [], ◌∷◌, map}
use lib.Dec.{eqb, leb}
use lib.ListN.{length, get_or}
use native.Mathlib.Omega.{arith}
use borrow.Author.Tests.{eqb-true, eq-eqb, leb-true}
use Rattle.disk_rules.specs.Lists.{numbers_from, some, is_in, none_twice}
use Rattle.disk_rules.specs.Links.{link_to, link_at}
use Rattle.disk_rules.specs.declared.Link.{Link}
use Rattle.disk_rules.specs.declared.Link.TheVariants.{Last, To, Astray}
use Rattle.disk_rules.specs.Map.{bit_at}
use Rattle.disk_rules.specs.Free.{map_agrees, marked_all}
use Rattle.disk_rules.specs.Chains.{Chain, chain}
use Rattle.disk_rules.specs.CountedHelpers.{chain_within}
use Rattle.disk_rules.specs.Entries.{directory, entry_at, entries_of, is_that, entries_that, listed, name_at, before_a0, entries_good, chain_by, chain_of}
use Rattle.disk_rules.specs.Check.{files, sound}
use Rattle.disk_rules.proofs.Counting.{never, and_left, and_right, in_at, in_those_list}
use Rattle.disk_rules.proofs.Ends.{chain_held}
use Rattle.disk_laws.proofs.Totals.{Holds, holds, all_hold}
use Rattle.disk_laws.proofs.Kept.{dir_sector}
use Rattle.disk_laws.proofs.Files.{chain_same, part_same}
use Rattle.disk_laws.proofs.Chained.{all_sectors, AllEnd, chains_all, chains_end, chains_together}
use Rattle.disk_laws.proofs.Without.{Same}
use Rattle.disk_laws.proofs.Mapped.{agrees_again}

-- ---- the check by each file's chain

pub record Parts (d : List ℕ) : Type 0 where
  pub size : length d ≡ 174848
  pub track : get_or d 91392 0 ≡ 18
  pub sector : get_or d 91393 0 ≡ 1
  pub ends : (directory d).ends ≡ true
  pub once : none_twice (directory d).sectors ≡ true
  pub good : entries_good d (listed d) ≡ true
  pub each : AllEnd d (listed d)
  pub apart : none_twice (all_sectors d (listed d)) ≡ true
  pub agrees : map_agrees d (is_in (all_sectors d (listed d))) ≡ true

pub parts : (d : List ℕ) → sound d ≡ true → Parts d
parts d e =
    let h : Holds d = holds d e in
    let x : (files d).sectors ≡ all_sectors d (listed d) = chains_all d (listed d) in
    record {
      size = eqb-true (length d) 174848 h.size;
      track = eqb-true (get_or d 91392 0) 18 h.track;
      sector = eqb-true (get_or d 91393 0) 1 h.sector;
      ends = h.ends;
      once = h.once;
      good = h.good;
      each = chains_end d (listed d) h.through;
      apart = sym (ap none_twice x) ∙ h.apart;
      agrees = sym (ap (λ (l : List ℕ). map_agrees d (is_in l)) x) ∙ h.agrees;
    }

pub parts_sound : (d : List ℕ) → Parts d → sound d ≡ true
parts_sound d h =
    let x : files d ≡ record { sectors = all_sectors d (listed d); ends = true } = chains_together d (listed d) h.each in
    all_hold d
    (record {
      size = eq-eqb (length d) 174848 h.size;
      track = eq-eqb (get_or d 91392 0) 18 h.track;
      sector = eq-eqb (get_or d 91393 0) 1 h.sector;
      ends = h.ends;
      once = h.once;
      good = h.good;
      through = ap (λ (c : Chain). c.ends) x;
      apart = ap (λ (c : Chain). none_twice c.sectors) x ∙ h.apart;
      agrees = ap (λ (c : Chain). map_agrees d (is_in c.sectors)) x ∙ h.agrees;
    })

-- the sectors of listed files are those of their chains
pub files_all : (d : List ℕ) → sound d ≡ true → (files d).sectors ≡ all_sectors d (listed d)
files_all d e = chains_all d (listed d)

-- ---- what the parts hang on

module _ (d d' : List ℕ) where
  -- a link, by its two bytes
  pub link_same : (j : ℕ) → get_or d' j 0 ≡ get_or d j 0 → get_or d' (j + 1) 0 ≡ get_or d (j + 1) 0 → link_at d' j ≡ link_at d j
  link_same j a b = ap (λ (t : ℕ). link_to t (get_or d' (j + 1) 0)) a ∙ ap (λ (s : ℕ). link_to (get_or d j 0) s) b

  -- the directory, by the links of its sectors
  pub directory_same : length d' ≡ length d → ((m : ℕ) → 358 ≤ m → m ≤ 375 → link_at d' (256 * m) ≡ link_at d (256 * m)) → directory d' ≡ directory d
  unfolding directory chain
  directory_same l h =
      ap (λ (k : ℕ). chain_within true k d' 358) l
      ∙ chain_same true (length d) d d' 358
      (λ m i. let e : (leb 358 m && leb m 375) ≡ true = chain_held true (length d) d 358 m i in
      h m (leb-true 358 m (and_left (leb 358 m) (leb m 375) e)) (leb-true m 375 (and_right (leb 358 m) (leb m 375) e)))

  by_same : length d' ≡ length d → (l : Link) → ((m : ℕ) → is_in (chain_by d l).sectors m ≡ true → link_at d' (256 * m) ≡ link_at d (256 * m)) → chain_by d' l ≡ chain_by d l
  unfolding chain
  by_same l (Last b) h = refl
  by_same l (To n) h = ap (λ (k : ℕ). chain_within false k d' n) l ∙ chain_same false (length d) d d' n h
  by_same l Astray h = refl

  -- an entry, by its bytes and the links of its sectors
  pub entry_same : (q : ℕ) → length d' ≡ length d → ((i : ℕ) → i < 30 → get_or d' (q + i) 0 ≡ get_or d (q + i) 0)
      → ((m : ℕ) → is_in (chain_of d q).sectors m ≡ true → link_at d' (256 * m) ≡ link_at d (256 * m)) → Same d d' q
  unfolding name_at
  entry_same q l h g =
      let z : q + 0 ≡ q = omega arith in
      let two : q + 1 + 1 ≡ q + 2 = omega arith in
      record {
        type = rw z at (h 0 (omega arith));
        name = ap before_a0 (part_same d d' l (q + 3) 16 (λ i k. let y : q + 3 + i ≡ q + (3 + i) = omega arith in rw y (h (3 + i) (omega arith))));
        chain = ap (chain_by d') (link_same (q + 1) (h 1 (omega arith)) (rw two (h 2 (omega arith)))) ∙ by_same l (link_at d (q + 1)) g;
      }

  -- the map, by its bytes
  pub map_same : (met : ℕ → Bool) → length d ≡ 174848 → ((j : ℕ) → 91396 ≤ j → j < 91536 → get_or d' j 0 ≡ get_or d j 0) → map_agrees d met ≡ true → map_agrees d' met ≡ true
  unfolding some marked_all
  map_same met l h a = agrees_again d d' [] true met met l (λ m e. never e) (λ t s x y z k. bit t s x y z) (λ n. refl) a where
    bit : (t s : ℕ) → 1 ≤ t → t ≤ 35 → s < 24 → bit_at d' t s ≡ bit_at d t s
    bit t s x y z = rw (h (91392 + 4 * t + 1 + s / 8) (omega arith) (omega arith))

-- ---- the entries of a directory

-- in a list with none twice, a number has one place
pub one_place : (l : List ℕ) → none_twice l ≡ true → (i j : ℕ) → i < length l → j < length l → get_or l i 0 ≡ get_or l j 0 → i ≡ j
unfolding none_twice
one_place [] e i j a b f = absurd (omega arith)
one_place (n ∷ l) e zero zero a b f = refl
one_place (n ∷ l) e zero (suc j) a b f = never (sym (not_in (is_in l n) (none_twice l) e) ∙ ap (is_in l) f ∙ in_at l j (omega arith)) where
  not_in : (x y : Bool) → (not x && y) ≡ true → x ≡ false
  not_in true y g = never g
  not_in false y g = refl
one_place (n ∷ l) e (suc i) zero a b f = never (sym (not_in (is_in l n) (none_twice l) e) ∙ ap (is_in l) (sym f) ∙ in_at l i (omega arith)) where
  not_in : (x y : Bool) → (not x && y) ≡ true → x ≡ false
  not_in true y g = never g
  not_in false y g = refl
one_place (n ∷ l) e (suc i) (suc j) a b f = ap suc (one_place l (and_right (not (is_in l n)) (none_twice l) e) i j (omega arith) (omega arith) f)

-- a number of a list made by a function over a run
pub record FromRun (f : ℕ → ℕ) (from k q : ℕ) : Type 0 where
  pub at : ℕ
  pub low : from ≤ at
  pub high : at < from + k
  pub is : q ≡ f at

pub from_run : (f : ℕ → ℕ) (from k q : ℕ) → is_in (map f (numbers_from from k)) q ≡ true → FromRun f from k q
unfolding numbers_from some
from_run f from zero q e = never e
from_run f from (suc k) q e = go (eqb q (f from)) refl (from_run f (from + 1) k q) e where
  go : (x : Bool) → eqb q (f from) ≡ x → (is_in (map f (numbers_from (from + 1) k)) q ≡ true → FromRun f (from + 1) k q)
      → (x || is_in (map f (numbers_from (from + 1) k)) q) ≡ true → FromRun f from (suc k) q
  go true g h i = record { at = from; low = omega arith; high = omega arith; is = eqb-true q (f from) g }
  go false g h i = let r : FromRun f (from + 1) k q = h i in record { at = r.at; low = omega (arith, r.low); high = omega (arith, r.high); is = r.is }

-- an entry's place: a sector of 18/1 to 18/18, and one of eight in it
pub record EntryPlace (p : ℕ) : Type 0 where
  pub sector : ℕ
  pub slot : ℕ
  pub low : 358 ≤ sector
  pub high : sector ≤ 375
  pub eight : slot < 8
  pub is : p ≡ 256 * sector + 2 + 32 * slot

pub entry_place : (d : List ℕ) (e : ℕ) → e < 8 * length (directory d).sectors → EntryPlace (entry_at (directory d).sectors e)
entry_place d e h =
    let s : (358 ≤ get_or (directory d).sectors (e / 8) 0) × (get_or (directory d).sectors (e / 8) 0 ≤ 375) = dir_sector d (e / 8) (omega arith) in
    record { sector = get_or (directory d).sectors (e / 8) 0; slot = e % 8; low = s.0; high = s.1; eight = omega arith; is = refl }

-- two entries of a directory stand at two places
pub entries_apart : (sectors : List ℕ) → none_twice sectors ≡ true → (e f : ℕ) → e < 8 * length sectors → f < 8 * length sectors → entry_at sectors e ≡ entry_at sectors f → e ≡ f
entries_apart sectors o e f a b g =
    let x : get_or sectors (e / 8) 0 ≡ get_or sectors (f / 8) 0 = omega arith in
    let y : e / 8 ≡ f / 8 = one_place sectors o (e / 8) (f / 8) (omega arith) (omega arith) x in
    omega arith

-- an entry that is listed, or is not, stands in the directory
pub that_from : (which : Bool) (d : List ℕ) (q : ℕ) → is_in (entries_that which d (directory d).sectors) q ≡ true → FromRun (entry_at (directory d).sectors) 0 (8 * length (directory d).sectors) q
unfolding entries_that
that_from which d q e = from_run (entry_at (directory d).sectors) 0 (8 * length (directory d).sectors) q (in_those_list (is_that which d) (entries_of (directory d).sectors) q e)
