-- The sectors of chains are sectors, and entries in them stand on the disk; a log's start is what was logged.
-- Assumes nothing.
use Prim.Native.Nat.{ℕ, zero, suc, ◌+◌, ◌-◌, ◌*◌, ◌/◌, ◌≤◌, ◌<◌}
use mathlib.Core.Path.{◌≡◌, refl, sym, ap, ◌∙◌}
use mathlib.Core.Bool.{Bool, true, false, cond}
use mathlib.Core.List.{List, [], ◌∷◌, ◌++◌, map}
use lib.ListN.{length, take, drop, length-map}
use lib.Seq.{sets, sets-eq, take_at}
use native.Mathlib.Omega.{arith}
use Rattle.base_steps.specs.Again.{again}
use Rattle.base_steps.specs.Each.{Each}
use Rattle.base_steps.proofs.Each.{each_append, each_map, each_at}
use Rattle.disk_rules.specs.Lists.{numbers_from, those}
use Rattle.disk_rules.specs.Links.{link_at}
use Rattle.disk_rules.specs.declared.Link.{Link}
use Rattle.disk_rules.specs.declared.Link.TheVariants.{Last, To, Astray}
use Rattle.disk_rules.specs.Chains.{Chain, chain, broken_chain, may_hold, chain_onward}
use Rattle.disk_rules.specs.Entries.{directory, entry_at, is_that, entries_that, listed}
use Rattle.disk_rules.specs.CountedHelpers.{chain_within, chain_by_within, chain_of_within, chains_behind, chains_within, directory_within, listed_within, sound_within}
use Rattle.disk_rules.proofs.Counting.{numbers_long}
use Rattle.disk_rules.proofs.Counted.{sound_counted, directory_counted}
use Rattle.disk_chains.specs.ChainHelpers.{Sectors, Traces, Lists}
use Rattle.disk_chains.specs.declared.Traced.{Traced}
use Rattle.disk_chains.proofs.Tracing.{held_below}
use Rattle.disk_entries.specs.EntryHelpers.{Entries}
use Rattle.std.specs.Prelude.{Some, None}
use Rattle.disk_rules.specs.Check.{sound}
use Rattle.disk_check.specs.SoundHelpers.{Looks}

-- ---- numbers

-- what holds of each number of a list holds of those that pass a test
pub each_those : (P : ℕ → Type 0) (test : ℕ → Bool) (l : List ℕ) → Each P l → Each P (those test l)
unfolding those
each_those P test [] e = tt
each_those P test (n ∷ l) e = go (test n) (each_those P test l e.1) where
  go : (q : Bool) → Each P (those test l) → Each P (cond q (n ∷ those test l) (those test l))
  go true f = (e.0, f)
  go false f = f

pub numbers_each : (P : ℕ → Type 0) (from k : ℕ) → ((n : ℕ) → from ≤ n → n < from + k → P n) → Each P (numbers_from from k)
unfolding numbers_from
numbers_each P from zero h = tt
numbers_each P from (suc k) h = (h from (omega arith) (omega arith), numbers_each P (from + 1) k (λ n a b. h n (omega arith) (omega arith)))

-- ---- sectors

abbrev pub Sector : ℕ → Type 0
Sector n = n < 683

as_sectors : (l : List ℕ) → Each Sector l → Sectors l
as_sectors l e = record { below = each_at Sector 0 l e }

chain_each : (dir : Bool) (k : ℕ) (d : List ℕ) (n : ℕ) → Each Sector (chain_within dir k d n).sectors
unfolding again
chain_each dir zero d n = tt
chain_each dir (suc k) d n = go (may_hold dir n) refl (link_at d (256 * n)) (chain_each dir k d) where
  go : (q : Bool) → may_hold dir n ≡ q → (l : Link) → ((m : ℕ) → Each Sector (chain_within dir k d m).sectors)
      → Each Sector (cond q (chain_onward dir n (chain_within dir k d) l) broken_chain).sectors
  go false e l f = tt
  go true e (Last b) f = (held_below dir n e, tt)
  go true e (To m) f = (held_below dir n e, f m)
  go true e Astray f = (held_below dir n e, tt)

pub chain_sectors : (d : List ℕ) → Sectors (directory d).sectors
unfolding directory chain
chain_sectors d = as_sectors (directory d).sectors (chain_each true (length d) d 358)

within_sectors : (d : List ℕ) → Sectors (directory_within 18 d).sectors
unfolding directory_within
within_sectors d = as_sectors (directory_within 18 d).sectors (chain_each true 18 d 358)

by_each : (d : List ℕ) (k : ℕ) (l : Link) → Each Sector (chain_by_within d k l).sectors
by_each d k (Last b) = tt
by_each d k (To n) = chain_each false k d n
by_each d k Astray = tt

pub known_sectors : (d : List ℕ) {l : List ℕ} → l ≡ (directory d).sectors → Sectors l
known_sectors d e = rw e (chain_sectors d)

pub log_sectors : (d : List ℕ) {l : List ℕ} → l ≡ (directory_within 18 d).sectors → Sectors l
log_sectors d e = rw e (within_sectors d)

pub entry_sectors : (k : ℕ) (d : List ℕ) (p : ℕ) → Sectors (chain_of_within k d p).sectors
entry_sectors k d p = as_sectors (chain_of_within k d p).sectors (by_each d k (link_at d (p + 1)))

chains_each : (k : ℕ) (d l : List ℕ) → Each Sector (chains_within k d l).sectors
unfolding chains_within
chains_each k d [] = tt
chains_each k d (p ∷ l) = go (chain_of_within k d p) (by_each d k (link_at d (p + 1))) (λ n. chains_each (k - n) d l) where
  go : (c : Chain) → Each Sector c.sectors → ((n : ℕ) → Each Sector (chains_within (k - n) d l).sectors)
      → Each Sector (chains_behind c (λ n. chains_within (k - n) d l)).sectors
  go c e f = by c.ends where
    by : (q : Bool)
        → Each Sector
        (cond q (record { sectors = c.sectors ++ (chains_within (k - length c.sectors) d l).sectors; ends = (chains_within (k - length c.sectors) d l).ends }) c).sectors
    by true = each_append Sector c.sectors (chains_within (k - length c.sectors) d l).sectors e (f (length c.sectors))
    by false = e

pub files_sectors : (k : ℕ) (d l : List ℕ) → Sectors (chains_within k d l).sectors
files_sectors k d l = as_sectors (chains_within k d l).sectors (chains_each k d l)

-- ---- entries

OnDisk : ℕ → Type 0
OnDisk p = p + 30 ≤ 174848

pub that_entries : (which : Bool) (d l : List ℕ) → Sectors l → Entries (entries_that which d l)
unfolding entries_that OnDisk
that_entries which d l s =
    let all = map (entry_at l) (numbers_from 0 (8 * length l)) in
    let e : Each OnDisk all =
    each_map OnDisk (entry_at l) (numbers_from 0 (8 * length l))
    (numbers_each (λ e. OnDisk (entry_at l e)) 0 (8 * length l) (λ e a b. omega (arith, s.below (e / 8) (omega arith))))
    in
    record { within = each_at OnDisk 0 (those (is_that which d) all) (each_those OnDisk (is_that which d) all e) }

pub known_entries : (d : List ℕ) {l : List ℕ} → l ≡ listed d → Entries l
known_entries d e = rw e (that_entries true d (directory d).sectors (chain_sectors d))

pub log_entries : (d : List ℕ) {l : List ℕ} → l ≡ listed_within 18 d → Entries l
log_entries d e = rw e (that_entries true d (directory_within 18 d).sectors (within_sectors d))

pub those_few : (test : ℕ → Bool) (l : List ℕ) → length (those test l) ≤ length l
unfolding those
those_few test [] = omega arith
those_few test (n ∷ l) = go (test n) (those_few test l) where
  go : (q : Bool) → length (those test l) ≤ length l → length (cond q (n ∷ those test l) (those test l)) ≤ suc (length l)
  go true f = omega arith
  go false f = omega arith

pub that_few : (which : Bool) (d l : List ℕ) → length (entries_that which d l) ≤ 8 * length l
unfolding entries_that
that_few which d l =
    omega (arith, those_few (is_that which d) (map (entry_at l) (numbers_from 0 (8 * length l))), length-map (numbers_from 0 (8 * length l)) (entry_at l), numbers_long 0 (8 * length l))

-- ---- the start of a log

start_of : (b l : List ℕ) (n : ℕ) → n ≡ length l → n ≤ length b → take n (sets b 0 l) ≡ l
start_of b l n e h =
    let k : 0 + length l ≤ length b = omega arith in rw (sets-eq l b 0 k) (take_at l (drop (0 + length l) b) n (sym e))

pub logged_start : {c : Chain} {log : List ℕ} {r : Traced} {after : List ℕ} → Traces c log 0 r after → take r.to after ≡ c.sectors
logged_start {c} {log} {r} t = rw t.logged (start_of log c.sectors r.to (omega (arith, t.to)) t.within)

pub listed_start : {l b : List ℕ} {n : ℕ} {after : List ℕ} → Lists l b n after → length l ≤ length b → take n after ≡ l
listed_start {l} {b} {n} s h = rw s.stored (start_of b l n s.counts (omega (arith, s.counts)))

pub logged_sectors : (k : ℕ) (d l : List ℕ) {log : List ℕ} {r : Traced} {after : List ℕ} → Traces (chains_within k d l) log 0 r after → Sectors (take r.to after)
logged_sectors k d l t = rw (logged_start t) (files_sectors k d l)

-- ---- a disk that was looked at

module _ (d : List ℕ) {log : List ℕ} {t : Traced} {after : List ℕ} (e : length log ≡ 18) (x : Traces (chain_within true (length log - 0) d 358) log 0 t after) where
  seen : Traces (directory_within 18 d) log 0 t after
  unfolding directory_within
  seen = let k : length log - 0 ≡ 18 = omega arith in rw k at x

  pub seen_few : t.to ≤ 18
  seen_few = omega (arith, x.within)

  pub seen_directory : take t.to after ≡ (directory_within 18 d).sectors
  seen_directory = logged_start seen

  pub seen_ends : t.ends ≡ (directory_within 18 d).ends
  seen_ends = seen.ends

  pub seen_sectors : Sectors (take t.to after)
  seen_sectors = log_sectors d seen_directory

  seen_long : length (take t.to after) ≡ t.to
  seen_long = let k : t.to ≡ 0 + length (directory_within 18 d).sectors = seen.to in rw seen_directory (omega arith)

  pub seen_room : (files : List ℕ) → length files ≡ 144 → 8 * length (take t.to after) ≤ length files
  seen_room files g = omega (arith, seen_long, seen_few)

  module _ {files : List ℕ} {f : ℕ} {after' : List ℕ} (g : length files ≡ 144) (y : Lists (entries_that true d (take t.to after)) files f after') where
    seen_in : f ≤ length files
    seen_in = omega (arith, y.counts, that_few true d (take t.to after), seen_room files g)

    pub seen_after : length after' ≡ length files → f ≤ length after'
    seen_after k = omega (arith, seen_in)

    pub seen_listed : take f after' ≡ listed_within 18 d
    seen_listed = rw seen_directory at (listed_start y (omega (arith, y.counts, seen_in)))

    verdict : {v : Bool} → v ≡ sound_within 18 683 d → v ≡ sound d
    verdict v = v ∙ sound_counted 18 683 d (omega arith) (omega arith)

    pub seen_all : {v : Bool} → v ≡ true → v ≡ sound_within 18 683 d → Looks d (Some (record { sectors = t.to; files = f })) after after'
    seen_all e v =
        let s : sound d ≡ true = sym (verdict v) ∙ e in
        record {
          verdict = s;
          few = seen_few;
          sectors = seen_directory ∙ ap (λ (c : Chain). c.sectors) (directory_counted d s);
          many = omega (arith, seen_in);
          counts = rw seen_directory at y.counts ∙ ap (λ (c : Chain). length (entries_that true d c.sectors)) (directory_counted d s);
          files = seen_listed ∙ ap (λ (c : Chain). entries_that true d c.sectors) (directory_counted d s);
        }

    pub seen_none : {v : Bool} → v ≡ false → v ≡ sound_within 18 683 d → Looks d None after after'
    seen_none e v = sym (verdict v) ∙ e
