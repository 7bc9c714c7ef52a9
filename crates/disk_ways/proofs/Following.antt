-- Following a way: its loop's invariant, a turn, and its ends.
-- Assumes nothing.
use Prim.Native.Nat.{ℕ, suc, ◌+◌, ◌-◌, ◌*◌, ◌≤◌, ◌<◌}
use mathlib.Core.Path.{◌≡◌, refl, sym, ap, ◌∙◌, fun_ext}
use mathlib.Core.Bool.{Bool, true, false, not, ◌||◌, or-true}
use mathlib.Core.List.{List, ◌∷◌}
use mathlib.Core.Logic.{◌⊎◌, inl, inr}
use lib.Dec.{eqb}
use lib.ListN.{length, get_or, set, length-set}
use lib.Seq.{sets, get_or-set_same, get_or-set_other}
use native.Mathlib.Numerals.{add-one}
use native.Mathlib.Omega.{arith}
use mir.Val.{Fits}
use mir.Syntax.{w64}
use borrow.Author.Tests.{eqb-true, eqb-false, not-true, not-false, le-ltb}
use Rattle.disk_rules.specs.Places.{sectors_before}
use Rattle.disk_rules.specs.Lists.{some, is_in}
use Rattle.disk_rules.specs.declared.Link.{Link}
use Rattle.disk_rules.specs.declared.Link.TheVariants.{Last, To, Astray as NoSector}
use Rattle.disk_rules.specs.Links.{link_on}
use Rattle.disk_ways.specs.Ways.{tracks_over, sectors_over, may_go, link_there, Way, stopped, stray_at, refused_at, way_onward, way, way_by, way_of}
use Rattle.disk_ways.specs.WayHelpers.{Follows}
use Rattle.disk_ways.specs.declared.Over.{Over}
use Rattle.disk_ways.specs.declared.Stop.{Stop}
use Rattle.disk_ways.specs.declared.Stop.TheVariants.{Ended, Barred, Again}
use Rattle.disk_ways.specs.declared.Followed.{Followed}
use Rattle.disk_ways.proofs.Going.{link_below}

-- which sectors are marked
abbrev pub marked_in : List Bool → ℕ → Bool
marked_in marks m = get_or marks m false

-- of a way that is to be logged, what is left, and the log and the marks so far
pub record Owes (c : Way) (log₀ : List ℕ) (marks₀ : List Bool) (x : Way) (log : List ℕ) (marks : List Bool) (to : ℕ) : Type 0 where
  pub counts : to + length x.sectors ≡ length c.sectors
  pub stop : x.stop ≡ c.stop
  pub logs : sets log to x.sectors ≡ sets log₀ 0 c.sectors
  pub met : (m : ℕ) → (is_in x.sectors m || marked_in marks m) ≡ (is_in c.sectors m || marked_in marks₀ m)

pub record Following (over : Over) (d : List ℕ) (c : Way) (log₀ : List ℕ) (marks₀ : List Bool) (log : List ℕ) (marks : List Bool) (n to : ℕ) : Type 0 where
  pub low : 31 ≤ tracks_over over
  pub high : tracks_over over ≤ 40
  pub size : 256 * sectors_over over ≤ length d
  pub room : sectors_over over ≤ length marks₀
  pub sized : length log ≡ length log₀
  pub long : length marks ≡ length marks₀
  pub within : to ≤ length log₀
  pub below : n < sectors_over over
  pub owes : Owes c log₀ marks₀ (way over (length log₀ - to) d (marked_in marks) n) log marks to

pub follow_start : (over : Over) (d log : List ℕ) (marks : List Bool) (n : ℕ)
    → (31 ≤ tracks_over over) × (tracks_over over ≤ 40) × (256 * sectors_over over ≤ length d) × (sectors_over over ≤ length marks) × (n < sectors_over over)
    → Following over d (way over (length log) d (marked_in marks) n) log marks log marks n 0
follow_start over d log marks n h =
    let e : length log - 0 ≡ length log = omega arith in
    record {
      low = h.0;
      high = h.1;
      size = h.2;
      room = h.3;
      sized = refl;
      long = refl;
      within = omega arith;
      below = h.4;
      owes = rw e (record { counts = omega arith; stop = refl; logs = refl; met = λ m. refl });
    }

-- the marks with one sector more
one_marked : (marks : List Bool) (n : ℕ) → n < length marks → (m : ℕ) → marked_in (set marks n true) m ≡ (eqb m n || marked_in marks m)
one_marked marks n h m = go (eqb m n) refl where
  go : (b : Bool) → eqb m n ≡ b → marked_in (set marks n true) m ≡ (b || marked_in marks m)
  go true e = rw (eqb-true m n e) (get_or-set_same marks n true false h)
  go false e = get_or-set_other marks n m true false (eqb-false m n e)

or_moved : (a b c : Bool) → (b || (a || c)) ≡ ((a || b) || c)
or_moved true b c = or-true b
or_moved false b c = refl

module _ {c : Way} {log₀ : List ℕ} {marks₀ : List Bool} {log : List ℕ} {marks : List Bool} {to : ℕ} where
  -- nothing is left
  owes_none : {s : Stop} → to ≤ length log₀ → length marks ≡ length marks₀ → Owes c log₀ marks₀ (stopped s) log marks to
      → Follows c log₀ marks₀ (record { to = to; stop = s }) log marks
  unfolding some
  owes_none h l o =
      record {
        to = let e : to + 0 ≡ length c.sectors = o.counts in omega arith;
        within = h;
        stop = o.stop;
        logged = o.logs;
        sized = l;
        marked = o.met;
      }

  -- a sector is logged
  owes_one : {n : ℕ} {x : Way} → n < length marks → Owes c log₀ marks₀ (record { sectors = n ∷ x.sectors; stop = x.stop }) log marks to
      → Owes c log₀ marks₀ x (set log to n) (set marks n true) (to + 1)
  unfolding some
  owes_one {n} {x} h o =
      record {
        counts = let e : to + suc (length x.sectors) ≡ length c.sectors = o.counts in omega arith;
        stop = o.stop;
        logs = rw add-one o.logs;
        met =
            λ m.
            ap (λ (b : Bool). is_in x.sectors m || b) (one_marked marks n h m)
            ∙ or_moved (eqb m n) (is_in x.sectors m) (marked_in marks m)
            ∙ o.met m;
      }

module _ {over : Over} {d : List ℕ} {c : Way} {log₀ : List ℕ} {marks₀ : List Bool} {log : List ℕ} {marks : List Bool} {n to : ℕ}
    (f : Following over d c log₀ marks₀ log marks n to) where
  one_more : to < length log₀ → length log₀ - to ≡ suc (length log₀ - (to + 1))
  one_more h = omega (arith, f.sized)

  pub follow_mark : n < length marks
  follow_mark = omega (arith, f.below, f.room, f.long)

  -- a sector stands on the disk
  last_before : (t : ℕ) → 31 ≤ t → t ≤ 40 → sectors_before (t + 1) ≤ 768
  unfolding sectors_before
  last_before t h g =
      let a : 18 ≤ t + 1 = omega arith in let b : 25 ≤ t + 1 = omega arith in let e : 31 ≤ t + 1 = omega arith in
      simp (le-ltb (t + 1) 18 a, le-ltb (t + 1) 25 b, le-ltb (t + 1) 31 e) (omega arith)

  pub follow_fits : Fits w64 (256 * n)
  follow_fits = omega (arith, f.below, last_before (tracks_over over) f.low f.high)

  pub follow_room : 256 * n + 1 < length d
  follow_room = omega (arith, f.below, f.size)

  pub follow_full : {s : Stop} → length log₀ ≤ to → s ≡ refused_at over n → Follows c log₀ marks₀ (record { to = length log; stop = s }) log marks
  unfolding way
  follow_full h e =
      let z : length log₀ - to ≡ 0 = omega arith in
      let i : to ≡ length log = omega (arith, f.sized, f.within) in
      rw (e, ← i) (owes_none f.within f.long (rw z at f.owes))

  pub follow_barred : {r : Bool} → to < length log₀ → not r ≡ true → r ≡ may_go over n → Follows c log₀ marks₀ (record { to = to; stop = Barred n }) log marks
  unfolding way
  follow_barred {r} h e g =
      let m : may_go over n ≡ false = sym g ∙ not-true r e in
      owes_none f.within f.long (simp m at (rw (one_more h) at f.owes))

  module _ {r : Bool} (h : to < length log₀) (e : not r ≡ false) (g : r ≡ may_go over n) where
    goes : may_go over n ≡ true
    goes = sym g ∙ not-false r e

    pub follow_again : get_or marks n false ≡ true → Follows c log₀ marks₀ (record { to = to; stop = Again n }) log marks
    unfolding way
    follow_again m = owes_none f.within f.long (simp (goes, m) at (rw (one_more h) at f.owes))

    module _ (m : get_or marks n false ≡ false) {tracks : ℕ} (t : tracks ≡ tracks_over over) {l : Link} (x : l ≡ link_on tracks (get_or d (256 * n) 0) (get_or d (256 * n + 1) 0)) where
      abbrev rest : ℕ → Way
      rest = way over (length log₀ - (to + 1)) d (marked_in (set marks n true))

      -- what is owed, by the sector's link
      linked : {k : Link} → l ≡ k → Owes c log₀ marks₀ (way_onward d n rest k) log marks to
      unfolding way
      linked {k} i =
          let j : link_on (tracks_over over) (get_or d (256 * n) 0) (get_or d (256 * n + 1) 0) ≡ k = sym (rw t at x) ∙ i in
          rw (fun_ext (one_marked marks n follow_mark)) (rw j at (simp (goes, m) at (rw (one_more h) at f.owes)))

      pub follow_last : {b : ℕ} → l ≡ Last b → Follows c log₀ marks₀ (record { to = to + 1; stop = Ended n b }) (set log to n) (set marks n true)
      follow_last {b} i =
          owes_none (omega (arith, f.sized)) (length-set marks n true ∙ f.long) (owes_one {x = stopped (Ended n b)} follow_mark (linked i))

      pub follow_astray : {s : Stop} → l ≡ NoSector → s ≡ stray_at d (256 * n)
          → Follows c log₀ marks₀ (record { to = to + 1; stop = s }) (set log to n) (set marks n true)
      follow_astray i e =
          rw e (owes_none (omega (arith, f.sized)) (length-set marks n true ∙ f.long) (owes_one {x = stopped (stray_at d (256 * n))} follow_mark (linked i)))

      pub follow_turn : {m : ℕ} → l ≡ To m → Following over d c log₀ marks₀ (set log to n) (set marks n true) m (to + 1)
      follow_turn {m} i =
          record {
            low = f.low;
            high = f.high;
            size = f.size;
            room = f.room;
            sized = length-set log to n ∙ f.sized;
            long = length-set marks n true ∙ f.long;
            within = omega (arith, f.sized);
            below = link_below (tracks_over over) (get_or d (256 * n) 0) (get_or d (256 * n + 1) 0) f.low (sym (rw t at x) ∙ i);
            owes = owes_one {x = rest m} follow_mark (linked i);
          }

-- ---- an entry's file

module _ (over : Over) (d log : List ℕ) (marks : List Bool) (p : ℕ) {tracks : ℕ} (t : tracks ≡ tracks_over over) {l : Link}
    (x : l ≡ link_on tracks (get_or d (p + 1) 0) (get_or d (p + 1 + 1) 0)) where
  begins : {k : Link} → l ≡ k → way_by d (p + 1) (way over (length log) d (marked_in marks)) k ≡ way_of over (length log) d (marked_in marks) p
  begins {k} i =
      let j : k ≡ link_there over d (p + 1) = sym i ∙ (rw t at x) in ap (way_by d (p + 1) (way over (length log) d (marked_in marks))) j

  nothing : Follows (stopped (stray_at d (p + 1))) log marks (record { to = 0; stop = stray_at d (p + 1) }) log marks
  unfolding some
  nothing = record { to = refl; within = omega arith; stop = refl; logged = refl; sized = refl; marked = λ m. refl }

  pub entry_below : {n : ℕ} → 31 ≤ tracks_over over → l ≡ To n → n < sectors_over over
  entry_below h i = link_below (tracks_over over) (get_or d (p + 1) 0) (get_or d (p + 1 + 1) 0) h (sym (rw t at x) ∙ i)

  pub entry_to : {n : ℕ} {r : Followed} {log' : List ℕ} {marks' : List Bool} → l ≡ To n
      → Follows (way over (length log) d (marked_in marks) n) log marks r log' marks' → Follows (way_of over (length log) d (marked_in marks) p) log marks r log' marks'
  entry_to i f = rw (begins i) at f

  pub entry_none : {s : Stop} → s ≡ stray_at d (p + 1) → ((b : ℕ) × (l ≡ Last b)) ⊎ (l ≡ NoSector)
      → Follows (way_of over (length log) d (marked_in marks) p) log marks (record { to = 0; stop = s }) log marks
  entry_none e (inl (b, i)) = rw e (rw (begins i) at nothing)
  entry_none e (inr i) = rw e (rw (begins i) at nothing)
