-- A save whose entry goes into one that is not listed: one entry more, and all else of the directory as it was.
-- Assumes nothing.
use Prim.Native.Nat.{ℕ, ◌+◌, ◌*◌, ◌/◌, ◌%◌, ◌≤◌, ◌<◌}
use mathlib.Core.Path.{◌≡◌, sym, ap, subst, ◌∙◌}
use mathlib.Core.Bool.{true, false, not}
use mathlib.Core.List.{List}
use lib.Dec.{eqb}
use lib.ListN.{length, get_or}
use lib.Seq.{sets, length-sets}
use native.Mathlib.Decide.{dec_lt}
use native.Mathlib.Omega.{arith}
use borrow.Author.Tests.{not-true}
use Rattle.disk_rules.specs.Lists.{is_in, none_twice}
use Rattle.disk_rules.specs.Links.{link_at}
use Rattle.disk_rules.specs.Map.{bit_of}
use Rattle.disk_rules.specs.Free.{marked_all}
use Rattle.disk_rules.specs.Chains.{Chain}
use Rattle.disk_rules.specs.Entries.{directory, entry_at, entries_of, is_listed, is_that, entries_that, listed}
use Rattle.disk_rules.specs.Calls.{is_file_name, taken, laid, entry_bytes}
use Rattle.disk_rules.proofs.Counting.{never}
use Rattle.disk_chains.proofs.Marking.{marked_all_long}
use Rattle.disk_laws.proofs.Elsewhere.{Off, before, behind, sets_off, marked_all_off}
use Rattle.disk_laws.proofs.Fresh.{sets_at}
use Rattle.disk_laws.proofs.Kept.{in_those, taken_below, entry_long, name_short}
use Rattle.disk_laws.proofs.Saved.{laid_long}
use Rattle.disk_laws.proofs.Without.{Without, put_in}
use Rattle.disk_laws.proofs.Parts.{Parts, link_same, directory_same, FromRun, that_from, EntryPlace, entry_place, entries_apart}
use Rattle.disk_laws.proofs.Added.{Added, laid_18}

-- the disk with the image laid and its sectors marked
abbrev pub written : List ℕ → List ℕ → List ℕ
written d image = marked_all (laid d (taken d image) image) (taken d image) false

pub written_long : (d image : List ℕ) → length (written d image) ≡ length d
written_long d image = marked_all_long (laid d (taken d image) image) (taken d image) false ∙ laid_long d (taken d image) image

-- its bytes of track 18, but for the map
pub written_18 : (d image : List ℕ) (j : ℕ) → 91392 ≤ j → j < 96256 → Off 91396 91536 j → get_or (written d image) j 0 ≡ get_or d j 0
written_18 d image j a b o = marked_all_off (laid d (taken d image) image) (taken d image) false j (taken_below d image) o ∙ laid_18 d image j a b

-- two entries
pub off_entry : (p q i : ℕ) → EntryPlace p → EntryPlace q → (q ≡ p → ⊥) → i < 30 → Off p (p + 30) (q + i)
off_entry p q i a b z h = go (dec_lt q p) where
  go : Dec (q < p) → Off p (p + 30) (q + i)
  go (yes l) = before (omega (arith, a.is, b.is, a.eight, b.eight))
  go (no l) = let g : p < q = omega arith in behind (omega (arith, a.is, b.is, a.eight, b.eight))

-- a sector's link stands before its entries
pub off_link : (p m j : ℕ) → EntryPlace p → 256 * m ≤ j → j < 256 * m + 2 → Off p (p + 30) j
off_link p m j a g h = go (dec_lt j p) where
  go : Dec (j < p) → Off p (p + 30) j
  go (yes l) = before l
  go (no l) = behind (omega (arith, a.is, a.eight))

module _ (d name image : List ℕ) (p : ℕ) (x : Parts d) (n : is_file_name name ≡ true) (unlisted : is_in (entries_that false d (directory d).sectors) p ≡ true) where
  abbrev entry : List ℕ
  entry = entry_bytes name (taken d image)

  abbrev made : List ℕ
  made = sets (written d image) p (entry_bytes name (taken d image))

  long_entry : length (entry_bytes name (taken d image)) ≡ 30
  long_entry = entry_long name (taken d image) (name_short name n)

  run : FromRun (entry_at (directory d).sectors) 0 (8 * length (directory d).sectors) p
  run = that_from false d p unlisted

  place : EntryPlace p
  place = subst EntryPlace (sym run.is) (entry_place d run.at (omega (arith, run.high)))

  off_made : (j : ℕ) → Off p (p + 30) j → get_or made j 0 ≡ get_or (written d image) j 0
  off_made j o = sets_off (written d image) p entry j (subst (λ (k : ℕ). Off p (p + k) j) (sym long_entry) o)

  byte : (j : ℕ) → 91392 ≤ j → j < 96256 → Off 91396 91536 j → Off p (p + 30) j → get_or made j 0 ≡ get_or d j 0
  byte j a b o k = off_made j k ∙ written_18 d image j a b o

  link_18 : (m : ℕ) → 358 ≤ m → m ≤ 375 → link_at made (256 * m) ≡ link_at d (256 * m)
  link_18 m a b =
      link_same d made (256 * m)
      (byte (256 * m) (omega arith) (omega arith) (behind (omega arith)) (off_link p m (256 * m) place (omega arith) (omega arith)))
      (byte (256 * m + 1) (omega arith) (omega arith) (behind (omega arith)) (off_link p m (256 * m + 1) place (omega arith) (omega arith)))

  dir_same : directory made ≡ directory d
  dir_same = directory_same d made (length-sets (written d image) p entry ∙ written_long d image) link_18

  still : (q : ℕ) → EntryPlace q → (q ≡ p → ⊥) → (i : ℕ) → i < 30 → get_or made (q + i) 0 ≡ get_or d (q + i) 0
  still q a z i h =
      byte (q + i) (omega (arith, a.is, a.low)) (omega (arith, a.is, a.high, a.eight)) (behind (omega (arith, a.is, a.low))) (off_entry p q i place a z h)

  new_entry : (i : ℕ) → i < 30 → get_or made (p + i) 0 ≡ get_or (entry_bytes name (taken d image)) i 0
  new_entry i h = sets_at (written d image) p entry i (omega (arith, long_entry, written_long d image, x.size, place.is, place.high, place.eight)) (omega (arith, long_entry))

  not_listed : is_listed d p ≡ false
  unfolding entries_that
  not_listed = not-true (is_listed d p) (in_those (is_that false d) (entries_of (directory d).sectors) p unlisted)

  listed_not : (q : ℕ) → is_in (listed d) q ≡ true → q ≡ p → ⊥
  unfolding entries_that
  listed_not q i e = never (sym (ap (is_listed d) e ∙ not_listed) ∙ in_those (is_that true d) (entries_of (directory d).sectors) q i)

  listed_place : (q : ℕ) → is_in (listed d) q ≡ true → EntryPlace q
  listed_place q i = let r : FromRun (entry_at (directory d).sectors) 0 (8 * length (directory d).sectors) q = that_from true d q i in subst EntryPlace (sym r.is) (entry_place d r.at (omega (arith, r.high)))

  one_more : Without p (entries_that true made (directory d).sectors) (listed d)
  unfolding entries_that
  one_more =
      let e : ℕ = run.at in
      let f : ℕ → ℕ = entry_at (directory d).sectors in
      let z0 : p + 0 ≡ p = omega arith in
      subst (λ (y : ℕ). Without y (entries_that true made (directory d).sectors) (listed d)) (sym run.is)
      (put_in f (is_that true d) (is_that true made) e 0 (8 * length (directory d).sectors) run.low run.high
      (ap (is_listed d) (sym run.is) ∙ not_listed)
      (ap (is_listed made) (sym run.is) ∙ ap (λ (y : ℕ). not (eqb y 0)) (rw z0 at (new_entry 0 (omega arith))))
      (λ g a b z. let w : f g ≡ p → ⊥ = λ y. z (entries_apart (directory d).sectors x.once g e (omega arith) (omega (arith, run.high)) (y ∙ run.is)) in
      let v : f g + 0 ≡ f g = omega arith in
      let k : get_or made (f g) 0 ≡ get_or d (f g) 0 = rw v at (still (f g) (entry_place d g (omega arith)) w 0 (omega arith)) in
      ap (λ (y : ℕ). not (eqb y 0)) k))

  pub entered : Added d name image made p
  entered = record {
    size = length-sets (written d image) p entry ∙ written_long d image ∙ x.size;
    room = omega (arith, place.is, place.high, place.eight);
    track = byte 91392 (omega arith) (omega arith) (before (omega arith)) (before (omega (arith, place.is, place.low)));
    sector = byte 91393 (omega arith) (omega arith) (before (omega arith)) (before (omega (arith, place.is, place.low)));
    ends = ap (λ (c : Chain). c.ends) dir_same ∙ x.ends;
    once = ap (λ (c : Chain). none_twice c.sectors) dir_same ∙ x.once;
    more = subst (λ (l : List ℕ). Without p l (listed d)) (sym (ap (λ (c : Chain). entries_that true made c.sectors) dir_same)) one_more;
    still = λ q i j h. still q (listed_place q i) (listed_not q i) j h;
    entry = new_entry;
    bits = λ t s a b c z. ap (λ (y : ℕ). bit_of y (s % 8)) (off_made (91392 + 4 * t + 1 + s / 8) (before (omega (arith, place.is, place.low))));
  }
