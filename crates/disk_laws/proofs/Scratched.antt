-- A scratch keeps the check.
-- Assumes nothing.
use Prim.Native.Nat.{ℕ, ◌+◌, ◌*◌, ◌≤◌, ◌<◌}
use mathlib.Core.Path.{◌≡◌, refl, sym, ap, subst, ◌∙◌}
use mathlib.Core.Bool.{Bool, true, false, not, cond, ◌||◌}
use mathlib.Core.List.{List, [], ◌∷◌}
use lib.Dec.{eqb, ltb}
use lib.ListN.{length, get_or, set, length-set}
use lib.Seq.{get_or-set_same}
use native.Mathlib.Decide.{dec_lt}
use native.Mathlib.Omega.{arith}
use borrow.Author.Tests.{eq-eqb, ltb-true}
use Rattle.base_refusals.specs.Numbers.{bad_disk, bad_name}
use Rattle.base_refusals.specs.Answer.{Answer, done, refused}
use Rattle.disk_rules.specs.Places.{off_track18}
use Rattle.disk_rules.specs.Lists.{some, is_in, none_twice}
use Rattle.disk_rules.specs.Links.{link_at}
use Rattle.disk_rules.specs.Free.{map_agrees, marked_all}
use Rattle.disk_rules.specs.Chains.{Chain, may_hold}
use Rattle.disk_rules.specs.Entries.{directory, entry_at, entries_of, is_that, entries_that, listed, is_named, entries_good, chain_of}
use Rattle.disk_rules.specs.Check.{sound}
use Rattle.disk_rules.specs.Calls.{is_file_name, of_file, entries_named, scratched}
use Rattle.disk_chains.proofs.Marking.{marked_all_long}
use Rattle.disk_rules.proofs.Counting.{and_left, and_right, never, in_those_list}
use Rattle.disk_rules.proofs.Counted.{by_held}
use Rattle.disk_laws.proofs.Elsewhere.{Off, before, behind, set_off, marked_all_off}
use Rattle.disk_laws.proofs.Kept.{in_those}
use Rattle.disk_laws.proofs.Saved.{passes}
use Rattle.disk_laws.proofs.Chained.{all_sectors, AllEnd}
use Rattle.disk_laws.proofs.Without.{Without, Apart, in_all, all_end, all_apart, good_less, AllSame, good_same, sectors_same, ends_same, put_in}
use Rattle.disk_laws.proofs.Mapped.{agrees_again}
use Rattle.disk_laws.proofs.Parts.{Parts, parts, parts_sound, link_same, directory_same, entry_same, map_same, FromRun, that_from, EntryPlace, entry_place, entries_apart}

-- a place apart from another
pub off_one : (p j : ℕ) → (j ≡ p → ⊥) → Off p (p + 1) j
off_one p j z = go (dec_lt j p) where
  go : Dec (j < p) → Off p (p + 1) j
  go (yes h) = before h
  go (no h) = behind (omega arith)

-- the bytes of two entries
pub entry_bytes_lem : (p q i : ℕ) → EntryPlace p → EntryPlace q → (q ≡ p → ⊥) → i < 30 → q + i ≡ p → ⊥
entry_bytes_lem p q i a b z h e = z (omega (arith, a.is, b.is, a.eight, b.eight))

module _ (d : List ℕ) (p : ℕ) (x : Parts d) (Listed-p : is_in (listed d) p ≡ true) where
  abbrev own : List ℕ
  own = (chain_of d p).sectors

  abbrev pub made : List ℕ
  made = marked_all (set d p 0) (chain_of d p).sectors true

  abbrev dir : List ℕ
  dir = (directory d).sectors

  run : FromRun (entry_at (directory d).sectors) 0 (8 * length (directory d).sectors) p
  run = that_from true d p Listed-p

  place : EntryPlace p
  place = subst EntryPlace (sym run.is) (entry_place d run.at (omega (arith, run.high)))

  own_held : (m : ℕ) → is_in (chain_of d p).sectors m ≡ true → m < 683
  own_held m i = ltb-true m 683 (and_left (ltb m 683) (off_track18 m) (by_held d (link_at d (p + 1)) m i))

  long : length made ≡ length d
  long = marked_all_long (set d p 0) (chain_of d p).sectors true ∙ length-set d p 0

  byte : (j : ℕ) → Off 91396 91536 j → (j ≡ p → ⊥) → get_or made j 0 ≡ get_or d j 0
  byte j o z = marked_all_off (set d p 0) (chain_of d p).sectors true j own_held o ∙ set_off d p 0 j (off_one p j z)

  cleared : get_or made p 0 ≡ 0
  cleared =
      marked_all_off (set d p 0) (chain_of d p).sectors true p own_held (behind (omega (arith, place.is, place.low)))
      ∙ get_or-set_same d p 0 0 (omega (arith, place.is, place.high, place.eight, x.size))

  link_18 : (m : ℕ) → 358 ≤ m → m ≤ 375 → link_at made (256 * m) ≡ link_at d (256 * m)
  link_18 m a b =
      link_same d made (256 * m)
      (byte (256 * m) (behind (omega arith)) (λ e. omega (arith, place.is, place.eight)))
      (byte (256 * m + 1) (behind (omega arith)) (λ e. omega (arith, place.is, place.eight)))

  dir_same : directory made ≡ directory d
  dir_same = directory_same d made long link_18

  still : (q : ℕ) → EntryPlace q → (q ≡ p → ⊥) → (i : ℕ) → i < 30 → get_or made (q + i) 0 ≡ get_or d (q + i) 0
  still q a z i h = byte (q + i) (behind (omega (arith, a.is, a.low))) (entry_bytes_lem p q i place a z h)

  -- the listed entries: one fewer
  abbrev pub left : List ℕ
  left = entries_that true made (directory d).sectors

  pub left_is : listed made ≡ left
  left_is = ap (λ (c : Chain). entries_that true made c.sectors) dir_same

  pub fewer : Without p (listed d) left
  unfolding entries_that
  fewer =
      let e : ℕ = run.at in
      let f : ℕ → ℕ = entry_at (directory d).sectors in
      subst (λ (y : ℕ). Without y (listed d) left) (sym run.is)
      (put_in f (is_that true made) (is_that true d) e 0 (8 * length (directory d).sectors) run.low run.high
      (ap (is_that true made) (sym run.is) ∙ ap (λ (y : ℕ). not (eqb y 0)) cleared)
      (ap (is_that true d) (sym run.is) ∙ in_those (is_that true d) (entries_of (directory d).sectors) p Listed-p)
      (λ g a b z. let w : f g ≡ p → ⊥ = λ y. z (entries_apart (directory d).sectors x.once g e (omega arith) (omega (arith, run.high)) (y ∙ run.is)) in
      let v : f g + 0 ≡ f g = omega arith in
      let k : get_or made (f g) 0 ≡ get_or d (f g) 0 = rw v at (still (f g) (entry_place d g (omega arith)) w 0 (omega arith)) in
      ap (λ (y : ℕ). not (eqb y 0)) (sym k)))

  left_not : (q : ℕ) → is_in left q ≡ true → q ≡ p → ⊥
  unfolding entries_that
  left_not q i e =
      never (sym (ap (λ (y : ℕ). not (eqb y 0)) (ap (λ (y : ℕ). get_or made y 0) e ∙ cleared)) ∙ in_those (is_that true made) (entries_of (directory d).sectors) q i)

  left_from_lem : (q : ℕ) → is_in left q ≡ true → EntryPlace q
  unfolding entries_that
  left_from_lem q i =
      let c : is_in (listed made) q ≡ true = ap (λ (l : List ℕ). is_in l q) left_is ∙ i in
      let r : FromRun (entry_at (directory made).sectors) 0 (8 * length (directory made).sectors) q = that_from true made q c in
      subst EntryPlace (sym r.is) (entry_place made r.at (omega (arith, r.high)))

  off_link : (m : ℕ) → may_hold false m ≡ true → link_at made (256 * m) ≡ link_at d (256 * m)
  off_link m h = go (dec_lt m 357) where
    o : (m < 357 → ⊥) → 375 < m
    o z = over (and_right (ltb m 683) (off_track18 m) h) where
      over : (ltb m 357 || ltb 375 m) ≡ true → 375 < m
      over e = by (ltb m 357) refl e where
        by : (q : Bool) → ltb m 357 ≡ q → (q || ltb 375 m) ≡ true → 375 < m
        by true f g = absurd (z (ltb-true m 357 f))
        by false f g = ltb-true 375 m g

    go : Dec (m < 357) → link_at made (256 * m) ≡ link_at d (256 * m)
    go (yes a) =
        link_same d made (256 * m)
        (byte (256 * m) (before (omega arith)) (λ e. omega (arith, place.is, place.low)))
        (byte (256 * m + 1) (before (omega arith)) (λ e. omega (arith, place.is, place.low)))
    go (no a) =
        let b : 375 < m = o a in
        link_same d made (256 * m)
        (byte (256 * m) (behind (omega arith)) (λ e. omega (arith, place.is, place.high, place.eight)))
        (byte (256 * m + 1) (behind (omega arith)) (λ e. omega (arith, place.is, place.high, place.eight)))

  pub same : AllSame d made left
  same q i = entry_same d made q long (λ j h. still q (left_from_lem q i) (left_not q i) j h) (λ m k. off_link m (by_held d (link_at d (q + 1)) m k))

  apart_two : Apart (chain_of d p).sectors (all_sectors d left)
  apart_two = all_apart d p fewer x.apart

  agreed : map_agrees made (is_in (all_sectors d left)) ≡ true
  agreed =
      agrees_again (set d p 0) made (chain_of d p).sectors true (is_in (all_sectors d (listed d))) (is_in (all_sectors d left))
      (length-set d p 0 ∙ x.size) own_held (λ t s a b c z. refl)
      (λ n. by (is_in (chain_of d p).sectors n) (is_in (all_sectors d left) n) (is_in (all_sectors d (listed d)) n) (in_all d p fewer n) (apart_two.none n))
      (map_same d (set d p 0) (is_in (all_sectors d (listed d))) x.size (λ j a b. set_off d p 0 j (before (omega (arith, place.is, place.low)))) x.agrees) where
        by : (a b c : Bool) → c ≡ (a || b) → (a ≡ true → b ≡ false) → b ≡ cond a false c
        by true b c e f = f refl
        by false b c e f = sym e

  pub scratch_parts : Parts made
  scratch_parts = record {
    size = long ∙ x.size;
    track = byte 91392 (before (omega arith)) (λ e. omega (arith, place.is, place.low)) ∙ x.track;
    sector = byte 91393 (before (omega arith)) (λ e. omega (arith, place.is, place.low)) ∙ x.sector;
    ends = ap (λ (c : Chain). c.ends) dir_same ∙ x.ends;
    once = ap (λ (c : Chain). none_twice c.sectors) dir_same ∙ x.once;
    good = ap (entries_good made) left_is ∙ good_same d made left same (good_less d p fewer x.good);
    each = subst (λ (l : List ℕ). AllEnd made l) (sym left_is) (ends_same d made left same (all_end d p fewer x.each).1);
    apart = ap (λ (l : List ℕ). none_twice (all_sectors made l)) left_is ∙ ap none_twice (sectors_same d made left same) ∙ apart_two.right;
    agrees = ap (λ (l : List ℕ). map_agrees made (is_in (all_sectors made l))) left_is ∙ ap (λ (l : List ℕ). map_agrees made (is_in l)) (sectors_same d made left same) ∙ agreed;
  }

-- ---- the call

first_of : (d : List ℕ) (l out : List ℕ) → Parts d → ((q : ℕ) → is_in l q ≡ true → is_in (listed d) q ≡ true)
    → of_file l (λ p. done (marked_all (set d p 0) (chain_of d p).sectors true)) ≡ done out → Parts out
unfolding some
first_of d [] out x h e = absurd (let z : ◌≡◌ {A = ℕ} 0 1 = cc in omega arith)
first_of d (p ∷ l) out x h e =
    let z : marked_all (set d p 0) (chain_of d p).sectors true ≡ out = cc in
    subst Parts z (scratch_parts d p x (h p (rw (eq-eqb p p refl))))

-- a scratch that is done leaves a disk on which the check holds
pub scratched_sound : (d name out : List ℕ) → scratched d name ≡ done out → sound out ≡ true
unfolding scratched
scratched_sound d name out e =
    let all : Answer (List ℕ) = of_file (entries_named d name) (λ p. done (marked_all (set d p 0) (chain_of d p).sectors true)) in
    let a : (sound d ≡ true) × (cond (is_file_name name) all (refused bad_name) ≡ done out) = passes (sound d) bad_disk (cond (is_file_name name) all (refused bad_name)) out e in
    let b : (is_file_name name ≡ true) × (all ≡ done out) = passes (is_file_name name) bad_name all out a.1 in
    parts_sound out (first_of d (entries_named d name) out (parts d a.0) (λ q i. in_those_list (is_named d name) (listed d) q i) b.1)
