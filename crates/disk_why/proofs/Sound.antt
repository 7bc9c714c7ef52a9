-- Nothing is told of a disk exactly where the check takes it.
-- Assumes nothing.
use Prim.Native.Nat.{ℕ, ◌+◌, ◌/◌, ◌%◌}
use mathlib.Core.Path.{◌≡◌, refl, sym, ap, ◌∙◌, fun_ext}
use mathlib.Core.Bool.{Bool, true, false, not, cond, ◌&&◌, ◌||◌, or-true}
use mathlib.Core.List.{List, [], ◌∷◌, ◌++◌}
use lib.Dec.{ltb, eqb}
use lib.ListN.{length, get_or}
use native.Mathlib.Omega.{arith}
use borrow.Author.Tests.{eq-eqb, eqb-true}
use Rattle.disk_rules.specs.Places.{sectors_on}
use Rattle.disk_rules.specs.Lists.{numbers_from, those, some, every, is_in, none_twice}
use Rattle.disk_rules.specs.Map.{bit_at}
use Rattle.disk_rules.specs.Free.{bit_agrees, map_agrees}
use Rattle.disk_rules.specs.Chains.{Chain}
use Rattle.disk_rules.specs.Entries.{directory, entries_that, listed, name_at, is_named, entries_good, chain_of}
use Rattle.disk_rules.specs.Check.{sound}
use Rattle.disk_rules.proofs.Counting.{never, and_left, and_right, in_append}
use Rattle.disk_ways.specs.Ways.{none_met, way_of, ends_as}
use Rattle.disk_ways.specs.declared.Over.TheVariants.{Directory as DirectoryWay, Files}
use Rattle.disk_ways.proofs.Chained.{Chained, way_chained, entry_chained, Walked, chain_walked, entry_walked}
use Rattle.disk_laws.proofs.Without.{Apart, apart_lists, lists_apart_lem}
use Rattle.disk_laws.proofs.Chained.{all_sectors, AllEnd}
use Rattle.disk_laws.proofs.Parts.{Parts, parts, parts_sound}
use Rattle.disk_why.specs.Why.{is_nothing, or_else, first_fault, start_fault, directory_way, directory_fault, same_fault, entry_fault, file_fault, alone_fault, met_behind, crossed_fault, met_by, bit_fault, map_fault, listed_fault, why}
use Rattle.disk_why.specs.declared.Broken.{Broken}
use Rattle.disk_why.specs.declared.Broken.TheVariants.{Nothing, Length, Start, Directory, NotClosed, SameName, File, Free, Used, Beyond}

-- ---- nothing, by parts

or_nothing : (a b : Broken) → is_nothing (or_else a b) ≡ (is_nothing a && is_nothing b)
or_nothing a b = go (is_nothing a) refl where
  go : (q : Bool) → is_nothing a ≡ q → is_nothing (cond q b a) ≡ (q && is_nothing b)
  go true e = refl
  go false e = e

or_as : (a b : Broken) {x y : Bool} → is_nothing a ≡ x → is_nothing b ≡ y → is_nothing (or_else a b) ≡ (x && y)
or_as a b e f = or_nothing a b ∙ cc

or_none : (b : Bool) → (b || false) ≡ b
or_none true = refl
or_none false = refl

-- where a test fails, something is told
told_nothing : (q : Bool) (a : Broken) → is_nothing a ≡ false → is_nothing (cond q Nothing a) ≡ q
told_nothing true a e = refl
told_nothing false a e = e

first_nothing : (f : ℕ → Broken) (l : List ℕ) → is_nothing (first_fault f l) ≡ every (λ n. is_nothing (f n)) l
unfolding first_fault every
first_nothing f [] = refl
first_nothing f (n ∷ l) = or_nothing (f n) (first_fault f l) ∙ ap (λ (q : Bool). is_nothing (f n) && q) (first_nothing f l)

both : {a b : Bool} → a ≡ true → b ≡ true → (a && b) ≡ true
both e f = rw e f

and_both : (a b : Bool) → (a && b) ≡ true → (a ≡ true) × (b ≡ true)
and_both a b e = (and_left a b e, and_right a b e)

is_nothing_lem : (a : Broken) → is_nothing a ≡ true → a ≡ Nothing
is_nothing_lem Nothing e = refl
is_nothing_lem (Length n) e = never e
is_nothing_lem (Start t s) e = never e
is_nothing_lem (Directory stop) e = never e
is_nothing_lem (NotClosed p) e = never e
is_nothing_lem (SameName p q) e = never e
is_nothing_lem (File p stop) e = never e
is_nothing_lem (Free t s) e = never e
is_nothing_lem (Used t s) e = never e
is_nothing_lem (Beyond t s) e = never e

-- ---- entries

same_nothing : (p : ℕ) (test : ℕ → Bool) (l : List ℕ) → is_nothing (same_fault p (those test l)) ≡ not (some test l)
unfolding those some
same_nothing p test [] = refl
same_nothing p test (n ∷ l) = go (test n) (same_nothing p test l) where
  go : (q : Bool) → is_nothing (same_fault p (those test l)) ≡ not (some test l) → is_nothing (same_fault p (cond q (n ∷ those test l) (those test l))) ≡ not (q || some test l)
  go true e = refl
  go false e = e

entries_nothing : (d l : List ℕ) → is_nothing (entry_fault d l) ≡ entries_good d l
unfolding entry_fault entries_good
entries_nothing d [] = refl
entries_nothing d (p ∷ l) =
    or_nothing (cond (eqb (get_or d p 0) 0x82) (same_fault p (those (is_named d (name_at d p)) l)) (NotClosed p)) (entry_fault d l) ∙ go (eqb (get_or d p 0) 0x82) (entries_nothing d l) where
      go : (q : Bool) → is_nothing (entry_fault d l) ≡ entries_good d l
          → (is_nothing (cond q (same_fault p (those (is_named d (name_at d p)) l)) (NotClosed p)) && is_nothing (entry_fault d l)) ≡ (q && not (some (is_named d (name_at d p)) l) && entries_good d l)
      go true e = rw (same_nothing p (is_named d (name_at d p)) l, e)
      go false e = refl

-- ---- the map

bit_nothing : (d : List ℕ) (met : ℕ → Bool) (t s : ℕ) → is_nothing (bit_fault d met t s) ≡ bit_agrees d met t s
unfolding bit_fault
bit_nothing d met t s =
    told_nothing (bit_agrees d met t s) (cond (ltb s (sectors_on t)) (cond (eqb (bit_at d t s) 1) (Free t s) (Used t s)) (Beyond t s)) (go (ltb s (sectors_on t)) (eqb (bit_at d t s) 1)) where
      go : (a b : Bool) → is_nothing (cond a (cond b (Free t s) (Used t s)) (Beyond t s)) ≡ false
      go true true = refl
      go true false = refl
      go false b = refl

map_nothing : (d : List ℕ) (met : ℕ → Bool) → is_nothing (map_fault d met) ≡ map_agrees d met
unfolding map_fault map_agrees
map_nothing d met =
    first_nothing (λ i. bit_fault d met (1 + i / 24) (i % 24)) (numbers_from 0 840)
    ∙ ap (λ (f : ℕ → Bool). every f (numbers_from 0 840)) (fun_ext (λ i. bit_nothing d met (1 + i / 24) (i % 24)))

-- ---- the directory

module _ (d : List ℕ) where
  directory_chained : length d ≡ 174848 → ends_as true (directory_way d).stop ≡ true → Chained true none_met (directory_way d) (directory d)
  unfolding directory directory_way
  directory_chained z e = way_chained true DirectoryWay refl (λ n. refl) d z 18 none_met 358 e

  directory_walked : (directory d).ends ≡ true → Walked true (directory d) (directory_way d)
  unfolding directory directory_way
  directory_walked e = chain_walked true DirectoryWay refl (λ n h. h) d 18 none_met 358 (omega arith) e (λ m i. refl)

-- ---- the chains of files

file_nothing : (d : List ℕ) (met : ℕ → Bool) (p : ℕ) → is_nothing (file_fault d met p) ≡ ends_as false (way_of Files 683 d met p).stop
unfolding file_fault
file_nothing d met p = told_nothing (ends_as false (way_of Files 683 d met p).stop) (File p (way_of Files 683 d met p).stop) refl

or_moved : (a b c : Bool) → (b || (a || c)) ≡ ((a || b) || c)
or_moved true b c = or-true b
or_moved false b c = refl

or_false : (a b : Bool) → (a || b) ≡ false → (a ≡ false) × (b ≡ false)
or_false true b e = never (sym e)
or_false false b e = (refl, e)

neither : {a b : Bool} → a ≡ false → b ≡ false → (a || b) ≡ false
neither e f = rw e f

-- where one of two is not so, it is false
not_both : (a : Bool) {b : Bool} → (a ≡ true → b ≡ false) → b ≡ true → a ≡ false
not_both true f e = never (sym (f refl) ∙ e)
not_both false f e = refl

-- the chains end, and no sector is twice in them or was met before
pub record Across (d : List ℕ) (met : ℕ → Bool) (l : List ℕ) : Type 0 where
  pub each : AllEnd d l
  pub once : none_twice (all_sectors d l) ≡ true
  pub apart : (m : ℕ) → is_in (all_sectors d l) m ≡ true → met m ≡ false
  pub meets : (m : ℕ) → met_by d met l m ≡ (is_in (all_sectors d l) m || met m)

module _ (d : List ℕ) (met : ℕ → Bool) (p : ℕ) (l : List ℕ) where
  abbrev own : List ℕ
  own = (chain_of d p).sectors

  abbrev all : List ℕ
  all = all_sectors d l

  across_more : length d ≡ 174848 → ends_as false (way_of Files 683 d met p).stop ≡ true → Across d (met_behind d met p) l → Across d met (p ∷ l)
  unfolding all_sectors AllEnd met_by
  across_more z e r =
      let c : Chained false met (way_of Files 683 d met p) (chain_of d p) = entry_chained Files refl d (λ n. refl) z 683 met p e in
      let s : (chain_of d p).sectors ≡ (way_of Files 683 d met p).sectors = ap (λ (x : Chain). x.sectors) c.same in
      record {
        each = (ap (λ (x : Chain). x.ends) c.same, r.each);
        once =
            lists_apart_lem own all
            (record {
              left = ap none_twice s ∙ c.once;
              right = r.once;
              none = λ m i. not_both (is_in all m) (λ j. ap (λ (x : List ℕ). is_in x m) s ∙ (or_false (is_in (way_of Files 683 d met p).sectors m) (met m) (r.apart m j)).0) i;
            });
        apart = λ m i. by m (is_in own m) refl (sym (in_append own all m) ∙ i) (λ h. c.apart m (sym (ap (λ (x : List ℕ). is_in x m) s) ∙ h)) (r.apart m);
        meets =
            λ m.
            r.meets m ∙ or_moved (is_in (way_of Files 683 d met p).sectors m) (is_in all m) (met m)
            ∙ ap (λ (x : List ℕ). (is_in x m || is_in all m) || met m) (sym s)
            ∙ ap (λ (q : Bool). q || met m) (sym (in_append own all m));
      } where
        by : (m : ℕ) (q : Bool) → is_in own m ≡ q → (q || is_in all m) ≡ true → (is_in own m ≡ true → met m ≡ false) → (is_in all m ≡ true → met_behind d met p m ≡ false) → met m ≡ false
        by m true f g x y = x f
        by m false f g x y = (or_false (is_in (way_of Files 683 d met p).sectors m) (met m) (y g)).1

  module _ (e : (chain_of d p).ends ≡ true) (a : Apart (chain_of d p).sectors (all_sectors d l)) (h : (m : ℕ) → is_in ((chain_of d p).sectors ++ all_sectors d l) m ≡ true → met m ≡ false) where
    in_own : (m : ℕ) → is_in own m ≡ true → met m ≡ false
    in_own m i = h m (in_append own all m ∙ ap (λ (q : Bool). q || is_in all m) i)

    walked : Walked false (chain_of d p) (way_of Files 683 d met p)
    walked = entry_walked Files refl d (λ n g. g) 683 (omega arith) met p e in_own

    behind : (m : ℕ) → is_in all m ≡ true → met_behind d met p m ≡ false
    behind m i =
        neither (ap (λ (x : List ℕ). is_in x m) walked.sectors ∙ not_both (is_in own m) (a.none m) i)
        (h m (in_append own all m ∙ ap (λ (q : Bool). is_in own m || q) i ∙ or-true (is_in own m)))

across : (d : List ℕ) → length d ≡ 174848 → (met : ℕ → Bool) (l : List ℕ) → is_nothing (crossed_fault d met l) ≡ true → Across d met l
unfolding crossed_fault all_sectors AllEnd none_twice some met_by
across d z met [] e = record { each = tt; once = refl; apart = λ m i. never i; meets = λ m. refl }
across d z met (p ∷ l) e =
    let f : (is_nothing (file_fault d met p) && is_nothing (crossed_fault d (met_behind d met p) l)) ≡ true =
    sym (or_nothing (file_fault d met p) (crossed_fault d (met_behind d met p) l)) ∙ e
    in
    across_more d met p l z
    (sym (file_nothing d met p) ∙ and_left (is_nothing (file_fault d met p)) (is_nothing (crossed_fault d (met_behind d met p) l)) f)
    (across d z (met_behind d met p) l (and_right (is_nothing (file_fault d met p)) (is_nothing (crossed_fault d (met_behind d met p) l)) f))

crossed_nothing : (d : List ℕ) (met : ℕ → Bool) (l : List ℕ) → AllEnd d l → none_twice (all_sectors d l) ≡ true → ((m : ℕ) → is_in (all_sectors d l) m ≡ true → met m ≡ false)
    → is_nothing (crossed_fault d met l) ≡ true
unfolding crossed_fault all_sectors AllEnd
crossed_nothing d met [] e o h = refl
crossed_nothing d met (p ∷ l) e o h =
    let a : Apart (chain_of d p).sectors (all_sectors d l) = apart_lists (chain_of d p).sectors (all_sectors d l) o in
    or_nothing (file_fault d met p) (crossed_fault d (met_behind d met p) l)
    ∙ both (file_nothing d met p ∙ (walked d met p l e.0 a h).ends) (crossed_nothing d (met_behind d met p) l e.1 a.right (behind d met p l e.0 a h))

alone_nothing : (d l : List ℕ) → AllEnd d l → is_nothing (alone_fault d l) ≡ true
unfolding first_fault AllEnd
alone_nothing d [] e = refl
alone_nothing d (p ∷ l) e =
    or_nothing (file_fault d none_met p) (first_fault (file_fault d none_met) l)
    ∙ both (file_nothing d none_met p ∙ (entry_walked Files refl d (λ n g. g) 683 (omega arith) none_met p e.0 (λ m i. refl)).ends) (alone_nothing d l e.1)

-- ---- all of it

module _ (d : List ℕ) where
  abbrev entries : List ℕ
  entries = entries_that true d (directory_way d).sectors

  abbrev behind_start : Broken
  behind_start = or_else (directory_fault d) (listed_fault d entries)

  -- what is told, rule by rule
  pub record Untold : Type 0 where
    pub size : eqb (length d) 174848 ≡ true
    pub start : (eqb (get_or d 91392 0) 18 && eqb (get_or d 91393 0) 1) ≡ true
    pub ends : ends_as true (directory_way d).stop ≡ true
    pub entry : is_nothing (entry_fault d entries) ≡ true
    pub alone : is_nothing (alone_fault d entries) ≡ true
    pub crossed : is_nothing (crossed_fault d none_met entries) ≡ true
    pub map : is_nothing (map_fault d (met_by d none_met entries)) ≡ true

  rules : is_nothing (why d)
      ≡ (eqb (length d) 174848
      && ((eqb (get_or d 91392 0) 18 && eqb (get_or d 91393 0) 1)
      && (ends_as true (directory_way d).stop
      && (is_nothing (entry_fault d entries)
      && (is_nothing (alone_fault d entries) && (is_nothing (crossed_fault d none_met entries) && is_nothing (map_fault d (met_by d none_met entries))))))))
  unfolding why
  rules = go (eqb (length d) 174848) where
    go : (q : Bool) → is_nothing (cond q (or_else (start_fault d) behind_start) (Length (length d)))
        ≡ (q
        && ((eqb (get_or d 91392 0) 18 && eqb (get_or d 91393 0) 1)
        && (ends_as true (directory_way d).stop
        && (is_nothing (entry_fault d entries)
        && (is_nothing (alone_fault d entries) && (is_nothing (crossed_fault d none_met entries) && is_nothing (map_fault d (met_by d none_met entries))))))))
    go true =
        or_as (start_fault d) behind_start (told_nothing (eqb (get_or d 91392 0) 18 && eqb (get_or d 91393 0) 1) (Start (get_or d 91392 0) (get_or d 91393 0)) refl)
        (or_as (directory_fault d) (listed_fault d entries) (told_nothing (ends_as true (directory_way d).stop) (Directory (directory_way d).stop) refl)
        (or_as (entry_fault d entries) (or_else (alone_fault d entries) (or_else (crossed_fault d none_met entries) (map_fault d (met_by d none_met entries)))) refl
        (or_as (alone_fault d entries) (or_else (crossed_fault d none_met entries) (map_fault d (met_by d none_met entries))) refl
        (or_as (crossed_fault d none_met entries) (map_fault d (met_by d none_met entries)) refl refl))))
    go false = refl

  untold : why d ≡ Nothing → Untold
  untold h =
      let a : (eqb (length d) 174848 ≡ true) × _ = and_both _ _ (sym rules ∙ ap is_nothing h) in
      let b = and_both _ _ a.1 in
      let c = and_both _ _ b.1 in
      let e = and_both _ _ c.1 in
      let f = and_both _ _ e.1 in
      let g = and_both _ _ f.1 in
      record { size = a.0; start = b.0; ends = c.0; entry = e.0; alone = f.0; crossed = g.0; map = g.1 }

  told_sectors : (l : List ℕ) → entries ≡ l → Across d none_met l → met_by d none_met entries ≡ is_in (all_sectors d l)
  told_sectors l e x = ap (met_by d none_met) e ∙ fun_ext (λ m. x.meets m ∙ or_none (is_in (all_sectors d l) m))

  -- the answer is "nothing" only where the check takes the disk
  pub nothing_sound : why d ≡ Nothing → sound d ≡ true
  nothing_sound h =
      let u : Untold = untold h in
      let z : length d ≡ 174848 = eqb-true (length d) 174848 u.size in
      let c : Chained true none_met (directory_way d) (directory d) = directory_chained d z u.ends in
      let same : entries ≡ listed d = ap (λ (x : Chain). entries_that true d x.sectors) (sym c.same) in
      let x : Across d none_met (listed d) = across d z none_met (listed d) (ap (λ (l : List ℕ). is_nothing (crossed_fault d none_met l)) (sym same) ∙ u.crossed) in
      parts_sound d
      (record {
        size = z;
        track = eqb-true (get_or d 91392 0) 18 (and_left (eqb (get_or d 91392 0) 18) (eqb (get_or d 91393 0) 1) u.start);
        sector = eqb-true (get_or d 91393 0) 1 (and_right (eqb (get_or d 91392 0) 18) (eqb (get_or d 91393 0) 1) u.start);
        ends = ap (λ (x : Chain). x.ends) c.same;
        once = ap (λ (x : Chain). none_twice x.sectors) c.same ∙ c.once;
        good = sym (entries_nothing d (listed d)) ∙ ap (λ (l : List ℕ). is_nothing (entry_fault d l)) (sym same) ∙ u.entry;
        each = x.each;
        apart = x.once;
        agrees = ap (map_agrees d) (sym (told_sectors (listed d) same x)) ∙ sym (map_nothing d (met_by d none_met entries)) ∙ u.map;
      })

  -- and wherever it does
  pub sound_nothing : sound d ≡ true → why d ≡ Nothing
  sound_nothing e =
      let p : Parts d = parts d e in
      let w : Walked true (directory d) (directory_way d) = directory_walked d p.ends in
      let same : entries ≡ listed d = ap (entries_that true d) w.sectors in
      let crossed : is_nothing (crossed_fault d none_met (listed d)) ≡ true = crossed_nothing d none_met (listed d) p.each p.apart (λ m i. refl) in
      let x : Across d none_met (listed d) = across d p.size none_met (listed d) crossed in
      is_nothing_lem (why d)
      (rules
      ∙ both (eq-eqb (length d) 174848 p.size)
      (both (both (eq-eqb (get_or d 91392 0) 18 p.track) (eq-eqb (get_or d 91393 0) 1 p.sector))
      (both w.ends
      (both (ap (λ (l : List ℕ). is_nothing (entry_fault d l)) same ∙ entries_nothing d (listed d) ∙ p.good)
      (both (ap (λ (l : List ℕ). is_nothing (alone_fault d l)) same ∙ alone_nothing d (listed d) p.each)
      (both (ap (λ (l : List ℕ). is_nothing (crossed_fault d none_met l)) same ∙ crossed)
      (map_nothing d (met_by d none_met entries) ∙ ap (map_agrees d) (told_sectors (listed d) same x) ∙ p.agrees)))))))
