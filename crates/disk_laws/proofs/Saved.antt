-- "A saved file reads back exactly its bytes": on the disk that a save makes, the chain from the file's first sector is the sectors that it took,
-- and their bytes are the image.
-- Assumes nothing.
use Prim.Native.Nat.{ℕ, zero, suc, ◌+◌, ◌-◌, ◌*◌, ◌≤◌}
use mathlib.Core.Path.{◌≡◌, refl, sym, ap, ◌∙◌}
use mathlib.Core.Bool.{Bool, true, false, not, cond, ◌&&◌, ◌||◌}
use mathlib.Core.List.{List, [], ◌∷◌}
use lib.Dec.{eqb, leb, ltb}
use lib.ListN.{length, get_or, take, drop}
use lib.Seq.{sets, length-sets, length-take-le}
use native.Mathlib.Omega.{arith}
use borrow.Author.Tests.{eqb-true, ltb-true, ltb-false, lt-ltb}
use Rattle.base_refusals.specs.Numbers.{Numbered, bad_disk, bad_name, name_taken, directory_full, disk_full}
use Rattle.base_refusals.specs.Answer.{Answer, done, refused}
use Rattle.disk_rules.specs.Places.{track_of, sector_of, off_track18}
use Rattle.disk_rules.specs.Lists.{numbers_from, those, some, is_in, none_twice}
use Rattle.disk_rules.specs.Map.{bit_at, is_free}
use Rattle.disk_rules.specs.Chains.{chain, may_hold}
use Rattle.disk_rules.specs.Entries.{directory, entries_that, listed, is_named}
use Rattle.disk_rules.specs.Free.{free_sectors, marked_all}
use Rattle.disk_rules.specs.Check.{sound}
use Rattle.disk_rules.specs.Calls.{is_file_name, sectors_for, taken, sector_bytes, link_bytes, laid, entry_bytes, outside, grown, with_entry, with_file, saved, chain_bytes, onto_disk}
use Rattle.disk_chains.proofs.Marking.{marked_long, marked_all_long}
use Rattle.disk_saves.specs.SaveHelpers.{saved_new}
use Rattle.disk_saves.proofs.Choosing.{free_few}
use Rattle.disk_rules.proofs.Counting.{and_left, and_right, never, in_those_list}
use Rattle.disk_laws.proofs.Totals.{holds}
use Rattle.disk_laws.proofs.Elsewhere.{Within}
use Rattle.disk_laws.proofs.Room.{tested}
use Rattle.disk_laws.proofs.Kept.{in_take, taken_free, taken_below, sector_off, file_18}
use Rattle.disk_laws.proofs.Laid.{LieAll, laid_lies, lies_chain, lies_bytes}

-- ---- the sectors that a save takes stand in it once

fails_in : (a b : Bool) → (a ≡ true → b ≡ true) → b ≡ false → a ≡ false
fails_in true b f e = never (sym e ∙ f refl)
fails_in false b f e = refl

once : {a b : Bool} → a ≡ false → b ≡ true → (not a && b) ≡ true
once e f = rw e f

split_once : (a b : Bool) → (not a && b) ≡ true → (a ≡ false) × (b ≡ true)
split_once false b e = (refl, e)
split_once true b e = never e

run_from_lem : (from k n : ℕ) → is_in (numbers_from from k) n ≡ true → from ≤ n
unfolding numbers_from some
run_from_lem from zero n e = never e
run_from_lem from (suc k) n e = go (eqb n from) refl (run_from_lem (from + 1) k n) e where
  go : (q : Bool) → eqb n from ≡ q → (is_in (numbers_from (from + 1) k) n ≡ true → from + 1 ≤ n) → (q || is_in (numbers_from (from + 1) k) n) ≡ true → from ≤ n
  go true f g h = let z : n ≡ from = eqb-true n from f in omega arith
  go false f g h = let z : from + 1 ≤ n = g h in omega arith

run_once : (from k : ℕ) → none_twice (numbers_from from k) ≡ true
unfolding numbers_from none_twice
run_once from zero = refl
run_once from (suc k) = once (go (is_in (numbers_from (from + 1) k) from) refl) (run_once (from + 1) k) where
  go : (q : Bool) → is_in (numbers_from (from + 1) k) from ≡ q → is_in (numbers_from (from + 1) k) from ≡ false
  go true e = absurd (let z : from + 1 ≤ from = run_from_lem (from + 1) k from e in omega arith)
  go false e = e

those_once : (test : ℕ → Bool) (l : List ℕ) → none_twice l ≡ true → none_twice (those test l) ≡ true
unfolding those none_twice
those_once test [] e = refl
those_once test (n ∷ l) e = go (test n) (split_once (is_in l n) (none_twice l) e) (those_once test l) where
  go : (q : Bool) → (is_in l n ≡ false) × (none_twice l ≡ true) → (none_twice l ≡ true → none_twice (those test l) ≡ true)
      → none_twice (cond q (n ∷ those test l) (those test l)) ≡ true
  go true f g = once (fails_in (is_in (those test l) n) (is_in l n) (in_those_list test l n) f.0) (g f.1)
  go false f g = g f.1

take_once : (k : ℕ) (l : List ℕ) → none_twice l ≡ true → none_twice (take k l) ≡ true
unfolding none_twice
take_once zero l e = refl
take_once (suc k) [] e = refl
take_once (suc k) (n ∷ l) e =
    let f : (is_in l n ≡ false) × (none_twice l ≡ true) = split_once (is_in l n) (none_twice l) e in
    once (fails_in (is_in (take k l) n) (is_in l n) (in_take k l n) f.0) (take_once k l f.1)

pub taken_once : (d image : List ℕ) → none_twice (taken d image) ≡ true
unfolding free_sectors
taken_once d image = take_once (sectors_for image) (free_sectors d) (those_once (is_free d) (numbers_from 0 683) (run_once 0 683))

pub taken_held : (d image : List ℕ) (m : ℕ) → is_in (taken d image) m ≡ true → may_hold false m ≡ true
unfolding is_free
taken_held d image m e =
    both (lt-ltb m 683 (taken_below d image m e)) (and_left (off_track18 m) (eqb (bit_at d (track_of m) (sector_of m)) 1) (taken_free d image m e)) where
      both : {a b : Bool} → a ≡ true → b ≡ true → (a && b) ≡ true
      both f g = rw f g

-- ---- what a save that is done has tested

pub past : (q : Bool) (n : Numbered) (a : Answer (List ℕ)) (x : List ℕ) → cond q (refused n) a ≡ done x → (q ≡ false) × (a ≡ done x)
past false n a x e = (refl, e)
past true n a x e = absurd (let z : ◌≡◌ {A = ℕ} 0 1 = cc in omega arith)

pub passes : (q : Bool) (n : Numbered) (a : Answer (List ℕ)) (x : List ℕ) → cond q a (refused n) ≡ done x → (q ≡ true) × (a ≡ done x)
passes true n a x e = (refl, e)
passes false n a x e = absurd (let z : ◌≡◌ {A = ℕ} 0 1 = cc in omega arith)

pub record Tested (d name image made : List ℕ) : Type 0 where
  pub is_sound : sound d ≡ true
  pub is_name_lem : is_file_name name ≡ true
  pub new : some (is_named d name) (listed d) ≡ false
  pub room : sectors_for image ≤ length (free_sectors d)
  pub file : with_file d name image (taken d image) ≡ done made

pub was_tested : (d name image made : List ℕ) → saved d name image ≡ done made → Tested d name image made
unfolding saved_new
was_tested d name image made e =
    let rest : Answer (List ℕ) = cond (leb 144 (length (listed d))) (refused directory_full) (saved_new d name image) in
    let all : Answer (List ℕ) = cond (some (is_named d name) (listed d)) (refused name_taken) rest in
    let a : (sound d ≡ true) × (cond (is_file_name name) all (refused bad_name) ≡ done made) = passes (sound d) bad_disk (cond (is_file_name name) all (refused bad_name)) made (tested d name image ∙ e) in
    let b : (is_file_name name ≡ true) × (all ≡ done made) = passes (is_file_name name) bad_name all made a.1 in
    let c : (some (is_named d name) (listed d) ≡ false) × (rest ≡ done made) = past (some (is_named d name) (listed d)) name_taken rest made b.1 in
    let f : (leb 144 (length (listed d)) ≡ false) × (saved_new d name image ≡ done made) = past (leb 144 (length (listed d))) directory_full (saved_new d name image) made c.1 in
    let g : (ltb (length (free_sectors d)) (sectors_for image) ≡ false) × (with_file d name image (taken d image) ≡ done made) =
    past (ltb (length (free_sectors d)) (sectors_for image)) disk_full (with_file d name image (taken d image)) made f.1
    in
    record { is_sound = a.0; is_name_lem = b.0; new = c.0; room = ltb-false (length (free_sectors d)) (sectors_for image) g.0; file = g.1 }

-- ---- the disk keeps its length

pub laid_long : (d ns image : List ℕ) → length (laid d ns image) ≡ length d
unfolding laid
laid_long d [] image = refl
laid_long d (n ∷ ns) image = laid_long (sets d (256 * n) (link_bytes ns (take 254 image) image)) ns (drop 254 image) ∙ length-sets d (256 * n) (link_bytes ns (take 254 image) image)

placed_long : (x entry sectors l out : List ℕ) → length (onto_disk (with_entry x entry sectors l out) x).disk ≡ length x
placed_long x entry sectors (p ∷ l) out = length-sets x p entry
placed_long x entry sectors [] [] = refl
placed_long x entry sectors [] (n ∷ out) =
    let last : ℕ = get_or sectors (length sectors - 1) 0 in
    let whole : List ℕ = sets x (256 * n) (sector_bytes 0 0xFF []) in
    length-sets (grown x last n) (256 * n + 2) entry
    ∙ marked_long (sets whole (256 * last) (track_of n ∷ sector_of n ∷ [])) n false
    ∙ length-sets whole (256 * last) (track_of n ∷ sector_of n ∷ [])
    ∙ length-sets x (256 * n) (sector_bytes 0 0xFF [])

-- ---- the saved file

module _ (d name image made : List ℕ) (e : saved d name image ≡ done made) where
  t : Tested d name image made
  t = was_tested d name image made e

  pub size : length d ≡ 174848
  size = eqb-true (length d) 174848 (holds d t.is_sound).size

  pub made_long : length made ≡ 174848
  made_long =
      let chosen : List ℕ = taken d image in
      let written : List ℕ = marked_all (laid d chosen image) chosen false in
      sym (ap (λ (a : Answer (List ℕ)). length (onto_disk a written).disk) t.file)
      ∙ placed_long written (entry_bytes name chosen) (directory d).sectors (entries_that false d (directory d).sectors) (outside (directory d).sectors)
      ∙ marked_all_long (laid d chosen image) chosen false
      ∙ laid_long d chosen image
      ∙ size

  made_byte : (n j : ℕ) → is_in (taken d image) n ≡ true → Within n j → get_or made j 0 ≡ get_or (laid d (taken d image) image) j 0
  made_byte n j i w =
      sym (ap (λ (a : Answer (List ℕ)). get_or (onto_disk a (laid d (taken d image) image)).disk j 0) t.file)
      ∙ file_18 d name image size t.is_name_lem j (sector_off n j w (and_right (ltb n 683) (off_track18 n) (taken_held d image n i))) (laid d (taken d image) image) refl

  pub all_lie : LieAll made (taken d image) image
  all_lie = laid_lies d (taken d image) image made size (taken_below d image) (taken_once d image) made_byte

  -- of the sectors that were taken
  of_taken : (l : List ℕ) → length l ≡ sectors_for image → length l ≤ 683 → ((m : ℕ) → is_in l m ≡ true → may_hold false m ≡ true) → LieAll made l image
      → (chain false made (get_or l 0 0) ≡ record { sectors = l; ends = true }) × (chain_bytes made l ≡ image)
  unfolding chain
  of_taken [] a b h y = absurd (omega arith)
  of_taken (n ∷ ns) a b h y = (
    lies_chain made (length made) n ns image h (omega (arith, made_long)) y,
    lies_bytes made n ns image made_long (λ m i. ltb-true m 683 (and_left (ltb m 683) (off_track18 m) (h m i))) (omega arith) (omega arith) y,
  )

  pub taken_long : length (taken d image) ≡ sectors_for image
  taken_long = length-take-le (sectors_for image) (free_sectors d) t.room

  read_back : (chain false made (get_or (taken d image) 0 0) ≡ record { sectors = taken d image; ends = true }) × (chain_bytes made (taken d image) ≡ image)
  read_back = of_taken (taken d image) taken_long (omega (arith, taken_long, t.room, free_few d)) (taken_held d image) all_lie

  -- the chain from the first sector taken is the sectors taken
  pub saved_chain : chain false made (get_or (taken d image) 0 0) ≡ record { sectors = taken d image; ends = true }
  saved_chain = read_back.0

  -- and their bytes are the image
  pub saved_bytes : chain_bytes made (taken d image) ≡ image
  saved_bytes = read_back.1
