-- "25 exactly when fewer sectors are free than needed; below 144 files there is always an entry or a sector to grow by."
-- Assumes nothing.
use Prim.Native.Nat.{ℕ, ◌+◌, ◌*◌, ◌≤◌, ◌<◌}
use mathlib.Core.Path.{◌≡◌, refl, sym, ap, ◌∙◌}
use mathlib.Core.Bool.{Bool, true, false, not, cond}
use mathlib.Core.List.{List, [], ◌∷◌}
use lib.Dec.{leb}
use lib.ListN.{length, length-map}
use native.Mathlib.Omega.{arith}
use borrow.Author.Tests.{lt-ltb, le-ltb, lt-leb}
use Rattle.base_refusals.specs.Numbers.{bad_disk, bad_name, name_taken, directory_full, disk_full}
use Rattle.base_refusals.specs.Answer.{Answer, done, refused}
use Rattle.disk_rules.specs.Lists.{numbers_from, some, is_in}
use Rattle.disk_rules.specs.Entries.{directory, entries_of, entry_at, is_listed, entries_that, listed, is_named}
use Rattle.disk_rules.specs.Free.{free_sectors, marked_all}
use Rattle.disk_rules.specs.Check.{sound}
use Rattle.disk_rules.specs.Calls.{laid, entry_bytes, is_file_name, on_sound, sectors_for, taken, outside, with_entry, with_file, saved}
use Rattle.disk_saves.specs.SaveHelpers.{saved_new}
use Rattle.disk_rules.proofs.Counting.{count, count_not, stand_few, numbers_long}

-- an answer is no refusal
pub record IsDone (a : Answer (List ℕ)) : Type 0 where
  pub made : List ℕ
  pub is : a ≡ done made

-- a list of no number
none_long : (l : List ℕ) → length l ≡ 0 → l ≡ []
none_long [] e = refl
none_long (n ∷ l) e = absurd (omega arith)

-- where fewer than 144 entries are listed and none is unlisted, a sector of 18/1 to 18/18 stands outside the directory
room_to_grow : (d sectors : List ℕ) → length (entries_that true d sectors) < 144 → length (entries_that false d sectors) ≡ 0 → 0 < length (outside sectors)
unfolding entries_that
room_to_grow d sectors h g =
    let all : count (is_listed d) (entries_of sectors) + count (λ p. not (is_listed d p)) (entries_of sectors) ≡ length (entries_of sectors) = count_not (is_listed d) (entries_of sectors) in
    let long : length (entries_of sectors) ≡ 8 * length sectors = length-map (numbers_from 0 (8 * length sectors)) (entry_at sectors) ∙ numbers_long 0 (8 * length sectors) in
    few (count (is_listed d) (entries_of sectors)) (count (λ p. not (is_listed d p)) (entries_of sectors)) (length sectors) (count (is_in sectors) (numbers_from 358 18)) (length (outside sectors))
    (all ∙ long) h g (stand_few sectors 358 18) (count_not (is_in sectors) (numbers_from 358 18) ∙ numbers_long 358 18) where
      few : (a b s c o : ℕ) → a + b ≡ 8 * s → a < 144 → b ≡ 0 → c ≤ s → c + o ≡ 18 → 0 < o
      few a b s c o i j k l m = omega arith

placed : (disk entry sectors l out : List ℕ) → (length l ≡ 0 → 0 < length out) → IsDone (with_entry disk entry sectors l out)
placed disk entry sectors (p ∷ l) out h = record { made = _; is = refl }
placed disk entry sectors [] [] h = absurd (omega (arith, h refl))
placed disk entry sectors [] (n ∷ out) h = record { made = _; is = refl }

-- "below 144 files there is always an entry or a sector to grow by"
pub always_placed : (d name image chosen : List ℕ) → length (listed d) < 144 → IsDone (with_file d name image chosen)
always_placed d name image chosen h = placed (marked_all (laid d chosen image) chosen false) (entry_bytes name chosen) (directory d).sectors (entries_that false d (directory d).sectors) (outside (directory d).sectors) (room_to_grow d (directory d).sectors h)

-- the tests in their order, passed
passed : (p q r t : Bool) (a : Answer (List ℕ)) → p ≡ true → q ≡ true → r ≡ false → t ≡ false
    → cond p (cond q (cond r (refused name_taken) (cond t (refused directory_full) a)) (refused bad_name)) (refused bad_disk) ≡ a
passed p q r t a e f g h = rw (e, f, g, h) refl

IsDone_as : {a b : Answer (List ℕ)} → a ≡ b → IsDone b → IsDone a
IsDone_as e d = record { made = d.made; is = e ∙ d.is }

-- saving, by 22 and 24 and what is answered behind them
pub tested : (d name image : List ℕ)
    → on_sound d name (cond (some (is_named d name) (listed d)) (refused name_taken) (cond (leb 144 (length (listed d))) (refused directory_full) (saved_new d name image)))
    ≡ saved d name image
unfolding saved saved_new
tested d name image = refl

module _ (d name image : List ℕ) (s : sound d ≡ true) (n : is_file_name name ≡ true) (f : some (is_named d name) (listed d) ≡ false) (h : length (listed d) < 144) where
  -- what is answered behind 20, 21, 22 and 24
  left : saved d name image ≡ saved_new d name image
  left =
      sym (tested d name image)
      ∙ passed (sound d) (is_file_name name) (some (is_named d name) (listed d)) (leb 144 (length (listed d))) (saved_new d name image) s n f (lt-leb 144 (length (listed d)) h)

  -- "25 exactly when fewer sectors are free than needed"
  pub full_exactly : length (free_sectors d) < sectors_for image → saved d name image ≡ refused disk_full
  unfolding saved_new
  full_exactly g =
      left ∙ ap (λ (q : Bool). cond q (refused disk_full) (with_file d name image (taken d image))) (lt-ltb (length (free_sectors d)) (sectors_for image) g)

  pub saves_otherwise : sectors_for image ≤ length (free_sectors d) → IsDone (saved d name image)
  unfolding saved_new
  saves_otherwise g =
      IsDone_as (left ∙ ap (λ (q : Bool). cond q (refused disk_full) (with_file d name image (taken d image))) (le-ltb (length (free_sectors d)) (sectors_for image) g))
      (always_placed d name image (taken d image) h)
