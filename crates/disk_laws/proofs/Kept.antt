-- "No call but formatting changes another file's sectors": on every disk, every byte of a sector in a listed file's chain stays, the scratched file's too.
-- Assumes nothing.
use Prim.Native.Nat.{ℕ, zero, suc, ◌+◌, ◌-◌, ◌*◌, ◌/◌, ◌≤◌, ◌<◌}
use mathlib.Core.Path.{◌≡◌, refl, sym, subst, ◌∙◌}
use mathlib.Core.Bool.{Bool, true, false, not, cond, ◌&&◌, ◌||◌}
use mathlib.Core.List.{List, [], ◌∷◌}
use lib.Dec.{eqb, leb, ltb}
use lib.ListN.{length, get_or, take, set, length-append, length-replicate}
use lib.Seq.{sets}
use native.Mathlib.Decide.{dec_lt}
use native.Mathlib.Omega.{arith}
use borrow.Author.Tests.{eqb-true, leb-true, ltb-true, le-ltb}
use Rattle.base_steps.specs.Each.{Each}
use Rattle.base_steps.proofs.Each.{each_map}
use Rattle.base_refusals.specs.Numbers.{name_taken, directory_full, disk_full}
use Rattle.base_refusals.specs.Answer.{Answer, done, refused}
use Rattle.disk_rules.specs.Places.{track_of, sector_of, off_track18}
use Rattle.disk_rules.specs.Lists.{numbers_from, those, some, is_in}
use Rattle.disk_rules.specs.Links.{link_at}
use Rattle.disk_rules.specs.Map.{is_free}
use Rattle.disk_rules.specs.Chains.{chain}
use Rattle.disk_rules.specs.Entries.{directory, entry_at, entries_of, is_that, entries_that, listed, is_named, chain_of}
use Rattle.disk_rules.specs.Free.{free_sectors, marked_all}
use Rattle.disk_rules.specs.Check.{files, sound}
use Rattle.disk_rules.specs.Calls.{is_file_name, on_sound, of_file, entries_named, sectors_for, taken, laid, sector_bytes, entry_bytes, outside, grown, with_entry, with_file, saved, scratched, onto_disk}
use Rattle.disk_check.proofs.Looking.{each_those, numbers_each}
use Rattle.disk_saves.specs.SaveHelpers.{saved_new}
use Rattle.disk_saves.proofs.Placing.{directory_some}
use Rattle.disk_laws.specs.Runs.{Call, Format, Check, Read, Save, Scratch, is_format, after_call}
use Rattle.disk_rules.proofs.Counting.{never, and_left, and_right, in_at, in_those_list}
use Rattle.disk_rules.proofs.Ends.{chain_held}
use Rattle.disk_rules.proofs.Counted.{chains_held, by_held}
use Rattle.disk_laws.proofs.Totals.{holds, free_is}
use Rattle.disk_laws.proofs.Room.{tested}
use Rattle.disk_laws.proofs.Elsewhere.{Off, before, behind, narrow, set_off, sets_off, marked_off, marked_all_off, Within, laid_off}

-- ---- what stands in lists

pub in_those : (test : ℕ → Bool) (l : List ℕ) (n : ℕ) → is_in (those test l) n ≡ true → test n ≡ true
unfolding those some
in_those test [] n e = never e
in_those test (m ∷ l) n e = go (test m) refl (in_those test l n) e where
  go : (q : Bool) → test m ≡ q → (is_in (those test l) n ≡ true → test n ≡ true) → is_in (cond q (m ∷ those test l) (those test l)) n ≡ true → test n ≡ true
  go false f g h = g h
  go true f g h = by (eqb n m) refl h where
    by : (r : Bool) → eqb n m ≡ r → (r || is_in (those test l) n) ≡ true → test n ≡ true
    by true i j = rw (eqb-true n m i) f
    by false i j = g j

pub in_take : (k : ℕ) (l : List ℕ) (n : ℕ) → is_in (take k l) n ≡ true → is_in l n ≡ true
unfolding some
in_take zero l n e = never e
in_take (suc k) [] n e = never e
in_take (suc k) (m ∷ l) n e = go (eqb n m) (in_take k l n) e where
  go : (q : Bool) → (is_in (take k l) n ≡ true → is_in l n ≡ true) → (q || is_in (take k l) n) ≡ true → (q || is_in l n) ≡ true
  go true f g = refl
  go false f g = f g

run_below : (from k n : ℕ) → is_in (numbers_from from k) n ≡ true → n < from + k
unfolding numbers_from some
run_below from zero n e = never e
run_below from (suc k) n e = go (eqb n from) refl (run_below (from + 1) k n) e where
  go : (q : Bool) → eqb n from ≡ q → (is_in (numbers_from (from + 1) k) n ≡ true → n < from + 1 + k) → (q || is_in (numbers_from (from + 1) k) n) ≡ true → n < from + suc k
  go true f g h = let z : n ≡ from = eqb-true n from f in omega arith
  go false f g h = let z : n < from + 1 + k = g h in omega arith

-- a test that implies one that fails, fails
fails : (a b : Bool) → (a ≡ true → b ≡ true) → b ≡ false → a ≡ false
fails true b f e = let z : b ≡ true = f refl in never (sym e ∙ z)
fails false b f e = refl

-- ---- what is written of the directory stands on track 18

-- the bytes of 18/1 to 18/18, so many from a place on
pub record OnTrack18 (size p : ℕ) : Type 0 where
  pub from : 91648 ≤ p
  pub to : p + size ≤ 96256

-- a sector of the directory
pub dir_sector : (d : List ℕ) (i : ℕ) → i < length (directory d).sectors → (358 ≤ get_or (directory d).sectors i 0) × (get_or (directory d).sectors i 0 ≤ 375)
unfolding directory chain
dir_sector d i h =
    let n : ℕ = get_or (directory d).sectors i 0 in
    let e : (leb 358 n && leb n 375) ≡ true = chain_held true (length d) d 358 n (in_at (directory d).sectors i h) in
    (leb-true 358 n (and_left (leb 358 n) (leb n 375) e), leb-true n 375 (and_right (leb 358 n) (leb n 375) e))

pub entries_on : (which : Bool) (d : List ℕ) → Each (OnTrack18 30) (entries_that which d (directory d).sectors)
unfolding entries_that
entries_on which d =
    each_those (OnTrack18 30) (is_that which d) (entries_of (directory d).sectors)
    (each_map (OnTrack18 30) (entry_at (directory d).sectors) (numbers_from 0 (8 * length (directory d).sectors))
    (numbers_each (λ e. OnTrack18 30 (entry_at (directory d).sectors e)) 0 (8 * length (directory d).sectors) at)) where
      at : (e : ℕ) → 0 ≤ e → e < 0 + 8 * length (directory d).sectors → OnTrack18 30 (entry_at (directory d).sectors e)
      at e a b =
          let s : (358 ≤ get_or (directory d).sectors (e / 8) 0) × (get_or (directory d).sectors (e / 8) 0 ≤ 375) = dir_sector d (e / 8) (omega arith) in
          record { from = omega arith; to = omega arith }

pub outside_on : (sectors : List ℕ) → Each (λ n. (358 ≤ n) × (n ≤ 375)) (outside sectors)
outside_on sectors =
    let on : ℕ → Type 0 = λ n. (358 ≤ n) × (n ≤ 375) in
    each_those on (λ n. not (is_in sectors n)) (numbers_from 358 18) (numbers_each on 358 18 (λ n a b. (a, omega arith)))

-- ---- a byte off track 18

module _ (j : ℕ) (off : Off 91392 96256 j) where
  -- bytes written on track 18
  sets_18 : (x : List ℕ) (p : ℕ) (vs : List ℕ) → OnTrack18 (length vs) p → get_or (sets x p vs) j 0 ≡ get_or x j 0
  sets_18 x p vs o = sets_off x p vs j (narrow off (omega (arith, o.from)) (omega (arith, o.to)))

  -- marks
  marks_18 : (x ns : List ℕ) (free : Bool) → ((m : ℕ) → is_in ns m ≡ true → m < 683) → get_or (marked_all x ns free) j 0 ≡ get_or x j 0
  marks_18 x ns free h = marked_all_off x ns free j h (narrow off (omega arith) (omega arith))

  -- an entry, with or without the directory's growth
  pub placed_18 : (x y entry sectors l out : List ℕ) → get_or x j 0 ≡ get_or y j 0 → length entry ≡ 30 → Each (OnTrack18 30) l → Each (λ k. (358 ≤ k) × (k ≤ 375)) out
      → (358 ≤ get_or sectors (length sectors - 1) 0) × (get_or sectors (length sectors - 1) 0 ≤ 375)
      → get_or (onto_disk (with_entry x entry sectors l out) y).disk j 0 ≡ get_or y j 0
  placed_18 x y entry sectors (p ∷ l) out h n e f g = let o : OnTrack18 30 p = e.0 in sets_18 x p entry (rw n o) ∙ h
  placed_18 x y entry sectors [] [] h n e f g = refl
  placed_18 x y entry sectors [] (k ∷ out) h n e f g =
      let o : (358 ≤ k) × (k ≤ 375) = f.0 in
      let last : ℕ = get_or sectors (length sectors - 1) 0 in
      let whole : List ℕ = sets x (256 * k) (sector_bytes 0 0xFF []) in
      sets_18 (grown x last k) (256 * k + 2) entry (record { from = omega arith; to = omega arith })
      ∙ marked_off (sets whole (256 * last) (track_of k ∷ sector_of k ∷ [])) k false j (omega arith) (narrow off (omega arith) (omega arith))
      ∙ sets_18 whole (256 * last) (track_of k ∷ sector_of k ∷ []) (record { from = omega arith; to = omega arith })
      ∙ sets_18 x (256 * k) (sector_bytes 0 0xFF []) (record { from = omega arith; to = omega arith })
      ∙ h

pub entry_long : (name sectors : List ℕ) → length name ≤ 16 → length (entry_bytes name sectors) ≡ 30
entry_long name sectors h = simp length-append (omega (arith, length-replicate {A = ℕ} (16 - length name) 0xA0))

pub name_short : (name : List ℕ) → is_file_name name ≡ true → length name ≤ 16
name_short name m =
    leb-true (length name) 16
    (and_right (leb 1 (length name)) (leb (length name) 16) (and_left (leb 1 (length name) && leb (length name) 16) (not (is_in name 0xA0)) m))

-- the sectors that a save takes are free
pub taken_free : (d image : List ℕ) (m : ℕ) → is_in (taken d image) m ≡ true → is_free d m ≡ true
unfolding free_sectors
taken_free d image m e = in_those (is_free d) (numbers_from 0 683) m (in_take (sectors_for image) (free_sectors d) m e)

pub taken_below : (d image : List ℕ) (m : ℕ) → is_in (taken d image) m ≡ true → m < 683
unfolding free_sectors
taken_below d image m e = run_below 0 683 m (in_those_list (is_free d) (numbers_from 0 683) m (in_take (sectors_for image) (free_sectors d) m e))

-- a file written: off track 18 it is what was laid
module _ (d name image : List ℕ) (z : length d ≡ 174848) (m : is_file_name name ≡ true) (j : ℕ) (off : Off 91392 96256 j) where
  pub file_18 : (y : List ℕ) → get_or (laid d (taken d image) image) j 0 ≡ get_or y j 0
      → get_or (onto_disk (with_file d name image (taken d image)) y).disk j 0 ≡ get_or y j 0
  file_18 y h =
      placed_18 j off (marked_all (laid d (taken d image) image) (taken d image) false) y (entry_bytes name (taken d image)) (directory d).sectors
      (entries_that false d (directory d).sectors) (outside (directory d).sectors)
      (marks_18 j off (laid d (taken d image) image) (taken d image) false (taken_below d image) ∙ h)
      (entry_long name (taken d image) (name_short name m)) (entries_on false d) (outside_on (directory d).sectors)
      (dir_sector d (length (directory d).sectors - 1) (omega (arith, directory_some d z refl)))

-- a sector off track 18
pub sector_off : (n j : ℕ) → Within n j → off_track18 n ≡ true → Off 91392 96256 j
sector_off n j w = go (dec_lt n 357) (dec_lt 375 n) where
  go : Dec (n < 357) → Dec (375 < n) → off_track18 n ≡ true → Off 91392 96256 j
  go (yes a) b e = before (omega (arith, w.to))
  go (no a) (yes b) e = behind (omega (arith, w.from))
  go (no a) (no b) e = never (sym (simp (le-ltb n 357 (omega arith), le-ltb 375 n (omega arith))) ∙ e)

-- ---- a byte of a sector that is in use

module _ (d : List ℕ) (n j : ℕ) (u : is_in (files d).sectors n ≡ true) (w : Within n j) where
  held : (ltb n 683 && off_track18 n) ≡ true
  held = chains_held d (listed d) n u

  below : n < 683
  below = ltb-true n 683 (and_left (ltb n 683) (off_track18 n) held)

  off_18 : Off 91392 96256 j
  off_18 = sector_off n j w (and_right (ltb n 683) (off_track18 n) held)

  -- it is not free, so that no save takes it
  pub not_taken : sound d ≡ true → (image : List ℕ) → is_in (taken d image) n ≡ false
  not_taken s image =
      let f : is_free d n ≡ false = free_is d s n below ∙ go (off_track18 n) (is_in (files d).sectors n) u in
      fails (is_in (taken d image) n) (is_free d n) (taken_free d image n) f where
        go : (o m : Bool) → m ≡ true → (o && not m) ≡ false
        go true true e = refl
        go false m e = refl
        go true false e = never e

  abbrev Kept : Answer (List ℕ) → Type 0
  Kept a = get_or (onto_disk a d).disk j 0 ≡ get_or d j 0

  kept_either : (q : Bool) (a b : Answer (List ℕ)) → (q ≡ true → Kept a) → Kept b → Kept (cond q a b)
  kept_either true a b f g = f refl
  kept_either false a b f g = g

  kept_behind : (name : List ℕ) (a : Answer (List ℕ)) → (sound d ≡ true → is_file_name name ≡ true → Kept a) → Kept (on_sound d name a)
  kept_behind name a f = kept_either (sound d) _ _ (λ s. kept_either (is_file_name name) _ _ (λ m. f s m) refl) refl

  kept_first : (l : List ℕ) → Each (OnTrack18 30) l → Kept (of_file l (λ p. done (marked_all (set d p 0) (chain_of d p).sectors true)))
  kept_first [] e = refl
  kept_first (p ∷ l) e =
      let o : OnTrack18 30 p = e.0 in
      marks_18 j off_18 (set d p 0) (chain_of d p).sectors true
      (λ m i. ltb-true m 683 (and_left (ltb m 683) (off_track18 m) (by_held d (link_at d (p + 1)) m i)))
      ∙ set_off d p 0 j (narrow off_18 (omega (arith, o.from)) (omega (arith, o.to)))

  kept_scratched : (name : List ℕ) → Kept (scratched d name)
  unfolding scratched
  kept_scratched name =
      kept_behind name _ (λ s m. kept_first (entries_named d name) (each_those (OnTrack18 30) (is_named d name) (listed d) (entries_on true d)))

  kept_new : (name image : List ℕ) → sound d ≡ true → is_file_name name ≡ true → Kept (saved_new d name image)
  unfolding saved_new
  kept_new name image s m =
      kept_either (ltb (length (free_sectors d)) (sectors_for image)) (refused disk_full) (with_file d name image (taken d image)) (λ e. refl)
      (file_18 d name image (eqb-true (length d) 174848 (holds d s).size) m j off_18 d (laid_off d (taken d image) image n j (not_taken s image) w))

  kept_saved : (name image : List ℕ) → Kept (saved d name image)
  kept_saved name image =
      let rest : Answer (List ℕ) = cond (leb 144 (length (listed d))) (refused directory_full) (saved_new d name image) in
      subst (λ (a : Answer (List ℕ)). Kept a) (tested d name image)
      (kept_behind name (cond (some (is_named d name) (listed d)) (refused name_taken) rest)
      (λ s m. kept_either (some (is_named d name) (listed d)) (refused name_taken) rest (λ e. refl)
      (kept_either (leb 144 (length (listed d))) (refused directory_full) (saved_new d name image) (λ e. refl) (kept_new name image s m))))

  -- "no call but formatting changes another file's sectors"
  pub kept_by_calls : (c : Call) → is_format c ≡ false → get_or (after_call d c) j 0 ≡ get_or d j 0
  kept_by_calls Format e = never (sym e)
  kept_by_calls Check e = refl
  kept_by_calls (Read name) e = refl
  kept_by_calls (Save name image) e = kept_saved name image
  kept_by_calls (Scratch name) e = kept_scratched name
