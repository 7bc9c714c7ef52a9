-- A disk that is changed among the bytes of files has its map, its directory and its chains: it is sound where it was.
-- Assumes nothing.
use Prim.Native.Nat.{ℕ, ◌+◌, ◌*◌, ◌/◌, ◌%◌, ◌≤◌, ◌<◌}
use mathlib.Core.Path.{◌≡◌, refl, ap, ◌∙◌}
use mathlib.Core.Bool.{Bool, true, false, ◌&&◌}
use mathlib.Core.List.{List}
use lib.Dec.{leb}
use lib.ListN.{length, get_or}
use native.Mathlib.Omega.{arith}
use borrow.Author.Tests.{lt-leb, le-ltb}
use Rattle.disk_rules.specs.Lists.{is_in}
use Rattle.disk_rules.specs.Links.{link_at}
use Rattle.disk_rules.specs.Chains.{Chain}
use Rattle.disk_rules.specs.Entries.{directory, listed, entries_that, is_listed, entry_at}
use Rattle.disk_rules.specs.Check.{sound}
use Rattle.image_layout.specs.Changed.{ChangedAt}
use Rattle.disk_laws.proofs.Without.{AllSame, those_same, good_same, sectors_same, ends_same}
use Rattle.disk_laws.proofs.Chained.{all_sectors}
use Rattle.disk_laws.proofs.Parts.{Parts, parts, parts_sound, link_same, directory_same, entry_same, map_same, EntryPlace, entry_place, FromRun, that_from}
use Rattle.disk_damage.specs.Worn.{is_file_byte}

module _ (d now : List ℕ) (c : ChangedAt is_file_byte d now) where
  -- ---- what is not a file's byte

  pub link_byte_lem : (m i : ℕ) → i < 2 → get_or now (256 * m + i) 0 ≡ get_or d (256 * m + i) 0
  link_byte_lem m i h =
      c.others (256 * m + i)
      (let e : (256 * m + i) % 256 ≡ i = omega arith in rw (e, lt-leb 2 i (omega arith)))

  on_18 : (j : ℕ) → 91392 ≤ j → j < 96256 → get_or now j 0 ≡ get_or d j 0
  on_18 j a b = c.others j (rw (le-ltb (j / 256) 357 (omega arith), le-ltb 375 (j / 256) (omega arith)) (none (leb 2 (j % 256)))) where
    none : (q : Bool) → (q && false) ≡ false
    none true = refl
    none false = refl

  -- ---- so the parts stay

  pub links_stay : (m : ℕ) → link_at now (256 * m) ≡ link_at d (256 * m)
  links_stay m =
      let z : 256 * m + 0 ≡ 256 * m = omega arith in
      link_same d now (256 * m) (rw z at (link_byte_lem m 0 (omega arith))) (link_byte_lem m 1 (omega arith))

  pub directory_stays : directory now ≡ directory d
  directory_stays = directory_same d now c.long (λ m a b. links_stay m)

  entry_byte : (e i : ℕ) → e < 8 * length (directory d).sectors → i < 30 → get_or now (entry_at (directory d).sectors e + i) 0 ≡ get_or d (entry_at (directory d).sectors e + i) 0
  entry_byte e i h k = let x : EntryPlace (entry_at (directory d).sectors e) = entry_place d e h in on_18 (entry_at (directory d).sectors e + i) (omega (arith, x.is, x.low)) (omega (arith, x.is, x.high, x.eight))

  pub listed_stay : listed now ≡ listed d
  unfolding entries_that
  listed_stay =
      ap (λ (x : Chain). entries_that true now x.sectors) directory_stays
      ∙ those_same (entry_at (directory d).sectors) (is_listed d) (is_listed now) 0 (8 * length (directory d).sectors)
      (λ e a b.
      let z : entry_at (directory d).sectors e + 0 ≡ entry_at (directory d).sectors e = omega arith in
      let same : get_or now (entry_at (directory d).sectors e) 0 ≡ get_or d (entry_at (directory d).sectors e) 0 = rw z at (entry_byte e 0 (omega arith) (omega arith)) in
      rw same)

  pub entries_stay : AllSame d now (listed d)
  entries_stay q u =
      let x : FromRun (entry_at (directory d).sectors) 0 (8 * length (directory d).sectors) q = that_from true d q u in
      entry_same d now q c.long (λ i h. rw x.is (entry_byte x.at i (omega (arith, x.high)) h)) (λ m i. links_stay m)

  pub worn_sound : sound d ≡ true → sound now ≡ true
  worn_sound s =
      let x : Parts d = parts d s in
      let l : listed now ≡ listed d = listed_stay in
      let own : all_sectors now (listed d) ≡ all_sectors d (listed d) = sectors_same d now (listed d) entries_stay in
      parts_sound now
      (record {
        size = c.long ∙ x.size;
        track = on_18 91392 (omega arith) (omega arith) ∙ x.track;
        sector = on_18 91393 (omega arith) (omega arith) ∙ x.sector;
        ends = rw directory_stays x.ends;
        once = rw directory_stays x.once;
        good = rw l (good_same d now (listed d) entries_stay x.good);
        each = rw l (ends_same d now (listed d) entries_stay x.each);
        apart = rw (l, own) x.apart;
        agrees = rw (l, own) (map_same d now (is_in (all_sectors d (listed d))) x.size (λ j a b. on_18 j (omega arith) (omega arith)) x.agrees);
      })
