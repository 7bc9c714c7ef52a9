-- The lines of a directory, one behind the other.
-- Assumes nothing.
use Prim.Native.Nat.{ℕ, ◌+◌, ◌≤◌, ◌<◌}
use mathlib.Core.Path.{◌≡◌, refl, sym, ap, subst, ◌∙◌}
use mathlib.Core.Bool.{true, false, not}
use mathlib.Core.List.{List, [], ◌∷◌, ◌++◌}
use native.Mathlib.Omega.{arith}
use lib.ListN.{length, get_or, take, drop, drop_of_length-le}
use Rattle.base_refusals.specs.Numbers.{bad_disk}
use Rattle.base_refusals.specs.Answer.{numbered}
use Rattle.base_refusals.specs.declared.Refusal.TheVariants.{BadDisk}
use Rattle.word_search.specs.Spelling.{bytes_of}
use Rattle.base_ascii.proofs.Searching.{here}
use Rattle.base_steps.specs.Decimal.{decimal}
use Rattle.say_put.specs.Clipped.{Clipped}
use Rattle.say_put.proofs.Clipping.{Owes, owes_all, owes_less, owes_none, clip_as, clip_both}
use Rattle.disk_rules.specs.Lists.{is_in}
use Rattle.disk_rules.specs.Chains.{Chain}
use Rattle.disk_rules.specs.Entries.{listed, name_at, chain_of}
use Rattle.disk_rules.specs.CountedHelpers.{chain_of_within}
use Rattle.disk_rules.proofs.Counting.{in_at, At, in_place}
use Rattle.disk_rules.proofs.Counted.{file_counted}
use Rattle.disk_rules.specs.Free.{free_sectors}
use Rattle.disk_rules.specs.Check.{sound}
use Rattle.disk_chains.specs.ChainHelpers.{Traces, Lists}
use Rattle.disk_chains.specs.declared.Traced.{Traced}
use Rattle.disk_check.specs.SoundHelpers.{Saw}
use Rattle.disk_check.specs.declared.Seen.{Seen}
use Rattle.disk_entries.specs.EntryHelpers.{Entries}
use Rattle.disk_check.proofs.Looking.{known_entries}
use Rattle.disk.proofs.Locating.{not_long}
use Rattle.disk_names.specs.Names.{name_shown}
use Rattle.disk_directory.specs.Listing.{file_line, file_lines, free_line, directory_text}

-- ---- a line

module _ (d : List ℕ) (p : ℕ) {log after : List ℕ} {t : Traced} (s : sound d ≡ true) (i : is_in (listed d) p ≡ true) (k : Traces (chain_of_within 683 d p) log 0 t after) where
  pub line_put : {buffer o1 o2 o3 o4 n : List ℕ} {at m1 m2 m3 m4 : ℕ} → Clipped buffer at (decimal t.to) m1 o1 → Clipped o1 m1 (0x20 ∷ []) m2 o2
      → n ≡ name_at d p → Clipped o2 m2 (name_shown n) m3 o3 → Clipped o3 m3 (0x0A ∷ []) m4 o4 → Clipped buffer at (file_line d p) m4 o4
  unfolding file_line
  line_put {n = n} a b e c f =
      let h : t.to ≡ length (chain_of_within 683 d p).sectors = omega (arith, k.to) in
      let g : t.to ≡ length (chain_of d p).sectors = h ∙ ap (λ (c : Chain). length c.sectors) (file_counted d s p i) in
      clip_as (ap (λ (x : ℕ). decimal x ++ (0x20 ∷ (name_shown n ++ (0x0A ∷ [])))) g ∙ ap (λ (x : List ℕ). decimal (length (chain_of d p).sectors) ++ (0x20 ∷ (name_shown x ++ (0x0A ∷ [])))) e)
      (clip_both (decimal t.to) (0x20 ∷ (name_shown n ++ (0x0A ∷ []))) a (clip_both (0x20 ∷ []) (name_shown n ++ (0x0A ∷ [])) b (clip_both (name_shown n) (0x0A ∷ []) c f)))

module _ (d : List ℕ) {list after : List ℕ} {n : ℕ} (k : Lists (free_sectors d) list n after) where
  pub free_put : {buffer o1 o2 : List ℕ} {at m1 m2 : ℕ} → Clipped buffer at (decimal n) m1 o1 → Clipped o1 m1 (bytes_of " sectors free" ++ (0x0A ∷ [])) m2 o2
      → Clipped buffer at (free_line d) m2 o2
  unfolding free_line
  free_put a b =
      clip_as (ap (λ (x : ℕ). decimal x ++ (bytes_of " sectors free" ++ (0x0A ∷ []))) k.counts) (clip_both (decimal n) (bytes_of " sectors free" ++ (0x0A ∷ [])) a b)

-- ---- the loop over the files

-- of the lines of files i are stored, and the rest is owed
pub record Lining (d files buffer out : List ℕ) (i to : ℕ) : Type 0 where
  pub few : i ≤ length files
  pub owes : Owes buffer 0 (file_lines d files) out to (file_lines d (drop i files))

pub lining_start : (d files buffer : List ℕ) → Lining d files buffer buffer 0 0
lining_start d files buffer = record { few = omega arith; owes = owes_all (file_lines d files) (omega arith) }

module _ {d files buffer out : List ℕ} {i to : ℕ} (k : Lining d files buffer out i to) where
  pub lining_turn : i < length files → {mid : ℕ} {half : List ℕ} → Clipped out to (file_line d (get_or files i 0)) mid half → Lining d files buffer half (i + 1) mid
  unfolding file_lines
  lining_turn h p =
      record { few = omega arith; owes = owes_less (file_line d (get_or files i 0)) (file_lines d (drop (i + 1) files)) k.owes (rw (here files i h) refl) p }

  pub lining_end : length files ≤ i → Clipped buffer 0 (file_lines d files) to out
  unfolding file_lines
  lining_end h = owes_none k.owes (rw (drop_of_length-le files h))

-- a listed entry stands on the disk, and each of the list is one
pub entry_on : (d : List ℕ) (p : ℕ) → is_in (listed d) p ≡ true → p + 30 ≤ 174848
entry_on d p h = go (listed d) (known_entries d refl) h where
  go : (l : List ℕ) → Entries l → is_in l p ≡ true → p + 30 ≤ 174848
  go l e i = let a : At l p = in_place l p i in subst (λ (x : ℕ). x + 30 ≤ 174848) a.is (e.within a.at a.within)

pub entry_room : (d : List ℕ) (p : ℕ) → length d ≡ 174848 → is_in (listed d) p ≡ true → p + 30 ≤ length d
entry_room d p l h = omega (arith, entry_on d p h)

pub entry_listed : (d : List ℕ) {l : List ℕ} {i : ℕ} → l ≡ listed d → i < length l → is_in (listed d) (get_or l i 0) ≡ true
entry_listed d {l} {i} e h = ap (λ (x : List ℕ). is_in x (get_or l i 0)) (sym e) ∙ in_at l i h

-- ---- the whole

module _ {d : List ℕ} {s : Seen} {a b : List ℕ} (k : Saw d s a b) where
  pub saw_sound : sound d ≡ true
  saw_sound = k.verdict

  pub saw_many : s.files ≤ 144
  saw_many = k.many

  pub look_files : take s.files b ≡ listed d
  look_files = k.files

  pub text_put : {buffer o1 o2 : List ℕ} {m1 m2 : ℕ} → Clipped buffer 0 (file_lines d (take s.files b)) m1 o1 → Clipped o1 m1 (free_line d) m2 o2
      → Clipped buffer 0 (directory_text d) m2 o2
  text_put p q = clip_both (file_lines d (listed d)) (free_line d) (clip_as (ap (file_lines d) k.files) p) q

pub long_put : (d out : List ℕ) → (length d ≡ 174848 → ⊥) → (sound d ≡ false) × (numbered BadDisk ≡ bad_disk) × (out ≡ out)
long_put d out z = (not_long d z, refl, refl)
