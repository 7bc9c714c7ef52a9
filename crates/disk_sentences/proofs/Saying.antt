-- The parts of a sentence, one behind the other.
-- Assumes nothing.
use Prim.Native.Nat.{ℕ, ◌+◌, ◌-◌, ◌/◌, ◌%◌, ◌≤◌, ◌<◌}
use mathlib.Core.Path.{◌≡◌, sym, ap, ◌∙◌}
use mathlib.Core.List.{List, [], ◌∷◌, ◌++◌}
use native.Mathlib.Omega.{arith}
use lib.ListN.{length, get_or, take, get_or-eq_default}
use borrow.Author.Tests.{le-leb, lt-leb}
use Rattle.word_search.specs.Spelling.{bytes_of}
use Rattle.base_steps.specs.Decimal.{decimal}
use Rattle.say_put.specs.Clipped.{Clipped}
use Rattle.say_put.proofs.Clipping.{clip_as, clip_both, clip_none}
use mir.Val.{Fits}
use mir.Syntax.{w8}
use Rattle.list_bytes.specs.ByteTexts.{hex_digits, hex_byte}
use Rattle.list_bytes.proofs.ByteTexts.{hex_digits_lem}
use Rattle.disk_rules.specs.Places.{track_of, sector_of}
use Rattle.disk_rules.specs.Entries.{name_at}
use Rattle.disk_names.specs.Names.{name_shown}
use Rattle.disk_ways.specs.declared.Stop.{Stop}
use Rattle.disk_ways.specs.declared.Stop.TheVariants.{Ended, Astray, Barred, Again}
use Rattle.disk_why.specs.declared.Broken.{Broken}
use Rattle.disk_why.specs.declared.Broken.TheVariants.{Nothing, Length, Start, Directory, NotClosed, SameName, File, Free, Used, Beyond}
use Rattle.disk_sentences.specs.Sentences.{name_told, place_text, about_text, sector_text, entry_text, stop_text, type_text, open_at_text, open_text, twin_text, twins_text, broken_text}

-- ---- a name

module _ (d : List ℕ) (p : ℕ) where
  none_told : length d < p + 30 → take 0 d ≡ name_told d p
  none_told h = rw (lt-leb (p + 30) (length d) h)

  pub short_told : length d < 30 → take 0 d ≡ name_told d p
  short_told h = none_told (omega arith)

  pub far_told : 30 ≤ length d → length d - 30 < p → take 0 d ≡ name_told d p
  far_told g h = none_told (omega arith)

  pub here_told : {name : List ℕ} → 30 ≤ length d → p ≤ length d - 30 → name ≡ name_at d p → name ≡ name_told d p
  here_told g h e = let k : p + 30 ≤ length d = omega arith in e ∙ rw (le-leb (p + 30) (length d) k)

pub no_byte : (d : List ℕ) (p : ℕ) → length d ≤ p → 0 ≡ get_or d p 0
no_byte d p h = sym (get_or-eq_default d 0 {n = p} h)

-- ---- parts

by_number_lem : (n : ℕ) {t s : ℕ} (before after : List ℕ) → t ≡ track_of n → s ≡ sector_of n → about_text before t s after ≡ sector_text before n after
by_number_lem n {t} {s} before after e f = ap (λ (k : ℕ). about_text before k s after) e ∙ ap (λ (k : ℕ). about_text before (track_of n) k after) f

module _ {b : List ℕ} {at : ℕ} where
  three : (x y z : List ℕ) {m1 m2 m3 : ℕ} {o1 o2 o3 : List ℕ} → Clipped b at x m1 o1 → Clipped o1 m1 y m2 o2 → Clipped o2 m2 z m3 o3 → Clipped b at (x ++ (y ++ z)) m3 o3
  three x y z p q r = clip_both x (y ++ z) p (clip_both y z q r)

  pub place_put : (t s : ℕ) {m1 m2 m3 : ℕ} {o1 o2 o3 : List ℕ} → Clipped b at (decimal t) m1 o1 → Clipped o1 m1 (0x2F ∷ []) m2 o2 → Clipped o2 m2 (decimal s) m3 o3
      → Clipped b at (place_text t s) m3 o3
  place_put t s p q r = three (decimal t) (0x2F ∷ []) (decimal s) p q r

  pub about_put : (t s : ℕ) {before after : List ℕ} {m1 m2 m3 : ℕ} {o1 o2 o3 : List ℕ} → Clipped b at before m1 o1 → Clipped o1 m1 (place_text t s) m2 o2 → Clipped o2 m2 after m3 o3
      → Clipped b at (about_text before t s after) m3 o3
  about_put t s {before} {after} p q r = three before (place_text t s) after p q r

  pub entry_put : (p : ℕ) {t s : ℕ} {m1 m2 m3 : ℕ} {o1 o2 o3 : List ℕ} → t ≡ track_of (p / 256) → s ≡ sector_of (p / 256) → Clipped b at (place_text t s) m1 o1
      → Clipped o1 m1 (bytes_of ", ") m2 o2 → Clipped o2 m2 (decimal (1 + p % 256 / 32)) m3 o3 → Clipped b at (entry_text p) m3 o3
  entry_put p {t} {s} e f x y z =
      let w : Clipped b at (place_text (track_of (p / 256)) (sector_of (p / 256))) _ _ = clip_as (ap (λ (k : ℕ). place_text k s) e ∙ ap (place_text (track_of (p / 256))) f) x in
      three (place_text (track_of (p / 256)) (sector_of (p / 256))) (bytes_of ", ") (decimal (1 + p % 256 / 32)) w y z

  -- ---- how a chain stops

  module _ {stop : Stop} where
    pub ended_put : {n c w t s : ℕ} {m1 m2 : ℕ} {o1 o2 : List ℕ} → stop ≡ Ended n c → t ≡ track_of n → s ≡ sector_of n
        → Clipped b at (about_text (bytes_of " ends at ") t s (bytes_of " with a second byte of ")) m1 o1 → w ≡ c → Clipped o1 m1 (decimal w) m2 o2 → Clipped b at (stop_text stop) m2 o2
    ended_put {n} {c} {w} e f g x h y =
        rw e
        (clip_both (sector_text (bytes_of " ends at ") n (bytes_of " with a second byte of ")) (decimal c)
        (clip_as (by_number_lem n (bytes_of " ends at ") (bytes_of " with a second byte of ") f g) x) (clip_as (ap decimal h) y))

    pub astray_put : {u v t s : ℕ} {m1 m2 : ℕ} {o1 o2 : List ℕ} → stop ≡ Astray u v → Clipped b at (bytes_of " leaves the disk at ") m1 o1 → t ≡ u → s ≡ v
        → Clipped o1 m1 (place_text t s) m2 o2 → Clipped b at (stop_text stop) m2 o2
    astray_put {u} {v} {t} {s} e x f g y =
        rw e (clip_both (bytes_of " leaves the disk at ") (place_text u v) x (clip_as (ap (λ (k : ℕ). place_text k s) f ∙ ap (place_text u) g) y))

    pub barred_put : {n t s : ℕ} {m1 : ℕ} {o1 : List ℕ} → stop ≡ Barred n → t ≡ track_of n → s ≡ sector_of n
        → Clipped b at (about_text (bytes_of " goes to ") t s (bytes_of ", where it may not be")) m1 o1 → Clipped b at (stop_text stop) m1 o1
    barred_put {n} e f g x = rw e (clip_as (by_number_lem n (bytes_of " goes to ") (bytes_of ", where it may not be") f g) x)

    pub again_put : {n t s : ℕ} {m1 : ℕ} {o1 : List ℕ} → stop ≡ Again n → t ≡ track_of n → s ≡ sector_of n
        → Clipped b at (about_text (bytes_of " comes to ") t s (bytes_of ", which was met before")) m1 o1 → Clipped b at (stop_text stop) m1 o1
    again_put {n} e f g x = rw e (clip_as (by_number_lem n (bytes_of " comes to ") (bytes_of ", which was met before") f g) x)

  pub hex_put : {c high low m : ℕ} {o : List ℕ} → Fits w8 c → high ≡ get_or hex_digits (c / 16 % 16) 0 → low ≡ get_or hex_digits (c % 16 % 16) 0
      → Clipped b at (high ∷ low ∷ []) m o → Clipped b at (hex_byte c) m o
  hex_put small h l x = clip_as (hex_digits_lem small h l) x

  pub type_put : (d : List ℕ) (p : ℕ) {c : ℕ} {m1 m2 m3 : ℕ} {o1 o2 o3 : List ℕ} → Clipped b at (bytes_of " is no closed PRG file (") m1 o1 → c ≡ get_or d p 0
      → Clipped o1 m1 (hex_byte c) m2 o2 → Clipped o2 m2 (bytes_of ")") m3 o3 → Clipped b at (type_text d p) m3 o3
  type_put d p x e y z = three (bytes_of " is no closed PRG file (") (hex_byte (get_or d p 0)) (bytes_of ")") x (clip_as (ap hex_byte e) y) z

-- ---- sentences

module _ (d : List ℕ) (p : ℕ) {b : List ℕ} where
  pub open_at_put : {at : ℕ} {m1 m2 m3 : ℕ} {o1 o2 o3 : List ℕ} → Clipped b at (bytes_of " at ") m1 o1 → Clipped o1 m1 (entry_text p) m2 o2 → Clipped o2 m2 (type_text d p) m3 o3
      → Clipped b at (open_at_text d p) m3 o3
  open_at_put x1 x2 x3 = three (bytes_of " at ") (entry_text p) (type_text d p) x1 x2 x3

  pub open_put : {n : List ℕ} {m1 m2 m3 : ℕ} {o1 o2 o3 : List ℕ} → Clipped b 0 (bytes_of "the entry ") m1 o1 → n ≡ name_told d p → Clipped o1 m1 (name_shown n) m2 o2
      → Clipped o2 m2 (open_at_text d p) m3 o3 → Clipped b 0 (open_text d p) m3 o3
  open_put x1 e x2 x3 = three (bytes_of "the entry ") (name_shown (name_told d p)) (open_at_text d p) x1 (clip_as (ap name_shown e) x2) x3

  pub twin_put : {at : ℕ} {n : List ℕ} {m1 m2 m3 m4 : ℕ} {o1 o2 o3 o4 : List ℕ} → Clipped b at (bytes_of " and ") m1 o1 → Clipped o1 m1 (entry_text p) m2 o2
      → Clipped o2 m2 (bytes_of " have one name, ") m3 o3 → n ≡ name_told d p → Clipped o3 m3 (name_shown n) m4 o4 → Clipped b at (twin_text d p) m4 o4
  twin_put x1 x2 x3 e x4 =
      three (bytes_of " and ") (entry_text p) (bytes_of " have one name, " ++ name_shown (name_told d p)) x1 x2
      (clip_both (bytes_of " have one name, ") (name_shown (name_told d p)) x3 (clip_as (ap name_shown e) x4))

  pub twins_put : (q : ℕ) {m1 m2 m3 : ℕ} {o1 o2 o3 : List ℕ} → Clipped b 0 (bytes_of "the entries at ") m1 o1 → Clipped o1 m1 (entry_text p) m2 o2
      → Clipped o2 m2 (twin_text d q) m3 o3 → Clipped b 0 (twins_text d p q) m3 o3
  twins_put q x1 x2 x3 = three (bytes_of "the entries at ") (entry_text p) (twin_text d q) x1 x2 x3

module _ (d : List ℕ) {b : List ℕ} {w : Broken} where
  pub nothing_said : w ≡ Nothing → Clipped b 0 (broken_text d w) 0 b
  nothing_said e = rw e (clip_none (omega arith))

  pub length_said : {n : ℕ} {m1 m2 m3 : ℕ} {o1 o2 o3 : List ℕ} → w ≡ Length n → Clipped b 0 (bytes_of "the disk has ") m1 o1 → Clipped o1 m1 (decimal n) m2 o2
      → Clipped o2 m2 (bytes_of " bytes, not 174848") m3 o3 → Clipped b 0 (broken_text d w) m3 o3
  length_said {n} e x y z = rw e (three (bytes_of "the disk has ") (decimal n) (bytes_of " bytes, not 174848") x y z)

  pub start_said : {u v t s : ℕ} {m : ℕ} {o : List ℕ} → w ≡ Start u v → t ≡ u → s ≡ v → Clipped b 0 (about_text (bytes_of "18/0 links to ") t s (bytes_of ", not to 18/1")) m o
      → Clipped b 0 (broken_text d w) m o
  start_said {u} {v} {t} {s} e f g x =
      rw e (clip_as (ap (λ (k : ℕ). about_text (bytes_of "18/0 links to ") k s (bytes_of ", not to 18/1")) f ∙ ap (λ (k : ℕ). about_text (bytes_of "18/0 links to ") u k (bytes_of ", not to 18/1")) g) x)

  pub directory_said : {stop : Stop} {m1 m2 : ℕ} {o1 o2 : List ℕ} → w ≡ Directory stop → Clipped b 0 (bytes_of "the directory") m1 o1 → Clipped o1 m1 (stop_text stop) m2 o2
      → Clipped b 0 (broken_text d w) m2 o2
  directory_said {stop} e x y = rw e (clip_both (bytes_of "the directory") (stop_text stop) x y)

  pub open_said : {p : ℕ} {m : ℕ} {o : List ℕ} → w ≡ NotClosed p → Clipped b 0 (open_text d p) m o → Clipped b 0 (broken_text d w) m o
  open_said e x = rw e x

  pub twins_said : {p q : ℕ} {m : ℕ} {o : List ℕ} → w ≡ SameName p q → Clipped b 0 (twins_text d p q) m o → Clipped b 0 (broken_text d w) m o
  twins_said e x = rw e x

  pub file_said : {p : ℕ} {stop : Stop} {n : List ℕ} {m1 m2 m3 : ℕ} {o1 o2 o3 : List ℕ} → w ≡ File p stop → Clipped b 0 (bytes_of "the chain of ") m1 o1 → n ≡ name_told d p
      → Clipped o1 m1 (name_shown n) m2 o2 → Clipped o2 m2 (stop_text stop) m3 o3 → Clipped b 0 (broken_text d w) m3 o3
  file_said {p} {stop} e x f y z =
      rw e (three (bytes_of "the chain of ") (name_shown (name_told d p)) (stop_text stop) x (clip_as (ap name_shown f) y) z)

  pub free_said : {t s : ℕ} {m : ℕ} {o : List ℕ} → w ≡ Free t s → Clipped b 0 (about_text (bytes_of "the map calls ") t s (bytes_of " free, which is in a chain")) m o
      → Clipped b 0 (broken_text d w) m o
  free_said e x = rw e x

  pub used_said : {t s : ℕ} {m : ℕ} {o : List ℕ} → w ≡ Used t s → Clipped b 0 (about_text (bytes_of "the map calls ") t s (bytes_of " used, which is in no chain")) m o
      → Clipped b 0 (broken_text d w) m o
  used_said e x = rw e x

  pub beyond_said : {t s : ℕ} {m : ℕ} {o : List ℕ} → w ≡ Beyond t s → Clipped b 0 (about_text (bytes_of "the map calls ") t s (bytes_of " free, which does not exist")) m o
      → Clipped b 0 (broken_text d w) m o
  beyond_said e x = rw e x
