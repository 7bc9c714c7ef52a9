-- Names, and the entry of a name.
-- Assumes nothing.
use Prim.Native.Nat.{ℕ, suc, ◌+◌, ◌*◌, ◌≤◌, ◌<◌}
use mathlib.Core.Path.{◌≡◌, refl, sym, ap, ◌∙◌}
use mathlib.Core.Bool.{Bool, true, false, not, cond, ◌&&◌}
use mathlib.Core.List.{List, [], ◌∷◌}
use lib.Dec.{leb, eqb}
use mathlib.Core.Logic.{◌⊎◌, inl, inr}
use lib.ListN.{length, get_or, take, length-take}
use lib.Seq.{get_or-take}
use native.Mathlib.Omega.{arith}
use mir.Val.{Fits}
use mir.Syntax.{w64}
use borrow.Author.Tests.{ne_eqb, le-leb, lt-leb, leb-true, not-true, not-false}
use Rattle.base_refusals.specs.Numbers.{bad_disk, bad_name, no_such_file}
use Rattle.base_refusals.specs.Answer.{Answer, done, refused, numbered, and_then}
use Rattle.base_refusals.specs.declared.Refusal.{Refusal}
use Rattle.base_refusals.specs.declared.Refusal.TheVariants.{BadDisk, BadName, NoSuchFile}
use Rattle.disk_rules.specs.Lists.{those, is_in}
use Rattle.disk_rules.specs.Entries.{directory, listed, is_named}
use Rattle.disk_rules.specs.Check.{sound}
use Rattle.disk_rules.specs.Calls.{is_file_name, on_sound, of_file, entries_named}
use Rattle.disk_entries.specs.EntryHelpers.{Entries}
use Rattle.disk_check.specs.SoundHelpers.{Saw}
use Rattle.disk_check.specs.declared.Seen.{Seen}
use Rattle.disk_check.proofs.Looking.{known_entries}
use Rattle.disk.specs.LocateHelpers.{admitted, seek_answer, Known, Seeks, located, Locates}
use Rattle.disk_saves.proofs.Lowest.{any_standing}
use Rattle.disk.specs.declared.Sought.{Sought}
use Rattle.std.specs.List.{list_any}
use Rattle.std.specs.Option.{ok_or}
use Rattle.std.specs.Prelude.{Option, Some, None, find, Result, Ok, Err}

-- ---- names

-- a list whose length is told, and that holds no A0
pub name_told : (l : List ℕ) {q : Bool} → 1 ≤ length l → length l ≤ 16 → q ≡ list_any (λ m. eqb m 0xA0) l → not q ≡ is_file_name l
name_told l g h e = rw (e, any_standing l 0xA0) (simp (le-leb 1 (length l) g, le-leb (length l) 16 h))

pub no_name : (l : List ℕ) → (length l < 1) ⊎ (16 < length l) → false ≡ is_file_name l
no_name l (inl h) = simp (lt-leb 1 (length l) h)
no_name l (inr h) = go (leb 1 (length l)) where
  go : (b : Bool) → false ≡ (b && leb (length l) 16 && not (is_in l 0xA0))
  go true = simp (lt-leb (length l) 16 h)
  go false = refl

-- ---- the first that passes a test

pub first_of : {A : Type 0} (test : ℕ → Bool) (l : List ℕ) (f : ℕ → Answer A) {p : ℕ} → Some p ≡ find test l → f p ≡ of_file (those test l) f
unfolding those
first_of test [] f e = absurd (cc)
first_of test (n ∷ l) f {p} e = go (test n) (first_of test l f) e where
  go : (q : Bool) → (Some p ≡ find test l → f p ≡ of_file (those test l) f) → Some p ≡ cond q (Some n) (find test l) → f p ≡ of_file (cond q (n ∷ those test l) (those test l)) f
  go true k g = let z : p ≡ n = cc in ap f z
  go false k g = k g

pub first_none : {A : Type 0} (test : ℕ → Bool) (l : List ℕ) (f : ℕ → Answer A) → None ≡ find test l → refused no_such_file ≡ of_file (those test l) f
unfolding those
first_none test [] f e = refl
first_none test (n ∷ l) f e = go (test n) (first_none test l f) e where
  go : (q : Bool) → (None ≡ find test l → refused no_such_file ≡ of_file (those test l) f) → None ≡ cond q (Some n) (find test l)
      → refused no_such_file ≡ of_file (cond q (n ∷ those test l) (those test l)) f
  go true k g = absurd (cc)
  go false k g = k g

-- what passes is of the list
first_among : (test : ℕ → Bool) (l : List ℕ) (p : ℕ) → Some p ≡ find test l → ((i : ℕ) → i < length l → get_or l i 0 + 30 ≤ 174848) → p + 30 ≤ 174848
first_among test [] p e k = absurd (cc)
first_among test (n ∷ l) p e k = go (test n) (first_among test l) e where
  go : (q : Bool) → ((p : ℕ) → Some p ≡ find test l → ((i : ℕ) → i < length l → get_or l i 0 + 30 ≤ 174848) → p + 30 ≤ 174848) → Some p ≡ cond q (Some n) (find test l)
      → p + 30 ≤ 174848
  go true m g = let z : p ≡ n = cc in omega (arith, k 0 (omega arith))
  go false m g = m p g (λ i h. k (suc i) (omega arith))

-- ---- a disk that was looked at

pub not_long : (d : List ℕ) → (length d ≡ 174848 → ⊥) → sound d ≡ false
unfolding sound
not_long d z = simp (ne_eqb (length d) 174848 z)

module _ {d : List ℕ} {s : Seen} {a b : List ℕ} (k : Saw d s a b) where
  pub look_entries : Entries (take s.files b)
  look_entries = known_entries d k.files

-- ---- a name looked for

middle : (a b c : Bool) → (a && b && c) ≡ true → b ≡ true
middle true true c e = refl
middle true false c e = e
middle false true c e = refl
middle false false c e = e

name_short : (name : List ℕ) → is_file_name name ≡ true → length name ≤ 16
name_short name e = leb-true (length name) 16 (middle (leb 1 (length name)) (leb (length name) 16) (not (is_in name 0xA0)) e)

module _ (d name a : List ℕ) where
  pub seek_long : (length d ≡ 174848 → ⊥) → Seeks d name (Err BadDisk) a
  unfolding admitted
  seek_long z = record { answers = rw (not_long d z); knows = tt }

  pub seek_unsound : sound d ≡ false → Seeks d name (Err BadDisk) a
  unfolding admitted
  seek_unsound e = record { answers = rw e; knows = tt }

module _ (name : List ℕ) {d : List ℕ} {s : Seen} {a b : List ℕ} (k : Saw d s a b) {r : Bool} (f : r ≡ is_file_name name) where
  pub seek_name : r ≡ false → Seeks d name (Err BadName) a
  unfolding admitted
  seek_name g =
      let y : is_file_name name ≡ false = sym f ∙ g in record { answers = rw k.verdict (rw y); knows = tt }

  pub seek_on : {i : Option ℕ} → length d ≡ 174848 → r ≡ true → i ≡ find (is_named d name) (take s.files b)
      → Seeks d name (Ok (record { sectors = s.sectors; files = s.files; entry = i })) a
  unfolding admitted
  seek_on l g h =
      let y : is_file_name name ≡ true = sym f ∙ g in
      record {
        answers = rw k.verdict (rw y);
        knows = record { size = l; short = name_short name y; few = k.few; chain = k.sectors; counts = k.counts; first = rw k.files at h };
      }

-- what is answered on a sound disk for a name, behind 20 and 21
pub admitted_first : {A : Type 0} (d name : List ℕ) (x : Answer A) → on_sound d name x ≡ and_then (admitted d name) (λ u. x)
unfolding admitted
admitted_first {A} d name x = go tt (sound d) (is_file_name name) where
  go : (t : Unit {0}) (p q : Bool) → cond p (cond q x (refused bad_name)) (refused bad_disk) ≡ and_then (cond p (cond q (done t) (refused bad_name)) (refused bad_disk)) (λ u. x)
  go t true true = refl
  go t true false = refl
  go t false q = refl

module _ {d name : List ℕ} {m : Result Sought Refusal} {a : List ℕ} (s : Seeks d name m a) where
  pub sought : {t : Sought} → m ≡ Ok t → Known d name t a
  sought e = rw e at s.knows

  pub sought_on : {A : Type 0} {t : Sought} (x : Answer A) → m ≡ Ok t → x ≡ on_sound d name x
  sought_on x e =
      sym (admitted_first d name x ∙ ap (λ (y : Answer Unit). and_then y (λ u. x)) (sym s.answers ∙ ap seek_answer e))

  pub sought_not : {A : Type 0} {r : Refusal} (x : Answer A) → m ≡ Err r → refused (numbered r) ≡ on_sound d name x
  sought_not x e =
      sym (admitted_first d name x ∙ ap (λ (y : Answer Unit). and_then y (λ u. x)) (sym s.answers ∙ ap seek_answer e))

  pub locate_refused : {r : Refusal} → m ≡ Err r → Locates d name (Err r)
  unfolding located
  locate_refused e = record { answers = sought_not (of_file (entries_named d name) done) e; stands = tt }

  module _ {t : Sought} (e : m ≡ Ok t) where
    abbrev known : Known d name t a
    known = sought e

    pub known_size : length d ≡ 174848
    known_size = known.size

    pub known_short : length name ≤ 16
    known_short = known.short

    pub known_few : length a ≡ 18 → t.sectors ≤ length a
    known_few h = omega (arith, known.few)

    pub known_chain : take t.sectors a ≡ (directory d).sectors
    known_chain = known.chain

    pub known_long : length (take t.sectors a) ≤ 18
    known_long = omega (arith, length-take t.sectors a, known.few)

    pub locate_told : {x : Result ℕ Refusal} → x ≡ ok_or t.entry NoSuchFile → Locates d name x
    unfolding located
    locate_told {x} f = go t.entry known.first x f where
      go : (o : Option ℕ) → o ≡ find (is_named d name) (listed d) → (x : Result ℕ Refusal) → x ≡ ok_or o NoSuchFile → Locates d name x
      go None g x f = rw f (record { answers = first_none (is_named d name) (listed d) done g ∙ sought_on (of_file (entries_named d name) done) e; stands = tt })
      go (Some p) g x f =
          rw f
          (record {
            answers = first_of (is_named d name) (listed d) done g ∙ sought_on (of_file (entries_named d name) done) e;
            stands = (known.size, first_among (is_named d name) (listed d) p g (known_entries d refl).within);
          })

-- what follows a search is told by the entry that it found
pub by_entry : {A : Type 0} (d name : List ℕ) (f : ℕ → Answer A) → and_then (located d name) f ≡ on_sound d name (of_file (entries_named d name) f)
unfolding located
by_entry {A} d name f = go (sound d) (is_file_name name) (entries_named d name) where
  go : (a b : Bool) (l : List ℕ)
      → and_then (cond a (cond b (of_file l done) (refused bad_name)) (refused bad_disk)) f ≡ cond a (cond b (of_file l f) (refused bad_name)) (refused bad_disk)
  go true true [] = refl
  go true true (p ∷ l) = refl
  go true false l = refl
  go false b l = refl
