-- "A saved file reads back exactly its bytes, after any further calls that neither scratch it nor format."
-- Assumes nothing.
use Prim.Native.Nat.{ℕ, ◌+◌, ◌*◌, ◌<◌}
use mathlib.Core.Path.{◌≡◌, refl, sym, ap, subst, ◌∙◌}
use mathlib.Core.Bool.{Bool, true, false, cond, ◌||◌}
use mathlib.Core.List.{List, [], ◌∷◌}
use lib.Dec.{eqb, ltb}
use lib.ListN.{length, get_or, drop, set}
use native.Mathlib.Omega.{arith}
use borrow.Author.Tests.{eqb-true, eq-eqb, not-true, ltb-true}
use Rattle.base_refusals.specs.Answer.{Answer, done, refused}
use Rattle.base_refusals.specs.Numbers.{bad_disk, bad_name}
use Rattle.disk_rules.specs.Lists.{those, some, is_in}
use Rattle.disk_rules.specs.Chains.{Chain}
use Rattle.disk_rules.specs.Entries.{listed, is_named, name_at, same_name, chain_of}
use Rattle.disk_rules.specs.Check.{files, sound}
use Rattle.disk_rules.specs.Calls.{is_file_name, of_file, entries_named, taken, sectors_for, chain_bytes, file_bytes, saved, scratched, onto_disk}
use Rattle.disk_rules.proofs.Counting.{and_left, and_right, or_right, never, in_those_list}
use Rattle.disk_laws.proofs.Kept.{in_those, kept_by_calls}
use Rattle.disk_laws.proofs.Saved.{Tested, was_tested, passes, taken_long, all_lie, saved_bytes}
use Rattle.disk_laws.proofs.Without.{Without, here, there, Same, AllSame, some_same}
use Rattle.disk_laws.proofs.Added.{in_own, same, chain_new, name_new}
use Rattle.disk_laws.proofs.Invariant.{AddedAt, save_adds, saved_sound, sound_kept}
use Rattle.disk_laws.proofs.Parts.{Parts, parts, files_all}
use Rattle.disk_laws.proofs.Scratched.{left, left_is, fewer, same as same_left}
use Rattle.disk_rules.specs.Free.{marked_all}
use Rattle.disk_laws.proofs.Laid.{LieAll, lies_bytes}
use Rattle.disk_laws.proofs.Elsewhere.{Within}
use Rattle.disk_rules.proofs.Counted.{by_held}
use Rattle.disk_rules.specs.Places.{off_track18}
use Rattle.disk_rules.specs.Links.{link_at}
use Rattle.disk_laws.specs.Runs.{Call, Format, Check, Read, Save, Scratch, is_format, after_call, after_calls, spares, all_spare}

-- ---- those of a list with one more

those_none : (test : ℕ → Bool) (l : List ℕ) → some test l ≡ false → those test l ≡ []
unfolding those some
those_none test [] e = refl
those_none test (n ∷ l) e = go (test n) e (those_none test l) where
  go : (q : Bool) → (q || some test l) ≡ false → (some test l ≡ false → those test l ≡ []) → cond q (n ∷ those test l) (those test l) ≡ []
  go true f g = never (sym f)
  go false f g = g f

-- the one alone, where no other passes
those_one : (test : ℕ → Bool) {p : ℕ} {m l : List ℕ} → Without p m l → test p ≡ true → some test l ≡ false → those test m ≡ p ∷ []
unfolding those some
those_one test {p} (here l) a b = ap (λ (q : Bool). cond q (p ∷ those test l) (those test l)) a ∙ ap (λ (x : List ℕ). p ∷ x) (those_none test l b)
those_one test {p} (there r m l w) a b = go (test r) b (those_one test w a) where
  go : (q : Bool) → (q || some test l) ≡ false → (some test l ≡ false → those test m ≡ p ∷ []) → cond q (r ∷ those test m) (those test m) ≡ p ∷ []
  go true f g = never (sym f)
  go false f g = g f

same_self : (a : List ℕ) → same_name a a ≡ true
unfolding same_name
same_self [] = refl
same_self (x ∷ a) = rw (eq-eqb x x refl) (same_self a)

-- one that does not pass makes no difference
those_skip : (test : ℕ → Bool) {p : ℕ} {m l : List ℕ} → Without p m l → test p ≡ false → those test m ≡ those test l
unfolding those
those_skip test {p} (here l) a = ap (λ (q : Bool). cond q (p ∷ those test l) (those test l)) a
those_skip test (there r m l w) a = ap (λ (x : List ℕ). cond (test r) (r ∷ x) x) (those_skip test w a)

pub those_named : (d d' name l : List ℕ) → AllSame d d' l → those (is_named d' name) l ≡ those (is_named d name) l
unfolding those some
those_named d d' name [] h = refl
those_named d d' name (p ∷ l) h =
    ap (λ (x : List ℕ). cond (same_name x name) (p ∷ those (is_named d' name) l) (those (is_named d' name) l)) (h p (rw (eq-eqb p p refl))).name
    ∙ ap (λ (x : List ℕ). cond (is_named d name p) (p ∷ x) x) (those_named d d' name l (λ q e. h q (or_right (eqb q p) (is_in l q) e)))

some_in : (test : ℕ → Bool) (l : List ℕ) (p : ℕ) → is_in l p ≡ true → test p ≡ true → some test l ≡ true
unfolding some
some_in test [] p e h = never e
some_in test (n ∷ l) p e h = go (eqb p n) refl e (some_in test l p) where
  go : (q : Bool) → eqb p n ≡ q → (q || is_in l p) ≡ true → (is_in l p ≡ true → test p ≡ true → some test l ≡ true) → (test n || some test l) ≡ true
  go true f g i = let z : test n ≡ true = ap test (sym (eqb-true p n f)) ∙ h in rw z
  go false f g i = or_right (test n) (some test l) (i g h)

same_true : (a b : List ℕ) → same_name a b ≡ true → a ≡ b
unfolding same_name
same_true [] [] e = refl
same_true [] (y ∷ b) e = never e
same_true (x ∷ a) [] e = never e
same_true (x ∷ a) (y ∷ b) e =
    ap (λ (z : ℕ). z ∷ a) (eqb-true x y (and_left (eqb x y) (same_name a b) e)) ∙ ap (λ (l : List ℕ). y ∷ l) (same_true a b (and_right (eqb x y) (same_name a b) e))

-- ---- at once

-- what is read where the check holds and the name has one entry
read_one : (d name : List ℕ) (p : ℕ) → sound d ≡ true → is_file_name name ≡ true → entries_named d name ≡ p ∷ [] → file_bytes d name ≡ done (chain_bytes d (chain_of d p).sectors)
unfolding file_bytes
read_one d name p s f e =
    ap (λ (q : Bool). cond q (cond (is_file_name name) (of_file (entries_named d name) (λ p. done (chain_bytes d (chain_of d p).sectors))) (refused bad_name)) (refused bad_disk)) s
    ∙ ap (λ (q : Bool). cond q (of_file (entries_named d name) (λ p. done (chain_bytes d (chain_of d p).sectors))) (refused bad_name)) f
    ∙ ap (λ (l : List ℕ). of_file l (λ p. done (chain_bytes d (chain_of d p).sectors))) e

module _ (d name image made : List ℕ) (e : saved d name image ≡ done made) where
  a : AddedAt d name image made
  a = save_adds d name image made e

  t : Tested d name image made
  t = was_tested d name image made e

  named_one : entries_named made name ≡ a.at ∷ []
  named_one =
      those_one (is_named made name) a.is.more
      (ap (λ (x : List ℕ). same_name x name) (name_new d name image made a.at e a.is) ∙ same_self name)
      (some_same d made name (listed d) (same d name image made a.at e a.is) ∙ t.new)

  -- "a saved file reads back exactly its bytes"
  pub reads_back : file_bytes made name ≡ done image
  reads_back =
      read_one made name a.at (saved_sound d name image made e) t.is_name_lem named_one
      ∙ ap (λ (c : Chain). done (chain_bytes made c.sectors)) (chain_new d name image made a.at e a.is)
      ∙ ap done (saved_bytes d name image made e)

-- ---- and behind further calls

-- the one entry of a name, its chain, and the image in it
pub record InPlace (d name image : List ℕ) : Type 0 where
  pub at : ℕ
  pub sectors : List ℕ
  pub is_sound : sound d ≡ true
  pub is_name_lem : is_file_name name ≡ true
  pub named : entries_named d name ≡ at ∷ []
  pub chain : chain_of d at ≡ record { sectors = sectors; ends = true }
  pub long : length sectors ≡ sectors_for image
  pub lies : LieAll d sectors image

lies_kept : (d d' ns image : List ℕ) → ((n j : ℕ) → is_in ns n ≡ true → Within n j → get_or d' j 0 ≡ get_or d j 0) → LieAll d ns image → LieAll d' ns image
unfolding LieAll some
lies_kept d d' [] image h y = tt
lies_kept d d' (n ∷ ns) image h y = (
  record { byte = λ i g. h n (256 * n + i) (rw (eq-eqb n n refl)) (record { from = omega arith; to = omega arith }) ∙ y.0.byte i g },
  lies_kept d d' ns (drop 254 image) (λ m j e w. h m j (or_right (eqb m n) (is_in ns m) e) w) y.1,
)

bytes_of : (d image l : List ℕ) → length d ≡ 174848 → length l ≡ sectors_for image → ((m : ℕ) → is_in l m ≡ true → m < 683) → LieAll d l image → chain_bytes d l ≡ image
bytes_of d image [] s a b y = absurd (omega arith)
bytes_of d image (n ∷ ns) s a b y = lies_bytes d n ns image s b (omega arith) (omega arith) y

module _ (d name image : List ℕ) (x : InPlace d name image) where
  pub in_place_reads : file_bytes d name ≡ done image
  in_place_reads =
      read_one d name x.at x.is_sound x.is_name_lem x.named
      ∙ ap (λ (c : Chain). done (chain_bytes d c.sectors)) x.chain
      ∙ ap done (bytes_of d image x.sectors (parts d x.is_sound).size x.long below x.lies) where
        below : (m : ℕ) → is_in x.sectors m ≡ true → m < 683
        below m i =
            ltb-true m 683 (and_left (ltb m 683) (off_track18 m) (by_held d (link_at d (x.at + 1)) m (ap (λ (c : Chain). is_in c.sectors m) x.chain ∙ i)))

  in_named : is_in (entries_named d name) x.at ≡ true
  unfolding some
  in_named = ap (λ (l : List ℕ). is_in l x.at) x.named ∙ rw (eq-eqb x.at x.at refl) refl

  at_listed : is_in (listed d) x.at ≡ true
  at_listed = in_those_list (is_named d name) (listed d) x.at in_named

  at_named : is_named d name x.at ≡ true
  at_named = in_those (is_named d name) (listed d) x.at in_named

  in_files : (m : ℕ) → is_in x.sectors m ≡ true → is_in (files d).sectors m ≡ true
  in_files m i =
      ap (λ (l : List ℕ). is_in l m) (files_all d x.is_sound) ∙ in_own d (listed d) x.at m at_listed (ap (λ (c : Chain). is_in c.sectors m) x.chain ∙ i)

  -- a disk that a call makes, with the entry as it was and named alone
  stays : (c : Call) (d' : List ℕ) → after_call d c ≡ d' → is_format c ≡ false → entries_named d' name ≡ entries_named d name → Same d d' x.at → InPlace d' name image
  stays c d' e f g s = record {
    at = x.at;
    sectors = x.sectors;
    is_sound = ap sound (sym e) ∙ sound_kept d c x.is_sound;
    is_name_lem = x.is_name_lem;
    named = g ∙ x.named;
    chain = s.chain ∙ x.chain;
    long = x.long;
    lies = lies_kept d d' x.sectors image (λ m j i w. ap (λ (l : List ℕ). get_or l j 0) (sym e) ∙ kept_by_calls d m j (in_files m i) w c f) x.lies;
  }

  -- behind a save of another name; of this name it is refused
  behind_save : (other im : List ℕ) (a : Answer (List ℕ)) → saved d other im ≡ a → InPlace (onto_disk a d).disk name image
  behind_save other im (refused n) e = x
  behind_save other im (done out) e =
      let w : AddedAt d other im out = save_adds d other im out e in
      stays (Save other im) out (ap (λ (a : Answer (List ℕ)). (onto_disk a d).disk) e) refl
      (those_skip (is_named out name) w.is.more (ap (λ (l : List ℕ). same_name l name) (name_new d other im out w.at e w.is) ∙ apart (same_name other name) refl (was_tested d other im out e).new)
      ∙ those_named d out name (listed d) (same d other im out w.at e w.is))
      (same d other im out w.at e w.is x.at at_listed) where
        apart : (q : Bool) → same_name other name ≡ q → some (is_named d other) (listed d) ≡ false → same_name other name ≡ false
        apart false f g = f
        apart true f g =
            never (sym g ∙ some_in (is_named d other) (listed d) x.at at_listed (ap (λ (l : List ℕ). is_named d l x.at) (same_true other name f) ∙ at_named))

  -- behind a scratch of another name
  first_gone : (other l out : List ℕ) → scratched d other ≡ done out → same_name other name ≡ false → ((q : ℕ) → is_in l q ≡ true → is_in (entries_named d other) q ≡ true)
      → of_file l (λ p. done (marked_all (set d p 0) (chain_of d p).sectors true)) ≡ done out → InPlace out name image
  unfolding some
  first_gone other [] out e n h f = absurd (let z : ◌≡◌ {A = ℕ} 0 1 = cc in omega arith)
  first_gone other (p ∷ l) out e n h f =
      let z : marked_all (set d p 0) (chain_of d p).sectors true ≡ out = cc in
      let i : is_in (entries_named d other) p ≡ true = h p (rw (eq-eqb p p refl)) in
      let u : is_in (listed d) p ≡ true = in_those_list (is_named d other) (listed d) p i in
      let y : Parts d = parts d x.is_sound in
      let off : is_named d name p ≡ false = ap (λ (k : List ℕ). same_name k name) (same_true (name_at d p) other (in_those (is_named d other) (listed d) p i)) ∙ n in
      let k : those (is_named d name) (listed d) ≡ those (is_named d name) (left d p y u) = those_skip (is_named d name) (fewer d p y u) off in
      let v : is_in (left d p y u) x.at ≡ true = in_those_list (is_named d name) (left d p y u) x.at (ap (λ (m : List ℕ). is_in m x.at) (sym k) ∙ in_named) in
      let gone : List ℕ = marked_all (set d p 0) (chain_of d p).sectors true in
      subst (λ (m : List ℕ). InPlace m name image) z
      (stays (Scratch other) gone (ap (λ (a : Answer (List ℕ)). (onto_disk a d).disk) e ∙ sym z) refl
      (ap (those (is_named gone name)) (left_is d p y u) ∙ those_named d gone name (left d p y u) (same_left d p y u) ∙ sym k) (same_left d p y u x.at v))

  behind_scratch : (other : List ℕ) → same_name other name ≡ false → (a : Answer (List ℕ)) → scratched d other ≡ a → InPlace (onto_disk a d).disk name image
  unfolding scratched
  behind_scratch other n (refused k) e = x
  behind_scratch other n (done out) e =
      let all : Answer (List ℕ) = of_file (entries_named d other) (λ p. done (marked_all (set d p 0) (chain_of d p).sectors true)) in
      let a : (sound d ≡ true) × (cond (is_file_name other) all (refused bad_name) ≡ done out) = passes (sound d) bad_disk (cond (is_file_name other) all (refused bad_name)) out e in
      let b : (is_file_name other ≡ true) × (all ≡ done out) = passes (is_file_name other) bad_name all out a.1 in
      first_gone other (entries_named d other) out e n (λ q i. i) b.1

  pub behind_call : (c : Call) → spares name c ≡ true → InPlace (after_call d c) name image
  behind_call Format e = never e
  behind_call Check e = x
  behind_call (Read other) e = x
  behind_call (Save other im) e = behind_save other im (saved d other im) refl
  behind_call (Scratch other) e = behind_scratch other (not-true (same_name other name) e) (scratched d other) refl

behind_calls : (d name image : List ℕ) (cs : List Call) → InPlace d name image → all_spare name cs ≡ true → InPlace (after_calls d cs) name image
unfolding after_calls all_spare
behind_calls d name image [] x e = x
behind_calls d name image (c ∷ cs) x e =
    behind_calls (after_call d c) name image cs (behind_call d name image x c (and_left (spares name c) (all_spare name cs) e)) (and_right (spares name c) (all_spare name cs) e)

-- "a saved file reads back exactly its bytes, after any further calls that neither scratch it nor format"
pub reads_back_later : (d name image made : List ℕ) → saved d name image ≡ done made → (cs : List Call) → all_spare name cs ≡ true → file_bytes (after_calls made cs) name ≡ done image
unfolding a
reads_back_later d name image made e cs s =
    let w : AddedAt d name image made = save_adds d name image made e in
    in_place_reads (after_calls made cs) name image
    (behind_calls made name image cs
    (record {
      at = w.at;
      sectors = taken d image;
      is_sound = saved_sound d name image made e;
      is_name_lem = (was_tested d name image made e).is_name_lem;
      named = named_one d name image made e;
      chain = chain_new d name image made w.at e w.is;
      long = taken_long d name image made e;
      lies = all_lie d name image made e;
    }) s)
