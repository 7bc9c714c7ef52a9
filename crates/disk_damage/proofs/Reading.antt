-- What is read of a file on a worn disk: as many bytes as before, each from the place where it stood.
-- Assumes nothing.
use Prim.Native.Nat.{ℕ, ◌+◌, ◌-◌, ◌*◌, ◌<◌}
use mathlib.Core.Path.{◌≡◌, refl, sym, ap, subst, ◌∙◌}
use mathlib.Core.Bool.{Bool, true, false, cond}
use mathlib.Core.List.{List, [], ◌∷◌, ◌++◌}
use lib.Dec.{eqb, ltb}
use lib.ListN.{length, get_or, drop, length-append, length-take, length-drop, get_or-append, get_or-eq_default}
use lib.Seq.{get_or-take, get_or-drop, get_or-append-add}
use native.Mathlib.Omega.{arith}
use native.Mathlib.Decide.{dec_lt}
use borrow.Author.Tests.{eq-eqb, lt-ltb, le-ltb}
use Rattle.base_refusals.specs.Answer.{Answer, done, refused}
use Rattle.base_refusals.specs.Numbers.{bad_disk, bad_name}
use Rattle.disk_rules.specs.Calls.{is_file_name, of_file, entries_named, payload, chain_bytes, file_bytes}
use Rattle.disk_rules.specs.Chains.{Chain}
use Rattle.disk_rules.specs.Lists.{is_in, those, some}
use Rattle.disk_rules.specs.Entries.{listed, is_named, chain_of}
use Rattle.disk_rules.specs.Check.{sound}
use Rattle.image_layout.specs.Changed.{ChangedAt}
use Rattle.disk_rules.proofs.Counting.{in_those_list}
use Rattle.disk_laws.proofs.Saved.{passes}
use Rattle.disk_laws.proofs.ReadBack.{those_named}
use Rattle.disk_damage.specs.Worn.{is_file_byte, place_on_disk, file_sectors, sectors_filed, Worn, ReadsWorn}
use Rattle.disk_damage.proofs.Sound.{link_byte_lem, listed_stay, entries_stay, worn_sound}

-- ---- a file's bytes, by their places

payload_byte : (disk : List ℕ) (n i : ℕ) → i < length (payload disk n) → get_or (payload disk n) i 0 ≡ get_or disk (256 * n + 2 + i) 0
payload_byte disk n i h =
    let k : ℕ = cond (eqb (get_or disk (256 * n) 0) 0) (get_or disk (256 * n + 1) 0 - 1) 254 in
    get_or-take k (drop (256 * n + 2) disk) i 0 (omega (arith, length-take k (drop (256 * n + 2) disk))) ∙ get_or-drop (256 * n + 2) disk i 0

chain_byte : (disk ns : List ℕ) (i : ℕ) → i < length (chain_bytes disk ns) → get_or (chain_bytes disk ns) i 0 ≡ get_or disk (place_on_disk disk ns i) 0
unfolding chain_bytes place_on_disk
chain_byte disk [] i h = absurd (omega arith)
chain_byte disk (n ∷ ns) i h = go (dec_lt i (length (payload disk n))) (chain_byte disk ns (i - length (payload disk n))) where
  go : Dec (i < length (payload disk n))
      → (i - length (payload disk n) < length (chain_bytes disk ns) → get_or (chain_bytes disk ns) (i - length (payload disk n)) 0 ≡ get_or disk (place_on_disk disk ns (i - length (payload disk n))) 0)
      → get_or (payload disk n ++ chain_bytes disk ns) i 0
      ≡ get_or disk (cond (ltb i (length (payload disk n))) (256 * n + 2 + i) (place_on_disk disk ns (i - length (payload disk n)))) 0
  go (yes a) f = rw (lt-ltb i (length (payload disk n)) a) (get_or-append (payload disk n) (chain_bytes disk ns) 0 i a ∙ payload_byte disk n i a)
  go (no a) f =
      let e : length (payload disk n) + (i - length (payload disk n)) ≡ i = omega arith in
      rw (le-ltb i (length (payload disk n)) (omega arith))
      (subst (λ (k : ℕ). get_or (payload disk n ++ chain_bytes disk ns) k 0 ≡ get_or (chain_bytes disk ns) (i - length (payload disk n)) 0) e
      (get_or-append-add (payload disk n) (chain_bytes disk ns) (i - length (payload disk n)) 0)
      ∙ f (omega (arith, length-append (payload disk n) (chain_bytes disk ns))))

module _ (d now : List ℕ) (c : ChangedAt is_file_byte d now) where
  -- ---- as many

  payload_long : (n : ℕ) → length (payload now n) ≡ length (payload d n)
  payload_long n =
      let z : 256 * n + 0 ≡ 256 * n = omega arith in
      let a : get_or now (256 * n) 0 ≡ get_or d (256 * n) 0 = rw z at (link_byte_lem d now c n 0 (omega arith)) in
      let b : get_or now (256 * n + 1) 0 ≡ get_or d (256 * n + 1) 0 = link_byte_lem d now c n 1 (omega arith) in
      let k : ℕ = cond (eqb (get_or d (256 * n) 0) 0) (get_or d (256 * n + 1) 0 - 1) 254 in
      rw (a, b)
      (omega (arith, length-take k (drop (256 * n + 2) now), length-take k (drop (256 * n + 2) d), length-drop (256 * n + 2) now, length-drop (256 * n + 2) d, c.long))

  chain_long : (ns : List ℕ) → length (chain_bytes now ns) ≡ length (chain_bytes d ns)
  unfolding chain_bytes
  chain_long [] = refl
  chain_long (n ∷ ns) =
      omega (arith, length-append (payload now n) (chain_bytes now ns), length-append (payload d n) (chain_bytes d ns), payload_long n, chain_long ns)

  place_same : (ns : List ℕ) (i : ℕ) → place_on_disk now ns i ≡ place_on_disk d ns i
  unfolding place_on_disk
  place_same [] i = refl
  place_same (n ∷ ns) i =
      rw (payload_long n) (ap (λ (p : ℕ). cond (ltb i (length (payload d n))) (256 * n + 2 + i) p) (place_same ns (i - length (payload d n))))

  -- ---- the file of a name

  named_stay : (name : List ℕ) → entries_named now name ≡ entries_named d name
  named_stay name = ap (those (is_named now name)) (listed_stay d now c) ∙ those_named d now name (listed d) (entries_stay d now c)

-- the file is there, and these are its bytes
record Filed (d name image : List ℕ) : Type 0 where
  is_sound : sound d ≡ true
  is_name_lem : is_file_name name ≡ true
  at : ℕ
  more : List ℕ
  named : entries_named d name ≡ at ∷ more
  bytes : chain_bytes d (chain_of d at).sectors ≡ image

filed : (d name image : List ℕ) → file_bytes d name ≡ done image → Filed d name image
unfolding file_bytes
filed d name image e =
    let f : ℕ → Answer (List ℕ) = λ p. done (chain_bytes d (chain_of d p).sectors) in
    let a : (sound d ≡ true) × (cond (is_file_name name) (of_file (entries_named d name) f) (refused bad_name) ≡ done image) =
    passes (sound d) bad_disk (cond (is_file_name name) (of_file (entries_named d name) f) (refused bad_name)) image e in
    let b : (is_file_name name ≡ true) × (of_file (entries_named d name) f ≡ done image) = passes (is_file_name name) bad_name (of_file (entries_named d name) f) image a.1 in
    go (entries_named d name) refl a.0 b.0 b.1
  where
    go : (l : List ℕ) → entries_named d name ≡ l → sound d ≡ true → is_file_name name ≡ true → of_file l (λ p. done (chain_bytes d (chain_of d p).sectors)) ≡ done image → Filed d name image
    go [] g s n h = let z : ◌≡◌ {A = ℕ} 0 1 = cc in absurd (omega arith)
    go (p ∷ l) g s n h = let z : chain_bytes d (chain_of d p).sectors ≡ image = cc in record { is_sound = s; is_name_lem = n; at = p; more = l; named = g; bytes = z }

-- what is read of a file that was read before
module _ {changes : ℕ → Bool} (d name now image : List ℕ) (e : file_bytes d name ≡ done image) (w : Worn changes d name now) where
  x : Filed d name image
  x = filed d name image e

  abbrev own : List ℕ
  own = (chain_of d x.at).sectors

  abbrev found : List ℕ
  found = chain_bytes now own

  sectors_are : file_sectors d name ≡ own
  sectors_are = ap (sectors_filed d) x.named

  in_list : is_in (listed d) x.at ≡ true
  unfolding some
  in_list = in_those_list (is_named d name) (listed d) x.at (ap (λ (l : List ℕ). is_in l x.at) x.named ∙ first) where
    first : is_in (x.at ∷ x.more) x.at ≡ true
    first = rw (eq-eqb x.at x.at refl)

  read_now : file_bytes now name ≡ done found
  unfolding file_bytes
  read_now =
      rw (worn_sound d now w.disk x.is_sound, x.is_name_lem, named_stay d now w.disk name, x.named)
      (ap (λ (k : Chain). done (chain_bytes now k.sectors)) (entries_stay d now w.disk x.at in_list).chain)

  long_now : length found ≡ length image
  long_now = chain_long d now w.disk own ∙ ap length x.bytes

  byte_now : (i : ℕ) → i < length image → get_or found i 0 ≡ get_or now (place_on_disk d own i) 0
  byte_now i h = chain_byte now own i (omega (arith, long_now)) ∙ ap (λ (p : ℕ). get_or now p 0) (place_same d now w.disk own i)

  byte_then : (i : ℕ) → i < length image → get_or image i 0 ≡ get_or d (place_on_disk d own i) 0
  byte_then i h = ap (λ (l : List ℕ). get_or l i 0) (sym x.bytes) ∙ chain_byte d own i (omega (arith, ap length x.bytes))

  kept_byte : (i : ℕ) → changes i ≡ false → get_or found i 0 ≡ get_or image i 0
  kept_byte i h = go (dec_lt i (length image)) where
    go : Dec (i < length image) → get_or found i 0 ≡ get_or image i 0
    go (yes a) =
        byte_now i a
        ∙ subst (λ (l : List ℕ). get_or now (place_on_disk d l i) 0 ≡ get_or d (place_on_disk d l i) 0) sectors_are (w.others i h)
        ∙ sym (byte_then i a)
    go (no a) = get_or-eq_default found 0 (omega (arith, long_now)) ∙ sym (get_or-eq_default image 0 (omega arith))

  small_byte : (i : ℕ) → get_or found i 0 < 256
  small_byte i = go (dec_lt i (length image)) where
    go : Dec (i < length image) → get_or found i 0 < 256
    go (yes a) = rw (byte_now i a) (w.bytes (place_on_disk d own i))
    go (no a) = omega (arith, get_or-eq_default found 0 {n = i} (omega (arith, long_now)))

  pub worn_file : ReadsWorn changes image name now
  worn_file = record { image = found; read = read_now; changed = record { long = long_now; others = kept_byte; bytes = λ i h. small_byte i } }
