-- A file added to a disk: where the disk has one entry more, of the sectors that the save took, and all else as it was, the check holds again.
-- Assumes nothing.
use Prim.Native.Nat.{ℕ, zero, suc, ◌+◌, ◌-◌, ◌*◌, ◌/◌, ◌%◌, ◌≤◌, ◌<◌}
use mathlib.Core.Path.{◌≡◌, refl, sym, ap, subst, ◌∙◌}
use mathlib.Core.Bool.{Bool, true, false, not, cond, ◌&&◌, ◌||◌}
use mathlib.Core.List.{List, [], ◌∷◌, ◌++◌}
use lib.Dec.{eqb, leb, ltb}
use lib.ListN.{length, get_or, take, drop, replicate, length-append, length-replicate, length-take, length-drop, get_or-append}
use lib.Seq.{ext_get_or, get_or-take, get_or-drop}
use native.Mathlib.Omega.{arith}
use borrow.Author.Tests.{eqb-true, eq-eqb, not-true, ltb-true}
use Rattle.base_refusals.specs.Answer.{Answer, done}
use Rattle.disk_rules.specs.Places.{track_of, sector_of, off_track18}
use Rattle.disk_rules.specs.Lists.{some, is_in, none_twice}
use Rattle.disk_rules.specs.Links.{link_to, link_at}
use Rattle.disk_rules.specs.declared.Link.TheVariants.{To}
use Rattle.disk_rules.specs.Map.{bit_at}
use Rattle.disk_rules.specs.Free.{marked_all}
use Rattle.disk_rules.specs.Chains.{Chain}
use Rattle.disk_rules.specs.Entries.{directory, listed, name_at, before_a0, is_named, chain_by, chain_of}
use Rattle.disk_rules.specs.Calls.{is_file_name, taken, laid, entry_bytes, saved, onto_disk}
use Rattle.disk_laws.specs.Runs.{Save}
use Rattle.disk_rules.proofs.Counting.{and_right, or_right, in_append, never, in_at}
use Rattle.disk_laws.proofs.Geometry.{link_back}
use Rattle.disk_laws.proofs.Elsewhere.{Within, laid_off}
use Rattle.disk_laws.proofs.Kept.{name_short, taken_below, not_taken, kept_by_calls}
use Rattle.disk_laws.proofs.Saved.{Tested, was_tested, taken_once, taken_held, taken_long, laid_long, saved_chain}
use Rattle.disk_laws.proofs.Chained.{all_sectors}
use Rattle.disk_laws.proofs.Without.{Without, Apart, in_all, end_all, apart_all, good_more, AllSame, some_same, good_same, sectors_same, ends_same}
use Rattle.disk_laws.proofs.Mapped.{agrees_again}
use Rattle.disk_laws.proofs.Parts.{Parts, parts, files_all, link_same, entry_same, map_same}

-- ---- the name in an entry

pub name_before : (name : List ℕ) (k : ℕ) → is_in name 0xA0 ≡ false → before_a0 (name ++ replicate k 0xA0) ≡ name
unfolding before_a0 some
name_before [] zero h = refl
name_before [] (suc k) h = refl
name_before (b ∷ name) k h = go (eqb b 0xA0) refl (or_false (eqb 0xA0 b) (is_in name 0xA0) h) (name_before name k) where
  or_false : (x y : Bool) → (x || y) ≡ false → (x ≡ false) × (y ≡ false)
  or_false true y e = never (sym e)
  or_false false y e = (refl, e)

  go : (q : Bool) → eqb b 0xA0 ≡ q → (eqb 0xA0 b ≡ false) × (is_in name 0xA0 ≡ false) → (is_in name 0xA0 ≡ false → before_a0 (name ++ replicate k 0xA0) ≡ name)
      → cond q [] (b ∷ before_a0 (name ++ replicate k 0xA0)) ≡ b ∷ name
  go true e f g = never (sym f.0 ∙ eq-eqb 0xA0 b (sym (eqb-true b 0xA0 e)))
  go false e f g = ap (λ (x : List ℕ). b ∷ x) (g f.1)

pub part_as : (d l : List ℕ) (from : ℕ) → from + length l ≤ length d → ((i : ℕ) → i < length l → get_or d (from + i) 0 ≡ get_or l i 0) → take (length l) (drop from d) ≡ l
part_as d l from h g =
    ext_get_or 0 (take (length l) (drop from d)) l (omega (arith, length-take (length l) (drop from d), length-drop from d))
    (λ i k. at i (omega (arith, length-take (length l) (drop from d)))) where
      at : (i : ℕ) → i < length l → get_or (take (length l) (drop from d)) i 0 ≡ get_or l i 0
      at i k = get_or-take (length l) (drop from d) i 0 k ∙ get_or-drop from d i 0 ∙ g i k

pub in_own : (d l : List ℕ) (q m : ℕ) → is_in l q ≡ true → is_in (chain_of d q).sectors m ≡ true → is_in (all_sectors d l) m ≡ true
unfolding all_sectors some
in_own d [] q m e h = never e
in_own d (p ∷ l) q m e h = in_append (chain_of d p).sectors (all_sectors d l) m ∙ go (eqb q p) refl e (λ i. in_own d l q m i h) where
  go : (x : Bool) → eqb q p ≡ x → (x || is_in l q) ≡ true → (is_in l q ≡ true → is_in (all_sectors d l) m ≡ true) → (is_in (chain_of d p).sectors m || is_in (all_sectors d l) m) ≡ true
  go true f g i = let z : is_in (chain_of d p).sectors m ≡ true = ap (λ (y : ℕ). is_in (chain_of d y).sectors m) (sym (eqb-true q p f)) ∙ h in rw z
  go false f g i = or_right (is_in (chain_of d p).sectors m) (is_in (all_sectors d l) m) (i g)

-- ---- a file added

-- one entry more, at p
pub record Added (d name image made : List ℕ) (p : ℕ) : Type 0 where
  pub size : length made ≡ 174848
  pub room : p + 30 ≤ 174848
  pub track : get_or made 91392 0 ≡ get_or d 91392 0
  pub sector : get_or made 91393 0 ≡ get_or d 91393 0
  pub ends : (directory made).ends ≡ true
  pub once : none_twice (directory made).sectors ≡ true
  pub more : Without p (listed made) (listed d)
  pub still : (q : ℕ) → is_in (listed d) q ≡ true → (i : ℕ) → i < 30 → get_or made (q + i) 0 ≡ get_or d (q + i) 0
  pub entry : (i : ℕ) → i < 30 → get_or made (p + i) 0 ≡ get_or (entry_bytes name (taken d image)) i 0
  pub bits : (t s : ℕ) → 1 ≤ t → t ≤ 35 → s < 24 → (t ≡ 18 → ⊥) → bit_at made t s ≡ bit_at (marked_all (laid d (taken d image) image) (taken d image) false) t s

-- what a save takes is off track 18, so that it lays nothing there
pub laid_18 : (d image : List ℕ) (j : ℕ) → 91392 ≤ j → j < 96256 → get_or (laid d (taken d image) image) j 0 ≡ get_or d j 0
laid_18 d image j a b = laid_off d (taken d image) image (j / 256) j (out (is_in (taken d image) (j / 256)) refl) (record { from = omega arith; to = omega arith }) where
  out : (q : Bool) → is_in (taken d image) (j / 256) ≡ q → is_in (taken d image) (j / 256) ≡ false
  out true e = absurd (over (and_right (ltb (j / 256) 683) (off_track18 (j / 256)) (taken_held d image (j / 256) e))) where
    over : (ltb (j / 256) 357 || ltb 375 (j / 256)) ≡ true → ⊥
    over f = by (ltb (j / 256) 357) refl f where
      by : (q : Bool) → ltb (j / 256) 357 ≡ q → (q || ltb 375 (j / 256)) ≡ true → ⊥
      by true g h = let z : j / 256 < 357 = ltb-true (j / 256) 357 g in omega arith
      by false g h = let z : 375 < j / 256 = ltb-true 375 (j / 256) h in omega arith
  out false e = e

module _ (d name image made : List ℕ) (p : ℕ) (e : saved d name image ≡ done made) (w : Added d name image made p) where
  t : Tested d name image made
  t = was_tested d name image made e

  x : Parts d
  x = parts d t.is_sound

  abbrev chosen : List ℕ
  chosen = taken d image

  -- the sectors of listed files stay
  link_stays : (m : ℕ) → is_in (all_sectors d (listed d)) m ≡ true → link_at made (256 * m) ≡ link_at d (256 * m)
  link_stays m i = link_same d made (256 * m) (at (256 * m) (record { from = omega arith; to = omega arith })) (at (256 * m + 1) (record { from = omega arith; to = omega arith })) where
    at : (j : ℕ) → Within m j → get_or made j 0 ≡ get_or d j 0
    at j h =
        sym (ap (λ (a : Answer (List ℕ)). get_or (onto_disk a d).disk j 0) e)
        ∙ kept_by_calls d m j (ap (λ (l : List ℕ). is_in l m) (files_all d t.is_sound) ∙ i) h (Save name image) refl

  pub same : AllSame d made (listed d)
  same q i = entry_same d made q (w.size ∙ sym x.size) (w.still q i) (λ m h. link_stays m (in_own d (listed d) q m i h))

  -- the new entry
  first_below : get_or (taken d image) 0 0 < 683
  first_below = taken_below d image (get_or chosen 0 0) (in_at chosen 0 (omega (arith, taken_long d name image made e)))

  pub chain_new : chain_of made p ≡ record { sectors = taken d image; ends = true }
  chain_new =
      let two : p + 1 + 1 ≡ p + 2 = omega arith in
      let a : get_or made (p + 1) 0 ≡ track_of (get_or chosen 0 0) = w.entry 1 (omega arith) in
      let b : get_or made (p + 1 + 1) 0 ≡ sector_of (get_or chosen 0 0) = rw two (w.entry 2 (omega arith)) in
      let l : link_at made (p + 1) ≡ To (get_or chosen 0 0) =
      ap (λ (y : ℕ). link_to y (get_or made (p + 1 + 1) 0)) a ∙ ap (λ (y : ℕ). link_to (track_of (get_or chosen 0 0)) y) b ∙ link_back (get_or chosen 0 0) first_below
      in
      ap (chain_by made) l ∙ saved_chain d name image made e

  pub name_new : name_at made p ≡ name
  unfolding name_at
  name_new =
      let short : length name ≤ 16 = name_short name t.is_name_lem in
      let padded : List ℕ = name ++ replicate (16 - length name) 0xA0 in
      let long : length padded ≡ 16 = length-append name (replicate (16 - length name) 0xA0) ∙ omega (arith, length-replicate {A = ℕ} (16 - length name) 0xA0) in
      ap before_a0 (subst (λ (k : ℕ). take k (drop (p + 3) made) ≡ padded) long
      (part_as made padded (p + 3) (omega (arith, w.room, w.size)) (λ i h. at i (omega arith) (omega arith))))
      ∙ name_before name (16 - length name) (no_a0 name t.is_name_lem) where
        at : (i : ℕ) → i < 16 → i < length (name ++ replicate (16 - length name) 0xA0) → get_or made (p + 3 + i) 0 ≡ get_or (name ++ replicate (16 - length name) 0xA0) i 0
        at i h g = let y : p + 3 + i ≡ p + suc (suc (suc i)) = omega arith in ap (λ (j : ℕ). get_or made j 0) y ∙ w.entry (suc (suc (suc i))) (omega arith)
            ∙ get_or-append (name ++ replicate (16 - length name) 0xA0 ++ replicate 9 0) (length (taken d image) % 256 ∷ length (taken d image) / 256 ∷ []) 0 i
            (omega (arith, length-append (name ++ replicate (16 - length name) 0xA0) (replicate 9 0)))
            ∙ get_or-append (name ++ replicate (16 - length name) 0xA0) (replicate 9 0) 0 i g

        no_a0 : (n : List ℕ) → is_file_name n ≡ true → is_in n 0xA0 ≡ false
        no_a0 n f = not-true (is_in n 0xA0) (and_right (leb 1 (length n) && leb (length n) 16) (not (is_in n 0xA0)) f)

  -- its sectors are in no listed file
  apart_new : Apart (chain_of made p).sectors (all_sectors made (listed d))
  apart_new = subst (λ (a : List ℕ). Apart a (all_sectors made (listed d))) (sym (ap (λ (c : Chain). c.sectors) chain_new))
      (subst (λ (b : List ℕ). Apart (taken d image) b) (sym (sectors_same d made (listed d) same))
      (record { left = taken_once d image; right = x.apart; none = λ m h. not_in (is_in (all_sectors d (listed d)) m) (is_in (taken d image) m) h (other m) })) where
        other : (m : ℕ) → is_in (all_sectors d (listed d)) m ≡ true → is_in (taken d image) m ≡ false
        other m i = not_taken d m (256 * m) (ap (λ (l : List ℕ). is_in l m) (files_all d t.is_sound) ∙ i) (record { from = omega arith; to = omega arith }) t.is_sound image

        not_in : (a b : Bool) → b ≡ true → (a ≡ true → b ≡ false) → a ≡ false
        not_in true b f g = never (sym (g refl) ∙ f)
        not_in false b f g = refl

  met_again : (n : ℕ) → is_in (all_sectors made (listed made)) n ≡ cond (is_in (taken d image) n) true (is_in (all_sectors d (listed d)) n)
  met_again n =
      in_all made p w.more n
      ∙ ap (λ (c : Chain). is_in c.sectors n || is_in (all_sectors made (listed d)) n) chain_new
      ∙ ap (λ (l : List ℕ). is_in (taken d image) n || is_in l n) (sectors_same d made (listed d) same)
      ∙ by (is_in (taken d image) n) (is_in (all_sectors d (listed d)) n) where
        by : (a b : Bool) → (a || b) ≡ cond a true b
        by true b = refl
        by false b = refl

  pub added_parts : Parts made
  added_parts = record {
    size = w.size;
    track = w.track ∙ x.track;
    sector = w.sector ∙ x.sector;
    ends = w.ends;
    once = w.once;
    good = good_more made p w.more
        (record {
          type = ap (λ (y : ℕ). eqb y 0x82) (let z : p + 0 ≡ p = omega arith in rw z at (w.entry 0 (omega arith)));
          alone = ap (λ (y : List ℕ). some (is_named made y) (listed d)) name_new ∙ some_same d made name (listed d) same ∙ t.new;
          rest = good_same d made (listed d) same x.good;
        });
    each = end_all made p w.more (ap (λ (c : Chain). c.ends) chain_new) (ends_same d made (listed d) same x.each);
    apart = apart_all made p w.more apart_new;
    agrees = agrees_again (laid d (taken d image) image) made (taken d image) false (is_in (all_sectors d (listed d))) (is_in (all_sectors made (listed made)))
        (laid_long d (taken d image) image ∙ x.size) (taken_below d image) w.bits met_again
        (map_same d (laid d (taken d image) image) (is_in (all_sectors d (listed d))) x.size (λ j a b. laid_18 d image j (omega arith) (omega arith)) x.agrees);
  }
