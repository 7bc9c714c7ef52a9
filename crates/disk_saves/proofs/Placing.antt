-- Where an entry goes: the first that is not listed, or the first of a sector by which the directory grows.
-- Assumes nothing.
use Prim.Native.Nat.{ℕ, zero, suc, ◌+◌, ◌-◌, ◌*◌, ◌≤◌, ◌<◌}
use mathlib.Core.Path.{◌≡◌, refl, sym, ap, ◌∙◌}
use mathlib.Core.Bool.{true, false, not}
use mathlib.Core.List.{List, [], ◌∷◌}
use lib.ListN.{length, get_or, take}
use lib.Seq.{sets, get_or-take}
use native.Mathlib.Omega.{arith}
use Rattle.base_steps.specs.Again.{again}
use Rattle.std.specs.Prelude.{Some, None}
use Rattle.std.specs.List.{slice_get}
use Rattle.base_refusals.specs.Numbers.{directory_full}
use Rattle.base_refusals.specs.Answer.{Answer, done, refused}
use Rattle.disk_rules.specs.Lists.{is_in}
use Rattle.disk_rules.specs.Links.{link_at}
use Rattle.disk_rules.specs.declared.Link.{Link}
use Rattle.disk_rules.specs.declared.Link.TheVariants.{Last, To, Astray}
use Rattle.disk_rules.specs.Chains.{chain, chain_onward}
use Rattle.disk_rules.specs.CountedHelpers.{chain_within}
use Rattle.disk_rules.specs.Entries.{directory, entries_that}
use Rattle.disk_rules.specs.Free.{marked_all}
use Rattle.disk_rules.specs.Calls.{laid, entry_bytes, outside, grown, with_entry, with_file, After, onto_disk}
use Rattle.disk_chains.specs.ChainHelpers.{Lists}
use Rattle.disk_check.proofs.Looking.{chain_sectors, that_entries, that_few, listed_start}

-- ---- a directory has a sector

pub directory_some : (d : List ℕ) {l : List ℕ} → length d ≡ 174848 → l ≡ (directory d).sectors → 1 ≤ length l
unfolding directory chain again
directory_some d z e = rw e (some (length d) (omega arith)) where
  on : (k : ℕ) (l : Link) → 1 ≤ length (chain_onward true 358 (chain_within true k d) l).sectors
  on k (Last b) = omega arith
  on k (To m) = omega arith
  on k Astray = omega arith

  some : (k : ℕ) → 1 ≤ k → 1 ≤ length (chain_within true k d 358).sectors
  some zero h = absurd (omega arith)
  some (suc k) h = on k (link_at d (256 * 358))

-- ---- the entry's place

module _ (disk entry sectors out : List ℕ) where
  in_unlisted : (l : List ℕ) → 0 < length l → done (sets disk (get_or l 0 0) entry) ≡ with_entry disk entry sectors l out
  in_unlisted [] h = absurd (omega arith)
  in_unlisted (p ∷ l) h = refl

in_none : (disk entry sectors l out : List ℕ) → length l ≤ 0 → None ≡ slice_get out 0 → refused directory_full ≡ with_entry disk entry sectors l out
in_none disk entry sectors (p ∷ l) out h e = absurd (omega arith)
in_none disk entry sectors [] [] h e = refl
in_none disk entry sectors [] (n ∷ out) h e = absurd (cc)

in_grown : (disk entry sectors l out : List ℕ) {n : ℕ} → length l ≤ 0 → Some n ≡ slice_get out 0
    → done (sets (grown disk (get_or sectors (length sectors - 1) 0) n) (256 * n + 2) entry) ≡ with_entry disk entry sectors l out
in_grown disk entry sectors (p ∷ l) out h g = absurd (omega arith)
in_grown disk entry sectors [] [] h g = absurd (cc)
in_grown disk entry sectors [] (m ∷ out) {n} h g = let z : n ≡ m = cc in rw z

module _ (d : List ℕ) {sectors buffer after : List ℕ} {count : ℕ} (e : sectors ≡ (directory d).sectors) (few : length sectors ≤ 18) (l : Lists (entries_that false d sectors) buffer count after) (b : length buffer ≡ 144) where
  unlisted : take count after ≡ entries_that false d sectors
  unlisted = listed_start l (omega (arith, that_few false d sectors))

  first_unlisted : 0 < count → get_or (entries_that false d sectors) 0 0 ≡ get_or after 0 0
  first_unlisted h = sym (ap (λ (x : List ℕ). get_or x 0 0) unlisted) ∙ get_or-take count after 0 0 h

  pub place_in : 0 < count → get_or after 0 0 + 30 ≤ 174848
  place_in h = rw (first_unlisted h) at ((that_entries false d sectors (rw e (chain_sectors d))).within 0 (omega (arith, l.counts)))

  module _ (name image chosen : List ℕ) where
    abbrev written : List ℕ
    written = marked_all (laid d chosen image) chosen false

    abbrev placed : List ℕ → List ℕ → List ℕ → Answer (List ℕ)
    placed = with_entry written (entry_bytes name chosen)

    known : with_file d name image chosen ≡ placed sectors (entries_that false d sectors) (outside sectors)
    known = rw e

    pub saved_in : {d' : List ℕ} → 0 < count → d' ≡ sets (marked_all (laid d chosen image) chosen false) (get_or after 0 0) (entry_bytes name chosen)
        → ◌≡◌ {A = After} (record { answer = done tt; disk = d' }) (onto_disk (with_file d name image chosen) d)
    saved_in h f =
        ap (λ (x : List ℕ). onto_disk (done x) d) (f ∙ ap (λ (p : ℕ). sets written p (entry_bytes name chosen)) (sym (first_unlisted h)))
        ∙ ap (λ (x : Answer (List ℕ)). onto_disk x d) (in_unlisted written (entry_bytes name chosen) sectors (outside sectors) (entries_that false d sectors) (omega (arith, l.counts)) ∙ sym known)

    pub saved_none : count ≤ 0 → None ≡ slice_get (outside sectors) 0 → ◌≡◌ {A = After} (record { answer = refused directory_full; disk = d }) (onto_disk (with_file d name image chosen) d)
    saved_none h o =
        ap (λ (x : Answer (List ℕ)). onto_disk x d) (in_none written (entry_bytes name chosen) sectors (entries_that false d sectors) (outside sectors) (omega (arith, l.counts)) o ∙ sym known)

    pub saved_grown : {n : ℕ} {d' : List ℕ} → count ≤ 0 → Some n ≡ slice_get (outside sectors) 0
        → d' ≡ sets (grown (marked_all (laid d chosen image) chosen false) (get_or sectors (length sectors - 1) 0) n) (256 * n + 2) (entry_bytes name chosen)
        → ◌≡◌ {A = After} (record { answer = done tt; disk = d' }) (onto_disk (with_file d name image chosen) d)
    saved_grown h g f =
        ap (λ (x : List ℕ). onto_disk (done x) d) f
        ∙ ap (λ (x : Answer (List ℕ)). onto_disk x d) (in_grown written (entry_bytes name chosen) sectors (entries_that false d sectors) (outside sectors) (omega (arith, l.counts)) g ∙ sym known)

pub last_below : (d : List ℕ) {l : List ℕ} → length d ≡ 174848 → l ≡ (directory d).sectors → get_or l (length l - 1) 0 < 683
last_below d {l} z e = rw e ((chain_sectors d).below (length (directory d).sectors - 1) (omega (arith, directory_some d z refl)))

pub last_in : (d : List ℕ) {l : List ℕ} → length d ≡ 174848 → l ≡ (directory d).sectors → length l - 1 < length l
last_in d z e = omega (arith, directory_some d z e)
