-- "From a fresh format, after any sequence of these calls, refused ones among them, free sectors off track 18 plus sectors in chains of listed files plus the 19
-- make 683, no sector is in two chains, and the check holds."
-- Assumes nothing.
use Prim.Native.Nat.{ℕ, ◌+◌, ◌-◌, ◌*◌, ◌≤◌}
use mathlib.Core.Path.{◌≡◌, refl, ap, subst, ◌∙◌}
use mathlib.Core.Bool.{Bool, true, false, not, cond, ◌||◌}
use mathlib.Core.List.{List, [], ◌∷◌}
use lib.Dec.{eqb}
use lib.ListN.{length, get_or}
use lib.Seq.{sets}
use native.Mathlib.Omega.{arith}
use borrow.Author.Tests.{eq-eqb, not-true}
use Rattle.base_steps.specs.Each.{Each}
use Rattle.base_refusals.specs.Numbers.{bad_disk}
use Rattle.base_refusals.specs.Answer.{Answer, done, refused}
use Rattle.disk_rules.specs.Lists.{numbers_from, some, is_in, none_twice}
use Rattle.disk_rules.specs.Entries.{directory, entries_that}
use Rattle.disk_rules.specs.Check.{files, sound}
use Rattle.disk_rules.specs.Calls.{taken, entry_bytes, outside, grown, with_entry, saved, scratched, fresh, onto_disk}
use Rattle.disk_laws.specs.Runs.{Call, Format, Check, Read, Save, Scratch, after_call, after_calls, AccountedFor}
use Rattle.disk_laws.proofs.Totals.{all_accounted_for, in_one_chain}
use Rattle.disk_laws.proofs.Fresh.{fresh_sound}
use Rattle.disk_laws.proofs.Kept.{in_those, outside_on}
use Rattle.disk_laws.proofs.Saved.{Tested, was_tested}
use Rattle.disk_laws.proofs.Parts.{parts, parts_sound}
use Rattle.disk_laws.proofs.Scratched.{scratched_sound}
use Rattle.disk_laws.proofs.Added.{Added, added_parts}
use Rattle.disk_laws.proofs.Entered.{written, entered}
use Rattle.disk_laws.proofs.Grown.{grown_added}

-- ---- a save

-- the entry that a save adds
pub record AddedAt (d name image made : List ℕ) : Type 0 where
  pub at : ℕ
  pub is : Added d name image made at

pub save_adds : (d name image made : List ℕ) → saved d name image ≡ done made → AddedAt d name image made
unfolding some
save_adds d name image made e =
    go (entries_that false d (directory d).sectors) (outside (directory d).sectors) refl refl (was_tested d name image made e) (was_tested d name image made e).file where
      go : (l out : List ℕ) → entries_that false d (directory d).sectors ≡ l → outside (directory d).sectors ≡ out → Tested d name image made
          → with_entry (written d image) (entry_bytes name (taken d image)) (directory d).sectors l out ≡ done made → AddedAt d name image made
      go (p ∷ l) out a b t f =
          let z : sets (written d image) p (entry_bytes name (taken d image)) ≡ made = cc in
          let i : is_in (entries_that false d (directory d).sectors) p ≡ true = ap (λ (x : List ℕ). is_in x p) a ∙ ap (λ (q : Bool). q || is_in l p) (eq-eqb p p refl) in
          record { at = p; is = subst (λ (x : List ℕ). Added d name image x p) z (entered d name image p (parts d t.is_sound) t.is_name_lem i) }
      go [] [] a b t f = absurd (let z : ◌≡◌ {A = ℕ} 0 1 = cc in omega arith)
      go [] (n ∷ ns) a b t f =
          let z : sets (grown (written d image) (get_or (directory d).sectors (length (directory d).sectors - 1) 0) n) (256 * n + 2) (entry_bytes name (taken d image)) ≡ made = cc in
          let i : is_in (outside (directory d).sectors) n ≡ true = ap (λ (x : List ℕ). is_in x n) b ∙ ap (λ (q : Bool). q || is_in ns n) (eq-eqb n n refl) in
          let r : (358 ≤ n) × (n ≤ 375) = (subst (λ (x : List ℕ). Each (λ k. (358 ≤ k) × (k ≤ 375)) x) b (outside_on (directory d).sectors)).0 in
          let o : is_in (directory d).sectors n ≡ false =
          not-true (is_in (directory d).sectors n) (in_those (λ k. not (is_in (directory d).sectors k)) (numbers_from 358 18) n i)
          in
          record {
            at = 256 * n + 2;
            is = subst (λ (x : List ℕ). Added d name image x (256 * n + 2)) z (grown_added d name image n (parts d t.is_sound) t.is_name_lem r.0 r.1 o);
          }

-- a save that is done leaves a disk on which the check holds
pub saved_sound : (d name image made : List ℕ) → saved d name image ≡ done made → sound made ≡ true
saved_sound d name image made e =
    let a : AddedAt d name image made = save_adds d name image made e in
    parts_sound made (added_parts d name image made a.at e a.is)

-- ---- any call, and any list of calls

-- the check holds on the disk that is made, or on the one that was there
made_sound : (d : List ℕ) (a : Answer (List ℕ)) → sound d ≡ true → ((made : List ℕ) → a ≡ done made → sound made ≡ true) → sound (onto_disk a d).disk ≡ true
made_sound d (done made) s h = h made refl
made_sound d (refused n) s h = s

-- every call keeps the check
pub sound_kept : (d : List ℕ) (c : Call) → sound d ≡ true → sound (after_call d c) ≡ true
sound_kept d Format s = go (eqb (length d) 174848) where
  go : (q : Bool) → sound (onto_disk (cond q (done fresh) (refused bad_disk)) d).disk ≡ true
  go true = fresh_sound
  go false = s
sound_kept d Check s = s
sound_kept d (Read name) s = s
sound_kept d (Save name image) s = made_sound d (saved d name image) s (λ made e. saved_sound d name image made e)
sound_kept d (Scratch name) s = made_sound d (scratched d name) s (λ made e. scratched_sound d name made e)

pub sound_throughout : (d : List ℕ) (cs : List Call) → sound d ≡ true → sound (after_calls d cs) ≡ true
unfolding after_calls
sound_throughout d [] s = s
sound_throughout d (c ∷ cs) s = sound_throughout (after_call d c) cs (sound_kept d c s)

module _ (cs : List Call) where
  -- "and the check holds"
  pub always_sound : sound (after_calls fresh cs) ≡ true
  always_sound = sound_throughout fresh cs fresh_sound

  -- "free sectors off track 18 plus sectors in chains of listed files plus the 19 make 683"
  pub always_accounted_for : AccountedFor (after_calls fresh cs)
  always_accounted_for = all_accounted_for (after_calls fresh cs) always_sound

  -- "no sector is in two chains"
  pub always_in_one_chain : none_twice (files (after_calls fresh cs)).sectors ≡ true
  always_in_one_chain = in_one_chain (after_calls fresh cs) always_sound
