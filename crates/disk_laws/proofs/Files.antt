-- A listed file behind calls: where its sectors' bytes stay, its chain and its bytes do.
-- Assumes nothing.
use Prim.Native.Nat.{ℕ, zero, suc, ◌+◌, ◌-◌, ◌*◌, ◌≤◌, ◌<◌}
use mathlib.Core.Path.{◌≡◌, refl, sym, ap, ◌∙◌}
use mathlib.Core.Bool.{Bool, true, false, cond}
use mathlib.Core.List.{List, [], ◌∷◌, ◌++◌}
use lib.Dec.{eqb}
use lib.ListN.{length, get_or, take, drop, set, length-take, length-drop, length-set}
use lib.Seq.{ext_get_or, get_or-take, get_or-drop}
use native.Mathlib.Omega.{arith}
use borrow.Author.Tests.{eq-eqb}
use Rattle.base_steps.specs.Again.{again}
use Rattle.base_refusals.specs.Numbers.{Numbered, bad_disk, bad_name}
use Rattle.base_refusals.specs.Answer.{Answer, done, refused}
use Rattle.disk_rules.specs.Lists.{some, is_in}
use Rattle.disk_rules.specs.Links.{link_to, link_at}
use Rattle.disk_rules.specs.declared.Link.{Link}
use Rattle.disk_rules.specs.declared.Link.TheVariants.{Last, To, Astray}
use Rattle.disk_rules.specs.Chains.{Chain, chain, broken_chain, may_hold, chain_onward}
use Rattle.disk_rules.specs.CountedHelpers.{chain_within}
use Rattle.disk_rules.specs.Entries.{chain_of}
use Rattle.disk_rules.specs.Free.{marked_all}
use Rattle.disk_rules.specs.Check.{files, sound}
use Rattle.disk_rules.specs.Calls.{is_file_name, on_sound, of_file, entries_named, payload, chain_bytes, saved, scratched, onto_disk}
use Rattle.disk_laws.specs.Runs.{Call, Format, Check, Read, Save, Scratch, is_format, after_call}
use Rattle.disk_rules.proofs.Counting.{or_right, never}
use Rattle.disk_laws.proofs.Elsewhere.{Within}
use Rattle.disk_chains.proofs.Marking.{marked_all_long}
use Rattle.disk_laws.proofs.Kept.{kept_by_calls}
use Rattle.disk_laws.proofs.Saved.{size, made_long}

-- a chain is told by the links of its sectors
pub chain_same : (dir : Bool) (k : ℕ) (d d' : List ℕ) (n : ℕ)
    → ((m : ℕ) → is_in (chain_within dir k d n).sectors m ≡ true → link_at d' (256 * m) ≡ link_at d (256 * m)) → chain_within dir k d' n ≡ chain_within dir k d n
unfolding again some
chain_same dir zero d d' n h = refl
chain_same dir (suc k) d d' n h = go (may_hold dir n) (link_at d (256 * n)) refl (chain_same dir k d d') h where
  go : (q : Bool) (l : Link) → link_at d (256 * n) ≡ l
      → ((m : ℕ) → ((x : ℕ) → is_in (chain_within dir k d m).sectors x ≡ true → link_at d' (256 * x) ≡ link_at d (256 * x)) → chain_within dir k d' m ≡ chain_within dir k d m)
      → ((x : ℕ) → is_in (cond q (chain_onward dir n (chain_within dir k d) l) broken_chain).sectors x ≡ true → link_at d' (256 * x) ≡ link_at d (256 * x))
      → cond q (chain_onward dir n (chain_within dir k d') (link_at d' (256 * n))) broken_chain ≡ cond q (chain_onward dir n (chain_within dir k d) l) broken_chain
  go false l e f g = refl
  go true (Last b) e f g = ap (chain_onward dir n (chain_within dir k d')) (g n (rw (eq-eqb n n refl)) ∙ e)
  go true (To m) e f g =
      ap (chain_onward dir n (chain_within dir k d')) (g n (rw (eq-eqb n n refl)) ∙ e)
      ∙ ap (λ (c : Chain). record { sectors = n ∷ c.sectors; ends = c.ends })
      (f m (λ x i. g x (or_right (eqb x n) (is_in (chain_within dir k d m).sectors x) i)))
  go true Astray e f g = ap (chain_onward dir n (chain_within dir k d')) (g n (rw (eq-eqb n n refl)) ∙ e)

-- ---- bytes

-- so many bytes from a place on, by each of them
pub part_same : (d d' : List ℕ) → length d' ≡ length d → (from k : ℕ) → ((i : ℕ) → i < k → get_or d' (from + i) 0 ≡ get_or d (from + i) 0) → take k (drop from d') ≡ take k (drop from d)
part_same d d' l from k h =
    ext_get_or 0 (take k (drop from d')) (take k (drop from d))
    (omega (arith, length-take k (drop from d'), length-take k (drop from d), length-drop from d', length-drop from d))
    (λ i g. at i (omega (arith, length-take k (drop from d')))) where
      at : (i : ℕ) → i < k → get_or (take k (drop from d')) i 0 ≡ get_or (take k (drop from d)) i 0
      at i g = get_or-take k (drop from d') i 0 g ∙ get_or-drop from d' i 0 ∙ h i g ∙ sym (get_or-drop from d i 0) ∙ sym (get_or-take k (drop from d) i 0 g)

-- how many bytes of a file a sector holds, by its two first bytes
abbrev held : ℕ → ℕ → ℕ
held a b = cond (eqb a 0) (b - 1) 254

held_few : (a b : ℕ) → b < 256 → held a b ≤ 254
held_few a b h = go (eqb a 0) where
  go : (q : Bool) → cond q (b - 1) 254 ≤ 254
  go true = omega arith
  go false = omega arith

payload_same : (d d' : List ℕ) → length d' ≡ length d → (n : ℕ) → get_or d (256 * n + 1) 0 < 256
    → ((j : ℕ) → Within n j → get_or d' j 0 ≡ get_or d j 0) → payload d' n ≡ payload d n
payload_same d d' l n b h =
    ap (λ (x : ℕ). take (held x (get_or d' (256 * n + 1) 0)) (drop (256 * n + 2) d')) (h (256 * n) (record { from = omega arith; to = omega arith }))
    ∙ ap (λ (x : ℕ). take (held (get_or d (256 * n) 0) x) (drop (256 * n + 2) d')) (h (256 * n + 1) (record { from = omega arith; to = omega arith }))
    ∙ part_same d d' l (256 * n + 2) (held (get_or d (256 * n) 0) (get_or d (256 * n + 1) 0))
    (λ i g. h (256 * n + 2 + i) (record { from = omega arith; to = omega (arith, held_few (get_or d (256 * n) 0) (get_or d (256 * n + 1) 0) b) }))

bytes_same : (d d' : List ℕ) → length d' ≡ length d → ((j : ℕ) → get_or d j 0 < 256) → (ns : List ℕ)
    → ((n j : ℕ) → is_in ns n ≡ true → Within n j → get_or d' j 0 ≡ get_or d j 0) → chain_bytes d' ns ≡ chain_bytes d ns
unfolding chain_bytes some
bytes_same d d' l b [] h = refl
bytes_same d d' l b (n ∷ ns) h =
    ap (λ (x : List ℕ). x ++ chain_bytes d' ns) (payload_same d d' l n (b (256 * n + 1)) (λ j w. h n j (rw (eq-eqb n n refl)) w))
    ∙ ap (λ (x : List ℕ). payload d n ++ x) (bytes_same d d' l b ns (λ m j e w. h m j (or_right (eqb m n) (is_in ns m) e) w))

-- ---- the disk keeps its length

by_tests : (P : Answer (List ℕ) → Type 0) (d name : List ℕ) (a : Answer (List ℕ)) → ((n : Numbered) → P (refused n)) → P a → P (on_sound d name a)
by_tests P d name a r f = go (sound d) (is_file_name name) where
  go : (p q : Bool) → P (cond p (cond q a (refused bad_name)) (refused bad_disk))
  go true true = f
  go true false = r bad_name
  go false q = r bad_disk

scratched_long : (d l : List ℕ) → length (onto_disk (of_file l (λ p. done (marked_all (set d p 0) (chain_of d p).sectors true))) d).disk ≡ length d
scratched_long d [] = refl
scratched_long d (p ∷ l) = marked_all_long (set d p 0) (chain_of d p).sectors true ∙ length-set d p 0

saved_long : (d name image : List ℕ) (a : Answer (List ℕ)) → saved d name image ≡ a → length (onto_disk a d).disk ≡ length d
saved_long d name image (done made) e = made_long d name image made e ∙ sym (size d name image made e)
saved_long d name image (refused n) e = refl

-- every call but formatting keeps the length; formatting keeps it too, of a disk that has it
pub long_kept : (d : List ℕ) (c : Call) → is_format c ≡ false → length (after_call d c) ≡ length d
unfolding scratched
long_kept d Format e = never (sym e)
long_kept d Check e = refl
long_kept d (Read name) e = refl
long_kept d (Save name image) e = saved_long d name image (saved d name image) refl
long_kept d (Scratch name) e =
    by_tests (λ a. length (onto_disk a d).disk ≡ length d) d name (of_file (entries_named d name) (λ p. done (marked_all (set d p 0) (chain_of d p).sectors true))) (λ n. refl)
    (scratched_long d (entries_named d name))

-- ---- a file behind a call

module _ (d : List ℕ) (c : Call) (f : is_format c ≡ false) where
  -- the links of its sectors stay
  link_kept : (m : ℕ) → is_in (files d).sectors m ≡ true → link_at (after_call d c) (256 * m) ≡ link_at d (256 * m)
  link_kept m u =
      ap (λ (t : ℕ). link_to t (get_or (after_call d c) (256 * m + 1) 0)) (kept_by_calls d m (256 * m) u (record { from = omega arith; to = omega arith }) c f)
      ∙ ap (λ (s : ℕ). link_to (get_or d (256 * m) 0) s) (kept_by_calls d m (256 * m + 1) u (record { from = omega arith; to = omega arith }) c f)

  -- a chain of sectors that listed files have is the same behind every call but formatting
  pub chain_kept : (n : ℕ) → ((m : ℕ) → is_in (chain false d n).sectors m ≡ true → is_in (files d).sectors m ≡ true) → chain false (after_call d c) n ≡ chain false d n
  unfolding chain
  chain_kept n h = ap (λ (k : ℕ). chain_within false k (after_call d c) n) (long_kept d c f) ∙ chain_same false (length d) d (after_call d c) n (λ m i. link_kept m (h m i))

  -- and so are its bytes
  pub bytes_kept : (ns : List ℕ) → ((j : ℕ) → get_or d j 0 < 256) → ((m : ℕ) → is_in ns m ≡ true → is_in (files d).sectors m ≡ true)
      → chain_bytes (after_call d c) ns ≡ chain_bytes d ns
  bytes_kept ns b h = bytes_same d (after_call d c) (long_kept d c f) b ns (λ m j i w. kept_by_calls d m j (h m i) w c f)
