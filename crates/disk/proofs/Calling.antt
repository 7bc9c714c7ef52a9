-- The calls, from what they call.
-- Assumes nothing.
use Prim.Native.Nat.{ℕ, ◌+◌, ◌≤◌, ◌<◌}
use mathlib.Core.Path.{◌≡◌, refl, sym, ap, ◌∙◌}
use mathlib.Core.Bool.{Bool, true, false, not, cond, ◌||◌}
use mathlib.Core.List.{List, [], ◌∷◌}
use lib.ListN.{length, take, set, replicate, length-take, length-set}
use lib.Seq.{sets}
use native.Mathlib.Omega.{arith}
use borrow.Author.Tests.{eq-eqb}
use Rattle.base_refusals.specs.Numbers.{bad_disk, bad_name, no_room}
use Rattle.base_refusals.specs.Answer.{Answer, done, refused, numbered, and_then, answered}
use Rattle.base_refusals.specs.declared.Refusal.{Refusal}
use Rattle.base_lent.specs.Lent.{Lent, into_buffer}
use Rattle.base_lent.proofs.Outcomes.{into_none, into_done}
use Rattle.disk_rules.specs.Chains.{Chain}
use Rattle.disk_rules.specs.Lists.{some, is_in}
use Rattle.disk_rules.specs.Entries.{listed, is_named, chain_of}
use Rattle.disk_rules.specs.CountedHelpers.{chain_of_within}
use Rattle.disk_rules.proofs.Counting.{in_those_list}
use Rattle.disk_rules.proofs.Counted.{file_counted}
use Rattle.disk_rules.specs.Free.{free_sectors, marked_all}
use Rattle.disk_rules.specs.Check.{sound}
use Rattle.disk_rules.specs.Calls.{is_file_name, entries_named, of_file, disk_holding, chain_bytes, file_bytes, scratched, After, onto_disk}
use Rattle.disk_chains.specs.ChainHelpers.{Sectors, Traces, Lists}
use Rattle.disk_chains.specs.declared.Traced.{Traced}
use Rattle.disk_chains.proofs.Marking.{marked_all_long}
use Rattle.disk_check.specs.SoundHelpers.{Saw}
use Rattle.disk_check.specs.declared.Seen.{Seen}
use Rattle.disk_check.proofs.Looking.{entry_sectors, logged_start}
use Rattle.disk.specs.LocateHelpers.{located, Locates}
use Rattle.std.specs.Prelude.{Result, Ok, Err}
use Rattle.disk_bytes.specs.ByteHelpers.{Below}
use Rattle.disk_bytes.proofs.Taking.{sectors_below}
use Rattle.disk.proofs.Locating.{not_long, by_entry}

-- ---- check

pub check_long : (d : List ℕ) → (length d ≡ 174848 → ⊥) → refused bad_disk ≡ disk_holding d
unfolding disk_holding
check_long d z = let e : sound d ≡ false = not_long d z in rw e

pub check_unsound : (d : List ℕ) → sound d ≡ false → refused bad_disk ≡ disk_holding d
unfolding disk_holding
check_unsound d e = rw e

module _ {d : List ℕ} {s : Seen} {a b : List ℕ} (k : Saw d s a b) where
  pub check_sound : {buffer after : List ℕ} {n : ℕ} → Lists (free_sectors d) buffer n after → done (record { files = s.files; free = n }) ≡ disk_holding d
  unfolding disk_holding
  check_sound {buffer} {after} {n} l =
      rw k.verdict
      (ap (λ (x : ℕ). done (record { files = x; free = n })) k.counts ∙ ap (λ (x : ℕ). done (record { files = length (listed d); free = x })) l.counts)

-- ---- an entry's chain

module _ (k : ℕ) (d : List ℕ) (p : ℕ) {log : List ℕ} {r : Traced} {after : List ℕ} (t : Traces (chain_of_within k d p) log 0 r after) where
  pub traced_sectors : Sectors (take r.to after)
  traced_sectors = rw (logged_start t) (entry_sectors k d p)

pub traced_few : {c : Chain} {r : Traced} {after : List ℕ} → Traces c (replicate 683 0) 0 r after → length (take r.to after) ≤ 683
traced_few {c} {r} {after} t = let h : r.to ≤ 683 = t.within in omega (arith, length-take r.to after)

pub traced_below : (d : List ℕ) (p : ℕ) {r : Traced} {after : List ℕ} → length d ≡ 174848 → Traces (chain_of_within 683 d p) (replicate 683 0) 0 r after → Below d (take r.to after)
traced_below d p e t = sectors_below e (traced_sectors 683 d p t) (traced_few t)

module _ (d : List ℕ) (p : ℕ) {log : List ℕ} {r : Traced} {after : List ℕ} (t : Traces (chain_of_within 683 d p) log 0 r after) where
  abbrev bytes : List ℕ
  bytes = chain_bytes d (chain_of_within 683 d p).sectors

  same_bytes : chain_bytes d (take r.to after) ≡ bytes
  same_bytes = ap (chain_bytes d) (logged_start t)

  pub entry_none : (out : List ℕ) {n : ℕ} → n ≡ length (chain_bytes d (take r.to after)) → length out < n
      → ◌≡◌ {A = Lent} (record { answer = refused (no_room n); buffer = out }) (into_buffer (done bytes) out)
  entry_none out e h = into_none out (done bytes) (ap done (e ∙ ap length same_bytes)) h

  pub entry_read : (out : List ℕ) {n : ℕ} {out' : List ℕ} → n ≡ length (chain_bytes d (take r.to after)) → n ≤ length out
      → out' ≡ sets out 0 (chain_bytes d (take r.to after)) → ◌≡◌ {A = Lent} (record { answer = done n; buffer = out' }) (into_buffer (done bytes) out)
  entry_read out {n} e h f =
      let m : n ≡ length bytes = e ∙ ap length same_bytes in
      into_done out (done bytes) refl (record { room = omega arith }) (record { ends = omega arith; stored = f ∙ ap (λ (x : List ℕ). sets out 0 x) same_bytes })

  pub entry_scratched : {d' : List ℕ} → d' ≡ marked_all (set d p 0) (take r.to after) true → d' ≡ marked_all (set d p 0) (chain_of_within 683 d p).sectors true
  entry_scratched e = e ∙ ap (λ (x : List ℕ). marked_all (set d p 0) x true) (logged_start t)

pub scratch_long : (d l : List ℕ) (p : ℕ) (free : Bool) {d' : List ℕ} → d' ≡ marked_all (set d p 0) l free → length d' ≡ length d
scratch_long d l p free e = ap length e ∙ marked_all_long (set d p 0) l free ∙ length-set d p 0

-- ---- the entry of a name

module _ {d name : List ℕ} {l : Result ℕ Refusal} (k : Locates d name l) where
  found : {p : ℕ} → l ≡ Ok p → located d name ≡ done p
  found e = sym k.answers ∙ ap answered e

  not_found : {r : Refusal} → l ≡ Err r → located d name ≡ refused (numbered r)
  not_found e = sym k.answers ∙ ap answered e

  -- the log has the chain of the entry that was found
  found_counted : {p : ℕ} → l ≡ Ok p → chain_of_within 683 d p ≡ chain_of d p
  unfolding located some
  found_counted {p} e = go (sound d) (is_file_name name) (entries_named d name) refl refl (found e) where
    go : (q b : Bool) (l : List ℕ) → sound d ≡ q → entries_named d name ≡ l → cond q (cond b (of_file l done) (refused bad_name)) (refused bad_disk) ≡ done p → chain_of_within 683 d p ≡ chain_of d p
    go true true [] s f g = absurd (let z : ◌≡◌ {A = ℕ} 0 1 = cc in omega arith)
    go true true (n ∷ l) s f g =
        let z : n ≡ p = cc in
        file_counted d s p (in_those_list (is_named d name) (listed d) p (ap (λ (x : List ℕ). is_in x p) f ∙ ap (λ (q : Bool). q || is_in l p) (eq-eqb p n (sym z))))
    go true false l s f g = absurd (let z : ◌≡◌ {A = ℕ} 0 1 = cc in omega arith)
    go false b l s f g = absurd (let z : ◌≡◌ {A = ℕ} 0 1 = cc in omega arith)

  pub found_long : {p : ℕ} → l ≡ Ok p → length d ≡ 174848
  found_long e = (rw e at k.stands).0

  pub found_in : {p : ℕ} → l ≡ Ok p → p + 30 ≤ 174848
  found_in e = (rw e at k.stands).1

  pub read_at_lem : {p : ℕ} {x : Lent} (out : List ℕ) → l ≡ Ok p → x ≡ into_buffer (done (chain_bytes d (chain_of_within 683 d p).sectors)) out → x ≡ into_buffer (file_bytes d name) out
  unfolding file_bytes
  read_at_lem {p} {x} out e f =
      f
      ∙ ap (λ (c : Chain). into_buffer (done (chain_bytes d c.sectors)) out) (found_counted e)
      ∙ ap (λ (a : Answer (List ℕ)). into_buffer a out) (sym (sym (by_entry d name (λ q. done (chain_bytes d (chain_of d q).sectors))) ∙ ap (λ (a : Answer ℕ). and_then a (λ q. done (chain_bytes d (chain_of d q).sectors))) (found e)))

  pub read_refused : {r : Refusal} {out : List ℕ} → l ≡ Err r → ◌≡◌ {A = Lent} (record { answer = refused (numbered r); buffer = out }) (into_buffer (file_bytes d name) out)
  unfolding file_bytes into_buffer
  read_refused {r} {out} e =
      ap (λ (a : Answer (List ℕ)). into_buffer a out) (sym (sym (by_entry d name (λ q. done (chain_bytes d (chain_of d q).sectors))) ∙ ap (λ (a : Answer ℕ). and_then a (λ q. done (chain_bytes d (chain_of d q).sectors))) (not_found e)))

  pub scratch_at : {p : ℕ} {d' : List ℕ} → l ≡ Ok p → d' ≡ marked_all (set d p 0) (chain_of_within 683 d p).sectors true
      → ◌≡◌ {A = After} (record { answer = done tt; disk = d' }) (onto_disk (scratched d name) d)
  unfolding scratched
  scratch_at {p} {d'} e f =
      ap (λ (a : List ℕ). record { answer = done tt; disk = a }) (f ∙ ap (λ (c : Chain). marked_all (set d p 0) c.sectors true) (found_counted e))
      ∙ ap (λ (a : Answer (List ℕ)). onto_disk a d) (sym (sym (by_entry d name (λ q. done (marked_all (set d q 0) (chain_of d q).sectors true))) ∙ ap (λ (a : Answer ℕ). and_then a (λ q. done (marked_all (set d q 0) (chain_of d q).sectors true))) (found e)))

  pub scratch_refused : {r : Refusal} → l ≡ Err r → ◌≡◌ {A = After} (record { answer = refused (numbered r); disk = d }) (onto_disk (scratched d name) d)
  unfolding scratched
  scratch_refused {r} e =
      ap (λ (a : Answer (List ℕ)). onto_disk a d) (sym (sym (by_entry d name (λ q. done (marked_all (set d q 0) (chain_of d q).sectors true))) ∙ ap (λ (a : Answer ℕ). and_then a (λ q. done (marked_all (set d q 0) (chain_of d q).sectors true))) (not_found e)))
