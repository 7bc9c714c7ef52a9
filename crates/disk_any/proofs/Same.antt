-- On a disk that the check takes, the reader of any disk gives the same directory and the same bytes as the calls over one.
-- Assumes nothing.
use Prim.Native.Nat.{ℕ, zero, suc}
use mathlib.Core.Path.{◌≡◌, refl, sym, ap, ◌∙◌}
use mathlib.Core.Bool.{Bool, true, false, cond, ◌||◌}
use mathlib.Core.List.{List, [], ◌∷◌}
use lib.Dec.{eqb}
use lib.ListN.{length}
use native.Mathlib.Omega.{arith}
use borrow.Author.Tests.{eqb-true, eq-eqb}
use Rattle.base_refusals.specs.Answer.{done, refused}
use Rattle.base_refusals.specs.Numbers.{bad_disk, bad_name}
use Rattle.disk_rules.specs.Lists.{some, is_in}
use Rattle.disk_rules.specs.Entries.{directory, listed, entries_that, is_named, chain_of}
use Rattle.disk_rules.specs.Check.{sound}
use Rattle.disk_rules.specs.Calls.{is_file_name, of_file, entries_named, chain_bytes, file_bytes}
use Rattle.disk_rules.proofs.Counting.{never, in_those_list}
use Rattle.disk_ways.specs.Ways.{none_met, ends_as}
use Rattle.disk_ways.specs.declared.Over.TheVariants.{Tracks}
use Rattle.disk_ways.specs.declared.Stop.{Stop}
use Rattle.disk_ways.specs.declared.Stop.TheVariants.{Ended, Astray, Barred, Again}
use Rattle.disk_ways.proofs.Chained.{Walked, chain_walked, entry_walked}
use Rattle.disk_laws.proofs.Kept.{in_those}
use Rattle.disk_laws.proofs.Chained.{AllEnd}
use Rattle.disk_laws.proofs.Parts.{parts}
use Rattle.disk_any.specs.Any.{disk_kind, directory_on, listed_by, any_listed, spot_from, any_spot, file_on, lent_bytes, read_by, read_at, any_file}
use Rattle.disk_any.specs.declared.DiskKind.{DiskKind}
use Rattle.disk_any.specs.declared.DiskKind.TheVariants.{D64}
use Rattle.std.specs.Prelude.{Option, Some, None, Result, Ok, Err}
use Rattle.disk_any.proofs.Sizes.{kind_1}

-- a file's chain that ends as it should ends
ends_any : (s : Stop) → ends_as false s ≡ true → ends_as true s ≡ true
ends_any (Ended n b) e = refl
ends_any (Astray t s) e = never e
ends_any (Barred n) e = never e
ends_any (Again n) e = never e

-- the chain of one entry of a list ends
end_at : (d l : List ℕ) (p : ℕ) → AllEnd d l → is_in l p ≡ true → (chain_of d p).ends ≡ true
unfolding AllEnd some
end_at d [] p a i = never i
end_at d (q ∷ l) p a i = go (eqb p q) refl i (end_at d l p a.1) where
  go : (b : Bool) → eqb p q ≡ b → (b || is_in l p) ≡ true → (is_in l p ≡ true → (chain_of d p).ends ≡ true) → (chain_of d p).ends ≡ true
  go true e j f = rw (eqb-true p q e) a.0
  go false e j f = f j

spot_in : (l : List ℕ) (n : ℕ) {p : ℕ} → spot_from l n ≡ Some p → is_in l p ≡ true
unfolding spot_from some
spot_in [] n e = absurd (let z : ◌≡◌ {A = ℕ} 0 1 = cc in omega arith)
spot_in (q ∷ l) zero {p} e = let f : p ≡ q = cc in rw (eq-eqb p q f)
spot_in (q ∷ l) (suc n) {p} e = go (eqb p q) (spot_in l n e) where
  go : (b : Bool) → is_in l p ≡ true → (b || is_in l p) ≡ true
  go true f = refl
  go false f = f

module _ (d : List ℕ) (e : sound d ≡ true) where
  kind_35 : disk_kind (length d) ≡ D64 35
  kind_35 = sym (kind_1 (length d) (parts d e).size)

  directory_same : Walked true (directory d) (directory_on 35 d)
  unfolding directory
  directory_same = chain_walked true (Tracks 35) refl (λ n h. refl) d 768 none_met 358 (omega arith) (parts d e).ends (λ m i. refl)

  -- the same entries, in the same order
  pub same_directory : any_listed d ≡ listed d
  unfolding any_listed
  same_directory = ap (listed_by d) kind_35 ∙ ap (entries_that true d) directory_same.sectors

  -- the same bytes
  pub same_bytes : (p : ℕ) → is_in (listed d) p ≡ true → (out : List ℕ) → read_by d (file_on 35 d p) out ≡ lent_bytes (chain_bytes d (chain_of d p).sectors) out
  same_bytes p i out =
      let w : Walked false (chain_of d p) (file_on 35 d p) =
      entry_walked (Tracks 35) refl d (λ n h. refl) 768 (omega arith) none_met p (end_at d (listed d) p (parts d e).each i) (λ m j. refl)
      in
      rw (ends_any (file_on 35 d p).stop w.ends) (ap (λ (l : List ℕ). lent_bytes (chain_bytes d l) out) w.sectors)

  -- of the entry at a place
  pub same_file : (n : ℕ) {p : ℕ} → any_spot d n ≡ Some p → (out : List ℕ) → any_file d n out ≡ lent_bytes (chain_bytes d (chain_of d p).sectors) out
  unfolding any_spot any_file
  same_file n {p} s out =
      ap (λ (k : DiskKind). read_at d k (any_spot d n) out) kind_35 ∙ ap (λ (x : Option ℕ). read_at d (D64 35) x out) s
      ∙ same_bytes p (ap (λ (l : List ℕ). is_in l p) (sym same_directory) ∙ spot_in (any_listed d) n s) out

in_first : (p : ℕ) (ps : List ℕ) → is_in (p ∷ ps) p ≡ true
unfolding some
in_first p ps = rw (eq-eqb p p refl)

-- what is read of a name is what the entry of that name gives here
pub record ReadHere (d name bytes : List ℕ) : Type 0 where
  pub at : ℕ
  pub is_listed_lem : is_in (listed d) at ≡ true
  pub named : is_named d name at ≡ true
  pub same : (out : List ℕ) → read_by d (file_on 35 d at) out ≡ lent_bytes bytes out

pub read_same : (d name bytes : List ℕ) → file_bytes d name ≡ done bytes → ReadHere d name bytes
unfolding file_bytes
read_same d name bytes e = go (sound d) refl (is_file_name name) (entries_named d name) refl e where
  first : (p : ℕ) (ps : List ℕ) → entries_named d name ≡ p ∷ ps → is_in (entries_named d name) p ≡ true
  first p ps f = ap (λ (l : List ℕ). is_in l p) f ∙ in_first p ps

  go : (q : Bool) → sound d ≡ q → (r : Bool) (l : List ℕ) → entries_named d name ≡ l
      → cond q (cond r (of_file l (λ p. done (chain_bytes d (chain_of d p).sectors))) (refused bad_name)) (refused bad_disk) ≡ done bytes → ReadHere d name bytes
  go false s r l f g = absurd (let z : ◌≡◌ {A = ℕ} 0 1 = cc in omega arith)
  go true s false l f g = absurd (let z : ◌≡◌ {A = ℕ} 0 1 = cc in omega arith)
  go true s true [] f g = absurd (let z : ◌≡◌ {A = ℕ} 0 1 = cc in omega arith)
  go true s true (p ∷ ps) f g =
      let b : chain_bytes d (chain_of d p).sectors ≡ bytes = cc in
      let i : is_in (listed d) p ≡ true = in_those_list (is_named d name) (listed d) p (first p ps f) in
      record {
        at = p;
        is_listed_lem = i;
        named = in_those (is_named d name) (listed d) p (first p ps f);
        same = λ out. same_bytes d s p i out ∙ ap (λ (x : List ℕ). lent_bytes x out) b;
      }
