-- The rules one behind the other: what is told at each.
-- Assumes nothing.
use Prim.Native.Nat.{ℕ, ◌*◌, ◌≤◌}
use mathlib.Core.Path.{◌≡◌, sym, ap, subst, ◌∙◌, fun_ext}
use mathlib.Core.Bool.{Bool, true, false, not}
use mathlib.Core.List.{List}
use lib.ListN.{length, get_or, take, replicate}
use native.Mathlib.Omega.{arith}
use borrow.Author.Tests.{eq-eqb, ne_eqb, not-true, not-false}
use Rattle.base_steps.proofs.Each.{each_at}
use Rattle.disk_rules.specs.Places.{sectors_before}
use Rattle.disk_rules.specs.Entries.{entries_that}
use Rattle.disk_chains.specs.ChainHelpers.{Sectors, Lists}
use Rattle.disk_entries.specs.EntryHelpers.{Entries}
use Rattle.disk_check.proofs.Looking.{that_entries, that_few, listed_start}
use Rattle.disk_ways.specs.Ways.{none_met, way, ends_as}
use Rattle.disk_ways.specs.WayHelpers.{Follows}
use Rattle.disk_ways.specs.declared.Over.TheVariants.{Directory as DirectoryWay}
use Rattle.disk_ways.specs.declared.Followed.{Followed}
use Rattle.disk_ways.proofs.Logged.{Of, way_each, followed_start}
use Rattle.disk_why.specs.Why.{is_nothing, directory_way, entry_fault, alone_fault, crossed_fault, met_by, map_fault, listed_fault, why}
use Rattle.disk_why.specs.BrokenHelpers.{Crossed}
use Rattle.disk_why.specs.declared.Broken.{Broken}
use Rattle.disk_why.specs.declared.Broken.TheVariants.{Length, Start, Directory}
use Rattle.disk_why.proofs.Faults.{blank, or_first, or_next}

-- ---- behind the directory

module _ (d ps : List ℕ) {a : Broken} {q : Bool} (e : a ≡ entry_fault d ps) (g : q ≡ is_nothing a) where
  pub listed_entry : not q ≡ true → a ≡ listed_fault d ps
  listed_entry h = or_first _ e g h

  module _ (h : not q ≡ false) {b : Broken} {u : Bool} (f : b ≡ alone_fault d ps) (i : u ≡ is_nothing b) where
    pub listed_alone : not u ≡ true → b ≡ listed_fault d ps
    listed_alone j = or_first _ f i j ∙ or_next _ e g h

    module _ (j : not u ≡ false) {x : Broken} {after : List Bool} {v : Bool} (k : Crossed d ps (replicate 683 false) x after) (l : v ≡ is_nothing x) where
      fault : x ≡ crossed_fault d none_met ps
      fault = rw blank at k.fault

      pub listed_crossed : not v ≡ true → x ≡ listed_fault d ps
      listed_crossed m = or_first _ fault l m ∙ or_next _ f i j ∙ or_next _ e g h

      pub listed_map : not v ≡ false → {y : Broken} → y ≡ map_fault d (λ n. get_or after n false) → y ≡ listed_fault d ps
      listed_map m {y} n =
          let met : (λ n. get_or after n false) ≡ met_by d none_met ps = rw blank at (fun_ext (k.marked (sym l ∙ not-false v m))) in
          n ∙ ap (map_fault d) met ∙ or_next _ fault l m ∙ or_next _ f i j ∙ or_next _ e g h

-- ---- before it, and the directory

module _ (d : List ℕ) where
  pub why_length : (length d ≡ 174848 → ⊥) → Length (length d) ≡ why d
  unfolding why
  why_length z = simp (ne_eqb (length d) 174848 z)

  module _ (s : length d ≡ 174848) where
    pub why_track : (get_or d 91392 0 ≡ 18 → ⊥) → Start (get_or d 91392 0) (get_or d 91393 0) ≡ why d
    unfolding why
    why_track a = simp (eq-eqb (length d) 174848 s, ne_eqb (get_or d 91392 0) 18 a)

    module _ (a : get_or d 91392 0 ≡ 18) where
      pub why_sector : (get_or d 91393 0 ≡ 1 → ⊥) → Start (get_or d 91392 0) (get_or d 91393 0) ≡ why d
      unfolding why
      why_sector b = simp (eq-eqb (length d) 174848 s, eq-eqb (get_or d 91392 0) 18 a, ne_eqb (get_or d 91393 0) 1 b)

      module _ (b : get_or d 91393 0 ≡ 1) {r : Followed} {log after : List ℕ} {marks marks' : List Bool}
          (f : Follows (way DirectoryWay 18 d (λ m. get_or (replicate 683 false) m false) 358) log marks r after marks') {q : Bool} (e : q ≡ ends_as true r.stop) where
        followed : Follows (directory_way d) log marks r after marks'
        unfolding directory_way
        followed = subst (λ (met : ℕ → Bool). Follows (way DirectoryWay 18 d met 358) log marks r after marks') blank f

        stops : r.stop ≡ (directory_way d).stop
        stops = followed.stop

        pub why_directory : not q ≡ true → Directory r.stop ≡ why d
        unfolding why
        why_directory g =
            let k : ends_as true (directory_way d).stop ≡ false = sym (rw stops at e) ∙ not-true q g in
            ap Directory stops ∙ simp (eq-eqb (length d) 174848 s, eq-eqb (get_or d 91392 0) 18 a, eq-eqb (get_or d 91393 0) 1 b, k)

        pub why_listed : not q ≡ false → {ps : List ℕ} → ps ≡ entries_that true d (take r.to after) → {x : Broken} → x ≡ listed_fault d ps → x ≡ why d
        unfolding why
        why_listed g {ps} h {x} i =
            let k : ends_as true (directory_way d).stop ≡ true = sym (rw stops at e) ∙ not-false q g in
            let j : ps ≡ entries_that true d (directory_way d).sectors = h ∙ ap (entries_that true d) (followed_start followed) in
            i ∙ ap (listed_fault d) j ∙ simp (eq-eqb (length d) 174848 s, eq-eqb (get_or d 91392 0) 18 a, eq-eqb (get_or d 91393 0) 1 b, k)

-- ---- the directory's sectors and entries

module _ (d : List ℕ) {after : List ℕ} {marks marks' : List Bool} {r : Followed}
    (f : Follows (way DirectoryWay 18 d (λ m. get_or (replicate 683 false) m false) 358) (replicate 18 0) marks r after marks') where
  abbrev found : List ℕ
  found = (way DirectoryWay 18 d (λ m. get_or (replicate 683 false) m false) 358).sectors

  pub found_sectors : Sectors (take r.to after)
  unfolding sectors_before
  found_sectors =
      rw (followed_start f)
      (record {
        below = each_at (Of DirectoryWay) 0 found (way_each DirectoryWay (omega arith) 18 d (λ m. get_or (replicate 683 false) m false) 358 (omega arith));
      })

  found_long : length (take r.to after) ≤ 18
  found_long = rw (followed_start f) (omega (arith, f.to, f.within))

  pub found_room : 8 * length (take r.to after) ≤ 144
  found_room = omega (arith, found_long)

  module _ {c : ℕ} {files : List ℕ} (l : Lists (entries_that true d (take r.to after)) (replicate 144 0) c files) where
    pub found_count : c ≤ 144
    found_count = omega (arith, l.counts, that_few true d (take r.to after), found_long)

    pub found_listed : take c files ≡ entries_that true d (take r.to after)
    found_listed = listed_start l (omega (arith, that_few true d (take r.to after), found_long))

    pub found_entries : Entries (take c files)
    found_entries = rw found_listed (that_entries true d (take r.to after) found_sectors)
