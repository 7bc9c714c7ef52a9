-- The check with a log for the directory, of 18 sectors or more, and one for the files, of 683 or more, is the check.
-- Assumes nothing.
use Prim.Native.Nat.{ℕ, ◌+◌, ◌-◌, ◌≤◌}
use mathlib.Core.Path.{◌≡◌, refl, sym, ap, ◌∙◌}
use mathlib.Core.Bool.{Bool, true, false, cond, ◌&&◌, ◌||◌}
use mathlib.Core.List.{List, [], ◌∷◌, ◌++◌}
use lib.Dec.{eqb}
use lib.ListN.{length, get_or, length-append}
use native.Mathlib.Omega.{arith}
use borrow.Author.Tests.{eqb-true}
use Rattle.disk_rules.specs.Lists.{some, is_in, none_twice}
use Rattle.disk_rules.specs.Links.{link_at}
use Rattle.disk_rules.specs.declared.Link.{Link}
use Rattle.disk_rules.specs.declared.Link.TheVariants.{Last, To, Astray}
use Rattle.disk_rules.specs.Chains.{Chain, chain, may_hold}
use Rattle.disk_rules.specs.Entries.{directory, entries_that, listed, entries_good, chain_by, chain_of, chains}
use Rattle.disk_rules.specs.Free.{map_agrees}
use Rattle.disk_rules.specs.Check.{files, checked, sound}
use Rattle.disk_rules.specs.CountedHelpers.{directory_within, chain_by_within, chain_of_within, chains_behind, chains_within, listed_within, sound_within}
use Rattle.disk_rules.proofs.Counting.{never, and_left, and_right, in_append, run_few}
use Rattle.disk_rules.proofs.Ends.{chain_let, chain_held, in_run, chain_any, chain_counted}

-- ---- the parts of the check

pub record Checks (d : List ℕ) (dir met : Chain) : Type 0 where
  pub size : eqb (length d) 174848 ≡ true
  pub track : eqb (get_or d 91392 0) 18 ≡ true
  pub sector : eqb (get_or d 91393 0) 1 ≡ true
  pub ends : dir.ends ≡ true
  pub once : none_twice dir.sectors ≡ true
  pub good : entries_good d (entries_that true d dir.sectors) ≡ true
  pub through : met.ends ≡ true
  pub apart : none_twice met.sectors ≡ true
  pub agrees : map_agrees d (is_in met.sectors) ≡ true

module _ (d : List ℕ) (dir met : Chain) where
  pub checks : checked d dir met ≡ true → Checks d dir met
  checks e =
      let a : Bool = eqb (length d) 174848 in
      let b : Bool = a && eqb (get_or d 91392 0) 18 in
      let c : Bool = b && eqb (get_or d 91393 0) 1 in
      let f : Bool = c && dir.ends in
      let g : Bool = f && none_twice dir.sectors in
      let h : Bool = g && entries_good d (entries_that true d dir.sectors) in
      let i : Bool = h && met.ends in
      let j : Bool = i && none_twice met.sectors in
      let j' : j ≡ true = and_left j (map_agrees d (is_in met.sectors)) e in
      let i' : i ≡ true = and_left i (none_twice met.sectors) j' in
      let h' : h ≡ true = and_left h met.ends i' in
      let g' : g ≡ true = and_left g (entries_good d (entries_that true d dir.sectors)) h' in
      let f' : f ≡ true = and_left f (none_twice dir.sectors) g' in
      let c' : c ≡ true = and_left c dir.ends f' in
      let b' : b ≡ true = and_left b (eqb (get_or d 91393 0) 1) c' in
      record {
        size = and_left a (eqb (get_or d 91392 0) 18) b';
        track = and_right a (eqb (get_or d 91392 0) 18) b';
        sector = and_right b (eqb (get_or d 91393 0) 1) c';
        ends = and_right c dir.ends f';
        once = and_right f (none_twice dir.sectors) g';
        good = and_right g (entries_good d (entries_that true d dir.sectors)) h';
        through = and_right h met.ends i';
        apart = and_right i (none_twice met.sectors) j';
        agrees = and_right j (map_agrees d (is_in met.sectors)) e;
      }

  both : {a b : Bool} → a ≡ true → b ≡ true → (a && b) ≡ true
  both e f = rw e f

  pub all_check : Checks d dir met → checked d dir met ≡ true
  all_check h =
      both (both (both (both (both (both (both (both h.size h.track) h.sector) h.ends) h.once) h.good) h.through) h.apart) h.agrees

-- ---- the chains of files

pub by_held : (d : List ℕ) (l : Link) (m : ℕ) → is_in (chain_by d l).sectors m ≡ true → may_hold false m ≡ true
unfolding some chain
by_held d (Last b) m e = never e
by_held d (To n) m e = chain_held false (length d) d n m e
by_held d Astray m e = never e

or_either : (P : Type 0) (a b : Bool) → (a || b) ≡ true → (a ≡ true → P) → (b ≡ true → P) → P
or_either P true b e f g = f refl
or_either P false b e f g = g e

pub chains_held : (d l : List ℕ) (m : ℕ) → is_in (chains d l).sectors m ≡ true → may_hold false m ≡ true
unfolding chains some
chains_held d [] m e = never e
chains_held d (p ∷ l) m e =
    or_either (may_hold false m ≡ true) (is_in (chain_of d p).sectors m) (is_in (chains d l).sectors m) (sym (in_append (chain_of d p).sectors (chains d l).sectors m) ∙ e)
    (by_held d (link_at d (p + 1)) m) (chains_held d l m)

by_counted : (k : ℕ) (d : List ℕ) (l : Link) → (chain_by d l).ends ≡ true → length (chain_by d l).sectors ≤ k → chain_by_within d k l ≡ chain_by d l
unfolding chain
by_counted k d (Last b) e h = refl
by_counted k d (To n) e h = chain_let false (length d) k d n e h
by_counted k d Astray e h = refl

by_any : (k : ℕ) (d : List ℕ) (l : Link) → length d ≡ 174848 → (chain_by_within d k l).ends ≡ true → chain_by d l ≡ chain_by_within d k l
by_any k d (Last b) z e = refl
by_any k d (To n) z e = chain_any false d n k z e
by_any k d Astray z e = refl

by_log : (d : List ℕ) (l : Link) → (chain_by d l).ends ≡ true → chain_by_within d 683 l ≡ chain_by d l
by_log d (Last b) e = refl
by_log d (To n) e = chain_counted false d n 683 e (omega arith)
by_log d Astray e = refl

joined : Chain → Chain → Chain
joined a b = record { sectors = a.sectors ++ b.sectors; ends = a.ends && b.ends }

joined_ends : (a b : Chain) → a.ends ≡ true → joined a b ≡ chains_behind a (λ n. b)
unfolding joined
joined_ends a b e = rw e refl

-- chains that end within a log are the chains
chains_any : (k : ℕ) (d l : List ℕ) → length d ≡ 174848 → (chains_within k d l).ends ≡ true → chains d l ≡ chains_within k d l
unfolding chains chains_within joined
chains_any k d [] z e = refl
chains_any k d (p ∷ l) z e = go (chain_of_within k d p).ends refl (chains_any (k - length (chain_of_within k d p).sectors) d l z) e where
  go : (q : Bool) → (chain_of_within k d p).ends ≡ q
      → ((chains_within (k - length (chain_of_within k d p).sectors) d l).ends ≡ true → chains d l ≡ chains_within (k - length (chain_of_within k d p).sectors) d l)
      → (cond q (record { sectors = (chain_of_within k d p).sectors ++ (chains_within (k - length (chain_of_within k d p).sectors) d l).sectors; ends = (chains_within (k - length (chain_of_within k d p).sectors) d l).ends }) (chain_of_within k d p)).ends ≡ true
      → joined (chain_of d p) (chains d l) ≡ chains_behind (chain_of_within k d p) (λ n. chains_within (k - n) d l)
  go true f i g =
      ap (λ (x : Chain). joined x (chains d l)) (by_any k d (link_at d (p + 1)) z f)
      ∙ ap (joined (chain_of_within k d p)) (i g)
      ∙ joined_ends (chain_of_within k d p) (chains_within (k - length (chain_of_within k d p).sectors) d l) f
  go false f i g = never (sym f ∙ g)

-- chains that end, of no more sectors than a log has, end within it
chains_counted : (k : ℕ) (d l : List ℕ) → (chains d l).ends ≡ true → length (chains d l).sectors ≤ k → chains_within k d l ≡ chains d l
unfolding chains chains_within joined
chains_counted k d [] e h = refl
chains_counted k d (p ∷ l) e h =
    let f : (chain_of d p).ends ≡ true = and_left (chain_of d p).ends (chains d l).ends e in
    let long : length ((chain_of d p).sectors ++ (chains d l).sectors) ≡ length (chain_of d p).sectors + length (chains d l).sectors = length-append (chain_of d p).sectors (chains d l).sectors in
    ap (λ (x : Chain). chains_behind x (λ n. chains_within (k - n) d l)) (by_counted k d (link_at d (p + 1)) f (omega arith))
    ∙ sym (joined_ends (chain_of d p) (chains_within (k - length (chain_of d p).sectors) d l) f)
    ∙ ap (joined (chain_of d p)) (chains_counted (k - length (chain_of d p).sectors) d l (and_right (chain_of d p).ends (chains d l).ends e) (omega arith))

-- ---- the check

pub record Counted (j k : ℕ) (d : List ℕ) : Type 0 where
  pub dir : directory_within j d ≡ directory d
  pub met : chains_within k d (listed_within j d) ≡ files d

module _ (j k : ℕ) (d : List ℕ) (a : 18 ≤ j) (b : 683 ≤ k) where
  -- on a disk on which the check holds the logs have the chains
  pub counted : sound d ≡ true → Counted j k d
  unfolding sound directory directory_within
  counted e =
      let c : Checks d (directory d) (files d) = checks d (directory d) (files d) e in
      let x : directory_within j d ≡ directory d = chain_counted true d 358 j c.ends a in
      let few : length (files d).sectors ≤ 683 = run_few (files d).sectors 0 683 c.apart (λ m i. in_run false m (chains_held d (listed d) m i)) in
      record { dir = x; met = ap (λ (y : Chain). chains_within k d (entries_that true d y.sectors)) x ∙ chains_counted k d (listed d) c.through (omega arith) }

  within_counted : sound_within j k d ≡ true → Counted j k d
  unfolding sound_within directory directory_within
  within_counted e =
      let c : Checks d (directory_within j d) (chains_within k d (listed_within j d)) = checks d (directory_within j d) (chains_within k d (listed_within j d)) e in
      let z : length d ≡ 174848 = eqb-true (length d) 174848 c.size in
      let x : chain true d 358 ≡ directory_within j d = chain_any true d 358 j z c.ends in
      record { dir = sym x; met = sym (ap (λ (y : Chain). chains d (entries_that true d y.sectors)) x ∙ chains_any k d (listed_within j d) z c.through) }

  same : Counted j k d → sound_within j k d ≡ sound d
  unfolding sound sound_within
  same c = ap (λ (x : Chain). checked d x (chains_within k d (listed_within j d))) c.dir ∙ ap (checked d (directory d)) c.met

  -- "20 BadDisk, exactly when ..": the logs hide nothing
  pub sound_counted : sound_within j k d ≡ sound d
  sound_counted = go (sound_within j k d) (sound d) refl refl where
    go : (p q : Bool) → sound_within j k d ≡ p → sound d ≡ q → sound_within j k d ≡ sound d
    go true q e f = same (within_counted e)
    go false true e f = same (counted f)
    go false false e f = e ∙ sym f

-- ---- what the calls use

-- the chain of each of some entries ends, where their chains do
each_ends : (d l : List ℕ) (p : ℕ) → (chains d l).ends ≡ true → is_in l p ≡ true → (chain_of d p).ends ≡ true
unfolding chains some
each_ends d [] p e i = never i
each_ends d (q ∷ l) p e i = go (eqb p q) refl (each_ends d l p (and_right (chain_of d q).ends (chains d l).ends e)) i where
  go : (x : Bool) → eqb p q ≡ x → (is_in l p ≡ true → (chain_of d p).ends ≡ true) → (x || is_in l p) ≡ true → (chain_of d p).ends ≡ true
  go true f c g = rw (eqb-true p q f) (and_left (chain_of d q).ends (chains d l).ends e)
  go false f c g = c g

module _ (d : List ℕ) (e : sound d ≡ true) where
  pub directory_counted : directory_within 18 d ≡ directory d
  directory_counted = (counted 18 683 d (omega arith) (omega arith) e).dir

  pub file_counted : (p : ℕ) → is_in (listed d) p ≡ true → chain_of_within 683 d p ≡ chain_of d p
  unfolding sound
  file_counted p i = by_log d (link_at d (p + 1)) (each_ends d (listed d) p (checks d (directory d) (files d) e).through i)
