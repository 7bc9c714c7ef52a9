-- A save that grows the directory: its chain has one sector more, whose first entry is the new one.
-- Assumes nothing.
use Prim.Native.Nat.{ℕ, zero, suc, ◌+◌, ◌-◌, ◌*◌, ◌/◌, ◌%◌, ◌≤◌, ◌<◌}
use mathlib.Core.Path.{◌≡◌, refl, sym, ap, subst, ◌∙◌}
use mathlib.Core.Bool.{Bool, true, false, not, cond, ◌&&◌, ◌||◌}
use mathlib.Core.List.{List, [], ◌∷◌, ◌++◌, map}
use lib.Dec.{eqb, leb}
use lib.ListN.{length, get_or, length-append, get_or-append, get_or-replicate}
use lib.Seq.{sets, length-sets}
use native.Mathlib.Decide.{dec_lt}
use native.Mathlib.Omega.{arith}
use borrow.Author.Tests.{eqb-true, eq-eqb, ne_eqb, le-leb, leb-true}
use Rattle.base_steps.specs.Again.{again}
use Rattle.disk_rules.specs.Places.{track_of, sector_of}
use Rattle.disk_rules.specs.Lists.{numbers_from, those, some, is_in, none_twice}
use Rattle.disk_rules.specs.Links.{link_to, link_at}
use Rattle.disk_rules.specs.declared.Link.{Link}
use Rattle.disk_rules.specs.declared.Link.TheVariants.{Last, To, Astray}
use Rattle.disk_rules.specs.Map.{bit_of, bit_at, marked}
use Rattle.disk_rules.specs.Chains.{Chain, chain, broken_chain, may_hold, chain_onward}
use Rattle.disk_rules.specs.CountedHelpers.{chain_within}
use Rattle.disk_rules.specs.Entries.{directory, entry_at, is_listed, is_that, entries_that, listed}
use Rattle.disk_rules.specs.Calls.{is_file_name, taken, entry_bytes, sector_bytes, grown}
use Rattle.disk_chains.proofs.Marking.{marked_long}
use Rattle.disk_saves.proofs.Placing.{directory_some}
use Rattle.disk_rules.proofs.Counting.{never, and_left, and_right, or_right, in_at, run_few}
use Rattle.disk_rules.proofs.Ends.{chain_held}
use Rattle.disk_laws.proofs.Geometry.{link_back, track_2}
use Rattle.disk_laws.proofs.Marks.{bit_marked}
use Rattle.disk_laws.proofs.Elsewhere.{Off, before, behind, narrow, sets_off, marked_off, sector_long}
use Rattle.disk_laws.proofs.Fresh.{sets_at, none_those}
use Rattle.disk_laws.proofs.Kept.{entry_long, name_short, dir_sector}
use Rattle.disk_laws.proofs.Without.{Without, put_in, lists_apart_lem}
use Rattle.disk_laws.proofs.Parts.{Parts, link_same, FromRun, that_from}
use Rattle.disk_laws.proofs.Added.{Added}
use Rattle.disk_laws.proofs.Entered.{written, written_long, written_18}

-- ---- a chain with one sector more at its end

not_in : (x y : Bool) → (not x && y) ≡ true → x ≡ false
not_in true y g = never g
not_in false y g = refl

some_end : (dir : Bool) (k : ℕ) (d : List ℕ) (n : ℕ) → (chain_within dir k d n).ends ≡ true → 1 ≤ length (chain_within dir k d n).sectors
unfolding again
some_end dir zero d n e = never e
some_end dir (suc k) d n e = go (may_hold dir n) (link_at d (256 * n)) e where
  go : (q : Bool) (l : Link) → (cond q (chain_onward dir n (chain_within dir k d) l) broken_chain).ends ≡ true → 1 ≤ length (cond q (chain_onward dir n (chain_within dir k d) l) broken_chain).sectors
  go false l f = never f
  go true (Last b) f = omega arith
  go true (To m) f = omega arith
  go true Astray f = omega arith

-- the last of a list that goes on
last_on : (s : ℕ) (l : List ℕ) → 1 ≤ length l → get_or (s ∷ l) (length (s ∷ l) - 1) 0 ≡ get_or l (length l - 1) 0
last_on s l h = let z : length (s ∷ l) - 1 ≡ suc (length l - 1) = omega arith in ap (λ (i : ℕ). get_or (s ∷ l) i 0) z

module _ (d d' : List ℕ) (n last : ℕ) (h : may_hold true n ≡ true) (a : link_at d' (256 * n) ≡ Last 0xFF) (b : link_at d' (256 * last) ≡ To n) where
  lone : (j : ℕ) → chain_within true (suc j) d' n ≡ record { sectors = n ∷ []; ends = true }
  unfolding again
  lone j = ap (λ (q : Bool). cond q (chain_onward true n (chain_within true j d') (link_at d' (256 * n))) broken_chain) h ∙ ap (chain_onward true n (chain_within true j d')) a

  abbrev Links : List ℕ → Type 0
  Links l = (m : ℕ) → is_in l m ≡ true → (m ≡ last → ⊥) → link_at d' (256 * m) ≡ link_at d (256 * m)

  pub chain_on_lem : (k j s : ℕ) → (chain_within true k d s).ends ≡ true → none_twice (chain_within true k d s).sectors ≡ true → length (chain_within true k d s).sectors ≤ j
      → get_or (chain_within true k d s).sectors (length (chain_within true k d s).sectors - 1) 0 ≡ last → Links (chain_within true k d s).sectors
      → chain_within true (suc j) d' s ≡ record { sectors = (chain_within true k d s).sectors ++ n ∷ []; ends = true }
  unfolding again none_twice some
  chain_on_lem zero j s e o f l g = never e
  chain_on_lem (suc k) j s e o f l g = go j (may_hold true s) (link_at d (256 * s)) refl (chain_on_lem k) e o f l g where
    go : (j : ℕ) (q : Bool) (x : Link) → link_at d (256 * s) ≡ x
        → ((j m : ℕ) → (chain_within true k d m).ends ≡ true → none_twice (chain_within true k d m).sectors ≡ true → length (chain_within true k d m).sectors ≤ j
        → get_or (chain_within true k d m).sectors (length (chain_within true k d m).sectors - 1) 0 ≡ last → Links (chain_within true k d m).sectors
        → chain_within true (suc j) d' m ≡ record { sectors = (chain_within true k d m).sectors ++ n ∷ []; ends = true })
        → (cond q (chain_onward true s (chain_within true k d) x) broken_chain).ends ≡ true → none_twice (cond q (chain_onward true s (chain_within true k d) x) broken_chain).sectors ≡ true
        → length (cond q (chain_onward true s (chain_within true k d) x) broken_chain).sectors ≤ j
        → get_or (cond q (chain_onward true s (chain_within true k d) x) broken_chain).sectors (length (cond q (chain_onward true s (chain_within true k d) x) broken_chain).sectors - 1) 0 ≡ last
        → Links (cond q (chain_onward true s (chain_within true k d) x) broken_chain).sectors
        → cond q (chain_onward true s (chain_within true j d') (link_at d' (256 * s))) broken_chain ≡ record { sectors = (cond q (chain_onward true s (chain_within true k d) x) broken_chain).sectors ++ n ∷ []; ends = true }
    go j false x y i e o f l g = never e
    go zero true (Last c) y i e o f l g = absurd (omega arith)
    go (suc j) true (Last c) y i e o f l g =
        ap (chain_onward true s (chain_within true (suc j) d')) (ap (λ (z : ℕ). link_at d' (256 * z)) l ∙ b)
        ∙ ap (λ (z : Chain). record { sectors = s ∷ z.sectors; ends = z.ends }) (lone j)
    go zero true (To m) y i e o f l g = absurd (omega arith)
    go (suc j) true (To m) y i e o f l g =
        let t : List ℕ = (chain_within true k d m).sectors in
        let one : 1 ≤ length t = some_end true k d m e in
        let l' : get_or t (length t - 1) 0 ≡ last = sym (last_on s t one) ∙ l in
        let out : is_in t s ≡ false = not_in (is_in t s) (none_twice t) o in
        let far : s ≡ last → ⊥ = λ z. never (sym out ∙ ap (is_in t) (z ∙ sym l') ∙ in_at t (length t - 1) (omega arith)) in
        ap (chain_onward true s (chain_within true (suc j) d')) (g s (rw (eq-eqb s s refl)) far ∙ y)
        ∙ ap (λ (z : Chain). record { sectors = s ∷ z.sectors; ends = z.ends })
        (i j m e (and_right (not (is_in t s)) (none_twice t) o) (omega arith) l' (λ z u. g z (or_right (eqb z s) (is_in t z) u)))
    go j true Astray y i e o f l g = never e

-- ---- those of a run, and those of a longer one

those_cut : (f g : ℕ → ℕ) (s t : ℕ → Bool) (from j k : ℕ) → j ≤ k → ((e : ℕ) → from ≤ e → e < from + j → (f e ≡ g e) × (s (f e) ≡ t (g e)))
    → ((e : ℕ) → from + j ≤ e → e < from + k → s (f e) ≡ false) → those s (map f (numbers_from from k)) ≡ those t (map g (numbers_from from j))
unfolding those numbers_from
those_cut f g s t from zero k a h z = none_those s f from k (λ e u v. z e (omega arith) v)
those_cut f g s t from (suc j) zero a h z = absurd (omega arith)
those_cut f g s t from (suc j) (suc k) a h z =
    let x : (f from ≡ g from) × (s (f from) ≡ t (g from)) = h from (omega arith) (omega arith) in
    ap (λ (q : Bool). cond q (f from ∷ those s (map f (numbers_from (from + 1) k))) (those s (map f (numbers_from (from + 1) k)))) x.1
    ∙ ap (λ (y : ℕ). cond (t (g from)) (y ∷ those s (map f (numbers_from (from + 1) k))) (those s (map f (numbers_from (from + 1) k)))) x.0
    ∙ ap (λ (l : List ℕ). cond (t (g from)) (g from ∷ l) l)
    (those_cut f g s t (from + 1) j k (omega arith) (λ e u v. h e (omega arith) (omega arith)) (λ e u v. z e (omega arith) (omega arith)))

-- ---- the grown directory

module _ (d name image : List ℕ) (n : ℕ) (x : Parts d) (fit : is_file_name name ≡ true) (low : 358 ≤ n) (high : n ≤ 375) (out : is_in (directory d).sectors n ≡ false) where
  abbrev dir : List ℕ
  dir = (directory d).sectors

  abbrev last : ℕ
  last = get_or (directory d).sectors (length (directory d).sectors - 1) 0

  abbrev entry : List ℕ
  entry = entry_bytes name (taken d image)

  abbrev whole : List ℕ
  whole = sets (written d image) (256 * n) (sector_bytes 0 0xFF [])

  abbrev linked : List ℕ
  linked = sets (sets (written d image) (256 * n) (sector_bytes 0 0xFF [])) (256 * last) (track_of n ∷ sector_of n ∷ [])

  abbrev made : List ℕ
  made = sets (grown (written d image) last n) (256 * n + 2) (entry_bytes name (taken d image))

  long_entry : length (entry_bytes name (taken d image)) ≡ 30
  long_entry = entry_long name (taken d image) (name_short name fit)

  long_sector : length (sector_bytes 0 0xFF []) ≡ 256
  long_sector = sector_long 0 0xFF [] (omega arith)

  some_dir : 1 ≤ length (directory d).sectors
  some_dir = omega (arith, directory_some d x.size refl)

  last_in : is_in (directory d).sectors last ≡ true
  last_in = in_at (directory d).sectors (length (directory d).sectors - 1) (omega (arith, some_dir))

  last_far : last ≡ n → ⊥
  last_far e = never (sym out ∙ ap (is_in (directory d).sectors) (sym e) ∙ last_in)

  last_on_18 : (358 ≤ last) × (last ≤ 375)
  last_on_18 = dir_sector d (length (directory d).sectors - 1) (omega (arith, some_dir))

  long_whole : length whole ≡ 174848
  long_whole = length-sets (written d image) (256 * n) (sector_bytes 0 0xFF []) ∙ written_long d image ∙ x.size

  long_linked : length linked ≡ 174848
  long_linked = length-sets whole (256 * last) (track_of n ∷ sector_of n ∷ []) ∙ long_whole

  long_grown : length (grown (written d image) last n) ≡ 174848
  long_grown = marked_long linked n false ∙ long_linked

  -- bytes, by what was written last
  off_made : (j : ℕ) → Off (256 * n + 2) (256 * n + 32) j → get_or made j 0 ≡ get_or (marked linked n false) j 0
  off_made j o =
      let z : 256 * n + 32 ≡ 256 * n + 2 + length entry = omega (arith, long_entry) in
      sets_off (grown (written d image) last n) (256 * n + 2) entry j (subst (λ (k : ℕ). Off (256 * n + 2) k j) z o)

  to_linked : (j : ℕ) → Off 91396 91536 j → Off (256 * n + 2) (256 * n + 32) j → get_or made j 0 ≡ get_or linked j 0
  to_linked j m o = off_made j o ∙ marked_off linked n false j (omega arith) m

  to_whole : (j : ℕ) → Off 91396 91536 j → Off (256 * n + 2) (256 * n + 32) j → Off (256 * last) (256 * last + 2) j → get_or made j 0 ≡ get_or whole j 0
  to_whole j m o k = to_linked j m o ∙ sets_off whole (256 * last) (track_of n ∷ sector_of n ∷ []) j k

  off_whole : (j : ℕ) → Off (256 * n) (256 * n + 256) j → get_or whole j 0 ≡ get_or (written d image) j 0
  off_whole j o = sets_off (written d image) (256 * n) (sector_bytes 0 0xFF []) j (subst (λ (k : ℕ). Off (256 * n) (256 * n + k) j) (sym long_sector) o)

  byte : (j : ℕ) → 91392 ≤ j → j < 96256 → Off 91396 91536 j → Off (256 * n) (256 * n + 256) j → Off (256 * last) (256 * last + 2) j → get_or made j 0 ≡ get_or d j 0
  byte j a b m o k = to_whole j m (narrow o (omega arith) (omega arith)) k ∙ off_whole j o ∙ written_18 d image j a b m

  -- a byte of the new sector
  off_last : (j : ℕ) → 256 * n ≤ j → j < 256 * n + 256 → Off (256 * last) (256 * last + 2) j
  off_last j a b = go (dec_lt j (256 * last)) where
    go : Dec (j < 256 * last) → Off (256 * last) (256 * last + 2) j
    go (yes h) = before h
    go (no h) = behind (let z : last ≡ n → ⊥ = last_far in let y : last < n = omega arith in omega arith)

  inside : (i : ℕ) → i < 256 → Off (256 * n + 2) (256 * n + 32) (256 * n + i) → get_or made (256 * n + i) 0 ≡ get_or (sector_bytes 0 0xFF []) i 0
  inside i h o =
      to_whole (256 * n + i) (behind (omega arith)) o (off_last (256 * n + i) (omega arith) (omega arith))
      ∙ sets_at (written d image) (256 * n) (sector_bytes 0 0xFF []) i (omega (arith, long_sector, written_long d image, x.size)) (omega (arith, long_sector))

  new_entry : (i : ℕ) → i < 30 → get_or made (256 * n + 2 + i) 0 ≡ get_or (entry_bytes name (taken d image)) i 0
  new_entry i h = sets_at (grown (written d image) last n) (256 * n + 2) entry i (omega (arith, long_entry, long_grown)) (omega (arith, long_entry))

  -- its link, and the link to it
  link_new : link_at made (256 * n) ≡ Last 0xFF
  unfolding link_to
  link_new =
      let z : 256 * n + 0 ≡ 256 * n = omega arith in
      let a : get_or made (256 * n) 0 ≡ 0 = rw z at (inside 0 (omega arith) (before (omega arith))) in
      let b : get_or made (256 * n + 1) 0 ≡ 0xFF = inside 1 (omega arith) (before (omega arith)) in
      ap (λ (t : ℕ). link_to t (get_or made (256 * n + 1) 0)) a ∙ ap (λ (s : ℕ). link_to 0 s) b

  off_new : (i : ℕ) → i < 2 → Off (256 * n + 2) (256 * n + 32) (256 * last + i)
  off_new i h = go (dec_lt last n) where
    go : Dec (last < n) → Off (256 * n + 2) (256 * n + 32) (256 * last + i)
    go (yes k) = before (omega arith)
    go (no k) = behind (let z : last ≡ n → ⊥ = last_far in let y : n < last = omega arith in omega arith)

  at_last : (i : ℕ) → i < 2 → get_or made (256 * last + i) 0 ≡ get_or (track_of n ∷ sector_of n ∷ []) i 0
  at_last i h =
      to_linked (256 * last + i) (behind (omega (arith, last_on_18.0))) (off_new i h)
      ∙ sets_at whole (256 * last) (track_of n ∷ sector_of n ∷ []) i (omega (arith, long_whole, last_on_18.1)) h

  link_last : link_at made (256 * last) ≡ To n
  link_last =
      let z : 256 * last + 0 ≡ 256 * last = omega arith in
      let a : get_or made (256 * last) 0 ≡ track_of n = rw z at (at_last 0 (omega arith)) in
      ap (λ (t : ℕ). link_to t (get_or made (256 * last + 1) 0)) a ∙ ap (λ (s : ℕ). link_to (track_of n) s) (at_last 1 (omega arith)) ∙ link_back n (omega arith)

  held_n : may_hold true n ≡ true
  held_n = rw (le-leb 358 n low, le-leb n 375 high) refl

  in_dir : (m : ℕ) → is_in (directory d).sectors m ≡ true → (358 ≤ m) × (m ≤ 375)
  unfolding directory chain
  in_dir m i =
      let e : (leb 358 m && leb m 375) ≡ true = chain_held true (length d) d 358 m i in
      (leb-true 358 m (and_left (leb 358 m) (leb m 375) e), leb-true m 375 (and_right (leb 358 m) (leb m 375) e))

  dir_far : (m : ℕ) → is_in (directory d).sectors m ≡ true → m ≡ n → ⊥
  dir_far m i e = never (sym out ∙ ap (is_in (directory d).sectors) (sym e) ∙ i)

  -- the directory leaves a sector of its eighteen
  room_left : length (directory d).sectors ≤ 17
  unfolding none_twice some
  room_left =
      let more : List ℕ = n ∷ (directory d).sectors in
      let o : none_twice more ≡ true = rw out x.once in
      omega (arith, run_few more 358 18 o (λ m i. at m (eqb m n) refl i)) where
        at : (m : ℕ) (q : Bool) → eqb m n ≡ q → (q || is_in (directory d).sectors m) ≡ true → (358 ≤ m) × (m < 358 + 18)
        at m true e i = let z : m ≡ n = eqb-true m n e in (omega arith, omega arith)
        at m false e i = let z : (358 ≤ m) × (m ≤ 375) = in_dir m i in (z.0, omega arith)

  -- a place of one sector is off another
  off_sector : (m k j a b : ℕ) → (m ≡ k → ⊥) → 256 * m ≤ j → j < 256 * m + 256 → b ≤ 256 → Off (256 * k) (256 * k + b) j
  off_sector m k j a b z g h l = go (dec_lt m k) where
    go : Dec (m < k) → Off (256 * k) (256 * k + b) j
    go (yes y) = before (omega arith)
    go (no y) = let w : k < m = omega arith in behind (omega arith)

  link_dir : (m : ℕ) → is_in (directory d).sectors m ≡ true → (m ≡ last → ⊥) → link_at made (256 * m) ≡ link_at d (256 * m)
  link_dir m i z = link_same d made (256 * m) (at (256 * m) (omega arith) (omega arith)) (at (256 * m + 1) (omega arith) (omega arith)) where
    at : (j : ℕ) → 256 * m ≤ j → j < 256 * m + 2 → get_or made j 0 ≡ get_or d j 0
    at j a b =
        let r : (358 ≤ m) × (m ≤ 375) = in_dir m i in
        byte j (omega arith) (omega arith) (behind (omega arith)) (off_sector m n j 0 256 (dir_far m i) a (omega arith) (omega arith)) (off_sector m last j 0 2 z a (omega arith) (omega arith))

  dir_made : directory made ≡ record { sectors = (directory d).sectors ++ n ∷ []; ends = true }
  unfolding directory chain
  dir_made = go (length made) (omega (arith, length-sets (grown (written d image) last n) (256 * n + 2) entry, long_grown)) where
    go : (k : ℕ) → 18 ≤ k → chain_within true k made 358 ≡ record { sectors = (directory d).sectors ++ n ∷ []; ends = true }
    go zero h = absurd (omega arith)
    go (suc j) h = chain_on_lem d made n last held_n link_new link_last (length d) j 358 x.ends x.once (omega (arith, room_left)) refl link_dir

  once_made : none_twice ((directory d).sectors ++ n ∷ []) ≡ true
  unfolding none_twice some
  once_made = lists_apart_lem (directory d).sectors (n ∷ []) (record { left = x.once; right = refl; none = λ m i. at m i }) where
    at : (m : ℕ) → is_in (directory d).sectors m ≡ true → is_in (n ∷ []) m ≡ false
    at m i = rw (ne_eqb m n (dir_far m i)) refl

  -- ---- the entries

  -- an entry in a sector that was there
  entry_stays : (e : ℕ) → e < 8 * length (directory d).sectors → (i : ℕ) → i < 30 → get_or made (entry_at (directory d).sectors e + i) 0 ≡ get_or d (entry_at (directory d).sectors e + i) 0
  entry_stays e h i g =
      let m : ℕ = get_or (directory d).sectors (e / 8) 0 in
      let u : is_in (directory d).sectors m ≡ true = in_at (directory d).sectors (e / 8) (omega arith) in
      let r : (358 ≤ m) × (m ≤ 375) = in_dir m u in
      let j : ℕ = entry_at (directory d).sectors e + i in
      byte j (omega arith) (omega arith) (behind (omega arith)) (off_sector m n j 0 256 (dir_far m u) (omega arith) (omega arith) (omega arith)) (at j (omega arith) (omega arith)) where
        at : (j : ℕ) → 256 * get_or (directory d).sectors (e / 8) 0 + 2 ≤ j → j < 256 * get_or (directory d).sectors (e / 8) 0 + 256 → Off (256 * last) (256 * last + 2) j
        at j a b = go (dec_lt j (256 * last)) where
          go : Dec (j < 256 * last) → Off (256 * last) (256 * last + 2) j
          go (yes y) = before y
          go (no y) = behind (omega arith)

  abbrev more : List ℕ
  more = (directory d).sectors ++ n ∷ []

  more_long : length more ≡ length (directory d).sectors + 1
  more_long = length-append (directory d).sectors (n ∷ [])

  old_at : (e : ℕ) → e < 8 * length (directory d).sectors → entry_at more e ≡ entry_at (directory d).sectors e
  old_at e h = ap (λ (y : ℕ). 256 * y + 2 + 32 * (e % 8)) (get_or-append (directory d).sectors (n ∷ []) 0 (e / 8) (omega arith))

  new_sector : get_or more (length (directory d).sectors) 0 ≡ n
  new_sector = at (directory d).sectors where
    at : (l : List ℕ) → get_or (l ++ n ∷ []) (length l) 0 ≡ n
    at [] = refl
    at (m ∷ l) = at l

  new_at : (e : ℕ) → 8 * length (directory d).sectors ≤ e → e < 8 * length (directory d).sectors + 8 → entry_at more e ≡ 256 * n + 2 + 32 * (e % 8)
  new_at e a b =
      let z : e / 8 ≡ length (directory d).sectors = omega arith in
      ap (λ (y : ℕ). 256 * get_or more y 0 + 2 + 32 * (e % 8)) z ∙ ap (λ (y : ℕ). 256 * y + 2 + 32 * (e % 8)) new_sector

  -- listed before, in a sector that was there
  before_test : ℕ → Bool
  before_test q = is_listed d q && not (eqb (q / 256) n)

  old_test : (e : ℕ) → e < 8 * length (directory d).sectors → before_test (entry_at (directory d).sectors e) ≡ is_listed d (entry_at (directory d).sectors e)
  unfolding before_test
  old_test e h =
      let m : ℕ = get_or (directory d).sectors (e / 8) 0 in
      let z : entry_at (directory d).sectors e / 256 ≡ m = omega arith in
      let f : eqb (entry_at (directory d).sectors e / 256) n ≡ false =
      ne_eqb (entry_at (directory d).sectors e / 256) n (λ y. dir_far m (in_at (directory d).sectors (e / 8) (omega arith)) (sym z ∙ y))
      in
      rw f (by (is_listed d (entry_at (directory d).sectors e))) where
        by : (q : Bool) → (q && not false) ≡ q
        by true = refl
        by false = refl

  new_test : (e : ℕ) → 8 * length (directory d).sectors ≤ e → e < 8 * length (directory d).sectors + 8 → before_test (entry_at more e) ≡ false
  unfolding before_test
  new_test e a b =
      let z : entry_at more e ≡ 256 * n + 2 + 32 * (e % 8) = new_at e a b in
      let f : eqb (entry_at more e / 256) n ≡ true = eq-eqb (entry_at more e / 256) n (omega arith) in
      rw f (by (is_listed d (entry_at more e))) where
        by : (q : Bool) → (q && not true) ≡ false
        by true = refl
        by false = refl

  listed_cut : those before_test (map (entry_at more) (numbers_from 0 (8 * length more))) ≡ listed d
  unfolding entries_that
  listed_cut =
      those_cut (entry_at more) (entry_at (directory d).sectors) before_test (is_that true d) 0 (8 * length (directory d).sectors) (8 * length more) (omega (arith, more_long))
      (λ e a b. (old_at e (omega arith), ap before_test (old_at e (omega arith)) ∙ old_test e (omega arith)))
      (λ e a b. new_test e (omega arith) (omega (arith, more_long)))

  zeros : (r : ℕ) → 1 ≤ r → r < 8 → get_or made (256 * n + 2 + 32 * r) 0 ≡ 0
  zeros r a b =
      let z : 256 * n + 2 + 32 * r ≡ 256 * n + suc (suc (32 * r)) = omega arith in
      ap (λ (j : ℕ). get_or made j 0) z ∙ inside (suc (suc (32 * r))) (omega arith) (behind (omega arith)) ∙ get_or-replicate 254 (32 * r) 0 0 (omega arith)

  first_at : entry_at more (8 * length (directory d).sectors) ≡ 256 * n + 2
  first_at = new_at (8 * length (directory d).sectors) (omega arith) (omega arith) ∙ omega arith

  made_test : (e : ℕ) → e < 8 * length (directory d).sectors + 8 → (e ≡ 8 * length (directory d).sectors → ⊥) → is_listed made (entry_at more e) ≡ before_test (entry_at more e)
  made_test e h z = go (dec_lt e (8 * length (directory d).sectors)) where
    go : Dec (e < 8 * length (directory d).sectors) → is_listed made (entry_at more e) ≡ before_test (entry_at more e)
    go (yes y) =
        let v : entry_at (directory d).sectors e + 0 ≡ entry_at (directory d).sectors e = omega arith in
        let k : get_or made (entry_at (directory d).sectors e) 0 ≡ get_or d (entry_at (directory d).sectors e) 0 = rw v at (entry_stays e y 0 (omega arith)) in
        ap (is_listed made) (old_at e y) ∙ ap (λ (b : ℕ). not (eqb b 0)) k ∙ sym (old_test e y) ∙ sym (ap before_test (old_at e y))
    go (no y) =
        ap (is_listed made) (new_at e (omega arith) h) ∙ ap (λ (b : ℕ). not (eqb b 0)) (zeros (e % 8) (omega arith) (omega arith)) ∙ sym (new_test e (omega arith) h)

  one_more : Without (256 * n + 2) (entries_that true made more) (listed d)
  unfolding entries_that
  one_more =
      let z : 256 * n + 2 + 0 ≡ 256 * n + 2 = omega arith in
      subst (λ (l : List ℕ). Without (256 * n + 2) (entries_that true made more) l) listed_cut
      (subst (λ (y : ℕ). Without y (entries_that true made more) (those before_test (map (entry_at more) (numbers_from 0 (8 * length more))))) first_at
      (put_in (entry_at more) before_test (is_that true made) (8 * length (directory d).sectors) 0 (8 * length more) (omega arith) (omega (arith, more_long))
      (new_test (8 * length (directory d).sectors) (omega arith) (omega arith))
      (ap (is_listed made) first_at ∙ ap (λ (y : ℕ). not (eqb y 0)) (rw z at (new_entry 0 (omega arith))))
      (λ e a b y. made_test e (omega (arith, more_long)) y)))

  bit_stays : (t s : ℕ) → 1 ≤ t → t ≤ 35 → s < 24 → (t ≡ 18 → ⊥) → bit_at made t s ≡ bit_at (written d image) t s
  bit_stays t s a b c z =
      let j : ℕ = 91392 + 4 * t + 1 + s / 8 in
      let f : eqb t (track_of n) ≡ false = ne_eqb t (track_of n) (λ e. z (omega (arith, track_2 n (omega arith) (omega arith)))) in
      ap (λ (y : ℕ). bit_of y (s % 8)) (off_made j (before (omega arith)))
      ∙ bit_marked linked n false t s long_linked (omega arith) b c
      ∙ ap (λ (q : Bool). cond (q && eqb s (sector_of n)) 0 (bit_at linked t s)) f
      ∙ ap (λ (y : ℕ). bit_of y (s % 8)) (sets_off whole (256 * last) (track_of n ∷ sector_of n ∷ []) j (before (omega (arith, last_on_18.0))) ∙ off_whole j (before (omega arith)))

  pub grown_added : Added d name image made (256 * n + 2)
  grown_added = record {
    size = length-sets (grown (written d image) last n) (256 * n + 2) entry ∙ long_grown;
    room = omega arith;
    track = byte 91392 (omega arith) (omega arith) (before (omega arith)) (before (omega arith)) (before (omega (arith, last_on_18.0)));
    sector = byte 91393 (omega arith) (omega arith) (before (omega arith)) (before (omega arith)) (before (omega (arith, last_on_18.0)));
    ends = ap (λ (c : Chain). c.ends) dir_made;
    once = ap (λ (c : Chain). none_twice c.sectors) dir_made ∙ once_made;
    more = subst (λ (l : List ℕ). Without (256 * n + 2) l (listed d)) (sym (ap (λ (c : Chain). entries_that true made c.sectors) dir_made)) one_more;
    still = λ q i j h. stays q j h (that_from true d q i);
    entry = new_entry;
    bits = bit_stays;
  } where
    stays : (q j : ℕ) → j < 30 → FromRun (entry_at (directory d).sectors) 0 (8 * length (directory d).sectors) q → get_or made (q + j) 0 ≡ get_or d (q + j) 0
    stays q j h r = rw r.is (entry_stays r.at (omega (arith, r.high)) j h)
