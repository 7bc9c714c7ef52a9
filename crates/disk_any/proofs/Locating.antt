-- The entry at a place: the loop over a directory's entries, and the directory's sectors.
-- Assumes nothing.
use Prim.Native.Nat.{ℕ, zero, suc, ◌+◌, ◌-◌, ◌*◌, ◌/◌, ◌%◌, ◌≤◌, ◌<◌}
use mathlib.Core.Path.{◌≡◌, refl, sym, ap, subst, ◌∙◌, fun_ext}
use mathlib.Core.Bool.{Bool, true, false, not}
use mathlib.Core.List.{List, [], ◌∷◌, map}
use lib.ListN.{length, get_or, take, replicate}
use lib.Seq.{sets}
use native.Mathlib.Omega.{arith}
use mir.Val.{Fits}
use mir.Syntax.{w64}
use borrow.Author.Tests.{eq-eqb, ne_eqb, le-leb, lt-leb, le-ltb, not-true, not-false}
use Rattle.base_steps.specs.Each.{Each}
use Rattle.base_steps.proofs.Each.{each_at}
use Rattle.disk_rules.specs.Places.{sectors_before}
use Rattle.disk_rules.specs.Lists.{numbers_from, those}
use Rattle.disk_rules.specs.Entries.{entry_at, is_that, entries_that}
use Rattle.disk_rules.specs.Calls.{chain_bytes}
use Rattle.disk_ways.specs.Ways.{none_met, Way, way, way_of, ends_as}
use Rattle.disk_ways.specs.WayHelpers.{Follows}
use Rattle.disk_ways.specs.declared.Over.TheVariants.{Tracks}
use Rattle.disk_ways.specs.declared.Followed.{Followed}
use Rattle.disk_ways.proofs.Logged.{Of, way_each, entry_each, followed_start}
use Rattle.disk_any.specs.Any.{disk_kind, directory_on, listed_by, any_listed, spot_from, file_on, ReadInto, read_by}
use Rattle.disk_bytes.specs.ByteHelpers.{Below}
use Rattle.disk_bytes.proofs.Taking.{lies_below}
use Rattle.disk_any.specs.AnyHelpers.{Holds, Placed}
use Rattle.disk_any.specs.declared.DiskKind.{DiskKind}
use Rattle.disk_any.specs.declared.DiskKind.TheVariants.{D64, D71, D81, Other}
use Rattle.std.specs.Prelude.{Option, Some, None, Result, Ok, Err}
use Rattle.disk_any.specs.declared.Unread.TheVariants.{Stopped, NoRoom}

-- ---- a place in a list

spot_first : (x : ℕ) (l : List ℕ) (k : ℕ) → k < 1 → spot_from (x ∷ l) k ≡ Some x
unfolding spot_from
spot_first x l zero h = refl
spot_first x l (suc k) h = absurd (omega arith)

spot_next : (x : ℕ) (l : List ℕ) (k : ℕ) → 1 ≤ k → spot_from (x ∷ l) k ≡ spot_from l (k - 1)
unfolding spot_from
spot_next x l zero h = absurd (omega arith)
spot_next x l (suc k) h = let e : suc k - 1 ≡ k = omega arith in rw e

-- ---- the loop

pub record Seeking (d l : List ℕ) (end place left next : ℕ) : Type 0 where
  pub below : Below d l
  pub ends : end ≡ 8 * length l
  pub within : next ≤ end
  pub gives : spot_from (those (is_that true d) (map (entry_at l) (numbers_from next (end - next)))) left ≡ spot_from (entries_that true d l) place

pub seek_start : {d l : List ℕ} (place : ℕ) → Below d l → Seeking d l (8 * length l) place place 0
unfolding entries_that
seek_start {d} {l} place b =
    let e : 8 * length l - 0 ≡ 8 * length l = omega arith in record { below = b; ends = refl; within = omega arith; gives = rw e }

pub seek_mul : {d l : List ℕ} → Below d l → Fits w64 (8 * length l)
seek_mul b = omega (arith, b.few)

module _ {d l : List ℕ} {end place left next : ℕ} (s : Seeking d l end place left next) (h : next < end) where
  abbrev x : ℕ
  x = 256 * get_or l (next / 8) 0 + 2 + 32 * (next % 8)

  pub seek_in : next / 8 < length l
  seek_in = omega (arith, s.ends)

  small : get_or l (next / 8) 0 < 768
  small = s.below.lies.small (next / 8) seek_in

  pub seek_fits : Fits w64 (256 * get_or l (next / 8) 0)
  seek_fits = omega (arith, small)

  pub seek_fits_2 : Fits w64 (256 * get_or l (next / 8) 0 + 2)
  seek_fits_2 = omega (arith, small)

  pub seek_fits_3 : Fits w64 (256 * get_or l (next / 8) 0 + 2 + 32 * (next % 8))
  seek_fits_3 = omega (arith, small)

  stands : x + 30 ≤ length d
  stands = omega (arith, s.below.lies.within (next / 8) seek_in)

  pub seek_room : 256 * get_or l (next / 8) 0 + 2 + 32 * (next % 8) < length d
  seek_room = omega (arith, stands)

  abbrev rest : List ℕ
  rest = those (is_that true d) (map (entry_at l) (numbers_from (next + 1) (end - (next + 1))))

  unrolled : spot_from (those (is_that true d) (entry_at l next ∷ map (entry_at l) (numbers_from (next + 1) (end - (next + 1))))) left ≡ spot_from (entries_that true d l) place
  unfolding numbers_from
  unrolled = let k : end - next ≡ suc (end - (next + 1)) = omega arith in rw k at s.gives

  pub seek_out : get_or d (256 * get_or l (next / 8) 0 + 2 + 32 * (next % 8)) 0 ≡ 0 → Seeking d l end place left (next + 1)
  unfolding those
  seek_out e = record { below = s.below; ends = s.ends; within = omega arith; gives = simp (eq-eqb (get_or d x 0) 0 e) at unrolled }

  module _ (e : get_or d (256 * get_or l (next / 8) 0 + 2 + 32 * (next % 8)) 0 ≡ 0 → ⊥) where
    here : spot_from (x ∷ rest) left ≡ spot_from (entries_that true d l) place
    unfolding those
    here = simp (ne_eqb (get_or d x 0) 0 e) at unrolled

    pub seek_found : left ≡ 0 → Placed d (entries_that true d l) place (Some (256 * get_or l (next / 8) 0 + 2 + 32 * (next % 8)))
    seek_found g =
        record {
          is = sym (spot_first x rest left (omega arith)) ∙ here;
          within = λ q f. let k : x ≡ q = cc in subst (λ (y : ℕ). y + 30 ≤ length d) k stands;
        }

    pub seek_turn : (left ≡ 0 → ⊥) → Seeking d l end place (left - 1) (next + 1)
    seek_turn g = record { below = s.below; ends = s.ends; within = omega arith; gives = sym (spot_next x rest left (omega arith)) ∙ here }

pub seek_end : {d l : List ℕ} {end place left next : ℕ} → Seeking d l end place left next → end ≤ next → Placed d (entries_that true d l) place None
unfolding numbers_from those spot_from
seek_end {end = end} {next = next} s h =
    let z : end - next ≡ 0 = omega arith in
    record { is = rw z at s.gives; within = λ q f. absurd (let y : ◌≡◌ {A = ℕ} 0 1 = cc in omega arith) }

-- ---- the sectors of a way

blank_at : (k n : ℕ) → get_or (replicate k false) n false ≡ false
blank_at zero n = refl
blank_at (suc k) zero = refl
blank_at (suc k) (suc n) = blank_at k n

pub blank : (λ m. get_or (replicate 768 false) m false) ≡ none_met
blank = fun_ext (blank_at 768)

module _ {d : List ℕ} {tracks : ℕ} (h : Holds d tracks) where
  pub holds_low : 31 ≤ tracks
  holds_low = omega (arith, h.low)

  pub holds_first : 358 < sectors_before (tracks + 1)
  unfolding sectors_before
  holds_first =
      let a : 18 ≤ tracks + 1 = omega (arith, h.low) in let b : 25 ≤ tracks + 1 = omega (arith, h.low) in let c : 31 ≤ tracks + 1 = omega (arith, h.low) in
      simp (le-ltb (tracks + 1) 18 a, le-ltb (tracks + 1) 25 b, le-ltb (tracks + 1) 31 c) (omega arith)

  below_all : (w : Way) → Each (Of (Tracks tracks)) w.sectors → length w.sectors ≤ 768 → Below d w.sectors
  below_all w e f =
      lies_below f
      (record {
        small = λ i g. omega (arith, each_at (Of (Tracks tracks)) 0 w.sectors e i g, h.few);
        within = λ i g. omega (arith, each_at (Of (Tracks tracks)) 0 w.sectors e i g, h.size);
      })

  module _ {r : Followed} {after : List ℕ} {marks marks' : List Bool} where
    module _ (f : Follows (way (Tracks tracks) 768 d (λ m. get_or (replicate 768 false) m false) 358) (replicate 768 0) marks r after marks') where
      found : take r.to after ≡ (directory_on tracks d).sectors
      found = subst (λ (met : ℕ → Bool). take r.to after ≡ (way (Tracks tracks) 768 d met 358).sectors) blank (followed_start f)

      pub directory_stops : r.stop ≡ (directory_on tracks d).stop
      directory_stops = subst (λ (met : ℕ → Bool). r.stop ≡ (way (Tracks tracks) 768 d met 358).stop) blank f.stop

      pub directory_below : Below d (take r.to after)
      directory_below =
          rw (followed_start f)
          (below_all (way (Tracks tracks) 768 d (λ m. get_or (replicate 768 false) m false) 358)
          (way_each (Tracks tracks) holds_low 768 d (λ m. get_or (replicate 768 false) m false) 358 holds_first) (omega (arith, f.to, f.within)))

      pub directory_placed : (place : ℕ) {s : Option ℕ} → Placed d (entries_that true d (take r.to after)) place s → Placed d (entries_that true d (directory_on tracks d).sectors) place s
      directory_placed place {s} p = subst (λ (l : List ℕ). Placed d (entries_that true d l) place s) found p

    module _ (p : ℕ) (f : Follows (way_of (Tracks tracks) 768 d (λ m. get_or (replicate 768 false) m false) p) (replicate 768 0) marks r after marks') where
      followed : Follows (file_on tracks d p) (replicate 768 0) marks r after marks'
      followed = subst (λ (met : ℕ → Bool). Follows (way_of (Tracks tracks) 768 d met p) (replicate 768 0) marks r after marks') blank f

      pub file_below : Below d (take r.to after)
      file_below =
          rw (followed_start f)
          (below_all (way_of (Tracks tracks) 768 d (λ m. get_or (replicate 768 false) m false) p) (entry_each (Tracks tracks) holds_low 768 d (λ m. get_or (replicate 768 false) m false) p)
          (omega (arith, f.to, f.within)))

      bytes : chain_bytes d (take r.to after) ≡ chain_bytes d (file_on tracks d p).sectors
      bytes = ap (chain_bytes d) (followed_start followed)

      module _ (out : List ℕ) {q : Bool} (e : q ≡ ends_as true r.stop) where
        ends : ends_as true (file_on tracks d p).stop ≡ q
        ends = sym (rw followed.stop at e)

        pub file_stopped : not q ≡ true → ◌≡◌ {A = ReadInto} (record { answer = Err (Stopped r.stop); buffer = out }) (read_by d (file_on tracks d p) out)
        file_stopped g = let k : ends_as true (file_on tracks d p).stop ≡ false = ends ∙ not-true q g in rw k (ap (λ (s : _). record { answer = Err (Stopped s); buffer = out }) followed.stop)

        module _ (g : not q ≡ false) {n : ℕ} (m : n ≡ length (chain_bytes d (take r.to after))) where
          ended : ends_as true (file_on tracks d p).stop ≡ true
          ended = ends ∙ not-false q g

          long : n ≡ length (chain_bytes d (file_on tracks d p).sectors)
          long = m ∙ ap length bytes

          pub file_no_room : length out < n → ◌≡◌ {A = ReadInto} (record { answer = Err (NoRoom n); buffer = out }) (read_by d (file_on tracks d p) out)
          file_no_room i =
              let k : length out < length (chain_bytes d (file_on tracks d p).sectors) = omega (arith, long) in
              rw (ended, lt-leb (length (chain_bytes d (file_on tracks d p).sectors)) (length out) k) (ap (λ (x : ℕ). record { answer = Err (NoRoom x); buffer = out }) long)

          pub file_done : n ≤ length out → {after' : List ℕ} → after' ≡ sets out 0 (chain_bytes d (take r.to after))
              → ◌≡◌ {A = ReadInto} (record { answer = Ok n; buffer = after' }) (read_by d (file_on tracks d p) out)
          file_done i {after'} j =
              let k : length (chain_bytes d (file_on tracks d p).sectors) ≤ length out = omega (arith, long) in
              rw (ended, le-leb (length (chain_bytes d (file_on tracks d p).sectors)) (length out) k)
              (ap (λ (x : ℕ). record { answer = Ok x; buffer = after' }) long ∙ ap (λ (x : List ℕ). record { answer = Ok (length (chain_bytes d (file_on tracks d p).sectors)); buffer = x }) (j ∙ ap (sets out 0) bytes))

-- ---- by the kind of the image

module _ (d : List ℕ) {k : DiskKind} (e : k ≡ disk_kind (length d)) (place : ℕ) where
  pub located : {tracks : ℕ} {s : Option ℕ} → k ≡ D64 tracks → Placed d (entries_that true d (directory_on tracks d).sectors) place s → Placed d (any_listed d) place s
  unfolding any_listed
  located {tracks} {s} f p = subst (λ (x : DiskKind). Placed d (listed_by d x) place s) (sym f ∙ e) p

  nowhere : Placed d [] place None
  unfolding spot_from
  nowhere = record { is = refl; within = λ q f. absurd (let y : ◌≡◌ {A = ℕ} 0 1 = cc in omega arith) }

  pub located_none : ((tracks : ℕ) → k ≡ D64 tracks → ⊥) → Placed d (any_listed d) place None
  unfolding any_listed
  located_none f = go k e f where
    go : (x : DiskKind) → x ≡ disk_kind (length d) → ((tracks : ℕ) → x ≡ D64 tracks → ⊥) → Placed d (listed_by d (disk_kind (length d))) place None
    go (D64 tracks) g h = absurd (h tracks refl)
    go D71 g h = subst (λ (x : DiskKind). Placed d (listed_by d x) place None) g nowhere
    go D81 g h = subst (λ (x : DiskKind). Placed d (listed_by d x) place None) g nowhere
    go Other g h = subst (λ (x : DiskKind). Placed d (listed_by d x) place None) g nowhere
