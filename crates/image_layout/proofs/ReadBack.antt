-- The third demand: "An image crunched at 0x0100 or above, read by its links, gives back its address and every nonblank line's number
-- and crunched body, zeros included", and by terminators where no body holds a zero. Here of any lines that are laid out, and said once
-- of any step that finds the lines where they stand.
-- Assumes nothing.
use Prim.Native.Nat.{ℕ, suc, ◌+◌, ◌-◌, ◌≤◌}
use mathlib.Core.Path.{◌≡◌, refl, ap, ◌∙◌}
use mathlib.Core.Bool.{Bool, true, false, cond}
use mathlib.Core.List.{List, [], ◌∷◌, ◌++◌, map, append_assoc}
use native.Mathlib.Omega.{arith}
use lib.Dec.{leb}
use lib.ListN.{length}
use borrow.Author.Tests.{leb-true, leb-false, le-leb}
use Rattle.base_refusals.specs.Answer.{Answer, done, map_done}
use Rattle.image_readers.specs.NumberedBody.{NumberedBody}
use Rattle.image_bytes.specs.ImageBytes.{low_first_at, address_at}
use Rattle.image_readers.specs.declared.Line.{Line}
use Rattle.image_readers.specs.Lines.{Reader, lines_from, overview, overview_of}
use Rattle.image_readers.specs.Bodies.{numbered_body, bodies_from}
use Rattle.image_readers.specs.Links.{link_step}
use Rattle.image_readers.specs.Terminators.{terminator_step}
use Rattle.image_readers.proofs.Equations.{Sound, lines_line, lines_end}
use Rattle.image_readers.proofs.ByLinks.{link_sound}
use Rattle.image_readers.proofs.ByTerminators.{terminator_sound}
use Rattle.image_readers.proofs.Reading.{overview_bodies}
use Rattle.base_steps.specs.Each.{Each}
use Rattle.image_layout.specs.Layout.{link_of, line_bytes, lines_bytes, image_of, end_address, Fits, Laid}
use Rattle.image_layout.specs.Reads.{least_load, lines_found, placed_line, lines_at, LinksLead, ReadAs, NoZero, NoZeros}
use Rattle.image_layout.proofs.Laying.{image_length, lines_length, end_above, first_fits}
use Rattle.image_layout.proofs.Standing.{Holds, holds_on, Stands, stands_next, stands_end, body_read, end_by_links, end_by_terminators, found_by_links, found_by_terminators}
use Rattle.std.specs.Prelude.{Some, None}

-- the offset p is that of the address a, which is not below another
record Meets (load least a p : ℕ) : Type 0 where
  meets : a + 2 ≡ load + p
  above : least ≤ a

-- the bytes from an offset on are those of lines, the first at an address, and the end
abbrev pub Lined : List ℕ → ℕ → ℕ → List NumberedBody → Type 0
Lined s p a ls = Holds s p (lines_bytes a ls ++ 0 ∷ 0 ∷ [])

pub first_stands : {s : List ℕ} {p : ℕ} (a : ℕ) (l : NumberedBody) (ls : List NumberedBody) → Lined s p a (l ∷ ls)
    → Stands s p (link_of a l.body) l (lines_bytes (link_of a l.body) ls ++ 0 ∷ 0 ∷ [])
unfolding lines_bytes
first_stands a l ls h =
    let b = link_of a l.body in
    record { holds = record { there = h.there ∙ append_assoc (line_bytes a l.number l.body) (lines_bytes b ls) (0 ∷ 0 ∷ []) } }

-- the numbers and bodies at the places of the lines are the lines
bodies_at : (s : List ℕ) (ls : List NumberedBody) (a p : ℕ) → Lined s p a ls → map (numbered_body s) (lines_at a p ls) ≡ ls
unfolding lines_at
bodies_at s [] a p h = refl
bodies_at s (l ∷ ls) a p h =
    let b = link_of a l.body in
    let q = p + 5 + length l.body in
    let k = first_stands a l ls h in
    ap (λ (x : NumberedBody). x ∷ map (numbered_body s) (lines_at b q ls)) (body_read k a)
    ∙ ap (λ (xs : List NumberedBody). l ∷ xs) (bodies_at s ls b q (stands_next k))

-- a step that finds each line where it stands, not below an address, if Q holds of it, and the end
record Finds (step : Reader) (s : List ℕ) (load least : ℕ) (Q : NumberedBody → Type 0) : Type 0 where
  sound : Sound step
  finds_line : {a p : ℕ} {l : NumberedBody} {rest : List ℕ} → Meets load least a p → Stands s p (link_of a l.body) l rest → link_of a l.body ≤ 0xFFFF → Q l
      → step s p ≡ done (Some (placed_line a (link_of a l.body) p l))
  finds_end : {p : ℕ} → Holds s p (0 ∷ 0 ∷ []) → step s p ≡ done None

module _ {step : Reader} {s : List ℕ} {load least : ℕ} {Q : NumberedBody → Type 0} (finds : Finds step s load least Q) where
  places_from : (ls : List NumberedBody) (a p : ℕ) → Meets load least a p → Lined s p a ls → Fits a ls → Each Q ls → lines_from step s p ≡ done (lines_at a p ls)
  unfolding lines_bytes lines_at end_address
  places_from [] a p m h f q = lines_end step s p (finds.finds_end h)
  places_from (l ∷ ls) a p m h f q =
      let b = link_of a l.body in
      let k = first_stands a l ls h in
      lines_line finds.sound s p (finds.finds_line m k (first_fits a l ls f) q.0)
      ∙ ap (map_done (λ xs. placed_line a b p l ∷ xs)) (places_from ls b (p + 5 + length l.body) (omega arith) (stands_next k) f q.1)

-- an image whose load address and lines are these is read as they are
read_as : (step : Reader) (s : List ℕ) {load : ℕ} {ls : List NumberedBody} → lines_from step s 2 ≡ done (lines_at load 2 ls) → low_first_at s 0 ≡ load → Lined s 2 load ls → ReadAs step load ls s
unfolding bodies_from
read_as step s {load} {ls} places w h =
    let bodies = ap (map_done (map (numbered_body s))) places ∙ ap done (bodies_at s ls load 2 h) in
    record {
      checked = overview_bodies step s ∙ ap (map_done (overview_of s)) bodies ∙ ap (λ (n : ℕ). done (record { load = n; lines = length ls })) w;
      bodies = bodies;
      places = places;
    }

both : {A : Type 0} (P Q : A → Type 0) (xs : List A) → Each P xs → Each Q xs → Each (λ x. P x × Q x) xs
both P Q [] p q = tt
both P Q (x ∷ xs) p q = ((p.0, q.0), both P Q xs p.1 q.1)

pub load_is : {load : ℕ} {ls : List NumberedBody} → Laid load ls → low_first_at (image_of load ls) 0 ≡ load
unfolding image_of
load_is {load} {ls} laid = omega (arith, end_above load ls, laid.fits)

module _ {load : ℕ} {ls : List NumberedBody} (laid : Laid load ls) where
  pub image_long : length (image_of load ls) ≤ 1048576
  image_long = omega (arith, image_length load ls, laid.fits)

  load_there : low_first_at (image_of load ls) 0 ≡ load
  load_there = load_is laid

  pub lines_there : Lined (image_of load ls) 2 load ls
  unfolding image_of
  lines_there = record { there = refl }

  -- lines that do not stand below the least load address, by links
  finds_links : (least : ℕ) → least_load ≤ least → Finds link_step (image_of load ls) load least (λ l. l.number ≤ 65535)
  finds_links least up =
      record {
        sound = link_sound;
        finds_line = λ m k f q. found_by_links k image_long (omega (arith, m)) f q (omega (arith, m, load_there)) (omega (arith, m, load_there));
        finds_end = λ h. end_by_links image_long h;
      }

  module _ (up : least_load ≤ load) where
    -- by links, whatever the bodies hold
    pub read_back_by_links : ReadAs link_step load ls (image_of load ls)
    read_back_by_links =
        read_as link_step (image_of load ls) (places_from (finds_links load up) ls load 2 (omega arith) lines_there laid.fits laid.numbers) load_there lines_there

    -- by terminators, where no body holds a zero
    pub read_back_by_terminators : NoZeros ls → ReadAs terminator_step load ls (image_of load ls)
    read_back_by_terminators none =
        read_as terminator_step (image_of load ls)
        (places_from finds ls load 2 (omega arith) lines_there laid.fits (both (λ l. l.number ≤ 65535) (λ l. NoZero l.body) ls laid.numbers none)) load_there lines_there
      where
        finds : Finds terminator_step (image_of load ls) load load (λ l. (l.number ≤ 65535) × NoZero l.body)
        finds = record {
          sound = terminator_sound;
          finds_line = λ m k f q. found_by_terminators k image_long (omega (arith, m)) f q.0 (omega (arith, m, load_there)) q.1;
          finds_end = λ h. end_by_terminators image_long h;
        }

-- ---- at any load address the reader by links takes an image, and finds all lines or none

none_read : {load : ℕ} {ls : List NumberedBody} → Laid load ls → link_step (image_of load ls) 2 ≡ done None → overview link_step (image_of load ls) ≡ done (record { load = load; lines = 0 })
unfolding bodies_from
none_read {load} {ls} laid e =
    let s = image_of load ls in
    overview_bodies link_step s
    ∙ ap (λ (a : Answer (List Line)). map_done (overview_of s) (map_done (map (numbered_body s)) a)) (lines_end link_step s 2 e)
    ∙ ap (λ (n : ℕ). done (record { load = n; lines = 0 })) (load_there laid)

pub all_or_none : {load : ℕ} (ls : List NumberedBody) → Laid load ls → overview link_step (image_of load ls) ≡ done (record { load = load; lines = lines_found load ls })
unfolding lines_found lines_at lines_bytes end_address
all_or_none {load} [] laid = none_read laid (end_by_links (image_long laid) (lines_there laid))
all_or_none {load} (l ∷ ls) laid = go (leb 0x0100 (link_of load l.body)) refl
  where
    k : Stands (image_of load (l ∷ ls)) 2 (link_of load l.body) l (lines_bytes (link_of load l.body) ls ++ 0 ∷ 0 ∷ [])
    k = first_stands load l ls (lines_there laid)

    go : (b : Bool) → leb 0x0100 (link_of load l.body) ≡ b
        → overview link_step (image_of load (l ∷ ls)) ≡ done (record { load = load; lines = cond b (suc (length ls)) 0 })
    go true e =
        let s = image_of load (l ∷ ls) in
        let b = link_of load l.body in
        let up : 0x0100 ≤ b = leb-true _ _ e in
        let at : load ≡ address_at s 2 = omega (arith, load_there laid) in
        let here = found_by_links k (image_long laid) up (first_fits load l ls laid.fits) laid.numbers.0 at (omega (arith, load_there laid)) in
        let more = places_from (finds_links laid b (omega arith)) ls b (2 + 5 + length l.body) (omega arith) (stands_next k) laid.fits laid.numbers.1 in
        let places : lines_from link_step s 2 ≡ done (lines_at load 2 (l ∷ ls)) = lines_line link_sound s 2 here ∙ ap (map_done (λ xs. placed_line load b 2 l ∷ xs)) more in
        let read : ReadAs link_step load (l ∷ ls) s = read_as link_step s places (load_there laid) (lines_there laid) in
        read.checked
    go false e = none_read laid (stands_end k (image_long laid) (leb-false _ _ e))

-- from the least load address on it finds all
pub all_found : {load : ℕ} (ls : List NumberedBody) → least_load ≤ load → lines_found load ls ≡ length ls
unfolding lines_found
all_found [] up = refl
all_found {load} (l ∷ ls) up = let h : 0x0100 ≤ link_of load l.body = omega arith in simp (le-leb _ _ h)

-- ---- where the links lead

-- each link is the next line's address, and the last the address behind the lines
pub links_lead : (ls : List NumberedBody) (a p : ℕ) → LinksLead (lines_at a p ls) (end_address a ls)
unfolding lines_at end_address
links_lead [] a p = tt
links_lead (l ∷ []) a p = refl
links_lead (l ∷ m ∷ ls) a p = (refl, links_lead (m ∷ ls) (link_of a l.body) (p + 5 + length l.body))

-- the image's last two bytes are the end marker, and that is its address
module _ {load : ℕ} {ls : List NumberedBody} (laid : Laid load ls) where
  pub marker_read : link_step (image_of load ls) (length (image_of load ls) - 2) ≡ done None
  marker_read =
      let p : length (image_of load ls) - 2 ≡ 2 + length (lines_bytes load ls) = omega (arith, image_length load ls, lines_length load ls) in
      rw p (end_by_links (image_long laid) (holds_on (lines_bytes load ls) (lines_there laid)))

  pub end_marker : address_at (image_of load ls) (length (image_of load ls) - 2) ≡ end_address load ls
  end_marker = omega (arith, load_is laid, image_length load ls, end_above load ls)
