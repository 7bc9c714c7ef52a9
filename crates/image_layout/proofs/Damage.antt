-- The third demand with damage (document 02, No. 14). "With numbers and bodies changed, in place, in any set of lines, every line outside the set still
-- reads as before by links, and by terminators where no body holds a zero": the links depend on the lengths of the bodies alone, so the changed image is
-- the image of the changed lines, `changed_image`, which are laid out again, `changed_laid`. And links changed, by terminators: `links_changed`.
-- Assumes nothing.
use Prim.Native.Nat.{ℕ, zero, suc, ◌+◌, ◌-◌, ◌%◌, ◌≤◌, ◌<◌}
use mathlib.Core.Path.{◌≡◌, refl, sym, ap, ◌∙◌, subst}
use mathlib.Core.Bool.{Bool, false}
use mathlib.Core.List.{List, [], ◌∷◌, ◌++◌, map, append_assoc}
use native.Mathlib.Omega.{arith}
use lib.Dec.{leb}
use lib.ListN.{length, get_or, drop, length-append, length-drop}
use lib.Seq.{drop-cons, length-take-le}
use borrow.Author.Tests.{lt-leb, le-ltb}
use Rattle.base_refusals.specs.Answer.{Answer, done, refused, map_done}
use Rattle.image_bytes.specs.ImageBytes.{low_first_at, address_at}
use Rattle.image_readers.specs.declared.Line.{Line}
use Rattle.image_readers.specs.NumberedBody.{NumberedBody}
use Rattle.image_readers.specs.Lines.{lines_from}
use Rattle.image_readers.specs.Bodies.{numbered_body, bodies_from, bodies_of}
use Rattle.image_readers.specs.Links.{link_step}
use Rattle.image_readers.specs.Terminators.{terminator_step}
use Rattle.image_readers.proofs.Equations.{lines_line, lines_end}
use Rattle.image_readers.proofs.ByTerminators.{terminator_sound}
use Rattle.image_layout.specs.Changed.{ChangedAt, number_or_body, link_byte, ChangedLines, ChangedLinks, line_now, lines_now, KeptOutside}
use Rattle.base_steps.specs.Each.{Each}
use Rattle.image_layout.specs.Layout.{two_bytes, linked_bytes, link_of, lines_bytes, image_of, end_address, Fits, Laid}
use Rattle.image_layout.specs.Reads.{least_load, placed_line, lines_at, place_of, ReadAs, NoZeros}
use Rattle.image_layout.proofs.Kept.{and_false, none_in, number_or_body_in, link_byte_in, Kept, after, kept_beside, kept_outside, byte_there, kept_on, kept_end, read_at, stands_any, line_same}
use Rattle.image_layout.proofs.Laying.{first_fits}
use Rattle.image_layout.proofs.Standing.{Stands, stands_next, body_read, byte, link_there_lem, long_as, zero_there, end_by_terminators, found_by_terminators}
use Rattle.image_layout.proofs.ReadBack.{Lined, first_stands, load_is, image_long, lines_there, read_back_by_links, read_back_by_terminators}

-- ---- a line changed, and all behind it

-- what is known of lines now, against the lines that were laid out
record NowAt (set : ℕ → Bool) (a p : ℕ) (ls : List NumberedBody) (s : List ℕ) (now : List NumberedBody) : Type 0 where
  lined : Lined s p a now
  ends : end_address a now ≡ end_address a ls
  numbers : Each (λ l. l.number ≤ 65535) now
  places : map place_of (lines_at a p now) ≡ map place_of (lines_at a p ls)
  outside : KeptOutside set ls now

-- one line more in front: m, with as long a body as l
now_more : {set : ℕ → Bool} {a p : ℕ} (l m : NumberedBody) {ls now : List NumberedBody} {s : List ℕ} → length m.body ≡ length l.body → m.number ≤ 65535 → (set 0 ≡ false → m ≡ l)
    → Stands s p (link_of a l.body) m (drop (p + 5 + length l.body) s) → NowAt (after set) (link_of a l.body) (p + 5 + length l.body) ls s now → NowAt set a p (l ∷ ls) s (m ∷ now)
unfolding lines_bytes end_address lines_at
now_more {set} {a} {p} l m {ls} {now} {s} long number same k more =
    let b = link_of a l.body in
    let e : link_of a m.body ≡ b = omega arith in
    record {
      lined = record {
        there =
            k.holds.there
            ∙ ap (λ (r : List ℕ). linked_bytes b m.number m.body ++ r) more.lined.there
            ∙ sym (append_assoc (linked_bytes b m.number m.body) (lines_bytes b now) (0 ∷ 0 ∷ []))
            ∙ ap (λ (y : ℕ). linked_bytes y m.number m.body ++ lines_bytes y now ++ 0 ∷ 0 ∷ []) (sym e);
      };
      ends = ap (λ (y : ℕ). end_address y now) e ∙ more.ends;
      numbers = (number, more.numbers);
      places =
          ap
          (λ (n : ℕ). record { address = a; link = a + 5 + n; number = 0; from = p + 4; to = p + 4 + n; next = p + 5 + n } ∷ map place_of (lines_at (a + 5 + n) (p + 5 + n) now))
          long
          ∙ ap (λ (xs : List Line). place_of (placed_line a b p l) ∷ xs) more.places;
      outside = keeps;
    }
  where
    keeps : KeptOutside set (l ∷ ls) (m ∷ now)
    keeps zero none out = same out
    keeps (suc i) none out = more.outside i none out

-- the bytes of a line's link and number are bytes
header_byte : {t : List ℕ} {p link : ℕ} {l : NumberedBody} {rest : List ℕ} → Stands t p link l rest → (i : ℕ) → p ≤ i → i < p + 4 → get_or t i 0 < 256
unfolding linked_bytes
header_byte {t} {p} {link} {l} {rest} k i h j = subst (λ (y : ℕ). get_or t y 0 < 256) e (rw (byte k (i - p)) (small (i - p) (omega arith)))
  where
    e : p + (i - p) ≡ i
    e = omega arith

    small : (d : ℕ) → d < 4 → get_or (linked_bytes link l.number l.body ++ rest) d 0 < 256
    small zero u = omega arith
    small (suc zero) u = omega arith
    small (suc (suc zero)) u = omega arith
    small (suc (suc (suc zero))) u = omega arith
    small (suc (suc (suc (suc d)))) u = absurd (omega arith)

now_is : (s : List ℕ) (a b p : ℕ) (l : NumberedBody) → line_now s (placed_line a b p l) ≡ read_at s p (length l.body)
now_is s a b p l =
    let e : p + 4 - 2 ≡ p + 2 = omega arith in
    let f : p + 4 + length l.body - (p + 4) ≡ length l.body = omega arith in
    rw (e, f)

module _ {t s : List ℕ} where
  now_at : (set : ℕ → Bool) (ls : List NumberedBody) (a p : ℕ) → Lined t p a ls → Fits a ls → Each (λ l. l.number ≤ 65535) ls → Kept number_or_body set a p ls t s
      → NowAt set a p ls s (map (line_now s) (lines_at a p ls))
  unfolding lines_bytes lines_at end_address
  now_at set [] a p h f q k = record { lined = kept_end k h; ends = refl; numbers = tt; places = refl; outside = λ i none out. refl }
  now_at set (l ∷ ls) a p h f q k =
      let b = link_of a l.body in
      let n = length l.body in
      let x = placed_line a b p l in
      let there = first_stands a l ls h in
      let inside : p + 5 + n ≤ length s = omega (arith, long_as there, k.long) in
      let beside = kept_beside number_or_body_in k in
      let low : get_or s p 0 ≡ get_or t p 0 = beside p (omega arith) (omega arith) (simp (lt-leb (p + 4) (p + 2) (omega arith))) in
      let high : get_or s (p + 1) 0 ≡ get_or t (p + 1) 0 = beside (p + 1) (omega arith) (omega arith) (simp (lt-leb (p + 4) (p + 1 + 2) (omega arith))) in
      let zero-now : get_or s (p + 4 + n) 0 ≡ 0 =
      beside (p + 4 + n) (omega arith) (omega arith) (rw (le-ltb (p + 4 + n) (p + 4 + n) (omega arith)) (and_false (leb (p + 4) (p + 4 + n + 2)))) ∙ zero_there there in
      let link : low_first_at s p ≡ b = omega (arith, low, high, link_there_lem there (first_fits a l ls f)) in
      let small : (i : ℕ) → p ≤ i → i < p + 4 → get_or s i 0 < 256 = λ i j u. byte_there number_or_body_in k i j (omega arith) (header_byte there i j u) in
      let m = read_at s p n in
      let stands : Stands s p b m (drop (p + 5 + n) s) = subst (λ (y : ℕ). Stands s p y m (drop (p + 5 + n) s)) link (stands_any s p n inside small zero-now) in
      let same : set 0 ≡ false → m ≡ l = λ out. line_same s there k.long q.0 (λ i j u. kept_outside number_or_body_in k out i (omega arith) (omega arith)) in
      let long : length m.body ≡ n = length-take-le n (drop (p + 4) s) (omega (arith, inside, length-drop (p + 4) s)) in
      let number : m.number ≤ 65535 = omega (arith, small (p + 2) (omega arith) (omega arith), small (p + 2 + 1) (omega arith) (omega arith)) in
      let more = now_at (after set) ls b (p + 5 + n) (stands_next there) f q.1 (kept_on number_or_body_in k) in
      subst (λ (y : NumberedBody). NowAt set a p (l ∷ ls) s (y ∷ map (line_now s) (lines_at b (p + 5 + n) ls))) (sym (now_is s a b p l)) (now_more l m long number same stands more)

-- the load address is kept
image_is : {changes : ℕ → Bool} (load : ℕ) (ls : List NumberedBody) {s : List ℕ} → ChangedAt changes (image_of load ls) s → ((i : ℕ) → i < 2 → changes i ≡ false)
    → s ≡ two_bytes load ++ drop 2 s
unfolding image_of
image_is load ls {s} c kept =
    let long : 4 ≤ length s = omega (arith, c.long, length-append (lines_bytes load ls) (0 ∷ 0 ∷ [])) in
    drop-cons s 0 0 (omega arith)
    ∙ ap (λ (x : List ℕ). get_or s 0 0 ∷ x) (drop-cons s 1 0 (omega arith))
    ∙ ap (λ (b : ℕ). b ∷ get_or s 1 0 ∷ drop 2 s) (c.others 0 (kept 0 (omega arith)))
    ∙ ap (λ (b : ℕ). load % 256 ∷ b ∷ drop 2 s) (c.others 1 (kept 1 (omega arith)))

-- ---- bytes of numbers and bodies changed in a set of lines

module _ {set : ℕ → Bool} {load : ℕ} {ls : List NumberedBody} {s : List ℕ} (laid : Laid load ls) (c : ChangedLines set load ls s) where
  changed_now : NowAt set load 2 ls s (lines_now load ls s)
  changed_now =
      now_at set ls load 2 (lines_there laid) laid.fits laid.numbers
      (record { long = c.changed.long; others = λ i h e. c.changed.others i e; bytes = λ i h e. c.changed.bytes i e })

  -- every line outside the set is as before
  pub changed_outside : KeptOutside set ls (lines_now load ls s)
  changed_outside = changed_now.outside

  -- each line stands where it stood, and has its link
  pub changed_places : map place_of (lines_at load 2 (lines_now load ls s)) ≡ map place_of (lines_at load 2 ls)
  changed_places = changed_now.places

  pub changed_laid : Laid load (lines_now load ls s)
  changed_laid = record { fits = rw changed_now.ends laid.fits; numbers = changed_now.numbers }

  -- the image is that of the lines as they are now
  pub changed_image : s ≡ image_of load (lines_now load ls s)
  unfolding image_of
  changed_image =
      image_is load ls c.changed (none_in number_or_body_in set ls load 2)
      ∙ ap (λ (x : List ℕ). two_bytes load ++ x) changed_now.lined.there

  module _ (up : least_load ≤ load) where
    -- by links, whatever the bodies hold
    pub damage_by_links : ReadAs link_step load (lines_now load ls s) s
    damage_by_links = subst (ReadAs link_step load (lines_now load ls s)) (sym changed_image) (read_back_by_links changed_laid up)

    -- by terminators, where no body holds a zero now
    pub damage_by_terminators : NoZeros (lines_now load ls s) → ReadAs terminator_step load (lines_now load ls s) s
    damage_by_terminators none =
        subst (ReadAs terminator_step load (lines_now load ls s)) (sym changed_image) (read_back_by_terminators changed_laid up none)

-- ---- links changed, by terminators

one_more : (s : List ℕ) (x : Line) (l : NumberedBody) (ls : List NumberedBody) (a : Answer (List Line)) → numbered_body s x ≡ l → map_done (map (numbered_body s)) a ≡ done ls
    → map_done (map (numbered_body s)) (map_done (λ xs. x ∷ xs) a) ≡ done (l ∷ ls)
one_more s x l ls (done xs) e f = let g : map (numbered_body s) xs ≡ ls = cc in rw (e, g)
one_more s x l ls (refused n) e f = let z : ◌≡◌ {A = ℕ} 0 1 = cc in absurd (omega arith)

module _ {t s : List ℕ} (short : length s ≤ 1048576) where
  bodies_kept : (set : ℕ → Bool) (ls : List NumberedBody) (a p : ℕ) → Lined t p a ls → Each (λ l. l.number ≤ 65535) ls → NoZeros ls → Kept link_byte set a p ls t s
      → Each (λ x. 0 < get_or s (x.from - 3) 0) (lines_at a p ls) → bodies_from terminator_step s p ≡ done ls
  unfolding lines_bytes lines_at bodies_from
  bodies_kept set [] a p h q none k up = ap (map_done (map (numbered_body s))) (lines_end terminator_step s p (end_by_terminators short (kept_end k h)))
  bodies_kept set (l ∷ ls) a p h q none k up =
      let b = link_of a l.body in
      let n = length l.body in
      let there = first_stands a l ls h in
      let inside : p + 5 + n ≤ length s = omega (arith, long_as there, k.long) in
      let same : (i : ℕ) → p + 2 ≤ i → i < p + 5 + n → get_or s i 0 ≡ get_or t i 0 =
      λ i j u. kept_beside link_byte_in k i (omega arith) u (rw (le-ltb (i + 2) (p + 4) (omega arith)) (and_false (leb (p + 4) (i + 4)))) in
      let small : (i : ℕ) → p ≤ i → i < p + 4 → get_or s i 0 < 256 = λ i j u. byte_there link_byte_in k i j (omega arith) (header_byte there i j u) in
      let zero-now : get_or s (p + 4 + n) 0 ≡ 0 = same (p + 4 + n) (omega arith) (omega arith) ∙ zero_there there in
      let is-l : read_at s p n ≡ l = line_same s there k.long q.0 (λ i j u. same i j (omega arith)) in
      let stands : Stands s p (low_first_at s p) l (drop (p + 5 + n) s) =
      subst (λ (m : NumberedBody). Stands s p (low_first_at s p) m (drop (p + 5 + n) s)) is-l (stands_any s p n inside small zero-now) in
      let e : p + 4 - 3 ≡ p + 1 = omega arith in
      let high : 0 < get_or s (p + 1) 0 = rw e at up.0 in
      let here =
      found_by_terminators stands short (omega (arith, high)) (omega (arith, small p (omega arith) (omega arith), small (p + 1) (omega arith) (omega arith))) q.0 refl none.0 in
      ap (map_done (map (numbered_body s))) (lines_line terminator_sound s p here)
      ∙ one_more s (placed_line (address_at s p) (low_first_at s p) p l) l ls (lines_from terminator_step s (p + 5 + n)) (body_read stands (address_at s p))
      (bodies_kept (after set) ls b (p + 5 + n) (stands_next there) q.1 none.1 (kept_on link_byte_in k) up.1)

-- whatever the links lead to, the numbers and bodies are read as before
pub links_changed : {set : ℕ → Bool} {load : ℕ} {ls : List NumberedBody} {s : List ℕ} → Laid load ls → NoZeros ls → ChangedLinks set load ls s → bodies_of terminator_step s ≡ done ls
links_changed {set} {load} {ls} {s} laid none c =
    bodies_kept (omega (arith, c.changed.long, image_long laid)) set ls load 2 (lines_there laid) laid.numbers none
    (record { long = c.changed.long; others = λ i h e. c.changed.others i e; bytes = λ i h e. c.changed.bytes i e }) c.high

-- ---- same bytes, same program

-- lists that begin with as many bytes
split : (x y u v : List ℕ) → length x ≡ length y → x ++ u ≡ y ++ v → (x ≡ y) × (u ≡ v)
split [] [] u v h e = (refl, e)
split [] (b ∷ y) u v h e = absurd (omega arith)
split (a ∷ x) [] u v h e = absurd (omega arith)
split (a ∷ x) (b ∷ y) u v h e =
    let tails = split x y u v (omega arith) (ap (drop 1) e) in
    let heads : a ≡ b = ap (λ (s : List ℕ). get_or s 0 0) e in
    (rw (heads, tails.0), tails.1)

same_line : (l m : NumberedBody) → l.number ≡ m.number → l.body ≡ m.body → l ≡ m
same_line l m e f = ap (λ (n : ℕ). record { number = n; body = l.body }) e ∙ ap (λ (b : List ℕ). record { number = m.number; body = b }) f

regrouped : (body rest : List ℕ) → ((body ++ 0 ∷ []) ++ rest) ++ 0 ∷ 0 ∷ [] ≡ body ++ (0 ∷ (rest ++ 0 ∷ 0 ∷ []))
regrouped body rest = simp append_assoc

-- lines laid out at one address: a link says how long its body is, so the bytes say the lines, whatever a reader finds there
lines_same : (a : ℕ) (ls ms : List NumberedBody) → Laid a ls → Laid a ms → lines_bytes a ls ++ 0 ∷ 0 ∷ [] ≡ lines_bytes a ms ++ 0 ∷ 0 ∷ [] → ls ≡ ms
unfolding lines_bytes linked_bytes end_address
lines_same a [] [] h k e = refl
lines_same a [] (m ∷ ms) h k e = let long = ap length e in absurd (omega arith)
lines_same a (l ∷ ls) [] h k e = let long = ap length e in absurd (omega arith)
lines_same a (l ∷ ls) (m ∷ ms) h k e =
    let low = ap (λ (s : List ℕ). get_or s 0 0) e in
    let high = ap (λ (s : List ℕ). get_or s 1 0) e in
    let number_low = ap (λ (s : List ℕ). get_or s 2 0) e in
    let number-high = ap (λ (s : List ℕ). get_or s 3 0) e in
    let long : length l.body ≡ length m.body = omega (arith, first_fits a l ls h.fits, first_fits a m ms k.fits) in
    let number : l.number ≡ m.number = omega (arith, h.numbers.0, k.numbers.0) in
    let rest = lines_bytes (link_of a l.body) ls in
    let rest' = lines_bytes (link_of a m.body) ms in
    let parts = split l.body m.body (0 ∷ rest ++ 0 ∷ 0 ∷ []) (0 ∷ rest' ++ 0 ∷ 0 ∷ []) long (sym (regrouped l.body rest) ∙ ap (drop 4) e ∙ regrouped m.body rest') in
    let same : l ≡ m = same_line l m number parts.0 in
    let more : ls ≡ ms =
    lines_same (link_of a l.body) ls ms (record { fits = h.fits; numbers = h.numbers.1 }) (rw long (record { fits = k.fits; numbers = k.numbers.1 }))
    (ap (drop 1) parts.1 ∙ ap (λ (n : ℕ). lines_bytes (a + 5 + n) ms ++ 0 ∷ 0 ∷ []) (sym long)) in
    rw (same, more)

-- two images are equal exactly when their load addresses and their lines are
module _ {load load' : ℕ} {ls ls' : List NumberedBody} where
  pub same_image : load ≡ load' → ls ≡ ls' → image_of load ls ≡ image_of load' ls'
  same_image e f = rw (e, f)

  pub same_program : Laid load ls → Laid load' ls' → image_of load ls ≡ image_of load' ls' → (load ≡ load') × (ls ≡ ls')
  unfolding image_of
  same_program laid laid' e =
      let loads : load ≡ load' = sym (load_is laid) ∙ ap (λ (s : List ℕ). low_first_at s 0) e ∙ load_is laid' in
      (loads, lines_same load ls ls' laid (rw loads laid') (ap (drop 2) e ∙ ap (λ (a : ℕ). lines_bytes a ls' ++ 0 ∷ 0 ∷ []) (sym loads)))
