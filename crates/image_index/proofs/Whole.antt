-- The whole index: from what was counted and written to the definition.
-- Assumes nothing.
use Prim.Native.Nat.{ℕ, ◌+◌, ◌-◌, ◌*◌, ◌/◌, ◌≤◌, ◌<◌}
use mathlib.Core.Path.{◌≡◌, refl, sym, ap, ◌∙◌, subst}
use mathlib.Core.Bool.{Bool, true, false, cond, ◌||◌}
use mathlib.Core.List.{List, [], ◌∷◌, ◌++◌, map, map-append, append_assoc}
use native.Mathlib.Omega.{arith}
use mir.Syntax.{w64}
use mir.Val.{Fits}
use lib.Dec.{ltb}
use lib.ListN.{length, length-append, length-map}
use borrow.Author.Tests.{lt-ltb, le-ltb, ltb-true, ltb-false}
use Rattle.base_refusals.specs.Numbers.{Numbered, too_many_lines, target_too_high, no_room}
use Rattle.base_refusals.specs.Answer.{Answer, done, refused, map_done, and_then, numbered, answered}
use Rattle.base_refusals.specs.declared.Refusal.{Refusal}
use Rattle.base_lent.specs.Lent.{Lent, into_buffer}
use Rattle.base_lent.specs.Stores.{Room, Put, HasRoom}
use Rattle.base_lent.proofs.Outcomes.{into_refused, into_none, into_done}
use Rattle.image_readers.specs.declared.Line.{Line}
use Rattle.image_readers.specs.Bodies.{body_of}
use Rattle.image_readers.specs.Chain.{Leads}
use Rattle.image_readers.specs.Lines.{lines_of, overview_of, overview}
use Rattle.image_readers.specs.declared.Overview.{Overview}
use Rattle.image_readers.specs.Links.{link_step}
use Rattle.image_readers.proofs.ByLinks.{link_sound}
use Rattle.base_refusals.proofs.Tight.{told_back}
use Rattle.image_readers.proofs.Reading.{lines_lead, overview_lines, overview_refused}
use Rattle.image_marks.specs.Marks.{has_mark}
use Rattle.image_jumps.specs.Jumps.{jumps_of, low}
use Rattle.base_bits.specs.Bits.{Field, bits_of, field_bits, pack_from, packed}
use Rattle.base_bits.proofs.Bytes.{length_bits, pack_length}
use Rattle.base_refusals.specs.declared.Refusal.TheVariants.{TargetTooHigh}
use Rattle.image_readers.specs.IndexLines.{IndexLine, index_line, has_line}
use Rattle.std.specs.Prelude.{Result, Ok, Err}
use Rattle.image_index.specs.Index.{IndexJump, LineIndex, jump_to, jumps_in, any_too_high, index_lines, indexed, line_fields, jump_fields, index_fields, line_index, without_line}
use Rattle.image_index.specs.IndexHelpers.{lines_listed, found_from, low_jumps, low_targets, targets_counted, AtMost, CountedIs, pair_bits, line_bits, target_bit, target_bits, jump_bits, index_bits, Faultless, NumbersMarked}

-- ---- the jumps, one by one

target_low : IndexJump → ℕ
target_low j = low j.target

-- the targets of a line's jumps
line_low : (place : ℕ) (ts : List ℕ) → map target_low (map (jump_to place) ts) ≡ map low ts
unfolding target_low
line_low place [] = refl
line_low place (t ∷ ts) = ap (λ (x : List ℕ). low t ∷ x) (line_low place ts)

all_low_lem : (s : List ℕ) (v : ℕ) (ls : List Line) → low_targets s ls ≡ map target_low (jumps_in s v ls)
unfolding low_targets jumps_in
all_low_lem s v [] = refl
all_low_lem s v (l ∷ ls) =
    ap (λ (x : List ℕ). low_jumps (body_of s l) ++ x) (all_low_lem s (v + 1) ls)
    ∙ ap (λ (x : List ℕ). x ++ map target_low (jumps_in s (v + 1) ls)) (sym (line_low (v + 1) (jumps_of (body_of s l))))
    ∙ sym (map-append target_low (map (jump_to (v + 1)) (jumps_of (body_of s l))) (jumps_in s (v + 1) ls))

-- how many there are to numbers that no line has, and whether one is too high
counts : {lines : List IndexLine} {marked : List ℕ} → NumbersMarked lines marked → (n : ℕ) (js : List IndexJump)
    → targets_counted marked n (map target_low js) ≡ cond (any_too_high js) (Err TargetTooHigh) (Ok (n + length (without_line lines js)))
unfolding targets_counted any_too_high target_low without_line
counts k n [] = ap Ok (omega arith)
counts {lines} {marked} k n (j ∷ js) = go (ltb 65535 j.target) refl (λ (m : ℕ). counts k m js)
  where
    size : (b : Bool) → cond b n (n + 1) + length (without_line lines js) ≡ n + length {A = IndexJump} (elim b [ true ↦ without_line lines js | false ↦ j ∷ without_line lines js ])
    size true = omega arith
    size false = omega arith

    turn : (b : Bool) → has_mark marked j.target ≡ b
        → ((m : ℕ) → targets_counted marked m (map target_low js) ≡ cond (any_too_high js) (Err TargetTooHigh) (Ok (m + length (without_line lines js))))
        → targets_counted marked (cond (has_mark marked j.target) n (n + 1)) (map target_low js)
        ≡ cond (any_too_high js) (Err TargetTooHigh) (Ok (n + length {A = IndexJump} (elim b [ true ↦ without_line lines js | false ↦ j ∷ without_line lines js ])))
    turn b f ih =
        ap (λ (x : Bool). targets_counted marked (cond x n (n + 1)) (map target_low js)) f ∙ ih (cond b n (n + 1))
        ∙ ap (λ (m : ℕ). cond (any_too_high js) (Err TargetTooHigh) (Ok m)) (size b)

    go : (b : Bool) → ltb 65535 j.target ≡ b
        → ((m : ℕ) → targets_counted marked m (map target_low js) ≡ cond (any_too_high js) (Err TargetTooHigh) (Ok (m + length (without_line lines js))))
        → cond (ltb 65535 (low j.target)) (Err TargetTooHigh) (targets_counted marked (cond (has_mark marked (low j.target)) n (n + 1)) (map target_low js))
        ≡ cond (ltb 65535 j.target || any_too_high js) (Err TargetTooHigh) (Ok (n + length (without_line lines (j ∷ js))))
    go true e ih =
        let h : 65535 < low j.target = omega (arith, ltb-true 65535 j.target e) in
        simp (lt-ltb _ _ h, e)
    go false e ih =
        let g : j.target ≤ 65535 = ltb-false 65535 j.target e in
        let h : low j.target ≤ 65535 = omega arith in
        let w : low j.target ≡ j.target = omega arith in
        simp (le-ltb _ _ h, e) (
        ap (λ (t : ℕ). targets_counted marked (cond (has_mark marked t) n (n + 1)) (map target_low js)) w
        ∙ turn (has_line lines j.target) (k.tells j.target g) ih)

-- where no number is marked, all jumps are meant
pub none_marked : NumbersMarked [] []
unfolding has_line
none_marked = record { tells = λ t h. refl }

all_without : (js : List IndexJump) → without_line [] js ≡ js
unfolding without_line
all_without [] = refl
all_without (j ∷ js) = ap (λ (x : List IndexJump). j ∷ x) (all_without js)

-- ---- the bits, field by field

-- the bits of jumps
each_bits : List ℕ → List IndexJump → List ℕ
each_bits marked [] = []
each_bits marked (j ∷ js) = target_bit marked j.place (low j.target) ++ each_bits marked js

line_bits_lem : (marked : List ℕ) (place : ℕ) (ts : List ℕ) (js : List IndexJump)
    → target_bits marked place (map low ts) ++ each_bits marked js ≡ each_bits marked (map (jump_to place) ts ++ js)
unfolding target_bits each_bits
line_bits_lem marked place [] js = refl
line_bits_lem marked place (t ∷ ts) js =
    append_assoc (target_bit marked place (low t)) (target_bits marked place (map low ts)) (each_bits marked js)
    ∙ ap (λ (x : List ℕ). target_bit marked place (low t) ++ x) (line_bits_lem marked place ts js)

all_bits : (marked s : List ℕ) (v : ℕ) (ls : List Line) → jump_bits marked s v ls ≡ each_bits marked (jumps_in s v ls)
unfolding jump_bits jumps_in
all_bits marked s v [] = unfold each_bits in refl
all_bits marked s v (l ∷ ls) =
    ap (λ (x : List ℕ). target_bits marked (v + 1) (low_jumps (body_of s l)) ++ x) (all_bits marked s (v + 1) ls)
    ∙ line_bits_lem marked (v + 1) (jumps_of (body_of s l)) (jumps_in s (v + 1) ls)

-- where no target is too high, none is cut
each_bits_lem : {lines : List IndexLine} {marked : List ℕ} → NumbersMarked lines marked → (js : List IndexJump) → any_too_high js ≡ false
    → each_bits marked js ≡ field_bits (jump_fields (without_line lines js))
unfolding any_too_high each_bits field_bits jump_fields without_line target_bit
each_bits_lem k [] e = refl
each_bits_lem {lines} {marked} k (j ∷ js) e = go (ltb 65535 j.target) refl e (each_bits_lem k js)
  where
    rest : List IndexJump
    rest = without_line lines js

    kept : (b : Bool) → has_mark marked j.target ≡ b
        → target_bit marked j.place j.target ++ field_bits (jump_fields rest) ≡ field_bits (jump_fields (elim b [ true ↦ rest | false ↦ j ∷ rest ]))
    kept true f = simp f
    kept false f = simp f (append_assoc (bits_of 13 j.place) (bits_of 16 j.target) (field_bits (jump_fields rest)))

    go : (b : Bool) → ltb 65535 j.target ≡ b → (b || any_too_high js) ≡ false → (any_too_high js ≡ false → each_bits marked js ≡ field_bits (jump_fields (without_line lines js)))
        → each_bits marked (j ∷ js) ≡ field_bits (jump_fields (without_line lines (j ∷ js)))
    go true f g ih = let z : ◌≡◌ {A = ℕ} 1 0 = ap (λ (b : Bool). cond b 1 0) g in absurd (omega arith)
    go false f g ih =
        let h : j.target ≤ 65535 = ltb-false 65535 j.target f in
        let w : low j.target ≡ j.target = omega arith in
        ap (λ (t : ℕ). target_bit marked j.place t ++ each_bits marked js) w
        ∙ ap (λ (x : List ℕ). target_bit marked j.place j.target ++ x) (ih g) ∙ kept (has_line lines j.target) (k.tells j.target h)

lines_bits : (ls : List Line) → line_bits ls ≡ field_bits (line_fields (map index_line ls))
unfolding line_bits field_bits line_fields
lines_bits [] = refl
lines_bits (l ∷ ls) = simp append_assoc (ap (λ (x : List ℕ). bits_of 16 l.number ++ (bits_of 16 (l.from - 4) ++ x)) (lines_bits ls))

fields_app : (a b : List Field) → field_bits (a ++ b) ≡ field_bits a ++ field_bits b
unfolding field_bits
fields_app [] b = refl
fields_app (f ∷ a) b = ap (λ (x : List ℕ). bits_of f.width f.value ++ x) (fields_app a b) ∙ sym (append_assoc (bits_of f.width f.value) (field_bits a) (field_bits b))

jumps_length : (js : List IndexJump) → length (field_bits (jump_fields js)) ≡ 29 * length js
unfolding field_bits jump_fields
jumps_length [] = refl
jumps_length (j ∷ js) =
    length-append (bits_of 13 j.place) (bits_of 16 j.target ++ field_bits (jump_fields js))
    ∙ omega (arith, length-append (bits_of 16 j.target) (field_bits (jump_fields js)), length_bits 13 j.place, length_bits 16 j.target, jumps_length js)

lines_length : (ls : List Line) → length (line_bits ls) ≡ 32 * length ls
unfolding line_bits
lines_length [] = refl
lines_length (l ∷ ls) =
    length-append (pair_bits 16 l.number (l.from - 4)) (line_bits ls)
    ∙ omega (arith, length-append (bits_of 16 l.number) (bits_of 16 (l.from - 4)), length_bits 16 l.number, length_bits 16 (l.from - 4), lines_length ls)

index_packs : (ls : List IndexLine) (js : List IndexJump)
    → packed (index_fields (record { lines = ls; jumps = js })) ≡ pack_from 0 0 (bits_of 16 (length ls) ++ (field_bits (line_fields ls) ++ field_bits (jump_fields js)))
unfolding packed index_fields
index_packs ls js = ap (λ (x : List ℕ). pack_from 0 0 (bits_of 16 (length ls) ++ x)) (fields_app (line_fields ls) (jump_fields js))

index_done : (s : List ℕ) {x : LineIndex} → indexed s ≡ done x → line_index s ≡ done (packed (index_fields x))
unfolding line_index
index_done s e = ap (map_done (λ x. packed (index_fields x))) e

index_refused : (s : List ℕ) {n : Numbered} → indexed s ≡ refused n → line_index s ≡ refused n
unfolding line_index
index_refused s e = ap (map_done (λ x. packed (index_fields x))) e

-- ---- an image without a fault

-- its lines and jumps, and the bits of those with no mark
pub record IndexedIs (s : List ℕ) (lines : List IndexLine) (marked : List ℕ) (m : ℕ) : Type 0 where
  pub is : indexed s ≡ done (record { lines = map index_line (found_from s 2); jumps = jumps_in s 0 (found_from s 2) })
  pub bits : jump_bits marked s 0 (found_from s 2) ≡ field_bits (jump_fields (without_line lines (jumps_in s 0 (found_from s 2))))
  pub size : length (jump_bits marked s 0 (found_from s 2)) ≡ 29 * m

-- its index, and how long it is
pub record IndexIs (s : List ℕ) (n m : ℕ) : Type 0 where
  pub is : line_index s ≡ done (pack_from 0 0 (index_bits s n))
  pub long : length (pack_from 0 0 (index_bits s n)) ≡ (23 + 32 * n + 29 * m) / 8

module _ {s : List ℕ} {n : ℕ} (k : Faultless s n) where
  read : indexed s ≡ index_lines s (found_from s 2)
  unfolding indexed
  read = ap (λ (a : Answer (List Line)). and_then a (index_lines s)) k.sound

  pub too_many : 8191 < n → indexed s ≡ refused too_many_lines
  too_many h =
      let g : 8191 < length (found_from s 2) = omega (arith, k.count) in
      let many : index_lines s (found_from s 2) ≡ refused too_many_lines = simp (lt-ltb _ _ g) in
      read ∙ many

  module _ {marked : List ℕ} {r : Result ℕ Refusal} (c : CountedIs marked 0 (low_targets s (found_from s 2)) 2097152 r) where
    pub jumps_few : {m : ℕ} → r ≡ Ok m → m ≤ 2097152
    jumps_few e = subst (AtMost 2097152) e c.few

    pub mul_fits : {m : ℕ} → r ≡ Ok m → Fits w64 (29 * m)
    mul_fits e = record { fits = omega (arith, jumps_few e) }

    pub add_fits : {m : ℕ} → n ≤ 8191 → r ≡ Ok m → Fits w64 (23 + 32 * n + 29 * m)
    add_fits h e = record { fits = omega (arith, jumps_few e) }

    pub report_fits : {m : ℕ} → r ≡ Ok m → Fits w64 (7 + 29 * m)
    report_fits e = record { fits = omega (arith, jumps_few e) }

    module _ {lines : List IndexLine} (marks : NumbersMarked lines marked) where
      told_count : r ≡ cond (any_too_high (jumps_in s 0 (found_from s 2))) (Err TargetTooHigh) (Ok (0 + length (without_line lines (jumps_in s 0 (found_from s 2)))))
      told_count = c.is ∙ ap (targets_counted marked 0) (all_low_lem s 0 (found_from s 2)) ∙ counts marks 0 (jumps_in s 0 (found_from s 2))

      pub too_high : n ≤ 8191 → r ≡ (Err TargetTooHigh) → indexed s ≡ refused target_too_high
      too_high h e =
          let g : length (found_from s 2) ≤ 8191 = omega (arith, k.count) in
          let high : index_lines s (found_from s 2) ≡ refused target_too_high = simp (le-ltb _ _ g) (go (any_too_high (jumps_in s 0 (found_from s 2))) _ _ (sym e ∙ told_count)) in
          read ∙ high
        where
          go : (b : Bool) (x : LineIndex) (m : ℕ) → (Err TargetTooHigh) ≡ cond b (Err TargetTooHigh) (Ok m) → cond b (refused target_too_high) (done x) ≡ refused target_too_high
          go true x m f = refl
          go false x m f = let z : ◌≡◌ {A = ℕ} 0 1 = cc in absurd (omega arith)

      pub indexed_is : {m : ℕ} → n ≤ 8191 → r ≡ Ok m → IndexedIs s lines marked m
      indexed_is {m} h e = go (any_too_high (jumps_in s 0 (found_from s 2))) refl (sym e ∙ told_count)
        where
          few : length (found_from s 2) ≤ 8191
          few = omega (arith, k.count)

          go : (b : Bool) → any_too_high (jumps_in s 0 (found_from s 2)) ≡ b → Ok m ≡ cond b (Err TargetTooHigh) (Ok (0 + length (without_line lines (jumps_in s 0 (found_from s 2))))) → IndexedIs s lines marked m
          go true f g = let z : ◌≡◌ {A = ℕ} 0 1 = cc in absurd (omega arith)
          go false f g =
              let size : m ≡ 0 + length (without_line lines (jumps_in s 0 (found_from s 2))) = cc in
              let bits : jump_bits marked s 0 (found_from s 2) ≡ field_bits (jump_fields (without_line lines (jumps_in s 0 (found_from s 2)))) = all_bits marked s 0 (found_from s 2) ∙ each_bits_lem marks (jumps_in s 0 (found_from s 2)) f in
              let lined : index_lines s (found_from s 2) ≡ done (record { lines = map index_line (found_from s 2); jumps = jumps_in s 0 (found_from s 2) }) = simp (le-ltb _ _ few, f) in
              record { is = read ∙ lined; bits = bits; size = ap length bits ∙ omega (arith, jumps_length (without_line lines (jumps_in s 0 (found_from s 2)))) }

  pub index_is : {r : Result ℕ Refusal} → CountedIs [] 0 (low_targets s (found_from s 2)) 2097152 r → {m : ℕ} → n ≤ 8191 → r ≡ Ok m → IndexIs s n m
  index_is c {m} h e =
      let k₂ : IndexedIs s [] [] m = indexed_is c none_marked h e in
      let number : length (map index_line (found_from s 2)) ≡ n = length-map (found_from s 2) index_line ∙ sym k.count in
      let bits : jump_bits [] s 0 (found_from s 2) ≡ field_bits (jump_fields (jumps_in s 0 (found_from s 2))) = k₂.bits ∙ ap (λ (x : List IndexJump). field_bits (jump_fields x)) (all_without (jumps_in s 0 (found_from s 2))) in
      record {
        is = index_done s k₂.is ∙ ap done (packs (jumps_in s 0 (found_from s 2)) bits number);
        long =
            pack_length (index_bits s n) 0 0 (omega arith)
            ∙ omega (arith, length-append (bits_of 16 n) (line_bits (found_from s 2) ++ jump_bits [] s 0 (found_from s 2)), length-append (line_bits (found_from s 2)) (jump_bits [] s 0 (found_from s 2)), length_bits 16 n, lines_length (found_from s 2), k₂.size, k.count);
      }
    where
      packs : (js : List IndexJump) → jump_bits [] s 0 (found_from s 2) ≡ field_bits (jump_fields js) → length (map index_line (found_from s 2)) ≡ n
          → packed (index_fields (record { lines = map index_line (found_from s 2); jumps = js })) ≡ pack_from 0 0 (index_bits s n)
      packs js bits number = index_packs (map index_line (found_from s 2)) js ∙ ap (pack_from 0 0) (
          ap (λ (x : ℕ). bits_of 16 x ++ (field_bits (line_fields (map index_line (found_from s 2))) ++ field_bits (jump_fields js))) number
          ∙ ap (λ (x : List ℕ). bits_of 16 n ++ (x ++ field_bits (jump_fields js))) (sym (lines_bits (found_from s 2)))
          ∙ ap (λ (x : List ℕ). bits_of 16 n ++ (line_bits (found_from s 2) ++ x)) (sym bits))

-- ---- the answers

module _ (out : List ℕ) {s : List ℕ} {n : ℕ} (k : Faultless s n) where
  pub answer_many : 8191 < n → ◌≡◌ {A = Lent} (record { answer = refused too_many_lines; buffer = out }) (into_buffer (line_index s) out)
  answer_many h = into_refused out (line_index s) (ap (map_done length) (sym (index_refused s (too_many k h))))

  module _ (h : n ≤ 8191) {r : Result ℕ Refusal} (c : CountedIs [] 0 (low_targets s (found_from s 2)) 2097152 r) where
    pub answer_high : {f : Refusal} → r ≡ Err f → ◌≡◌ {A = Lent} (record { answer = refused (numbered f); buffer = out }) (into_buffer (line_index s) out)
    answer_high {f} e =
        let high : f ≡ TargetTooHigh = subst (AtMost 2097152) e c.few in
        rw high (into_refused out (line_index s) (ap (map_done length) (sym (index_refused s (too_high k c none_marked h (e ∙ ap Err high))))))

    module _ {m : ℕ} (e : r ≡ Ok m) where
      needed : done ((23 + 32 * n + 29 * m) / 8) ≡ map_done length (line_index s)
      needed = ap done (sym (index_is k c h e).long) ∙ ap (map_done length) (sym (index_is k c h e).is)

      pub answer_none : length out < (23 + 32 * n + 29 * m) / 8
          → ◌≡◌ {A = Lent} (record { answer = refused (no_room ((23 + 32 * n + 29 * m) / 8)); buffer = out }) (into_buffer (line_index s) out)
      answer_none l = into_none out (line_index s) needed l

      pub answer_room : (23 + 32 * n + 29 * m) / 8 ≤ length out → Room out 0 (pack_from 0 0 (index_bits s n))
      answer_room l = record { room = omega (arith, (index_is k c h e).long) }

      pub answer_done : (23 + 32 * n + 29 * m) / 8 ≤ length out → {q : ℕ} {after : List ℕ} → Put out 0 (pack_from 0 0 (index_bits s n)) q after
          → ◌≡◌ {A = Lent} (record { answer = done q; buffer = after }) (into_buffer (line_index s) out)
      answer_done l p = into_done out (line_index s) (sym (index_is k c h e).is) (subst (HasRoom out) (sym (index_is k c h e).is) (answer_room l)) p

-- ---- from the check of an image

module _ (s : List ℕ) {r : Result Overview Refusal} (e : answered r ≡ overview link_step s) where
  pub check_faultless : {v : Overview} → r ≡ Ok v → Faultless s v.lines
  check_faultless {v} is = go (lines_of link_step s) refl
    where
      seen : overview link_step s ≡ done v
      seen = told_back is e

      go : (a : Answer (List Line)) → lines_of link_step s ≡ a → Faultless s v.lines
      go (done ls) f =
          let w : done v ≡ done (overview_of s ls) = sym seen ∙ overview_lines link_step s f in
          let k = subst (Leads link_step s 2) f (lines_lead link_sound s 2) in
          record {
            sound = f ∙ ap (λ (a : Answer (List Line)). done (lines_listed a)) (sym f);
            count = lines_told ls w ∙ ap (λ (a : Answer (List Line)). length (lines_listed a)) (sym f);
            short = link_sound.long_enough s k.0 k.2;
            long = link_sound.not_too_long s k.0 k.2;
          }
        where
          lines_told : (ls : List Line) → ◌≡◌ {A = Answer Overview} (done v) (done (overview_of s ls)) → v.lines ≡ length ls
          lines_told ls w = let same : ◌≡◌ {A = Overview} v (overview_of s ls) = cc in ap (λ (o : Overview). o.lines) same
      go (refused m) f =
          let w : overview link_step s ≡ refused m = overview_refused link_step s f in
          let z : ◌≡◌ {A = ℕ} 0 1 = cc in
          absurd (omega arith)

  pub checked_refused : {f : Refusal} → r ≡ Err f → indexed s ≡ refused (numbered f)
  unfolding indexed
  checked_refused {f} is = ap (λ (a : Answer (List Line)). and_then a (index_lines s)) (go (lines_of link_step s) refl)
    where
      go : (a : Answer (List Line)) → lines_of link_step s ≡ a → lines_of link_step s ≡ refused (numbered f)
      go (done ls) g =
          let w : overview link_step s ≡ done (overview_of s ls) = overview_lines link_step s g in
          let v : overview link_step s ≡ refused (numbered f) = told_back is e in
          let z : ◌≡◌ {A = ℕ} 0 1 = cc in
          absurd (omega arith)
      go (refused m) g =
          let w : overview link_step s ≡ refused m = overview_refused link_step s g in
          let v : overview link_step s ≡ refused (numbered f) = told_back is e in
          let same : m ≡ numbered f = cc in
          g ∙ ap refused same

  pub check_refused : (out : List ℕ) {f : Refusal} → r ≡ Err f → ◌≡◌ {A = Lent} (record { answer = refused (numbered f); buffer = out }) (into_buffer (line_index s) out)
  check_refused out is = into_refused out (line_index s) (ap (map_done length) (sym (index_refused s (checked_refused is))))
