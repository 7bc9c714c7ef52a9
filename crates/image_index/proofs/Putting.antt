-- Writing the lines and the jumps: what is left to write does the rest.
-- Assumes nothing.
use Prim.Native.Nat.{ℕ, ◌+◌, ◌-◌, ◌≤◌, ◌<◌}
use mathlib.Core.Path.{◌≡◌, refl, sym, ap, ◌∙◌, subst}
use mathlib.Core.Bool.{Bool, true, false, cond}
use mathlib.Core.List.{List, [], ◌∷◌, ◌++◌, append-nil}
use native.Mathlib.Omega.{arith}
use lib.ListN.{length}
use mir.Syntax.{w64}
use mir.Val.{Fits}
use Rattle.base_refusals.specs.declared.Refusal.{Refusal}
use Rattle.image_readers.specs.declared.Line.{Line}
use Rattle.image_readers.specs.Bodies.{body_of}
use Rattle.image_readers.specs.Links.{link_step}
use Rattle.image_readers.proofs.ByLinks.{link_sound}
use Rattle.base_refusals.proofs.Tight.{told_back}
use Rattle.image_marks.specs.Marks.{has_mark}
use Rattle.image_units.specs.declared.Mode.TheVariants.{Plain}
use Rattle.image_jumps.specs.declared.Cursor.{Cursor}
use Rattle.image_jumps.specs.declared.Jump.{Jump}
use Rattle.image_jumps.specs.JumpHelpers.{left_of, distance, JumpsTo, NextIs}
use Rattle.image_jumps.proofs.Stepping.{left_text}
use Rattle.base_lent.specs.Stores.{Room, Put}
use Rattle.base_bits.specs.Bits.{bits_of, pack_from}
use Rattle.base_bits.specs.PenHelpers.{Ready, Drawn, drawn}
use Rattle.base_bits.specs.declared.Pen.{Pen}
use Rattle.base_bits.proofs.Bytes.{AreBits, bits_are, are_both}
use Rattle.base_bits.proofs.Pens.{drawn_both, ready_first, ready_behind, put_behind}
use Rattle.image_index.specs.IndexHelpers.{found_from, Sound, low_jumps, pair_bits, line_bits, target_bit, target_bits, jump_bits, index_bits}
use Rattle.image_index.proofs.Sounding.{SoundLine, sound_line, sound_end, sound_refused}
use Rattle.std.specs.Prelude.{Option, Some, None, Result, Ok, Err}
use Rattle.base_refusals.specs.Answer.{answered}

-- ---- bits that are left to write

pub record Owed (out₀ : List ℕ) (pen₀ : Pen) (all out : List ℕ) (pen : Pen) (rest : List ℕ) : Type 0 where
  pub ready : Ready out pen rest
  pub gives : drawn out pen rest ≡ drawn out₀ pen₀ all

owed_start : {out : List ℕ} {pen : Pen} {all rest : List ℕ} → rest ≡ all → Ready out pen all → Owed out pen all out pen rest
owed_start {out} {pen} e r = record { ready = rw e r; gives = ap (drawn out pen) e }

module _ {out₀ : List ℕ} {pen₀ : Pen} {all out : List ℕ} {pen : Pen} {rest : List ℕ} (o : Owed out₀ pen₀ all out pen rest) where
  owed_first : (a b : List ℕ) → rest ≡ a ++ b → Ready out pen a
  owed_first a b e = ready_first a b (rw e at o.ready)

  owed_turn : (a b : List ℕ) → rest ≡ a ++ b → AreBits a → {r : Pen} {after : List ℕ} → record { pen = r; out = after } ≡ drawn out pen a → Owed out₀ pen₀ all after r b
  owed_turn a b e are {r} {after} is =
      record {
        ready = ready_behind a b are (rw e at o.ready) is;
        gives = ap (λ (d : Drawn). drawn d.out d.pen b) is ∙ sym (drawn_both a b out pen) ∙ ap (drawn out pen) (sym e) ∙ o.gives;
      }

  owed_end : rest ≡ [] → record { pen = pen; out = out } ≡ drawn out₀ pen₀ all
  owed_end e = drawn_none ∙ ap (drawn out pen) (sym e) ∙ o.gives
    where
      drawn_none : record { pen = pen; out = out } ≡ drawn out pen []
      drawn_none = unfold drawn in refl

-- ---- a pair of fields

pub pair_are : (w a b : ℕ) → AreBits (pair_bits w a b)
pair_are w a b = are_both (bits_of w a) (bits_of 16 b) (bits_are w a) (bits_are 16 b)

module _ (w a b : ℕ) {out : List ℕ} {pen : Pen} (r : Ready out pen (pair_bits w a b)) where
  pub pair_first : Ready out pen (bits_of w a)
  pair_first = ready_first (bits_of w a) (bits_of 16 b) r

  module _ {p : Pen} {after : List ℕ} (e : record { pen = p; out = after } ≡ drawn out pen (bits_of w a)) where
    pub pair_second : Ready after p (bits_of 16 b)
    pair_second = ready_behind (bits_of w a) (bits_of 16 b) (bits_are w a) r e

    pub pair_drawn : {q : Pen} {last : List ℕ} → record { pen = q; out = last } ≡ drawn after p (bits_of 16 b) → record { pen = q; out = last } ≡ drawn out pen (pair_bits w a b)
    pair_drawn f = f ∙ ap (λ (d : Drawn). drawn d.out d.pen (bits_of 16 b)) e ∙ sym (drawn_both (bits_of w a) (bits_of 16 b) out pen)

-- ---- a jump

module _ (marked : List ℕ) (place target : ℕ) where
  module _ {b : Bool} (e : b ≡ has_mark marked target) where
    kept : b ≡ false → target_bit marked place target ≡ pair_bits 13 place target
    unfolding target_bit
    kept f = simp (sym e ∙ f)

    pub kept_ready : {out : List ℕ} {pen : Pen} → b ≡ false → Ready out pen (target_bit marked place target) → Ready out pen (pair_bits 13 place target)
    kept_ready f r = rw (kept f) at r

    pub kept_drawn : (out : List ℕ) (pen : Pen) {d : Drawn} → b ≡ false → d ≡ drawn out pen (pair_bits 13 place target) → d ≡ drawn out pen (target_bit marked place target)
    kept_drawn out pen f g = g ∙ ap (drawn out pen) (sym (kept f))

    pub left_drawn : {out : List ℕ} {pen : Pen} → b ≡ true → record { pen = pen; out = out } ≡ drawn out pen (target_bit marked place target)
    unfolding drawn target_bit
    left_drawn f = simp (sym e ∙ f)

  pub target_are : AreBits (target_bit marked place target)
  unfolding target_bit
  target_are = go (has_mark marked target)
    where
      go : (t : Bool) → AreBits (cond t [] (pair_bits 13 place target))
      go true = tt
      go false = pair_are 13 place target

-- ---- the loop over a body

pub record PuttingBody (marked : List ℕ) (place : ℕ) (body out₀ : List ℕ) (pen₀ : Pen) (out : List ℕ) (pen : Pen) (c : Cursor) : Type 0 where
  pub owed : Owed out₀ pen₀ (target_bits marked place (low_jumps body)) out pen (target_bits marked place (left_of body c))

pub body_start : {marked : List ℕ} {place : ℕ} {body out : List ℕ} {pen : Pen} {c : Cursor} → c ≡ record { at = 0; mode = Plain; listed = false; part = None }
    → Ready out pen (target_bits marked place (low_jumps body)) → PuttingBody marked place body out pen out pen c
body_start {marked} {place} {body} e r =
    record { owed = owed_start (ap (λ (x : Cursor). target_bits marked place (left_of body x)) e ∙ ap (target_bits marked place) (left_text body (record { at = 0; mode = Plain; listed = false; part = None }) refl)) r }

targets_more : (marked : List ℕ) (place t : ℕ) (ts : List ℕ) → target_bits marked place (t ∷ ts) ≡ target_bit marked place t ++ target_bits marked place ts
unfolding target_bits
targets_more marked place t ts = refl

targets_none : (marked : List ℕ) (place : ℕ) → target_bits marked place [] ≡ []
unfolding target_bits
targets_none marked place = refl

module _ {marked : List ℕ} {place : ℕ} {body out₀ : List ℕ} {pen₀ : Pen} {out : List ℕ} {pen : Pen} {c : Cursor}
    (k : PuttingBody marked place body out₀ pen₀ out pen c) {r : Option Jump} (next : NextIs body c r) where
  module _ {j : Jump} (is : r ≡ Some j) where
    jumped : JumpsTo body c j.target j.cursor
    jumped = subst (NextIs body c) is next

    pub body_less : distance body j.cursor < distance body c
    body_less = jumped.nearer

    here : target_bits marked place (left_of body c) ≡ target_bit marked place j.target ++ target_bits marked place (left_of body j.cursor)
    here = ap (target_bits marked place) jumped.same ∙ targets_more marked place j.target (left_of body j.cursor)

    pub body_ready : Ready out pen (target_bit marked place j.target)
    body_ready = owed_first k.owed (target_bit marked place j.target) (target_bits marked place (left_of body j.cursor)) here

    pub body_turn : {q : Pen} {after : List ℕ} → record { pen = q; out = after } ≡ drawn out pen (target_bit marked place j.target) → PuttingBody marked place body out₀ pen₀ after q j.cursor
    body_turn g = record { owed = owed_turn k.owed (target_bit marked place j.target) (target_bits marked place (left_of body j.cursor)) here (target_are marked place j.target) g }

  pub body_end_lem : r ≡ None → record { pen = pen; out = out } ≡ drawn out₀ pen₀ (target_bits marked place (low_jumps body))
  body_end_lem is = owed_end k.owed (ap (target_bits marked place) (subst (NextIs body c) is next) ∙ targets_none marked place)

pub targets_are : (marked : List ℕ) (place : ℕ) (ts : List ℕ) → AreBits (target_bits marked place ts)
unfolding target_bits
targets_are marked place [] = tt
targets_are marked place (t ∷ ts) = are_both (target_bit marked place t) (target_bits marked place ts) (target_are marked place t) (targets_are marked place ts)

-- ---- the loop over the lines

pub record PuttingLines (s out₀ : List ℕ) (pen₀ : Pen) (out : List ℕ) (pen : Pen) (p : ℕ) : Type 0 where
  pub sound : Sound s p
  pub owed : Owed out₀ pen₀ (line_bits (found_from s 2)) out pen (line_bits (found_from s p))

pub lines_start : {s out : List ℕ} {pen : Pen} → Sound s 2 → Ready out pen (line_bits (found_from s 2)) → PuttingLines s out pen out pen 2
lines_start sound r = record { sound = sound; owed = owed_start refl r }

lines_more : (l : Line) (ls : List Line) → line_bits (l ∷ ls) ≡ pair_bits 16 l.number (l.from - 4) ++ line_bits ls
unfolding line_bits
lines_more l ls = refl

lines_none : line_bits [] ≡ []
unfolding line_bits
lines_none = refl

module _ {s out₀ : List ℕ} {pen₀ : Pen} {out : List ℕ} {pen : Pen} {p : ℕ} (k : PuttingLines s out₀ pen₀ out pen p) {r : Result (Option Line) Refusal} (e : answered r ≡ link_step s p) where
  module _ {l : Line} (is : r ≡ Ok (Some l)) where
    at : SoundLine s p l
    at = sound_line s p e k.sound is

    line_here : line_bits (found_from s p) ≡ pair_bits 16 l.number (l.from - 4) ++ line_bits (found_from s l.next)
    line_here = ap line_bits at.line ∙ lines_more l (found_from s l.next)

    pub line_low : 4 ≤ l.from
    line_low = omega (arith, at.lies)

    pub line_less : length s - l.next < length s - p
    line_less = omega (arith, at.lies)

    module _ {n : ℕ} (number : n ≡ l.number) where
      pub line_ready : Ready out pen (pair_bits 16 n (l.from - 4))
      line_ready = rw number (owed_first k.owed (pair_bits 16 l.number (l.from - 4)) (line_bits (found_from s l.next)) line_here)

      pub line_turn : {q : Pen} {after : List ℕ} → record { pen = q; out = after } ≡ drawn out pen (pair_bits 16 n (l.from - 4)) → PuttingLines s out₀ pen₀ after q l.next
      line_turn g =
          record {
            sound = at.behind;
            owed = owed_turn k.owed (pair_bits 16 l.number (l.from - 4)) (line_bits (found_from s l.next)) line_here (pair_are 16 l.number (l.from - 4)) (rw number at g);
          }

  pub line_end : r ≡ Ok None → record { pen = pen; out = out } ≡ drawn out₀ pen₀ (line_bits (found_from s 2))
  line_end is = owed_end k.owed (ap line_bits (sound_end s p e k.sound is) ∙ lines_none)

  pub line_fault : {f : Refusal} → r ≡ Err f → record { pen = pen; out = out } ≡ drawn out₀ pen₀ (line_bits (found_from s 2))
  line_fault is = absurd (sound_refused s p e k.sound is)

-- ---- the loop over the lines' jumps

pub record PuttingJumps (marked s out₀ : List ℕ) (pen₀ : Pen) (out : List ℕ) (pen : Pen) (p v : ℕ) : Type 0 where
  pub sound : Sound s p
  pub few : v ≤ p
  pub owed : Owed out₀ pen₀ (jump_bits marked s 0 (found_from s 2)) out pen (jump_bits marked s v (found_from s p))

pub jumps_start : {marked s out : List ℕ} {pen : Pen} → Sound s 2 → Ready out pen (jump_bits marked s 0 (found_from s 2)) → PuttingJumps marked s out pen out pen 2 0
jumps_start sound r = record { sound = sound; few = omega arith; owed = owed_start refl r }

jumps_more : (marked s : List ℕ) (v : ℕ) (l : Line) (ls : List Line)
    → jump_bits marked s v (l ∷ ls) ≡ target_bits marked (v + 1) (low_jumps (body_of s l)) ++ jump_bits marked s (v + 1) ls
unfolding jump_bits
jumps_more marked s v l ls = refl

jumps_none : (marked s : List ℕ) (v : ℕ) → jump_bits marked s v [] ≡ []
unfolding jump_bits
jumps_none marked s v = refl

module _ {marked s out₀ : List ℕ} {pen₀ : Pen} {out : List ℕ} {pen : Pen} {p v : ℕ} (k : PuttingJumps marked s out₀ pen₀ out pen p v) {r : Result (Option Line) Refusal}
    (e : answered r ≡ link_step s p) where
  module _ {l : Line} (is : r ≡ Ok (Some l)) where
    found : SoundLine s p l
    found = sound_line s p e k.sound is

    jumps_here : jump_bits marked s v (found_from s p) ≡ target_bits marked (v + 1) (low_jumps (body_of s l)) ++ jump_bits marked s (v + 1) (found_from s l.next)
    jumps_here = ap (jump_bits marked s v) found.line ∙ jumps_more marked s v l (found_from s l.next)

    pub jumps_runs : l.from ≤ l.to
    jumps_runs = found.lies.runs

    pub jumps_within : l.to ≤ length s
    jumps_within = omega (arith, found.lies)

    pub jumps_less : length s - l.next < length s - p
    jumps_less = omega (arith, found.lies)

    pub place_fits : Fits w64 (v + 1)
    place_fits = record { fits = omega (arith, k.few, found.lies, link_sound.not_too_long s p (told_back is e)) }

    pub jumps_ready : Ready out pen (target_bits marked (v + 1) (low_jumps (body_of s l)))
    jumps_ready = owed_first k.owed (target_bits marked (v + 1) (low_jumps (body_of s l))) (jump_bits marked s (v + 1) (found_from s l.next)) jumps_here

    pub jumps_turn : {q : Pen} {after : List ℕ} → record { pen = q; out = after } ≡ drawn out pen (target_bits marked (v + 1) (low_jumps (body_of s l)))
        → PuttingJumps marked s out₀ pen₀ after q l.next (v + 1)
    jumps_turn g =
        record {
          sound = found.behind;
          few = omega (arith, k.few, found.lies);
          owed =
              owed_turn k.owed (target_bits marked (v + 1) (low_jumps (body_of s l))) (jump_bits marked s (v + 1) (found_from s l.next)) jumps_here
              (targets_are marked (v + 1) (low_jumps (body_of s l))) g;
        }

  pub jumps_end : r ≡ Ok None → record { pen = pen; out = out } ≡ drawn out₀ pen₀ (jump_bits marked s 0 (found_from s 2))
  jumps_end is = owed_end k.owed (ap (jump_bits marked s v) (sound_end s p e k.sound is) ∙ jumps_none marked s v)

  pub jumps_fault : {f : Refusal} → r ≡ Err f → record { pen = pen; out = out } ≡ drawn out₀ pen₀ (jump_bits marked s 0 (found_from s 2))
  jumps_fault is = absurd (sound_refused s p e k.sound is)

-- ---- all of an index

lines_are : (ls : List Line) → AreBits (line_bits ls)
unfolding line_bits
lines_are [] = tt
lines_are (l ∷ ls) = are_both (pair_bits 16 l.number (l.from - 4)) (line_bits ls) (pair_are 16 l.number (l.from - 4)) (lines_are ls)

pub jumps_are : (marked s : List ℕ) (v : ℕ) (ls : List Line) → AreBits (jump_bits marked s v ls)
unfolding jump_bits
jumps_are marked s v [] = tt
jumps_are marked s v (l ∷ ls) =
    are_both (target_bits marked (v + 1) (low_jumps (body_of s l))) (jump_bits marked s (v + 1) ls) (targets_are marked (v + 1) (low_jumps (body_of s l))) (jumps_are marked s (v + 1) ls)

module _ (s : List ℕ) (n : ℕ) {out : List ℕ} {p₀ : Pen} (room : Room out 0 (pack_from 0 0 (index_bits s n))) (fresh : p₀ ≡ record { at = 0; value = 0; count = 0 }) where
  lb : List ℕ
  lb = line_bits (found_from s 2)

  jb : List ℕ
  jb = jump_bits [] s 0 (found_from s 2)

  r₀ : Ready out p₀ (bits_of 16 n ++ (lb ++ jb))
  unfolding lb jb
  r₀ = rw fresh (record { sharp = record { few = omega arith; small = omega arith }; room = room })

  pub index_first : Ready out p₀ (bits_of 16 n)
  index_first = ready_first (bits_of 16 n) (lb ++ jb) r₀

  module _ {p₁ : Pen} {o₁ : List ℕ} (e₁ : record { pen = p₁; out = o₁ } ≡ drawn out p₀ (bits_of 16 n)) where
    r₁ : Ready o₁ p₁ (lb ++ jb)
    r₁ = ready_behind (bits_of 16 n) (lb ++ jb) (bits_are 16 n) r₀ e₁

    pub index_second : Ready o₁ p₁ (line_bits (found_from s 2))
    unfolding lb
    index_second = ready_first lb jb r₁

    module _ {p₂ : Pen} {o₂ : List ℕ} (e₂ : record { pen = p₂; out = o₂ } ≡ drawn o₁ p₁ (line_bits (found_from s 2))) where
      r₂ : Ready o₂ p₂ jb
      unfolding lb
      r₂ = ready_behind lb jb (lines_are (found_from s 2)) r₁ e₂

      pub index_third : Ready o₂ p₂ (jump_bits [] s 0 (found_from s 2))
      unfolding jb
      index_third = r₂

      module _ {p₃ : Pen} {o₃ : List ℕ} (e₃ : record { pen = p₃; out = o₃ } ≡ drawn o₂ p₂ (jump_bits [] s 0 (found_from s 2))) where
        pub index_last : Ready o₃ p₃ []
        unfolding jb
        index_last = ready_behind jb [] (jumps_are [] s 0 (found_from s 2)) (rw append-nil r₂) e₃

        pub index_put : {r : ℕ} {after : List ℕ} → Put o₃ p₃.at (pack_from p₃.value p₃.count []) r after → Put out 0 (pack_from 0 0 (index_bits s n)) r after
        unfolding lb jb
        index_put {r} {after} q =
            let q₂ : Put o₂ p₂.at (pack_from p₂.value p₂.count jb) r after = rw append-nil at (put_behind jb [] p₂ e₃ q) in
            let q₁ = put_behind lb jb p₁ e₂ q₂ in
            rw fresh at (put_behind (bits_of 16 n) (lb ++ jb) p₀ e₁ q₁)
