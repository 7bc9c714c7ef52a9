-- The loops over a body: the one that writes it into a lent buffer, the one that measures it, and the one that writes a byte so many
-- times; for each its invariant, a turn, and its ends.
-- Assumes nothing.
use Prim.Native.Nat.{ℕ, ◌+◌, ◌-◌, ◌≤◌, ◌<◌, min}
use mathlib.Core.Path.{◌≡◌, refl, sym, ap, ◌∙◌}
use mathlib.Core.Bool.{Bool, true, false}
use mathlib.Core.List.{List, [], ◌++◌}
use native.Mathlib.Omega.{arith}
use lib.Dec.{T}
use lib.ListN.{length, get_or, take, drop, set, replicate, length-append, length-drop, length-replicate, drop_of_length-le}
use lib.Seq.{sets, drop-drop, length-take-le}
use mir.Syntax.{w64}
use mir.Val.{Fits, bool_byte}
use borrow.Rule.Slice.PartMut.{put_mid}
use Rattle.std.proofs.Common.{append_assoc}
use Rattle.std.proofs.lemmas.List.Edits.{sets-eq}
use Rattle.base_lent.specs.Stores.{Room, Put}
use Rattle.base_lent.proofs.Storing.{put_long, put_as, room_as, room_first, room_second, put_both, put_none}
use Rattle.body.specs.Body.{prefix_of, written, crunched_from, crunched_body}
use Rattle.word_match.specs.declared.sets.Sets.{Sets}
use Rattle.body_rules.specs.Lexicon.{Lexicon, lexicon}
use Rattle.body_rules.specs.ShortHelpers.{is_short, short_byte, short_mode, is_long, long_step}
use Rattle.body_rules.specs.Steps.{first, one, crunch_step}
use Rattle.body_rules.specs.declared.Mode.{Mode}
use Rattle.body_rules.specs.declared.Mode.TheVariants.{Plain}
use Rattle.body_rules.specs.declared.Move.{Move}
use Rattle.body_rules.proofs.Beginnings.{proper, Takes, document_proper}
use Rattle.body.proofs.Progress.{step_takes}
use Rattle.body_rules.proofs.ShortSteps.{short_step, long_known, long_step_lem, first_at}
use Rattle.body.proofs.Run.{length_prefix, length_written, body_end_lem, body_step}

-- ---- a step at a place of a body

module _ (l : Lexicon) (s : List ℕ) (m : Mode) {at : ℕ} {o : Move} (e : o ≡ crunch_step l m (drop at s)) (h : at < length s) (g : T (proper l)) where
  some : 0 < length (drop at s)
  some = omega (arith, length-drop at s)

  takes : Takes (drop at s) o.used
  takes = rw e (step_takes l g m (drop at s) some)

  -- what is owed at a place, taken apart: the step, and what is owed behind it
  pub body_at : crunched_from l m (drop at s) ≡ written o ++ crunched_from l o.mode (drop (at + o.used) s)
  body_at = rw (← drop-drop o.used at s) (body_step l g m (drop at s) some e)

  pub step_within : at + o.used ≤ length s
  step_within = omega (arith, takes.most, length-drop at s)

  pub step_less : length s - (at + o.used) < length s - at
  step_less = omega (arith, takes.more, step_within)

  pub step_fits : Fits w64 (length s) → Fits w64 (at + o.used)
  step_fits f = record { fits = omega (arith, f.fits, step_within) }

-- ---- the step at a byte that is short, or long, in its mode

module _ (s : List ℕ) (at : ℕ) (m : Mode) {x : Bool} (e : x ≡ is_short m (get_or s at 0)) where
  pub long_byte : x ≡ false → is_long (get_or s at 0) ≡ true
  long_byte f = long_known m (get_or s at 0) (sym e ∙ f)

  module _ (h : at < length s) where
    asked : x ≡ is_short m (first (drop at s))
    asked = e ∙ ap (is_short m) (sym (first_at s at h))

    pub short_here : (w : Sets) → x ≡ true → one (short_byte m (get_or s at 0)) (short_mode m (get_or s at 0)) ≡ crunch_step (lexicon w) m (drop at s)
    short_here w t =
        ap (λ (b : ℕ). one (short_byte m b) (short_mode m b)) (sym (first_at s at h))
        ∙ short_step w m (drop at s) (omega (arith, length-drop at s)) (sym asked ∙ t)

    pub long_here : (w : Sets) {o : Move} → o ≡ long_step (lexicon w) (drop at s) → x ≡ false → o ≡ crunch_step (lexicon w) m (drop at s)
    long_here w q f = q ∙ long_step_lem w m (drop at s) (sym asked ∙ f)

-- ---- writing

-- at bytes of s are crunched, and n bytes written: with what is owed, the whole body is written into the first buffer
pub record Owed (l : Lexicon) (s first : List ℕ) (m : Mode) (out : List ℕ) (n at : ℕ) : Type 0 where
  pub within : at ≤ length s
  pub sized : length out ≡ length first
  pub room : Room out n (crunched_from l m (drop at s))
  pub gives : (behind : ℕ) (after : List ℕ) → Put out n (crunched_from l m (drop at s)) behind after → Put first 0 (crunched_body l s) behind after

pub owed_start : (l : Lexicon) (s out : List ℕ) → Room out 0 (crunched_body l s) → Owed l s out Plain out 0 0
owed_start l s out r = record { within = omega arith; sized = refl; room = r; gives = λ behind after p. p }

module _ {l : Lexicon} {s first : List ℕ} {m : Mode} {out : List ℕ} {n at : ℕ} (k : Owed l s first m out n at) where
  pub owed_end : length s ≤ at → Put first 0 (crunched_body l s) n out
  owed_end h =
      let none : crunched_from l m (drop at s) ≡ [] = rw (drop_of_length-le s h) (body_end_lem l m) in
      k.gives n out (put_as (sym none) (put_none out n))

  module _ {o : Move} (e : o ≡ crunch_step l m (drop at s)) (h : at < length s) (g : T (proper l)) where
    owing : Room out n (written o ++ crunched_from l o.mode (drop (at + o.used) s))
    owing = room_as (sym (body_at l s m e h g)) k.room

    pub owed_less : length s - (at + o.used) < length s - at
    owed_less = step_less l s m e h g

    pub owed_fits : Fits w64 (length s) → Fits w64 (at + o.used)
    owed_fits = step_fits l s m e h g

    pub owed_room : Room out n (written o)
    owed_room = room_first (written o) (crunched_from l o.mode (drop (at + o.used) s)) owing

    pub owed_turn : {behind : ℕ} {after : List ℕ} → Put out n (written o) behind after → Owed l s first o.mode after behind (at + o.used)
    owed_turn p =
        let left = crunched_from l o.mode (drop (at + o.used) s) in
        record {
          within = step_within l s m e h g;
          sized = put_long p ∙ k.sized;
          room = room_second (written o) left owing p;
          gives = λ b a q. k.gives b a (put_as (sym (body_at l s m e h g)) (put_both (written o) left p q));
        }

-- a short byte
module _ (w : Sets) {s first : List ℕ} {m : Mode} {out : List ℕ} {n at : ℕ} (k : Owed (lexicon w) s first m out n at) (h : at < length s) {x : Bool} (t : x ≡ true)
    (e : x ≡ is_short m (get_or s at 0)) where
  pub short_room : n < length out
  unfolding written
  short_room = omega (arith, (owed_room k (short_here s _ m e h w t) h (document_proper w)).room)

  pub short_turn : {b : ℕ} {behind : Mode} → b ≡ short_byte m (get_or s at 0) → behind ≡ short_mode m (get_or s at 0)
      → Owed (lexicon w) s first behind (set out n b) (n + 1) (at + 1)
  unfolding written
  short_turn p q =
      rw (p, q) (owed_turn k (short_here s _ m e h w t) h (document_proper w) (record { ends = omega arith; stored = refl }))

-- ---- measuring

-- at bytes of s are crunched to n bytes, fewer than 65,536
pub record Measured (l : Lexicon) (s : List ℕ) (m : Mode) (n at : ℕ) : Type 0 where
  pub within : at ≤ length s
  pub low : n < 65536
  pub gives : n + length (crunched_from l m (drop at s)) ≡ length (crunched_body l s)

pub measured_start : (l : Lexicon) (s : List ℕ) → Measured l s Plain 0 0
measured_start l s = record { within = omega arith; low = omega arith; gives = omega arith }

module _ {l : Lexicon} {s : List ℕ} {m : Mode} {n at : ℕ} (k : Measured l s m n at) where
  pub measured_end : length s ≤ at → n ≡ min (length (crunched_body l s)) 65536
  measured_end h =
      let none : crunched_from l m (drop at s) ≡ [] = rw (drop_of_length-le s h) (body_end_lem l m) in
      omega (arith, ap length none, k.gives, k.low)

  module _ {o : Move} (e : o ≡ crunch_step l m (drop at s)) (h : at < length s) (g : T (proper l)) where
    pub measured_less : length s - (at + o.used) < length s - at
    measured_less = step_less l s m e h g

    pub measured_fits : Fits w64 (length s) → Fits w64 (at + o.used)
    measured_fits = step_fits l s m e h g

  module _ {o : Move} {r : ℕ} (q : r ≡ min (n + length (written o)) 65536) (e : o ≡ crunch_step l m (drop at s)) (h : at < length s) (g : T (proper l)) where
    parts : length (crunched_from l m (drop at s)) ≡ length (written o) + length (crunched_from l o.mode (drop (at + o.used) s))
    parts = ap length (body_at l s m e h g) ∙ length-append (written o) (crunched_from l o.mode (drop (at + o.used) s))

    pub measured_full : r ≡ 65536 → r ≡ min (length (crunched_body l s)) 65536
    measured_full f = omega (arith, parts, k.gives)

    pub measured_turn : (r ≡ 65536 → ⊥) → Measured l s o.mode r (at + o.used)
    measured_turn f = record { within = step_within l s m e h g; low = omega arith; gives = omega (arith, parts, k.gives) }

-- a short byte
module _ (w : Sets) {s : List ℕ} {m : Mode} {n at : ℕ} (k : Measured (lexicon w) s m n at) (h : at < length s) {x : Bool} (t : x ≡ true)
    (e : x ≡ is_short m (get_or s at 0)) where
  one_longer : n + 1 ≡ min (n + length (written (one (short_byte m (get_or s at 0)) (short_mode m (get_or s at 0))))) 65536
  unfolding written
  one_longer = omega (arith, k.low)

  pub short_full : n + 1 ≡ 65536 → n + 1 ≡ min (length (crunched_body (lexicon w) s)) 65536
  short_full f = measured_full k one_longer (short_here s _ m e h w t) h (document_proper w) f

  pub short_measured : {behind : Mode} → behind ≡ short_mode m (get_or s at 0) → (n + 1 ≡ 65536 → ⊥) → Measured (lexicon w) s behind (n + 1) (at + 1)
  short_measured q f = rw q (measured_turn k one_longer (short_here s _ m e h w t) h (document_proper w) f)

-- a length with what a step writes behind it; the 64 in front of a token counts as its flag does
prefix_long : (prefixed : Bool) → length (prefix_of prefixed) ≡ bool_byte prefixed
prefix_long true = refl
prefix_long false = refl

module _ (n : ℕ) {flag : ℕ} where
  pub prefix_small : (prefixed : Bool) → flag ≡ bool_byte prefixed → n < 65536 → n + flag ≤ 65536
  prefix_small prefixed e h = omega (arith, e, length_prefix prefixed, prefix_long prefixed)

  module _ (o : Move) (e : flag ≡ bool_byte o.prefixed) where
    pub longer_full : 65536 - (n + flag) ≤ o.count → n < 65536 → 65536 ≡ min (n + length (written o)) 65536
    longer_full h k = omega (arith, e, length_prefix o.prefixed, prefix_long o.prefixed, length_written o)

    pub longer_less : o.count < 65536 - (n + flag) → n + flag + o.count ≡ min (n + length (written o)) 65536
    longer_less h = omega (arith, e, prefix_long o.prefixed, length_written o)

-- ---- the 64 in front of a TSB token

module _ {out : List ℕ} {n : ℕ} {prefixed : Bool} where
  pub prefix_room : Room out n (prefix_of prefixed) → prefixed ≡ true → n < length out
  prefix_room r e = omega (arith, r.room, ap (λ (p : Bool). length (prefix_of p)) e)

  pub prefix_put : prefixed ≡ true → Put out n (prefix_of prefixed) (n + 1) (set out n 0x64)
  prefix_put e = rw e (record { ends = omega arith; stored = refl })

  pub prefix_none : prefixed ≡ false → Put out n (prefix_of prefixed) n out
  prefix_none e = rw e (put_none out n)

-- ---- what a step writes

module _ (o : Move) {out : List ℕ} {n : ℕ} where
  pub move_prefix : Room out n (written o) → Room out n (prefix_of o.prefixed)
  unfolding written
  move_prefix r = room_first (prefix_of o.prefixed) (replicate o.count o.byte) r

  module _ {from : ℕ} {half : List ℕ} (p : Put out n (prefix_of o.prefixed) from half) where
    pub move_rest : Room out n (written o) → Room half from (replicate o.count o.byte)
    unfolding written
    move_rest r = room_second (prefix_of o.prefixed) (replicate o.count o.byte) r p

    pub move_put : {behind : ℕ} {after : List ℕ} → Put half from (replicate o.count o.byte) behind after → Put out n (written o) behind after
    unfolding written
    move_put q = put_both (prefix_of o.prefixed) (replicate o.count o.byte) p q

    -- a byte that is written once
    pub one_room : Room out n (written o) → o.count ≡ 1 → from < length half
    one_room r e = omega (arith, (move_rest r).room, ap (λ (k : ℕ). length (replicate k o.byte)) e)

    pub one_put : o.count ≡ 1 → Put out n (written o) (from + 1) (set half from o.byte)
    one_put e = move_put (rw e (record { ends = omega arith; stored = refl }))

-- ---- one byte, count times

module _ {buffer : List ℕ} {at : ℕ} (count byte : ℕ) (r : Room buffer at (replicate count byte)) where
  pub fill_room : at + count ≤ length buffer
  fill_room = omega (arith, r.room, length-replicate count byte)

  -- the part that the copies fill is lent, and comes back with them
  pub fill_put : {part : List ℕ} → part ≡ replicate (length (take (at + count - at) (drop at buffer))) byte
      → Put buffer at (replicate count byte) (at + count) (put_mid at (at + count - at) buffer part)
  fill_put e =
      let k : at + count - at ≡ count = omega arith in
      let m : length (take count (drop at buffer)) ≡ count = length-take-le count (drop at buffer) (omega (arith, fill_room, length-drop at buffer)) in
      let whole : sets buffer at (replicate count byte) ≡ take at buffer ++ (replicate count byte ++ drop (at + count) buffer) =
      rw (length-replicate count byte) at (sets-eq (replicate count byte) buffer at (omega (arith, r.room)))
      ∙ append_assoc (take at buffer) (replicate count byte) (drop (at + count) buffer) in
      record { ends = omega (arith, length-replicate count byte); stored = rw (e, k, m, drop-drop count at buffer) (sym whole) }
