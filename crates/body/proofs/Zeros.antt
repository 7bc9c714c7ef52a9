-- The loop that looks for a zero in a body: its invariant, a turn, and its ends.
-- Assumes nothing.
use Prim.Native.Nat.{ℕ, zero, suc, ◌+◌, ◌-◌, ◌≤◌, ◌<◌}
use mathlib.Core.Path.{◌≡◌, refl, sym, ap, ◌∙◌}
use mathlib.Core.Bool.{Bool, true, false, cond, not, ◌&&◌, ◌||◌}
use mathlib.Core.List.{List, [], ◌∷◌, ◌++◌}
use native.Mathlib.Omega.{arith}
use lib.Dec.{T, eqb, ltb}
use lib.ListN.{length, get_or, drop, replicate, drop_of_length-le}
use borrow.Author.Tests.{le-ltb, eq-eqb, ne_eqb, eqb-true, not-true}
use mir.Syntax.{w64}
use mir.Val.{Fits}
use Rattle.base_ascii.specs.Bytes.{between, upper}
use Rattle.base_ascii.proofs.Ranges.{between_in}
use Rattle.word_search.specs.Compare.{passes}
use Rattle.word_search.specs.Find.{Entry, first_that, word_in}
use Rattle.word_search.specs.declared.Match.{Match}
use Rattle.std.specs.Prelude.{Option, Some, None}
use Rattle.word_search.specs.declared.Test.TheVariants.{Begins}
use Rattle.word_search.proofs.Search.{and_left, and_right}
use Rattle.word_search.proofs.Sameness.{T_true}
use Rattle.word_tables.specs.Rom.{operators}
use Rattle.word_match.specs.declared.sets.Sets.{Sets}
use Rattle.body.specs.Body.{prefix_of, written, crunched_from, crunched_body}
use Rattle.body_rules.specs.Lexicon.{Lexicon, lexicon}
use Rattle.body_rules.specs.ShortHelpers.{is_short, plain_byte, short_byte, short_mode}
use Rattle.body_rules.specs.Steps.{one, lettered, crunch_step}
use Rattle.body.specs.Zero.{holds_zero}
use Rattle.body_rules.specs.declared.Mode.{Mode}
use Rattle.body_rules.specs.declared.Mode.TheVariants.{Plain, String, Remark, Data, DataQuote}
use Rattle.body_rules.specs.declared.Move.{Move}
use Rattle.body_rules.proofs.Beginnings.{proper, document_proper}
use Rattle.body.proofs.Run.{body_end_lem}
use Rattle.body.proofs.Writing.{body_at, step_within, step_less, step_fits, short_here}

-- ---- zeros of lists

or_false : (a : Bool) → a || false ≡ a
or_false true = refl
or_false false = refl

zero_append : (a b : List ℕ) → holds_zero (a ++ b) ≡ holds_zero a || holds_zero b
unfolding holds_zero
zero_append [] b = refl
zero_append (x ∷ a) b = go (eqb x 0) (zero_append a b)
  where
    go : (r : Bool) → holds_zero (a ++ b) ≡ holds_zero a || holds_zero b → r || holds_zero (a ++ b) ≡ (r || holds_zero a) || holds_zero b
    go true e = refl
    go false e = e

zero_copies : (n b : ℕ) → holds_zero (replicate (suc n) b) ≡ eqb b 0
unfolding holds_zero
zero_copies zero b = or_false (eqb b 0)
zero_copies (suc n) b = go (eqb b 0) (zero_copies n b)
  where
    go : (r : Bool) → holds_zero (replicate (suc n) b) ≡ r → r || holds_zero (replicate (suc n) b) ≡ r
    go true e = refl
    go false e = e

zero_prefix : (prefixed : Bool) (s : List ℕ) → holds_zero (prefix_of prefixed ++ s) ≡ holds_zero s
unfolding holds_zero
zero_prefix true s = refl
zero_prefix false s = refl

-- ---- a byte that gives one by itself gives a zero just where it is one

module _ (b : ℕ) where
  zero_as : (f : ℕ → ℕ) → eqb (f 0) 0 ≡ true → (eqb b 0 ≡ false → eqb (f b) 0 ≡ false) → eqb (f b) 0 ≡ eqb b 0
  zero_as f z n = go (eqb b 0) refl
    where
      go : (x : Bool) → eqb b 0 ≡ x → eqb (f b) 0 ≡ x
      go true e = ap (λ (i : ℕ). eqb (f i) 0) (eqb-true b 0 e) ∙ z
      go false e = n e

  upper_some : eqb b 0 ≡ false → eqb (upper b) 0 ≡ false
  unfolding upper
  upper_some n = go (between 97 122 b) refl
    where
      go : (x : Bool) → between 97 122 b ≡ x → eqb (cond x (b - 32) b) 0 ≡ false
      go true q = ne_eqb (b - 32) 0 (λ z. omega (arith, z, between_in 97 122 b q))
      go false q = n

  lettered_some : eqb b 0 ≡ false → eqb (lettered b) 0 ≡ false
  unfolding lettered
  lettered_some n = go (between 97 122 b) refl (between 65 90 b)
    where
      go : (x : Bool) → between 97 122 b ≡ x → (y : Bool) → eqb (cond x (b - 32) (cond y (b + 0x80) b)) 0 ≡ false
      go true q y = ne_eqb (b - 32) 0 (λ z. omega (arith, z, between_in 97 122 b q))
      go false q true = ne_eqb (b + 0x80) 0 (λ z. omega (arith, z))
      go false q false = n

-- no operator has the token 0
unfoldable some_tokens : List Entry → Bool
some_tokens [] = true
some_tokens (e ∷ es) = not (eqb e.token 0) && some_tokens es

found_some : (p : ℕ → List ℕ → Bool) (es : List Entry) (k : ℕ) {m : Match} → T (some_tokens es) → first_that p es k ≡ Some m → eqb m.token 0 ≡ false
unfolding first_that some_tokens
found_some p [] k t e = let z : ◌≡◌ {A = ℕ} 0 1 = cc in absurd (omega arith)
found_some p (x ∷ es) k {m} t e = go (p k x.word) e (found_some p es (suc k) (and_right (not (eqb x.token 0)) _ t))
  where
    go : (r : Bool) → elim r [ true ↦ Some (record { index = k; used = length x.word; token = x.token }) | false ↦ first_that p es (suc k) ] ≡ Some m
        → (first_that p es (suc k) ≡ Some m → eqb m.token 0 ≡ false) → eqb m.token 0 ≡ false
    go true q f = let z : x.token ≡ m.token = cc in rw (← z) (not-true _ (T_true _ (and_left (not (eqb x.token 0)) _ t)))
    go false q f = f q

operator_some : (b : ℕ) → eqb b 0 ≡ false → eqb (plain_byte b) 0 ≡ false
unfolding plain_byte word_in some_tokens operators
operator_some b n = go (word_in operators (b ∷ [])) refl (eqb b 0x3F)
  where
    go : (w : Option Match) → word_in operators (b ∷ []) ≡ w → (q : Bool) → eqb (elim w [ Some m ↦ m.token | None ↦ cond q 0x99 b ]) 0 ≡ false
    go (Some m) e q = found_some (λ n w. passes Begins w (b ∷ [])) operators 0 tt e
    go None e true = refl
    go None e false = n

zero_alone : (m : Mode) (b : ℕ) → eqb (short_byte m b) 0 ≡ eqb b 0
unfolding short_byte lettered upper plain_byte
zero_alone Plain b = zero_as b plain_byte refl (operator_some b)
zero_alone String b = zero_as b lettered refl (lettered_some b)
zero_alone Remark b = refl
zero_alone Data b = zero_as b upper refl (upper_some b)
zero_alone DataQuote b = zero_as b upper refl (upper_some b)

-- ---- what a step writes

module _ (o : Move) where
  pub writes_none : o.count ≤ 0 → ltb 0 o.count ≡ holds_zero (written o)
  unfolding written holds_zero
  writes_none h =
      let e : o.count ≡ 0 = omega arith in
      le-ltb 0 o.count h ∙ sym (zero_prefix o.prefixed (replicate o.count o.byte) ∙ ap (λ (n : ℕ). holds_zero (replicate n o.byte)) e)

  pub writes_some : 0 < o.count → eqb o.byte 0 ≡ holds_zero (written o)
  unfolding written
  writes_some h = go o.count refl
    where
      go : (n : ℕ) → o.count ≡ n → eqb o.byte 0 ≡ holds_zero (written o)
      go zero e = absurd (omega arith)
      go (suc n) e =
          sym (zero_prefix o.prefixed (replicate o.count o.byte) ∙ ap (λ (i : ℕ). holds_zero (replicate i o.byte)) e ∙ zero_copies n o.byte)

-- ---- the loop

-- no zero in what at bytes of s are crunched to
pub record NoneTo (l : Lexicon) (s : List ℕ) (m : Mode) (at : ℕ) : Type 0 where
  pub within : at ≤ length s
  pub gives : holds_zero (crunched_from l m (drop at s)) ≡ holds_zero (crunched_body l s)

pub none_start : (l : Lexicon) (s : List ℕ) → NoneTo l s Plain 0
none_start l s = record { within = omega arith; gives = refl }

module _ {l : Lexicon} {s : List ℕ} {m : Mode} {at : ℕ} (k : NoneTo l s m at) where
  pub none_end : length s ≤ at → false ≡ holds_zero (crunched_body l s)
  unfolding holds_zero
  none_end h =
      let none : crunched_from l m (drop at s) ≡ [] = rw (drop_of_length-le s h) (body_end_lem l m) in
      sym (ap holds_zero none) ∙ k.gives

  module _ {o : Move} (e : o ≡ crunch_step l m (drop at s)) (h : at < length s) (g : T (proper l)) where
    pub none_less : length s - (at + o.used) < length s - at
    none_less = step_less l s m e h g

    pub none_fits : Fits w64 (length s) → Fits w64 (at + o.used)
    none_fits = step_fits l s m e h g

    parts : holds_zero (written o) || holds_zero (crunched_from l o.mode (drop (at + o.used) s)) ≡ holds_zero (crunched_body l s)
    parts =
        sym (ap holds_zero (body_at l s m e h g) ∙ zero_append (written o) (crunched_from l o.mode (drop (at + o.used) s))) ∙ k.gives

    module _ {x : Bool} (w : x ≡ holds_zero (written o)) where
      pub none_found : x ≡ true → true ≡ holds_zero (crunched_body l s)
      none_found t = ap (λ (b : Bool). b || holds_zero (crunched_from l o.mode (drop (at + o.used) s))) (sym t ∙ w) ∙ parts

      pub none_turn : x ≡ false → NoneTo l s o.mode (at + o.used)
      none_turn f =
          record {
            within = step_within l s m e h g;
            gives = ap (λ (b : Bool). b || holds_zero (crunched_from l o.mode (drop (at + o.used) s))) (sym f ∙ w) ∙ parts;
          }

-- a short byte
module _ (w : Sets) {s : List ℕ} {m : Mode} {at : ℕ} (k : NoneTo (lexicon w) s m at) (h : at < length s) {x : Bool} (t : x ≡ true)
    (e : x ≡ is_short m (get_or s at 0)) where
  writes : eqb (get_or s at 0) 0 ≡ holds_zero (written (one (short_byte m (get_or s at 0)) (short_mode m (get_or s at 0))))
  unfolding written holds_zero
  writes = sym (zero_alone m (get_or s at 0)) ∙ sym (or_false (eqb (short_byte m (get_or s at 0)) 0))

  pub short_found : get_or s at 0 ≡ 0 → true ≡ holds_zero (crunched_body (lexicon w) s)
  short_found z = none_found k (short_here s at m e h w t) h (document_proper w) writes (eq-eqb (get_or s at 0) 0 z)

  pub short_none : {behind : Mode} → behind ≡ short_mode m (get_or s at 0) → (get_or s at 0 ≡ 0 → ⊥) → NoneTo (lexicon w) s behind (at + 1)
  short_none q f = rw q (none_turn k (short_here s at m e h w t) h (document_proper w) writes (ne_eqb (get_or s at 0) 0 f))
