-- Every step takes text, and no more than there is.
-- Assumes nothing.
use Prim.Native.Nat.{ℕ, ◌<◌}
use mathlib.Core.Path.{◌≡◌, refl}
use mathlib.Core.Bool.{Bool, true, false, ◌&&◌, false≢true}
use mathlib.Core.List.{List, [], ◌∷◌}
use native.Mathlib.Decide.{dec_lt}
use native.Mathlib.Omega.{arith}
use lib.Dec.{T, eqb, ltb}
use lib.ListN.{length, get_or, take, get_or-eq_default}
use borrow.Author.Tests.{eqb-true, ltb-true}
use Rattle.base_ascii.specs.Bytes.{upper}
use Rattle.word_search.specs.Find.{word_in}
use Rattle.word_search.specs.declared.Match.{Match}
use Rattle.std.specs.Prelude.{Option, Some, None}
use Rattle.escape_bytes.specs.Escape.{escape_of}
use Rattle.base_ascii.specs.Search.{equals, before}
use Rattle.escape_bytes.specs.declared.Escape.{Escape}
use Rattle.word_match.specs.Sets.{live_word, plain_word}
use Rattle.body_short_forms.specs.Forms.{form_word}
use Rattle.body_short_forms.proofs.Standing.{form_takes}
use Rattle.body_rules.specs.Lexicon.{Lexicon}
use Rattle.body_rules.specs.Steps.{first, one, token, opened, other_step, sign_step, form_step, plain_step, lettered, string_byte, escaped, braced, string_step, data_step, data_quote_step, crunch_step}
use Rattle.body_rules.specs.declared.Mode.{Mode}
use Rattle.body_rules.specs.declared.Mode.TheVariants.{Plain, String, Remark, Data, DataQuote}
use Rattle.body_rules.specs.declared.Move.{Move}
use Rattle.body_rules.proofs.Beginnings.{proper, Takes, word_takes, live_takes, tsb_start, plain_word_takes, operators_start}

-- the move takes text
abbrev Moves : List ℕ → Move → Type 0
Moves t o = Takes t o.used

-- what holds in each case holds
by_test : (t : List ℕ) (r : Bool) (x y : Move) → (r ≡ true → Moves t x) → (r ≡ false → Moves t y)
    → Moves t (elim r [ true ↦ x | false ↦ y ])
by_test t true x y f g = f refl
by_test t false x y f g = g refl

by_match : (t : List ℕ) (m : Option Match) (x : Match → Move) (y : Move) → ((w : Match) → m ≡ Some w → Moves t (x w)) → (m ≡ None → Moves t y)
    → Moves t (elim m [ Some w ↦ x w | None ↦ y ])
by_match t (Some w) x y f g = f w refl
by_match t None x y f g = g refl

module _ (t : List ℕ) (h : 0 < length t) where
  one_takes : Takes t 1
  one_takes = record { more = omega arith; most = omega arith }

  two_takes : (eqb (first t) 0xCF && eqb (get_or t 1 0) 0x80) ≡ true → Takes t 2
  two_takes e = go (eqb (first t) 0xCF) e
    where
      long : get_or t 1 0 ≡ 0x80 → Dec (1 < length t) → Takes t 2
      long q (yes l) = record { more = omega arith; most = omega arith }
      long q (no n) = absurd (omega (arith, q, get_or-eq_default t 0 {n = 1} (omega arith)))

      go : (r : Bool) → (r && eqb (get_or t 1 0) 0x80) ≡ true → Takes t 2
      go true q = long (eqb-true _ _ q) (dec_lt _ _)
      go false q = absurd (false≢true q)

  other_takes : Moves t (other_step t)
  unfolding other_step
  other_takes =
      by_test t (eqb (first t) 0xCF && eqb (get_or t 1 0) 0x80) (token false 0xFF Plain 2) _ two_takes
      (λ _. by_test t (eqb (first t) 0x3F) (one 0x99 Plain) (one (upper (first t)) Plain) (λ _. one_takes) (λ _. one_takes))

  module _ (l : Lexicon) (g : T (proper l)) where
    form_step_takes : Moves t (form_step l t)
    unfolding form_step sign_step
    form_step_takes =
        by_match t (form_word l.sets l.tsb l.v2 t) (λ w. token false w.token (opened w.token) w.used) _
        (λ w e. let r = form_takes l.sets l.tsb l.v2 t e in record { more = r.0; most = r.1 }) (λ _.
        by_match t (word_in l.operators t) (λ w. token false w.token Plain w.used) (other_step t)
        (λ w e. word_takes false l.operators (operators_start l g) t e) (λ _. other_takes))

    plain_takes : Moves t (plain_step l t)
    unfolding plain_step
    plain_takes =
        by_test t (eqb (first t) 0x22) (one 0x22 String) _ (λ _. one_takes) (λ _.
        by_match t (live_word l.sets l.tsb t) (λ w. token true w.token Plain w.used) _ (λ w e. live_takes true l.tsb (tsb_start l g) t l.sets e) (λ _.
        by_match t (plain_word l.sets l.v2 l.basic35 t) (λ w. token false w.token (opened w.token) w.used) _ (λ w e. plain_word_takes l g t e) (λ _. form_step_takes)))

  byte_takes : (b : ℕ) → Moves t (string_byte b)
  unfolding string_byte
  byte_takes b = by_test t (eqb b 0x22) (one 0x22 Plain) (one (lettered b) String) (λ _. one_takes) (λ _. one_takes)

escape_takes : (b : ℕ) (s : List ℕ) (n : ℕ) → n < length s → (x : Option Escape) → Moves (b ∷ s) (escaped n x)
unfolding escaped
escape_takes b s n h (Some e) = record { more = omega arith; most = omega arith }
escape_takes b s n h None = byte_takes (b ∷ s) (omega arith) 0x7B

brace_takes : (b : ℕ) (s : List ℕ) (n : ℕ) → Moves (b ∷ s) (braced s n)
unfolding braced
brace_takes b s n =
    by_test (b ∷ s) (ltb n (length s)) (escaped n (escape_of (take n s))) (string_byte 0x7B)
    (λ e. escape_takes b s n (ltb-true _ _ e) (escape_of (take n s))) (λ _. byte_takes (b ∷ s) (omega arith) 0x7B)

string_takes : (t : List ℕ) → 0 < length t → Moves t (string_step t)
unfolding string_step
string_takes [] h = absurd (omega arith)
string_takes (b ∷ s) h =
    by_test (b ∷ s) (eqb b 0x7B) (braced s (before (equals 0x7D) s)) (string_byte b)
    (λ _. brace_takes b s (before (equals 0x7D) s)) (λ _. byte_takes (b ∷ s) h b)

pub step_takes : (l : Lexicon) → T (proper l) → (m : Mode) (t : List ℕ) → 0 < length t → Takes t (crunch_step l m t).used
unfolding crunch_step data_step data_quote_step
step_takes l g Plain t h = plain_takes t h l g
step_takes l g String t h = string_takes t h
step_takes l g Remark t h = one_takes t h
step_takes l g Data t h =
    by_test t (eqb (first t) 0x22) (one 0x22 DataQuote) _ (λ _. one_takes t h)
    (λ _. by_test t (eqb (first t) 0x3A) (one 0x3A Plain) (one (upper (first t)) Data) (λ _. one_takes t h) (λ _. one_takes t h))
step_takes l g DataQuote t h =
    by_test t (eqb (first t) 0x22) (one 0x22 Data) (one (upper (first t)) DataQuote) (λ _. one_takes t h) (λ _. one_takes t h)
