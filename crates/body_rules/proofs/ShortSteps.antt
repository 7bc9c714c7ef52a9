-- The law of the step: a byte that is short in its mode gives one byte, whatever stands behind it; every other is a letter or the first
-- byte of pi in plain mode, or a { in a string.
-- Assumes nothing.
use Prim.Native.Nat.{ℕ, suc, ◌-◌, ◌≤◌, ◌<◌}
use mathlib.Core.Path.{◌≡◌, refl, sym, ap, ◌∙◌}
use mathlib.Core.Bool.{Bool, true, false, cond, not, ◌&&◌, ◌||◌, false≢true, true≢false}
use mathlib.Core.List.{List, [], ◌∷◌}
use mathlib.Core.Logic.{◌⊎◌, inl, inr}
use native.Mathlib.Omega.{arith}
use lib.Dec.{eqb}
use lib.ListN.{length, get_or, take, drop, length-drop}
use borrow.Author.Tests.{eq-eqb, ne_eqb, eqb-true}
use Rattle.base_ascii.specs.Bytes.{upper, between, is_letter}
use Rattle.base_ascii.proofs.Ranges.{between_in, in_between}
use Rattle.base_ascii.proofs.Searching.{tail, here as from_here}
use Rattle.word_search.specs.Compare.{begins, passes}
use Rattle.word_search.specs.Find.{Entry, first_that, word_in}
use Rattle.word_search.specs.declared.Test.TheVariants.{Begins}
use Rattle.word_search.specs.declared.Match.{Match}
use Rattle.std.specs.Prelude.{Option, Some, None}
use Rattle.word_tables.specs.Rom.{operators}
use Rattle.word_match.specs.declared.sets.Sets.{Sets}
use Rattle.body_rules.specs.Lexicon.{lexicon}
use Rattle.body_rules.specs.ShortHelpers.{is_short, plain_byte, short_byte, short_mode, is_long, long_step}
use Rattle.body_rules.specs.Steps.{first, one, token, other_step, plain_step, lettered, string_byte, string_step, data_step, data_quote_step, crunch_step}
use Rattle.body_rules.specs.declared.Mode.{Mode}
use Rattle.body_rules.specs.declared.Mode.TheVariants.{Plain, String, Remark, Data, DataQuote}
use Rattle.body_rules.specs.declared.Move.{Move}
use Rattle.body_rules.proofs.Beginnings.{document_proper, word_takes, Takes, operators_start}
use Rattle.body_rules.proofs.PlainSteps.{plain_quote, other_operator, other_none}

-- ---- what is known in an arm for a mode

module _ {m x : Mode} (b : ℕ) (e : m ≡ x) where
  pub short_in : {r : Bool} → r ≡ is_short x b → r ≡ is_short m b
  short_in q = q ∙ ap (λ (y : Mode). is_short y b) (sym e)

  pub byte_in : {r : ℕ} → r ≡ short_byte x b → r ≡ short_byte m b
  byte_in q = q ∙ ap (λ (y : Mode). short_byte y b) (sym e)

  pub known_in : is_short m b ≡ true → is_short x b ≡ true
  known_in q = ap (λ (y : Mode). is_short y b) (sym e) ∙ q

pub short_known : {x : Bool} (m : Mode) (b : ℕ) → x ≡ true → x ≡ is_short m b → is_short m b ≡ true
short_known m b t e = sym e ∙ t

module _ {b : ℕ} where
  pub short_pi : b ≡ 0xCF → not (eqb b 0xCF) ≡ is_short Plain b
  unfolding is_short
  short_pi e = rw e

  pub short_letter : {x : Bool} → x ≡ is_letter b → (b ≡ 0xCF → ⊥) → not x ≡ is_short Plain b
  unfolding is_short
  short_letter e n = rw (is_short, ne_eqb _ _ n, e)

module _ {m : Mode} (b : ℕ) where
  pub short_always : (m ≡ Remark) ⊎ ((m ≡ Data) ⊎ (m ≡ DataQuote)) → true ≡ is_short m b
  unfolding is_short
  short_always (inl e) = short_in b e refl
  short_always (inr (inl e)) = short_in b e refl
  short_always (inr (inr e)) = short_in b e refl

  pub byte_raised : {r : ℕ} → (m ≡ Data) ⊎ (m ≡ DataQuote) → r ≡ upper b → r ≡ short_byte m b
  unfolding short_byte
  byte_raised (inl e) q = byte_in b e q
  byte_raised (inr e) q = byte_in b e q

  -- the mode behind it: at a byte that changes it, and at any other
  pub behind_at : {x r : Mode} {k : ℕ} → m ≡ x → b ≡ k → r ≡ short_mode x k → r ≡ short_mode m b
  behind_at e f q = rw (e, f) q

  stays : {x : Mode} → m ≡ x → x ≡ short_mode x b → m ≡ short_mode m b
  stays e q = rw e q

  pub stays_plain : m ≡ Plain → (b ≡ 0x22 → ⊥) → m ≡ short_mode m b
  unfolding short_mode
  stays_plain e n = stays e (rw (short_mode, ne_eqb _ _ n))

  pub stays_string : m ≡ String → (b ≡ 0x22 → ⊥) → m ≡ short_mode m b
  unfolding short_mode
  stays_string e n = stays e (rw (short_mode, ne_eqb _ _ n))

  pub stays_data : m ≡ Data → (b ≡ 0x22 → ⊥) → (b ≡ 0x3A → ⊥) → m ≡ short_mode m b
  unfolding short_mode
  stays_data e n k = stays e (rw (short_mode, ne_eqb _ _ n, ne_eqb _ _ k))

  pub stays_data_quote : m ≡ DataQuote → (b ≡ 0x22 → ⊥) → m ≡ short_mode m b
  unfolding short_mode
  stays_data_quote e n = stays e (rw (short_mode, ne_eqb _ _ n))

  pub stays_remark : m ≡ Remark → m ≡ short_mode m b
  unfolding short_mode
  stays_remark e = stays e refl

-- ---- a short byte in plain mode

-- no letter: the byte is its own capital
own_capital : (b : ℕ) → is_letter b ≡ false → upper b ≡ b
unfolding upper between
own_capital b n = go (between 97 122 b) refl n
  where
    go : (x : Bool) → between 97 122 b ≡ x → between 65 90 (cond x (b - 32) b) ≡ false → cond x (b - 32) b ≡ b
    go true q f =
        let r : (97 ≤ b) × (b ≤ 122) = between_in 97 122 b q in
        absurd (false≢true (sym f ∙ in_between 65 90 (b - 32) (omega (arith, r.0)) (omega (arith, r.1))))
    go false q f = refl

-- an operator is one byte: what stands behind it does not matter
operator_alone : (b : ℕ) (s : List ℕ) → word_in operators (b ∷ s) ≡ word_in operators (b ∷ [])
unfolding word_in first_that passes begins operators
operator_alone b s = refl

not_true : (x : Bool) → not x ≡ true → x ≡ false
not_true true e = absurd (false≢true e)
not_true false e = refl

not_false : (x : Bool) → not x ≡ false → x ≡ true
not_false true e = refl
not_false false e = absurd (true≢false e)

not_both : (x y : Bool) → (not x && not y) ≡ true → (x ≡ false) × (y ≡ false)
not_both true y e = absurd (false≢true e)
not_both false y e = (refl, not_true y e)

plain_known : (b : ℕ) → is_short Plain b ≡ true → (eqb b 0xCF ≡ false) × (is_letter b ≡ false)
unfolding is_short
plain_known b e = not_both (eqb b 0xCF) (is_letter b) e

module _ (s : Sets) (b : ℕ) (u : List ℕ) (p : eqb b 0xCF ≡ false) (n : is_letter b ≡ false) where
  plain_other : one (cond (eqb b 0x3F) 0x99 b) Plain ≡ other_step (b ∷ u)
  unfolding other_step
  plain_other = rw (other_step, p) (go (eqb b 0x3F))
    where
      go : (x : Bool) → one (cond x 0x99 b) Plain ≡ elim x [ true ↦ one 0x99 Plain | false ↦ one (upper b) Plain ]
      go true = refl
      go false = ap (λ (c : ℕ). one c Plain) (sym (own_capital b n))

  quote_alone : b ≡ 0x22 → one (plain_byte b) String ≡ plain_step (lexicon s) (b ∷ u)
  unfolding plain_byte
  quote_alone e = plain_quote (lexicon s) (b ∷ u) (ap (λ (c : ℕ). one c String) (rw e)) e

  operator_or_other : (w : Option Match) → w ≡ word_in operators (b ∷ []) → (b ≡ 0x22 → ⊥)
      → one (elim w [ Some m ↦ m.token | None ↦ cond (eqb b 0x3F) 0x99 b ]) Plain ≡ plain_step (lexicon s) (b ∷ u)
  operator_or_other (Some m) f q =
      let r : Takes (b ∷ []) m.used = word_takes false operators (operators_start (lexicon s) (document_proper s)) (b ∷ []) (sym f) in
      let z : 1 ≡ m.used = omega (arith, r.more, r.most) in
      other_operator (lexicon s) (b ∷ u) {w = Some m} (ap (token false m.token Plain) z) refl (f ∙ sym (operator_alone b u)) refl (sym n) q (document_proper s)
  operator_or_other None f q =
      other_none (lexicon s) (b ∷ u) {w = None} plain_other refl (f ∙ sym (operator_alone b u)) refl (sym n) q (document_proper s)

  plain_alone : one (plain_byte b) (cond (eqb b 0x22) String Plain) ≡ plain_step (lexicon s) (b ∷ u)
  unfolding plain_byte
  plain_alone = go (eqb b 0x22) refl
    where
      go : (x : Bool) → eqb b 0x22 ≡ x → one (plain_byte b) (cond x String Plain) ≡ plain_step (lexicon s) (b ∷ u)
      go true e = quote_alone (eqb-true b 0x22 e)
      go false e = operator_or_other (word_in operators (b ∷ [])) refl (λ q. true≢false (sym (eq-eqb b 0x22 q) ∙ e))

-- a byte is none of these, as a `match` says it: the last one first
abbrev pub Apart : List ℕ → ℕ → Type 0
Apart [] b = Unit {0}
Apart (k ∷ ks) b = Apart ks b × (b ≡ k → ⊥)

abbrev sign : ℕ → ℕ → Entry
sign b k = record { word = b ∷ []; token = k }

abbrev signs : List Entry
signs = sign 0x2B 0xAA ∷ sign 0x2D 0xAB ∷ sign 0x2A 0xAC ∷ sign 0x2F 0xAD ∷ sign 0x5E 0xAE ∷ sign 0x3E 0xB1 ∷ sign 0x3D 0xB2 ∷ sign 0x3C 0xB3 ∷ []

operator_list : operators ≡ signs
unfolding operators upper between
operator_list = refl

module _ (b : ℕ) (own : upper b ≡ b) where
  passed : (x k : ℕ) (es : List Entry) (i : ℕ) → upper x ≡ x → (b ≡ x → ⊥) → first_that (λ n w. passes Begins w (b ∷ [])) es (suc i) ≡ None
      → first_that (λ n w. passes Begins w (b ∷ [])) (sign x k ∷ es) i ≡ None
  unfolding first_that passes begins
  passed x k es i p n r =
      let apart : eqb (upper x) (upper b) ≡ false = ap (λ (y : ℕ). eqb y (upper b)) p ∙ ap (eqb x) own ∙ ne_eqb x b (λ e. n (sym e)) in
      ap (λ (y : Bool). elim (elim y as (λ z. Bool) [ true ↦ true | false ↦ false ]) as (λ z. Option Match) [
        | true ↦ Some (record { index = i; used = 1; token = k })
        | false ↦ first_that (λ j w. passes Begins w (b ∷ [])) es (suc i)
      ]) apart ∙ r

  ended : (i : ℕ) → first_that (λ n w. passes Begins w (b ∷ [])) [] i ≡ None
  unfolding first_that
  ended i = refl

  none_first : Apart (0x3C ∷ 0x3D ∷ 0x3E ∷ 0x5E ∷ 0x2F ∷ 0x2A ∷ 0x2D ∷ 0x2B ∷ []) b → first_that (λ n w. passes Begins w (b ∷ [])) signs 0 ≡ None
  unfolding upper between
  none_first a =
      passed 0x2B 0xAA _ 0 refl a.0.0.0.0.0.0.0.1 (passed 0x2D 0xAB _ 1 refl a.0.0.0.0.0.0.1
      (passed 0x2A 0xAC _ 2 refl a.0.0.0.0.0.1 (passed 0x2F 0xAD _ 3 refl a.0.0.0.0.1
      (passed 0x5E 0xAE _ 4 refl a.0.0.0.1 (passed 0x3E 0xB1 _ 5 refl a.0.0.1
      (passed 0x3D 0xB2 _ 6 refl a.0.1 (passed 0x3C 0xB3 _ 7 refl a.1 (ended 8))))))))

  none : Apart (0x3C ∷ 0x3D ∷ 0x3E ∷ 0x5E ∷ 0x2F ∷ 0x2A ∷ 0x2D ∷ 0x2B ∷ []) b → word_in operators (b ∷ []) ≡ None
  unfolding word_in
  none a = ap (λ (es : List Entry). word_in es (b ∷ [])) operator_list ∙ none_first a

pub no_operator : (b : ℕ) → is_short Plain b ≡ true → Apart (0x3F ∷ 0x3C ∷ 0x3D ∷ 0x3E ∷ 0x5E ∷ 0x2F ∷ 0x2A ∷ 0x2D ∷ 0x2B ∷ []) b → b ≡ plain_byte b
unfolding plain_byte
no_operator b e a = go (word_in operators (b ∷ [])) (none b (own_capital b (plain_known b e).1) a.0)
  where
    go : (w : Option Match) → w ≡ None → b ≡ elim w [ Some m ↦ m.token | None ↦ cond (eqb b 0x3F) 0x99 b ]
    go w q = rw (q, ne_eqb _ _ a.1)

-- ---- the law

pub short_step : (s : Sets) (m : Mode) (t : List ℕ) → 0 < length t → is_short m (first t) ≡ true
    → one (short_byte m (first t)) (short_mode m (first t)) ≡ crunch_step (lexicon s) m t
unfolding crunch_step short_byte short_mode is_short string_step string_byte data_step data_quote_step lettered upper between
short_step s m [] h e = absurd (omega arith)
short_step s Plain (b ∷ u) h e = let k = plain_known b e in plain_alone s b u k.0 k.1
short_step s String (b ∷ u) h e = rw (string_step, not_true (eqb b 0x7B) e) (go (eqb b 0x22) refl)
  where
    go : (x : Bool) → eqb b 0x22 ≡ x → one (lettered b) (cond x Plain String) ≡ elim x [ true ↦ one 0x22 Plain | false ↦ one (lettered b) String ]
    go true q = rw (eqb-true b 0x22 q)
    go false q = refl
short_step s Remark (b ∷ u) h e = refl
short_step s Data (b ∷ u) h e = go (eqb b 0x22) refl (eqb b 0x3A) refl
  where
    go : (x : Bool) → eqb b 0x22 ≡ x → (y : Bool) → eqb b 0x3A ≡ y → one (upper b) (cond x DataQuote (cond y Plain Data))
        ≡ elim x [ true ↦ one 0x22 DataQuote | false ↦ elim y [ true ↦ one 0x3A Plain | false ↦ one (upper b) Data ] ]
    go true q y r = rw (eqb-true b 0x22 q)
    go false q true r = rw (eqb-true b 0x3A r)
    go false q false r = refl
short_step s DataQuote (b ∷ u) h e = go (eqb b 0x22) refl
  where
    go : (x : Bool) → eqb b 0x22 ≡ x → one (upper b) (cond x Data DataQuote) ≡ elim x [ true ↦ one 0x22 Data | false ↦ one (upper b) DataQuote ]
    go true q = rw (eqb-true b 0x22 q)
    go false q = refl

-- ---- the other bytes

pub long_known : (m : Mode) (b : ℕ) → is_short m b ≡ false → is_long b ≡ true
unfolding is_short is_long
long_known Plain b e = go (eqb b 0xCF) (is_letter b) e
  where
    go : (x y : Bool) → (not x && not y) ≡ false → (y || (x || eqb b 0x7B)) ≡ true
    go true true f = refl
    go true false f = refl
    go false true f = refl
    go false false f = absurd (true≢false f)
long_known String b e = go (eqb b 0x7B) e
  where
    any : (x y : Bool) → (x || (y || true)) ≡ true
    any true y = refl
    any false true = refl
    any false false = refl

    go : (x : Bool) → not x ≡ false → (is_letter b || (eqb b 0xCF || x)) ≡ true
    go true f = any (is_letter b) (eqb b 0xCF)
    go false f = absurd (true≢false f)
long_known Remark b e = absurd (true≢false e)
long_known Data b e = absurd (true≢false e)
long_known DataQuote b e = absurd (true≢false e)

pub long_step_lem : (s : Sets) (m : Mode) (t : List ℕ) → is_short m (first t) ≡ false → long_step (lexicon s) t ≡ crunch_step (lexicon s) m t
unfolding is_short long_step crunch_step
long_step_lem s Plain t e = go (eqb (first t) 0x7B) refl
  where
    go : (x : Bool) → eqb (first t) 0x7B ≡ x → elim x [ true ↦ string_step t | false ↦ plain_step (lexicon s) t ] ≡ plain_step (lexicon s) t
    go true q = absurd (true≢false (ap (is_short Plain) (sym (eqb-true (first t) 0x7B q)) ∙ e))
    go false q = refl
long_step_lem s String t e = rw (long_step, not_false (eqb (first t) 0x7B) e)
long_step_lem s Remark t e = absurd (true≢false e)
long_step_lem s Data t e = absurd (true≢false e)
long_step_lem s DataQuote t e = absurd (true≢false e)

long_other : (s : Sets) (t : List ℕ) {r : Move} → r ≡ plain_step (lexicon s) t → (first t ≡ 0x7B → ⊥) → r ≡ long_step (lexicon s) t
unfolding long_step
long_other s t q n = rw (long_step, ne_eqb _ _ n) q

pi_step : (s : Sets) (t : List ℕ) {r : Move} → r ≡ other_step t → 0 < length t → first t ≡ 0xCF → r ≡ long_step (lexicon s) t
unfolding operators word_in upper between
pi_step s [] q h e = absurd (omega arith)
pi_step s (b ∷ u) q h e =
    let none : None ≡ word_in operators (b ∷ []) = rw e in
    let letter : false ≡ is_letter b = rw e in
    long_other s (b ∷ u)
    (other_none (lexicon s) (b ∷ u) {w = None} q refl (none ∙ sym (operator_alone b u)) refl letter (λ x. absurd (omega (arith, x, e))) (document_proper s))
    (λ x. absurd (omega (arith, x, e)))

letter_left : (b : ℕ) → is_long b ≡ true → (b ≡ 0x7B → ⊥) → (b ≡ 0xCF → ⊥) → is_letter b ≡ true
unfolding is_long
letter_left b e n p = go (is_letter b) (rw (ne_eqb _ _ n, ne_eqb _ _ p) at e)
  where
    go : (x : Bool) → (x || (false || false)) ≡ true → x ≡ true
    go true f = refl
    go false f = absurd (false≢true f)

-- ---- such a byte at a place of a text, and the text from there on, as it is lent

module _ (t : List ℕ) (at : ℕ) where
  abbrev rest : List ℕ
  rest = take (length t - at) (drop at t)

  pub first_at : at < length t → first (drop at t) ≡ get_or t at 0
  first_at h = ap first (from_here t at h)

  pub rest_some : at < length t → 0 < length rest
  rest_some h = rw (tail t at) (omega (arith, length-drop at t))

  rest_at : at < length t → first rest ≡ get_or t at 0
  rest_at h = ap first (tail t at) ∙ first_at h

  pub rest_pi : get_or t at 0 ≡ 0xCF → at < length t → first rest ≡ 0xCF
  rest_pi e h = rest_at h ∙ e

  pub rest_letter : (get_or t at 0 ≡ 0x7B → ⊥) → (get_or t at 0 ≡ 0xCF → ⊥) → is_long (get_or t at 0) ≡ true → at < length t → is_letter (first rest) ≡ true
  rest_letter n p e h = rw (rest_at h) (letter_left (get_or t at 0) e n p)

  module _ (s : Sets) {r : Move} where
    pub long_brace : r ≡ string_step (drop at t) → get_or t at 0 ≡ 0x7B → at < length t → r ≡ long_step (lexicon s) (drop at t)
    unfolding long_step
    long_brace q e h = rw (long_step, eq-eqb _ _ (first_at h ∙ e)) q

    pub long_pi : r ≡ other_step rest → get_or t at 0 ≡ 0xCF → at < length t → r ≡ long_step (lexicon s) (drop at t)
    long_pi q e h = rw (← tail t at) (pi_step s rest q (rest_some h) (rest_pi e h))

    pub long_letter : r ≡ plain_step (lexicon s) rest → (get_or t at 0 ≡ 0x7B → ⊥) → at < length t → r ≡ long_step (lexicon s) (drop at t)
    long_letter q n h = rw (← tail t at) (long_other s rest q (λ x. n (sym (rest_at h) ∙ x)))
