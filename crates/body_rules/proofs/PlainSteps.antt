-- A step in plain mode, case by case.
-- Assumes nothing.
use Prim.Native.Nat.{ℕ, ◌≤◌}
use mathlib.Core.Path.{◌≡◌, refl, sym, ap, ◌∙◌}
use mathlib.Core.Bool.{Bool, true, false, false≢true}
use mathlib.Core.List.{List}
use native.Mathlib.Omega.{arith}
use lib.Dec.{T, eqb}
use lib.ListN.{length, get_or, get_or-eq_default}
use borrow.Author.Tests.{eq-eqb, ne_eqb}
use Rattle.base_ascii.specs.Bytes.{upper, between, is_letter}
use Rattle.word_search.specs.Find.{word_in}
use Rattle.word_search.specs.declared.Match.{Match}
use Rattle.std.specs.Prelude.{Option, Some, None}
use Rattle.word_match.specs.Sets.{live_word, plain_word}
use Rattle.body_short_forms.specs.Forms.{form_word}
use Rattle.body_short_forms.proofs.Standing.{form_letter}
use Rattle.body_rules.specs.Lexicon.{Lexicon}
use Rattle.body_rules.specs.Steps.{first, one, token, opened, other_step, sign_step, form_step, plain_step}
use Rattle.body_rules.specs.declared.Mode.{Mode}
use Rattle.body_rules.specs.declared.Mode.TheVariants.{Plain, String, Remark, Data}
use Rattle.body_rules.specs.declared.Move.{Move}
use Rattle.body_rules.proofs.Beginnings.{proper, word_none, live_none, tsb_start, plain_word_none, operators_start}

-- ---- a byte that begins no word

module _ (t : List ℕ) {r : Move} where
  pub other_pi : r ≡ token false 0xFF Plain 2 → get_or t 1 0 ≡ 0x80 → first t ≡ 0xCF → r ≡ other_step t
  unfolding other_step
  other_pi q f e = rw (other_step, eq-eqb _ _ e, eq-eqb _ _ f) q

  pub other_no_pi : r ≡ one 0xCF Plain → (get_or t 1 0 ≡ 0x80 → ⊥) → first t ≡ 0xCF → r ≡ other_step t
  unfolding other_step upper between
  other_no_pi q f e =
      let n : eqb (first t) 0x3F ≡ false = rw e in
      rw (other_step, eq-eqb _ _ e, ne_eqb _ _ f, n, e) q

  pub other_short : r ≡ one 0xCF Plain → length t ≤ 1 → first t ≡ 0xCF → r ≡ other_step t
  other_short q h e = other_no_pi q (λ f. absurd (omega (arith, f, get_or-eq_default t 0 {n = 1} h))) e

  other_raised : {b : ℕ} → r ≡ one b Plain → b ≡ upper (first t) → (first t ≡ 0xCF → ⊥) → (first t ≡ 0x3F → ⊥) → r ≡ other_step t
  unfolding other_step
  other_raised q b e f = rw (other_step, ne_eqb _ _ e, ne_eqb _ _ f, ← b) q

-- ---- the mode behind a word

module _ {k : ℕ} where
  pub opened_remark : k ≡ 0x8F → Remark ≡ opened k
  unfolding opened
  opened_remark e = rw e

  pub opened_data : k ≡ 0x83 → Data ≡ opened k
  unfolding opened
  opened_data e = rw e

  pub opened_plain : (k ≡ 0x8F → ⊥) → (k ≡ 0x83 → ⊥) → Plain ≡ opened k
  unfolding opened
  opened_plain e f = simp (ne_eqb _ _ e, ne_eqb _ _ f)

-- ---- all of it

letter_no : (b x : ℕ) → is_letter x ≡ false → is_letter b ≡ true → b ≡ x → ⊥
letter_no b x n e q = false≢true (sym n ∙ ap is_letter (sym q) ∙ e)

letter_no_quote : (b : ℕ) → is_letter b ≡ true → eqb b 0x22 ≡ false
unfolding between upper
letter_no_quote b e = ne_eqb b 0x22 (letter_no b 0x22 refl e)

letter_raised : (t : List ℕ) {r : Move} {b : ℕ} → r ≡ one b Plain → b ≡ upper (first t) → is_letter (first t) ≡ true → r ≡ other_step t
unfolding between upper
letter_raised t q u a = other_raised t q u (letter_no (first t) 0xCF refl a) (letter_no (first t) 0x3F refl a)

no_tsb : (l : Lexicon) (t : List ℕ) → T (proper l) → is_letter (first t) ≡ false → live_word l.sets l.tsb t ≡ None
no_tsb l t g a = live_none true l.tsb (tsb_start l g) t l.sets a

module _ (l : Lexicon) (t : List ℕ) {r : Move} where
  pub plain_quote : r ≡ one (first t) String → first t ≡ 0x22 → r ≡ plain_step l t
  unfolding plain_step
  plain_quote q e = rw (plain_step, eq-eqb _ _ e) (q ∙ ap (λ (b : ℕ). one b String) e)

  -- a letter: m is the live TSB word there, v the V2 word or that of BASIC 3.5
  module _ {m : Option Match} where
    pub letter_tsb : {w : Match} → r ≡ token true w.token Plain w.used → m ≡ Some w → m ≡ live_word l.sets l.tsb t → is_letter (first t) ≡ true → r ≡ plain_step l t
    unfolding plain_step
    letter_tsb q e p a = rw (plain_step, letter_no_quote _ a, sym p ∙ e) q

    pub letter_plain : {v : Option Match} {w : Match} {behind : Mode} → r ≡ token false w.token behind w.used → behind ≡ opened w.token → v ≡ Some w → v ≡ plain_word l.sets l.v2 l.basic35 t
        → m ≡ None → m ≡ live_word l.sets l.tsb t → is_letter (first t) ≡ true → r ≡ plain_step l t
    unfolding plain_step
    letter_plain q o e p n live a = rw (plain_step, letter_no_quote _ a, sym live ∙ n, sym p ∙ e, ← o) q

    pub letter_left : {v : Option Match} → r ≡ form_step l t → v ≡ None → v ≡ plain_word l.sets l.v2 l.basic35 t → m ≡ None → m ≡ live_word l.sets l.tsb t → is_letter (first t) ≡ true → r ≡ plain_step l t
    unfolding plain_step
    letter_left q e p n live a = rw (plain_step, letter_no_quote _ a, sym live ∙ n, sym p ∙ e) q

    -- no whole word: f is the short form there
    pub letter_form : {w : Match} {behind : Mode} → r ≡ token false w.token behind w.used → behind ≡ opened w.token → m ≡ Some w → m ≡ form_word l.sets l.tsb l.v2 t → r ≡ form_step l t
    unfolding form_step
    letter_form q o e p = rw (form_step, sym p ∙ e, ← o) q

    pub letter_other : {b : ℕ} → r ≡ one b Plain → b ≡ upper (first t) → m ≡ None → m ≡ form_word l.sets l.tsb l.v2 t → is_letter (first t) ≡ true → T (proper l) → r ≡ form_step l t
    unfolding form_step sign_step
    letter_other q u e p a g = rw (form_step, sym p ∙ e, sign_step, word_none false l.operators (operators_start l g) t a) (letter_raised t q u a)

  -- no short form is looked for
  pub letter_alone : {b : ℕ} → r ≡ one b Plain → b ≡ upper (first t) → l.sets.forms ≡ false → is_letter (first t) ≡ true → T (proper l) → r ≡ form_step l t
  unfolding form_word
  letter_alone q u e a g = letter_other {m = None} q u refl (rw (form_word, e)) a g

  -- another byte: w is the operator there
  module _ {w : Option Match} {x : Bool} where
    pub other_operator : {sign : Match} → r ≡ token false sign.token Plain sign.used → w ≡ Some sign → w ≡ word_in l.operators t → x ≡ false → x ≡ is_letter (first t)
        → (first t ≡ 0x22 → ⊥) → T (proper l) → r ≡ plain_step l t
    unfolding plain_step form_step sign_step
    other_operator q e p n i s g =
        rw (plain_step, ne_eqb _ _ s, no_tsb l t g (sym i ∙ n), plain_word_none l g t (sym i ∙ n), form_step, form_letter l.sets l.tsb l.v2 t (sym i ∙ n), sign_step, sym p ∙ e) q

    pub other_none : r ≡ other_step t → w ≡ None → w ≡ word_in l.operators t → x ≡ false → x ≡ is_letter (first t)
        → (first t ≡ 0x22 → ⊥) → T (proper l) → r ≡ plain_step l t
    unfolding plain_step form_step sign_step
    other_none q e p n i s g =
        rw (plain_step, ne_eqb _ _ s, no_tsb l t g (sym i ∙ n), plain_word_none l g t (sym i ∙ n), form_step, form_letter l.sets l.tsb l.v2 t (sym i ∙ n), sign_step, sym p ∙ e) q
