-- What a byte outside the domain is, test by test; and where the first one stands.
-- Assumes nothing.
use Prim.Native.Nat.{ℕ, ◌+◌, ◌-◌, ◌≤◌, ◌<◌}
use mathlib.Core.Path.{◌≡◌, refl, sym, ap, ◌∙◌}
use mathlib.Core.Bool.{Bool, true, false, cond}
use mathlib.Core.List.{List, [], ◌∷◌}
use native.Mathlib.Omega.{arith}
use lib.Dec.{ltb}
use denote.Bor.{Bor}
use Rattle.std.specs.List.{prefix_len}
use Rattle.std.specs.Option.{option_copied, option_map}
use lib.ListN.{length, get_or, take, drop, drop_of_length-le, length-drop}
use borrow.Author.Tests.{le-leb, lt-leb, lt-ltb, le-ltb, ltb-true}
use mir.Syntax.{w64}
use mir.Val.{Fits}
use Rattle.base_refusals.specs.Answer.{Answer, done, refused, numbered, answered}
use Rattle.base_refusals.specs.Code.{code_of}
use Rattle.base_refusals.specs.Numbers.{Numbered, bad_byte}
use Rattle.base_refusals.specs.declared.Code.{Code}
use Rattle.base_refusals.specs.declared.Refusal.{Refusal}
use Rattle.base_ascii.specs.Bytes.{between}
use Rattle.base_ascii.proofs.Ranges.{in_between}
use Rattle.base_ascii.proofs.Searching.{tail}
use Rattle.word_search.specs.Compare.{begins}
use Rattle.text_domain.specs.Domain.{domain_length, checked_text}
use Rattle.base_ascii.proofs.Choice.{taken, left}
use Rattle.editor_strange_bytes.specs.Foreign.{is_inner, inner_behind, inner_asked, width_of, is_utf16, is_mark_of_order, is_curly_quote, is_no_break_space, is_long_dash, kind_of, stranger_in, first_stranger}
use Rattle.editor_strange_bytes.specs.declared.Foreign.{Foreign}
use Rattle.editor_strange_bytes.specs.declared.Foreign.TheVariants.{OrderMark, CurlyQuote, NoBreakSpace, LongDash, Character, LoneByte}
use Rattle.editor_strange_bytes.specs.declared.Stranger.{Stranger}
use Rattle.editor_strange_bytes.specs.declared.TooLong.{TooLong}
use Rattle.std.specs.Prelude.{Result, Ok, Err, Option, Some, None}

-- what is found at a place
abbrev There : ℕ → Foreign → ℕ → Result (Option Stranger) TooLong
There offset kind used = Ok (Some (record { offset = offset; kind = kind; used = used }))

pub copied_is : (r : Option (Bor ℕ)) → option_copied r ≡ option_map (λ x. x.now) r
copied_is (Some x) = refl
copied_is None = refl

-- ---- the width of a character

-- a byte below a range and above it
below_range : (low high b : ℕ) → b < low → between low high b ≡ false
unfolding between
below_range low high b h = simp (lt-leb _ _ h)

above_range : (low high b : ℕ) → low ≤ b → high < b → between low high b ≡ false
unfolding between
above_range low high b l h = simp (le-leb _ _ l, lt-leb _ _ h)

module _ (b : ℕ) where
  pub asked_one : 0xC2 ≤ b → b < 0xE0 → 1 ≡ inner_asked b
  unfolding inner_asked
  asked_one l h = rw (in_between 0xC2 0xDF b l (omega arith))

  pub asked_two : 0xE0 ≤ b → b < 0xF0 → 2 ≡ inner_asked b
  unfolding inner_asked
  asked_two l h = rw (above_range 0xC2 0xDF b (omega arith) (omega arith), in_between 0xE0 0xEF b l (omega arith))

  pub asked_three : 0xF0 ≤ b → b < 0xF5 → 3 ≡ inner_asked b
  unfolding inner_asked
  asked_three l h =
      rw (above_range 0xC2 0xDF b (omega arith) (omega arith), above_range 0xE0 0xEF b (omega arith) (omega arith), in_between 0xF0 0xF4 b l (omega arith))

  pub asked_low : b < 0xC2 → 0 ≡ inner_asked b
  unfolding inner_asked
  asked_low h = rw (below_range 0xC2 0xDF b h, below_range 0xE0 0xEF b (omega arith), below_range 0xF0 0xF4 b (omega arith))

  pub asked_high : 0xF5 ≤ b → 0 ≡ inner_asked b
  unfolding inner_asked
  asked_high h =
      rw (above_range 0xC2 0xDF b (omega arith) (omega arith), above_range 0xE0 0xEF b (omega arith) (omega arith), above_range 0xF0 0xF4 b (omega arith) (omega arith))

-- the bytes behind the first one, as they are counted
pub behind_counted : (t : List ℕ) → prefix_len is_inner (take 3 (drop 1 t)) ≡ inner_behind t
unfolding inner_behind between
behind_counted [] = refl
behind_counted (a ∷ []) = refl
behind_counted (a ∷ b ∷ []) = refl
behind_counted (a ∷ b ∷ c ∷ []) = two (is_inner b) (is_inner c)
  where
    two : (x y : Bool) → cond x (1 + cond y 1 0) 0 ≡ cond x (cond y 2 1) 0
    two false y = refl
    two true false = refl
    two true true = refl
behind_counted (a ∷ b ∷ c ∷ d ∷ t) = three (is_inner b) (is_inner c) (is_inner d)
  where
    three : (x y z : Bool) → cond x (1 + cond y (1 + cond z 1 0) 0) 0 ≡ cond x (cond y (cond z 3 2) 1) 0
    three false y z = refl
    three true false z = refl
    three true true false = refl
    three true true true = refl

asked_few : (b : ℕ) {n : ℕ} → n ≡ inner_asked b → n ≤ 3
unfolding inner_asked
asked_few b e = rw e (go (between 0xC2 0xDF b) (between 0xE0 0xEF b) (between 0xF0 0xF4 b))
  where
    go : (x y z : Bool) → cond x 1 (cond y 2 (cond z 3 0)) ≤ 3
    go true y z = omega arith
    go false true z = omega arith
    go false false true = omega arith
    go false false false = omega arith

pub asked_fits : (b : ℕ) {n : ℕ} → n ≡ inner_asked b → Fits w64 (n + 1)
asked_fits b e = record { fits = omega (arith, asked_few b e) }

module _ (t : List ℕ) {b n m : ℕ} where
  pub width_more : n ≤ m → m ≡ inner_behind t → n ≡ inner_asked b → b ≡ get_or t 0 0 → n + 1 ≡ width_of t
  unfolding width_of
  width_more h q p e = rw (← e, ← p, ← q, le-leb _ _ h)

  pub width_one : m < n → m ≡ inner_behind t → n ≡ inner_asked b → b ≡ get_or t 0 0 → 1 ≡ width_of t
  unfolding width_of
  width_one h q p e = rw (← e, ← p, ← q, lt-leb _ _ h)

-- ---- what it is

module _ (t : List ℕ) {x : Bool} where
  pub utf16_low : x ≡ true → x ≡ begins (0xFF ∷ 0xFE ∷ []) t → x ≡ is_utf16 t
  unfolding is_utf16
  utf16_low e p = rw (sym p ∙ e) e

  pub utf16_high : {y : Bool} → y ≡ begins (0xFE ∷ 0xFF ∷ []) t → x ≡ false → x ≡ begins (0xFF ∷ 0xFE ∷ []) t → y ≡ is_utf16 t
  unfolding is_utf16
  utf16_high q e p = rw (sym p ∙ e) q

  pub space_wide : x ≡ true → x ≡ begins (0xC2 ∷ 0xA0 ∷ []) t → x ≡ is_no_break_space t
  unfolding is_no_break_space
  space_wide e p = rw (sym p ∙ e) e

  pub space_single : {y : Bool} → y ≡ begins (0xA0 ∷ []) t → x ≡ false → x ≡ begins (0xC2 ∷ 0xA0 ∷ []) t → y ≡ is_no_break_space t
  unfolding is_no_break_space
  space_single q e p = rw (sym p ∙ e) q

  pub dash_none : x ≡ false → x ≡ begins (0xE2 ∷ 0x80 ∷ []) t → x ≡ is_long_dash t
  unfolding is_long_dash
  dash_none e p = rw (sym p ∙ e) e

  module _ {y : Bool} {b : ℕ} where
    pub dash_third : y ≡ between 0x92 0x95 b → b ≡ get_or t 2 0 → x ≡ true → x ≡ begins (0xE2 ∷ 0x80 ∷ []) t → y ≡ is_long_dash t
    unfolding is_long_dash
    dash_third q r e p = rw (sym p ∙ e, ← r) q

    pub quote_third : y ≡ between 0x98 0x9F b → b ≡ get_or t 2 0 → x ≡ true → x ≡ begins (0xE2 ∷ 0x80 ∷ []) t → y ≡ is_curly_quote t
    unfolding is_curly_quote
    quote_third q r e p = rw (sym p ∙ e, ← r) q

    pub quote_single : y ≡ between 0x91 0x94 b → b ≡ get_or t 0 0 → x ≡ false → x ≡ begins (0xE2 ∷ 0x80 ∷ []) t → y ≡ is_curly_quote t
    unfolding is_curly_quote
    quote_single q r e p = rw (sym p ∙ e, ← r) q

module _ (t : List ℕ) {x : Bool} where
  pub kind_mark : x ≡ true → x ≡ begins (0xEF ∷ 0xBB ∷ 0xBF ∷ []) t → OrderMark ≡ kind_of t
  unfolding kind_of is_mark_of_order
  kind_mark e p = rw (sym p ∙ e)

  module _ {y : Bool} where
    pub kind_quote : y ≡ true → y ≡ is_curly_quote t → x ≡ false → x ≡ begins (0xEF ∷ 0xBB ∷ 0xBF ∷ []) t → CurlyQuote ≡ kind_of t
    unfolding kind_of is_mark_of_order
    kind_quote f q e p = rw (sym p ∙ e, sym q ∙ f)

    module _ {z : Bool} where
      pub kind_space : z ≡ true → z ≡ is_no_break_space t → y ≡ false → y ≡ is_curly_quote t → x ≡ false → x ≡ begins (0xEF ∷ 0xBB ∷ 0xBF ∷ []) t → NoBreakSpace ≡ kind_of t
      unfolding kind_of is_mark_of_order
      kind_space g r f q e p = rw (sym p ∙ e, sym q ∙ f, sym r ∙ g)

      module _ {w : Bool} where
        pub kind_dash : w ≡ true → w ≡ is_long_dash t → z ≡ false → z ≡ is_no_break_space t → y ≡ false → y ≡ is_curly_quote t → x ≡ false → x ≡ begins (0xEF ∷ 0xBB ∷ 0xBF ∷ []) t → LongDash ≡ kind_of t
        unfolding kind_of is_mark_of_order
        kind_dash h s g r f q e p = rw (sym p ∙ e, sym q ∙ f, sym r ∙ g, sym s ∙ h)

        module _ {n : ℕ} where
          pub kind_character : 1 < n → n ≡ width_of t → w ≡ false → w ≡ is_long_dash t → z ≡ false → z ≡ is_no_break_space t → y ≡ false → y ≡ is_curly_quote t → x ≡ false
              → x ≡ begins (0xEF ∷ 0xBB ∷ 0xBF ∷ []) t → Character ≡ kind_of t
          unfolding kind_of is_mark_of_order
          kind_character u v h s g r f q e p = rw (sym p ∙ e, sym q ∙ f, sym r ∙ g, sym s ∙ h, ← v, lt-ltb _ _ u)

          pub kind_byte : n ≤ 1 → n ≡ width_of t → w ≡ false → w ≡ is_long_dash t → z ≡ false → z ≡ is_no_break_space t → y ≡ false → y ≡ is_curly_quote t → x ≡ false
              → x ≡ begins (0xEF ∷ 0xBB ∷ 0xBF ∷ []) t → LoneByte ≡ kind_of t
          unfolding kind_of is_mark_of_order
          kind_byte u v h s g r f q e p = rw (sym p ∙ e, sym q ∙ f, sym r ∙ g, sym s ∙ h, ← v, le-ltb _ _ u)

-- ---- where the first one stands

-- a refusal of a text that is not too long: its value is the offset
pub record BadAt (s : List ℕ) (n : ℕ) : Type 0 where
  pub is : n ≡ domain_length s
  pub within : n < length s

bad_at : (s : List ℕ) {c : (Result (Unit {0}) Refusal)} {x : Refusal} {k : Code} → k ≡ code_of (numbered x) → c ≡ Err x → answered c ≡ checked_text s → length s ≤ 1048576 → BadAt s k.first
unfolding checked_text
bad_at s {c} {x} {k} q e p h = go (ltb (domain_length s) (length s)) refl (sym (ap answered e) ∙ p ∙ taken _ _ (le-leb _ _ h))
  where
    same : {n : Numbered} → ◌≡◌ {A = Answer (Unit {0})} (refused (numbered x)) (refused n) → k.first ≡ (code_of n).first
    same {n} a = let b : numbered x ≡ n = cc in ap (λ (y : Code). y.first) q ∙ ap (λ (y : Numbered). (code_of y).first) b

    go : (r : Bool) → ltb (domain_length s) (length s) ≡ r
        → ◌≡◌ {A = Answer (Unit {0})} (refused (numbered x)) (elim r [ true ↦ refused (bad_byte (domain_length s)) | false ↦ done tt ]) → BadAt s k.first
    go true f a = let b : k.first ≡ domain_length s = same a in record { is = b; within = omega (arith, b, ltb-true (domain_length s) (length s) f) }
    go false f a = let z : ◌≡◌ {A = ℕ} 0 1 = cc in absurd (omega arith)

abbrev rest : List ℕ → ℕ → List ℕ
rest t i = take (length t - i) (drop i t)

module _ (from : ℕ) (s : List ℕ) (h : length s ≤ 1048576) where
  fine_in : {c : (Result (Unit {0}) Refusal)} → c ≡ (Ok tt) → answered c ≡ checked_text s → Ok None ≡ stranger_in from s
  unfolding stranger_in checked_text
  fine_in e p = go (ltb (domain_length s) (length s)) refl (sym (ap answered e) ∙ p ∙ taken _ _ (le-leb _ _ h))
    where
      go : (r : Bool) → ltb (domain_length s) (length s) ≡ r → ◌≡◌ {A = Answer (Unit {0})} (done tt) (elim r [ true ↦ refused (bad_byte (domain_length s)) | false ↦ done tt ])
          → Ok None ≡ stranger_in from s
      go true f a = let z : ◌≡◌ {A = ℕ} 0 1 = cc in absurd (omega arith)
      go false f a = sym (taken _ _ (le-leb _ _ h) ∙ left _ _ f)

  there_in : {n : ℕ} → BadAt s n → There (from + n) (kind_of (drop n s)) (width_of (drop n s)) ≡ stranger_in from s
  unfolding stranger_in
  there_in b = rw b.is (sym (taken _ _ (le-leb _ _ h) ∙ taken _ _ (lt-ltb (domain_length s) (length s) (omega (arith, b.is, b.within)))))

module _ (t : List ℕ) (from : ℕ) where
  pub stranger_none : length t ≤ from → Ok None ≡ first_stranger t from
  unfolding first_stranger stranger_in domain_length
  stranger_none h = rw (drop_of_length-le t h)

  pub stranger_long : 1048576 < length (rest t from) → Err (record {}) ≡ first_stranger t from
  unfolding first_stranger stranger_in
  stranger_long h = sym (left _ _ (lt-leb _ _ (rw (tail t from) at h)))

  module _ {c : (Result (Unit {0}) Refusal)} where
    pub stranger_fine : c ≡ (Ok tt) → answered c ≡ checked_text (rest t from) → length (rest t from) ≤ 1048576 → Ok None ≡ first_stranger t from
    unfolding first_stranger
    stranger_fine e p h = fine_in from (rest t from) h e p ∙ ap (stranger_in from) (tail t from)

    module _ {x : Refusal} {k : Code} (q : k ≡ code_of (numbered x)) (e : c ≡ Err x) (p : answered c ≡ checked_text (rest t from)) (h : length (rest t from) ≤ 1048576) where
      pub bad_within : k.first ≤ length (rest t from)
      bad_within = omega (arith, (bad_at (rest t from) q e p h).within)

      pub bad_fits : Fits w64 (length t) → Fits w64 (from + k.first)
      bad_fits f = record { fits = omega (arith, f.fits, (bad_at (rest t from) q e p h).within, ap length (tail t from), length-drop from t) }

      pub stranger_there : {kind : Foreign} {used : ℕ} → used ≡ width_of (rest (rest t from) k.first) → kind ≡ kind_of (rest (rest t from) k.first)
          → There (from + k.first) kind used ≡ first_stranger t from
      unfolding first_stranger
      stranger_there {kind} u v =
          ap (There (from + k.first) kind) (u ∙ ap width_of (tail (rest t from) k.first))
          ∙ ap (λ (y : Foreign). There (from + k.first) y (width_of (drop k.first (rest t from)))) (v ∙ ap kind_of (tail (rest t from) k.first))
          ∙ there_in from (rest t from) h (bad_at (rest t from) q e p h)
          ∙ ap (stranger_in from) (tail t from)
