-- The texts of units, as the code makes them: each says that what was made is the unit's text, from what a `match` says of the unit and
-- what the calls promise.
-- Assumes nothing.
use Prim.Native.Nat.{ℕ, ◌/◌, ◌%◌, ◌≤◌, ◌<◌}
use mathlib.Core.Path.{◌≡◌, refl, sym, ap, ◌∙◌}
use mathlib.Core.Bool.{Bool, true, false, ◌&&◌}
use mathlib.Core.List.{List, [], ◌∷◌, ◌++◌}
use native.Mathlib.Omega.{arith}
use lib.Dec.{T, eqb, ltb, ltb→lt}
use lib.ListN.{length, get_or, take}
use mir.Syntax.{w8}
use mir.Val.{Fits}
use borrow.Author.Tests.{ne_eqb, eqb-true, eqb-false, lt-ltb}
use Rattle.word_search.specs.Find.{Entry}
use Rattle.word_search.proofs.Search.{and_left, and_right}
use Rattle.base_lent.specs.Stores.{Room, Put}
use Rattle.word_search.specs.Spelling.{bytes_of}
use Rattle.list_bytes.specs.ByteTexts.{hex_digits, byte_text, hex_byte, remark_text}
use Rattle.list_bytes.specs.HeldHelpers.{held}
use Rattle.list_texts.specs.Texts.{braced, text_of}
use Rattle.list_texts.specs.TextsHelpers.{listed_word, listed_word35, or_digits}
use Rattle.list_texts.proofs.Made.{no_digits, digits_for, word_below, text_made, text35_made}
use Rattle.word_tables.specs.Tsb.{tsb_words, with_token, tsb_id, tsb_text}
use Rattle.list_bytes.proofs.ByteTexts.{hex_digits_lem}
use Rattle.list_bytes.specs.declared.ByteText.{ByteText}
use Rattle.image_units.specs.declared.Unit.{Unit}
use Rattle.image_units.specs.declared.Unit.TheVariants.{Char, Token, Token35, Pair, Lone, Remarked}
use Rattle.list_spelling.specs.Pieces.{unknown_pair, or_unknown, pair_text, unit_text}
use Rattle.list_spelling.proofs.Held.{held_length, held_text, byte_text_short, remark_text_short}

-- ---- the TSB word behind 64

-- each token of the list is below n
below : ℕ → List Entry → Bool
below n [] = true
below n (e ∷ es) = ltb e.token n && below n es

none_above : (n t : ℕ) (es : List Entry) → T (below n es) → n ≤ t → [] ≡ with_token t es
unfolding below with_token
none_above n t [] h l = refl
none_above n t (e ∷ es) h l =
    let small : e.token < n = ltb→lt _ _ (and_left (ltb e.token n) _ h) in
    let other : t ≡ e.token → ⊥ = λ q. omega arith in
    rw (with_token, ne_eqb _ _ other) (none_above n t es (and_right (ltb e.token n) _ h) l)

tsb_below : T (below 0x80 tsb_words)
unfolding below tsb_words
tsb_below = tt

module _ (b : ℕ) {id : ℕ} where
  pub no_word : 0x80 ≤ id → id ≡ tsb_id b → [] ≡ tsb_text b
  unfolding tsb_text
  no_word h is = none_above 0x80 id tsb_words tsb_below h ∙ ap (λ (k : ℕ). with_token k tsb_words) is

  pub a_word : id < 0x80 → id ≡ tsb_id b → {t : List ℕ} → t ≡ listed_word id → t ≡ tsb_text b
  unfolding tsb_text text_of
  a_word h is e =
      let low : id < 0xCC = omega arith in
      e ∙ word_below id low ∙ simp (lt-ltb _ _ h) (ap (λ (k : ℕ). with_token k tsb_words) is)

-- ---- the unit's text

pub filled : {n : ℕ} {e : Bool} → e ≡ eqb n 0 → e ≡ false → 0 < n
filled {n} e f = let other = eqb-false n 0 (sym e ∙ f) in omega arith

pub emptied : {n : ℕ} {e : Bool} → e ≡ eqb n 0 → e ≡ true → n ≤ 0
emptied {n} e f = let none : n ≡ 0 = eqb-true n 0 (sym e ∙ f) in omega arith

no_length : (s : List ℕ) → length s ≤ 0 → [] ≡ s
no_length [] h = refl
no_length (x ∷ s) h = absurd (omega arith)

module _ {unit : Unit} where
  pub char_text : {b : ℕ} {t : ByteText} → unit ≡ Char b → t ≡ held (byte_text b) → take t.len t.bytes ≡ unit_text unit
  unfolding unit_text
  char_text {b} is e = rw is (held_text (byte_text b) (byte_text_short b) e)

  pub token_text_lem : {b : ℕ} {w : List ℕ} → unit ≡ Token b → w ≡ listed_word b → or_digits b w ≡ unit_text unit
  unfolding unit_text
  token_text_lem {b} is e = rw is (ap (or_digits b) e ∙ text_made b)

  pub token35_text : {b : ℕ} {w : List ℕ} → unit ≡ Token35 b → w ≡ listed_word35 b → or_digits b w ≡ unit_text unit
  unfolding unit_text
  token35_text {b} is e = rw is (ap (or_digits b) e ∙ text35_made b)

  pub pair_word : {b : ℕ} {w : List ℕ} → unit ≡ Pair b → 0 < length w → w ≡ tsb_text b → w ≡ unit_text unit
  unfolding unit_text pair_text
  pair_word {b} {w} is some e = rw (is, ← e) (go w some)
    where
      go : (s : List ℕ) → 0 < length s → s ≡ or_unknown b s
      go [] h = absurd (omega arith)
      go (x ∷ s) h = refl

  pub pair_unknown : {b : ℕ} {w d : List ℕ} → unit ≡ Pair b → length w ≤ 0 → w ≡ tsb_text b → d ≡ unknown_pair b → d ≡ unit_text unit
  unfolding unit_text pair_text
  pair_unknown {b} {w} is none e made = rw is (made ∙ ap (or_unknown b) (no_length w none ∙ e))

  pub lone_text : unit ≡ Lone → bytes_of "{64}" ≡ unit_text unit
  unfolding unit_text
  lone_text is = rw is

  pub remarked_text : {b : ℕ} {t : ByteText} → unit ≡ Remarked b → t ≡ held (remark_text b) → take t.len t.bytes ≡ unit_text unit
  unfolding unit_text
  remarked_text {b} is e = rw is (held_text (remark_text b) (remark_text_short b) e)

pub pair_digits : {b high low : ℕ} → Fits w8 b → high ≡ get_or hex_digits (b / 16 % 16) 0 → low ≡ get_or hex_digits (b % 16 % 16) 0
    → 0x7B ∷ 0x36 ∷ 0x34 ∷ 0x7D ∷ 0x7B ∷ high ∷ low ∷ 0x7D ∷ [] ≡ unknown_pair b
unfolding unknown_pair
pair_digits small h l = ap (λ (digits : List ℕ). bytes_of "{64}{" ++ (digits ++ bytes_of "}")) (hex_digits_lem small h l)

-- ---- a token's text, by its word

module _ (k : ℕ) (word : List ℕ) where
  pub nothing_long : length word ≤ 0 → k < 0xCC → 0 ≡ length (or_digits k word)
  nothing_long z h = ap length (no_length word z ∙ no_digits k word h)

  pub digits_long : 0xCC ≤ k → length word ≤ 0 → 4 ≡ length (or_digits k word)
  unfolding braced hex_byte
  digits_long h z = ap length (digits_for k word refl h z)

  pub nothing_put : (buffer : List ℕ) (at : ℕ) → length word ≤ 0 → k < 0xCC → Put buffer at (or_digits k word) at buffer
  nothing_put buffer at z h =
      let none : [] ≡ or_digits k word = no_length word z ∙ no_digits k word h in
      rw (← none) (record { ends = omega arith; stored = refl })

-- ---- its length, its room, and that it was stored

pub char_length : {unit : Unit} {b : ℕ} {t : ByteText} → unit ≡ Char b → t ≡ held (byte_text b) → t.len ≡ length (unit_text unit)
unfolding unit_text
char_length {b = b} is e = rw is (held_length (byte_text b) e)

pub pair_length : {unit : Unit} {b : ℕ} {w : List ℕ} → unit ≡ Pair b → length w ≤ 0 → w ≡ tsb_text b → 8 ≡ length (unit_text unit)
unfolding unknown_pair hex_byte
pair_length {b = b} is none e = ap length (pair_unknown is none e refl)

pub lone_length : {unit : Unit} → unit ≡ Lone → 4 ≡ length (unit_text unit)
lone_length is = ap length (lone_text is)

pub remarked_length : {unit : Unit} {b : ℕ} {t : ByteText} → unit ≡ Remarked b → t ≡ held (remark_text b) → t.len ≡ length (unit_text unit)
unfolding unit_text
remarked_length {b = b} is e = rw is (held_length (remark_text b) e)

pub long_as : {t s : List ℕ} → t ≡ s → length t ≡ length s
long_as e = ap length e

pub long_of : {n : ℕ} {t s : List ℕ} → n ≡ length t → t ≡ s → n ≡ length s
long_of l e = l ∙ ap length e

module _ {buffer : List ℕ} {at : ℕ} {t s : List ℕ} where
  pub room_of : Room buffer at s → t ≡ s → Room buffer at t
  room_of r e = rw e r

  pub put_of : {behind : ℕ} {after : List ℕ} → Put buffer at t behind after → t ≡ s → Put buffer at s behind after
  put_of p e = rw e at p
