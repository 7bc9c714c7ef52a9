-- A byte's text is made from its word: from CC on, a byte that has none is listed as its digits, which are worked out.
-- Assumes nothing.
use Prim.Native.Nat.{ℕ, zero, suc, ◌-◌, ◌/◌, ◌%◌, ◌≤◌, ◌<◌}
use mathlib.Core.Path.{◌≡◌, refl, sym, ap, ◌∙◌}
use mathlib.Core.Bool.{Bool, true, false, cond, ◌&&◌}
use mathlib.Core.List.{List, [], ◌∷◌, ◌++◌}
use native.Mathlib.Omega.{arith}
use lib.Dec.{T, eqb, ltb, ltb→lt}
use lib.ListN.{length, get_or}
use mir.Syntax.{w8}
use mir.Val.{Fits}
use borrow.Author.Tests.{ne_eqb, lt-ltb, le-ltb, ltb-true, ltb-false}
use Rattle.base_ascii.specs.Bytes.{between}
use Rattle.base_ascii.proofs.Ranges.{between_in}
use Rattle.word_search.specs.Spelling.{bytes_of}
use Rattle.word_search.proofs.Search.{and_left, and_right}
use Rattle.word_tables.specs.Basic35.{basic35_spellings}
use Rattle.list_bytes.specs.ByteTexts.{hex_digits}
use Rattle.list_bytes.proofs.ByteTexts.{hex_digits_lem}
use Rattle.list_texts.specs.Texts.{braced, token_text, text_of, text_of35}
use Rattle.list_texts.specs.TextsHelpers.{listed_word, listed_word35, or_digits}

pub digits_made : {b high low : ℕ} → Fits w8 b → high ≡ get_or hex_digits (b / 16 % 16) 0 → low ≡ get_or hex_digits (b % 16 % 16) 0
    → 0x7B ∷ high ∷ low ∷ 0x7D ∷ [] ≡ braced b
unfolding braced
digits_made small h l = ap (λ (digits : List ℕ). bytes_of "{" ++ (digits ++ bytes_of "}")) (hex_digits_lem small h l)

-- ---- from a word to the text

module _ (k : ℕ) (word : List ℕ) where
  pub no_digits : k < 0xCC → word ≡ or_digits k word
  no_digits h = go word
    where
      go : (w : List ℕ) → w ≡ or_digits k w
      go [] = simp (lt-ltb _ _ h)
      go (x ∷ w) = refl

  pub some_word : 0 < length word → word ≡ or_digits k word
  some_word h = go word h
    where
      go : (w : List ℕ) → 0 < length w → w ≡ or_digits k w
      go [] none = absurd (omega arith)
      go (x ∷ w) some = refl

  pub digits_for : {d : List ℕ} → d ≡ braced k → 0xCC ≤ k → length word ≤ 0 → d ≡ or_digits k word
  digits_for e h z = e ∙ go word z
    where
      go : (w : List ℕ) → length w ≤ 0 → braced k ≡ or_digits k w
      go [] none = simp (le-ltb _ _ h)
      go (x ∷ w) some = absurd (omega arith)

-- what CC and above have: digits, or pi
behind_words : (k : ℕ) → 0xCC ≤ k → text_of k ≡ cond (eqb k 0xFF) (bytes_of "{PI}") (braced k)
unfolding text_of token_text
behind_words k h = let l : 0x80 ≤ k = omega arith in simp (le-ltb _ _ l, le-ltb _ _ h)

pi_or_digits : (k : ℕ) (pi : Bool) → or_digits k (cond pi (bytes_of "{PI}") (braced k)) ≡ cond pi (bytes_of "{PI}") (braced k)
unfolding braced
pi_or_digits k true = refl
pi_or_digits k false = refl

pub text_made : (k : ℕ) → or_digits k (listed_word k) ≡ text_of k
unfolding listed_word
text_made k = go (ltb k 0xCC) (between 0xCC 0xFE k) refl refl
  where
    go : (low digits : Bool) → ltb k 0xCC ≡ low → between 0xCC 0xFE k ≡ digits → or_digits k (cond digits [] (text_of k)) ≡ text_of k
    go true true e f = absurd (omega (arith, ltb-true k 0xCC e, between_in 0xCC 0xFE k f))
    go true false e f = sym (no_digits k (text_of k) (ltb-true k 0xCC e))
    go false true e f =
        let other : k ≡ 0xFF → ⊥ = λ q. omega (arith, between_in 0xCC 0xFE k f) in
        let digit : cond (eqb k 0xFF) (bytes_of "{PI}") (braced k) ≡ braced k = simp (ne_eqb _ _ other) in
        let high : 0xCC ≤ k = ltb-false k 0xCC e in
        sym (behind_words k high ∙ digit ∙ digits_for k [] refl high (omega arith))
    go false false e f = rw (behind_words k (ltb-false k 0xCC e)) (pi_or_digits k (eqb k 0xFF))

pub word_below : (k : ℕ) → k < 0xCC → listed_word k ≡ text_of k
word_below k h = no_digits k (listed_word k) h ∙ text_made k

-- ---- no word of BASIC 3.5 is empty

full : List (List ℕ) → Bool
full [] = true
full (w ∷ ws) = ltb 0 (length w) && full ws

full_at : (ws : List (List ℕ)) → T (full ws) → (k : ℕ) → k < length ws → 0 < length (get_or ws k [])
unfolding full
full_at [] t k h = absurd (omega arith)
full_at (w ∷ ws) t zero h = ltb→lt _ _ (and_left (ltb 0 (length w)) _ t)
full_at (w ∷ ws) t (suc k) h = full_at ws (and_right (ltb 0 (length w)) _ t) k (omega arith)

own_full : T (full basic35_spellings)
unfolding full basic35_spellings
own_full = tt

own_long : length basic35_spellings ≡ 50
unfolding basic35_spellings
own_long = refl

pub text35_made : (k : ℕ) → or_digits k (listed_word35 k) ≡ text_of35 k
unfolding listed_word35 text_of35
text35_made k = go (between 0xCC 0xFD k) refl
  where
    go : (own : Bool) → between 0xCC 0xFD k ≡ own → or_digits k (cond own (get_or basic35_spellings (k - 0xCC) []) (listed_word k)) ≡ cond own (get_or basic35_spellings (k - 0xCC) []) (text_of k)
    go true e = sym (some_word k _ (full_at basic35_spellings own_full (k - 0xCC) (omega (arith, between_in 0xCC 0xFD k e, own_long))))
    go false e = text_made k

-- ---- `is_text_of`

pub digits_text : (k : ℕ) → 0xCC ≤ k → k ≤ 0xFE → text_of k ≡ braced k
digits_text k low high =
    let other : k ≡ 0xFF → ⊥ = λ q. omega arith in
    behind_words k low ∙ simp (ne_eqb _ _ other)
