-- No unit's text is longer than nine bytes: from the tables, by a test of each.
-- Assumes nothing.
use Prim.Native.Nat.{ℕ, zero, suc, ◌-◌, ◌≤◌}
use mathlib.Core.Bool.{Bool, true, false, cond, ◌&&◌}
use mathlib.Core.List.{List, [], ◌∷◌}
use native.Mathlib.Omega.{arith}
use lib.Dec.{T, eqb, leb, ltb, leb→le}
use lib.ListN.{length, get_or}
use Rattle.word_search.specs.Find.{Entry}
use Rattle.word_search.proofs.Search.{and_left, and_right}
use Rattle.word_tables.specs.Rom.{rom_words}
use Rattle.list_bytes.specs.ByteTexts.{hex_byte}
use Rattle.base_ascii.specs.Bytes.{between}
use Rattle.list_texts.specs.Texts.{token_text, text_of, text_of35}
use Rattle.word_tables.specs.Basic35.{basic35_spellings}
use Rattle.word_tables.specs.Tsb.{tsb_words, with_token, tsb_id, tsb_text}
use Rattle.image_units.specs.declared.Unit.{Unit}
use Rattle.image_units.specs.declared.Unit.TheVariants.{Char, Token, Token35, Pair, Lone, Remarked}
use Rattle.list_spelling.specs.Pieces.{unknown_pair, or_unknown, pair_text, unit_text}
use Rattle.list_spelling.proofs.Held.{byte_text_short, remark_text_short}

-- no word is longer than nine bytes
short_words : List (List ℕ) → Bool
short_words [] = true
short_words (w ∷ ws) = leb (length w) 9 && short_words ws

short_at : (ws : List (List ℕ)) → T (short_words ws) → (k : ℕ) → length (get_or ws k []) ≤ 9
unfolding short_words
short_at [] t k = omega arith
short_at (w ∷ ws) t zero = leb→le _ _ (and_left (leb (length w) 9) _ t)
short_at (w ∷ ws) t (suc k) = short_at ws (and_right (leb (length w) 9) _ t) k

short_entries : List Entry → Bool
short_entries [] = true
short_entries (e ∷ es) = leb (length e.word) 9 && short_entries es

short_with : (es : List Entry) → T (short_entries es) → (k : ℕ) → length (with_token k es) ≤ 9
unfolding short_entries with_token
short_with [] t k = omega arith
short_with (e ∷ es) t k = go (eqb k e.token) (short_with es (and_right (leb (length e.word) 9) _ t) k)
  where
    go : (b : Bool) → length (with_token k es) ≤ 9 → length {A = ℕ} (elim b [ true ↦ e.word | false ↦ with_token k es ]) ≤ 9
    go true h = leb→le _ _ (and_left (leb (length e.word) 9) _ t)
    go false h = h

rom_short : T (short_words rom_words)
unfolding short_words rom_words
rom_short = tt

own_short : T (short_words basic35_spellings)
unfolding short_words basic35_spellings
own_short = tt

tsb_short : T (short_entries tsb_words)
unfolding short_entries tsb_words
tsb_short = tt

either : (b : Bool) (x y : List ℕ) → length x ≤ 9 → length y ≤ 9 → length (cond b x y) ≤ 9
either true x y h k = h
either false x y h k = k

token_short : (b : ℕ) → length (token_text b) ≤ 9
unfolding token_text hex_byte
token_short b = either (ltb b 0xCC) _ _ (short_at rom_words rom_short (b - 0x80)) (either (eqb b 0xFF) _ _ (omega arith) (omega arith))

text_short : (b : ℕ) → length (text_of b) ≤ 9
unfolding text_of
text_short b = either (ltb b 0x80) _ _ (short_with tsb_words tsb_short b) (token_short b)

text35_short : (b : ℕ) → length (text_of35 b) ≤ 9
unfolding text_of35
text35_short b = either (between 0xCC 0xFD b) _ _ (short_at basic35_spellings own_short (b - 0xCC)) (text_short b)

pair_short : (b : ℕ) → length (pair_text b) ≤ 9
unfolding pair_text tsb_text unknown_pair hex_byte
pair_short b = go (with_token (tsb_id b) tsb_words) (short_with tsb_words tsb_short (tsb_id b))
  where
    go : (t : List ℕ) → length t ≤ 9 → length (or_unknown b t) ≤ 9
    go [] h = omega arith
    go (x ∷ t) h = h

pub unit_short : (u : Unit) → length (unit_text u) ≤ 9
unfolding unit_text
unit_short (Char b) = omega (arith, byte_text_short b)
unit_short (Token b) = text_short b
unit_short (Token35 b) = text35_short b
unit_short (Pair b) = pair_short b
unit_short Lone = omega arith
unit_short (Remarked b) = omega (arith, remark_text_short b)
