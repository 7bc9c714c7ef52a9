-- The two tables of words as the definition gives them; such tables spell the words. So the stored constants do, which are these tables.
-- Assumes nothing.
use Prim.Native.Nat.{ℕ, zero, suc, ◌+◌, ◌-◌, ◌<◌, ◌≤◌}
use mathlib.Core.Path.{◌≡◌, refl, ap, ◌∙◌}
use mathlib.Core.List.{List, [], ◌∷◌, ◌++◌, append-nil}
use native.Mathlib.Nat.{le_of_suc-le-suc}
use native.Mathlib.Omega.{arith}
use lib.ListN.{length, get_or, length-append, get_or-append}
use lib.Seq.{get_or-append-add}
use borrow.Author.Tests.{le-leb}
use Rattle.base_ascii.specs.Bytes.{between}
use Rattle.word_search.specs.RunHelpers.{joined, starts, word_of}
use Rattle.word_search.proofs.Runs.{run_lies, run_word}
use Rattle.word_tables.specs.Basic35.{basic35_spellings}
use Rattle.list_texts.specs.TextsHelpers.{listed_word, listed_word35, SpellsTexts}

-- n words, from that of k on
unfoldable pub texts_from : ℕ → ℕ → List (List ℕ)
unfolding listed_word
texts_from k zero = []
texts_from k (suc n) = listed_word k ∷ texts_from (suc k) n

-- those of a byte, and behind them the words of BASIC 3.5
unfoldable pub all_texts : List (List ℕ)
unfolding texts_from basic35_spellings
all_texts = texts_from 0 256 ++ basic35_spellings

unfoldable pub text_bytes : List ℕ
unfolding joined all_texts
text_bytes = joined all_texts

unfoldable pub text_starts : List ℕ
unfolding starts all_texts
text_starts = starts 0 all_texts

texts_long : (k n : ℕ) → length (texts_from k n) ≡ n
unfolding texts_from
texts_long k zero = refl
texts_long k (suc n) = ap suc (texts_long (suc k) n)

text_from : (n k i m : ℕ) → m ≡ k + i → i < n → get_or (texts_from k n) i [] ≡ listed_word m
unfolding texts_from
text_from zero k i m e h = absurd (omega arith)
text_from (suc n) k zero m e h = let z : m ≡ k = omega arith in rw z
text_from (suc n) k (suc i) m e h = text_from n (suc k) i m (omega arith) (le_of_suc-le-suc h)

all_long_lem : length all_texts ≡ 306
unfolding all_texts basic35_spellings
all_long_lem = length-append (texts_from 0 256) basic35_spellings ∙ ap (λ (n : ℕ). n + 50) (texts_long 0 256)

front_text : (k : ℕ) → k < 256 → get_or all_texts k [] ≡ listed_word k
unfolding all_texts
front_text k h = get_or-append (texts_from 0 256) basic35_spellings [] k (omega (arith, texts_long 0 256)) ∙ text_from 256 0 k k (omega arith) h

own_text : (k : ℕ) → get_or all_texts (256 + k) [] ≡ get_or basic35_spellings k []
unfolding all_texts
own_text k = rw (← texts_long 0 256) (get_or-append-add (texts_from 0 256) basic35_spellings k [])

-- tables that are these spell the texts
pub texts_spelt : {bytes index : List ℕ} → bytes ≡ text_bytes → index ≡ text_starts → SpellsTexts bytes index
unfolding text_bytes text_starts
texts_spelt e f = rw (e, f, ← append-nil (joined all_texts), ← append-nil (starts 0 all_texts)) (record {
  lies = λ k h. run_lies all_texts [] [] k (omega (arith, all_long_lem));
  spells = λ k h. run_word all_texts [] [] k (omega (arith, all_long_lem)) ∙ front_text k h;
  spells35 = λ k h. run_word all_texts [] [] (256 + k) (omega (arith, all_long_lem)) ∙ own_text k;
})

-- ---- `word35_at`

pub word35_own : (k : ℕ) {bytes index : List ℕ} {w : ℕ} {t : List ℕ} → SpellsTexts bytes index → 0xCC ≤ k → k ≤ 0xFD → w ≡ k → t ≡ word_of bytes index (w + 52)
    → t ≡ listed_word35 k
unfolding listed_word35 between
word35_own k {bytes} {index} {w} sp low high e q =
    let at : w + 52 ≡ 256 + (k - 0xCC) = omega arith in
    q ∙ ap (word_of bytes index) at ∙ sp.spells35 (k - 0xCC) (omega arith) ∙ simp (le-leb _ _ low, le-leb _ _ high)
