-- For the helpers that search stored words, and for no promise of a public call: a list of words as one run of bytes, with a start for
-- each word and one behind the last (document 01, "Crunching one body": "one run of bytes, several hundred long, with starts and tokens
-- beside it").
-- Assumes nothing.
use Rattle.std.specs.Prelude.{ℕ, zero, suc, ◌+◌, ◌-◌, ◌≤◌, ◌<◌, ◌≡◌, Bool, true, false, ◌&&◌, List, [], ◌∷◌, ◌++◌, T, eqb, length, get_or, take, drop}
use Rattle.base_ascii.specs.Bytes.{upper}
use Rattle.word_search.specs.Compare.{begins, passes}
use Rattle.word_search.specs.declared.Section.{Section}
use Rattle.word_search.specs.declared.Test.{Test}

-- lists one behind the other; the place at which each begins, the first of them k, and the end of the last
module _ {A : Type 0} where
  unfoldable pub joined : List (List A) → List A
  joined [] = []
  joined (l ∷ ls) = l ++ joined ls

  unfoldable pub starts : ℕ → List (List A) → List ℕ
  starts k [] = k ∷ []
  starts k (l ∷ ls) = k ∷ starts (k + length l) ls

-- word k: the bytes from its start up to the next one
unfoldable pub word_of : List ℕ → List ℕ → ℕ → List ℕ
word_of bytes starts k = take (get_or starts (k + 1) 0 - get_or starts k 0) (drop (get_or starts k 0) bytes)

-- word k lies in the run
pub record Lies (bytes starts : List ℕ) (k : ℕ) : Type 0 where
  pub here : k + 1 < length starts
  pub up : get_or starts k 0 ≤ get_or starts (k + 1) 0
  pub within : get_or starts (k + 1) 0 ≤ length bytes

-- no byte of the word is a small letter
unfoldable pub raised : List ℕ → Bool
raised [] = true
raised (x ∷ w) = eqb (upper x) x && raised w

-- the word is stored in capitals, and its first bytes, so many, are known to agree with the text
pub record Ready (word text : List ℕ) (known : ℕ) : Type 0 where
  pub capital : T (raised word)
  pub long : known ≤ length word
  pub agrees : begins (take known word) text ≡ true

-- the words of a section lie in the run, ready to be compared with the text
pub record Stored (text bytes starts : List ℕ) (section : Section) (known : ℕ) : Type 0 where
  pub up : section.from ≤ section.to
  pub lie : (k : ℕ) → section.from ≤ k → k < section.to → Lies bytes starts k
  pub ready : (k : ℕ) → section.from ≤ k → k < section.to → Ready (word_of bytes starts k) text known

-- word k passes a test of the text
unfoldable pub passes_at : Test → List ℕ → List ℕ → List ℕ → ℕ → Bool
passes_at test text bytes starts k = passes test (word_of bytes starts k) text

-- the first of n places, from k on, that passes a test; the place behind them where none does
unfoldable pub first_from : (ℕ → Bool) → ℕ → ℕ → ℕ
first_from p k zero = k
first_from p k (suc n) = elim (p k) [ true ↦ k | false ↦ first_from p (suc k) n ]
