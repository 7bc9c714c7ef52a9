-- A text without a `*` has no count: its byte is given once.
-- Assumes nothing.
use Prim.Native.Nat.{ℕ, suc, min}
use mathlib.Core.Path.{◌≡◌, refl, sym, ap, ◌∙◌}
use mathlib.Core.Bool.{Bool, true, false, not, cond}
use mathlib.Core.List.{List, [], ◌∷◌}
use Rattle.std.specs.Prelude.{Option, None, Some}
use native.Mathlib.Omega.{arith}
use lib.ListN.{length, length-take, length-drop}
use Rattle.base_ascii.specs.Bytes.{is_letter, is_space}
use Rattle.base_ascii.specs.Search.{equals, other, front, before, past, last, past_end}
use Rattle.base_ascii.proofs.Searching.{front_le, front_drop, before_take, end_take}
use Rattle.base_ascii.specs.Trim.{trim}
use Rattle.word_search.specs.Find.{name_in, meaning}
use Rattle.word_search.specs.declared.Match.{Match}
use Rattle.word_tables.specs.Escapes.{escape_names}
use Rattle.escape_numbers.specs.Numbers.{number_of, hex_of}
use Rattle.escape_bytes.specs.Keys.{key_names, known, key_with, keyed, key_escape}
use Rattle.escape_bytes.specs.Escape.{name_escape, counted_name, escape_of}
use Rattle.escape_bytes.specs.declared.Key.{Key}
use Rattle.escape_bytes.specs.declared.Key.TheVariants.{Control, Commodore, Shift}
use Rattle.escape_bytes.specs.declared.Escape.{Escape}

-- ---- how often a byte is given

abbrev pub Often : ℕ → Option Escape → Type 0
Often n (Some e) = e.count ≡ n
Often n None = Unit {0}

module _ (n : ℕ) where
  by_test : (r : Bool) (b : ℕ) → Often n (elim r [ true ↦ known b n | false ↦ None ])
  by_test true b = refl
  by_test false b = tt

  by_number_lem : (x : Option ℕ) (r : Option Escape) → Often n r → Often n (elim x [ Some v ↦ known v n | None ↦ r ])
  by_number_lem (Some v) r f = refl
  by_number_lem None r f = f

  by_match : (m : Option Match) (r : Option Escape) → Often n r → Often n (elim m [ Some w ↦ known w.token n | None ↦ r ])
  by_match (Some w) r f = refl
  by_match None r f = f

  key_often : (key : Key) (b : ℕ) → Often n (key_with key b n)
  unfolding key_with
  key_often Control b = refl
  key_often Commodore b = by_test (is_letter b) _
  key_often Shift b = by_test (is_letter b) _

  keyed_often : (prefix arg : List ℕ) → Often n (keyed prefix arg n)
  unfolding keyed
  keyed_often prefix [] = tt
  keyed_often prefix (b ∷ c ∷ s) = tt
  keyed_often prefix (b ∷ []) = go (meaning key_names prefix)
    where
      go : (k : Option Key) → Often n (elim k [ Some key ↦ key_with key b n | None ↦ None ])
      go (Some key) = key_often key b
      go None = tt

  name_often : (name : List ℕ) → Often n (name_escape name n)
  unfolding name_escape key_escape
  name_often [] = tt
  name_often (b ∷ s) =
      by_number_lem (number_of 10 255 (b ∷ s)) _ (by_number_lem (hex_of (b ∷ s)) _ (by_match (name_in escape_names (b ∷ s)) _ (keyed_often _ _)))

-- where no * is among all bytes, it is in no part of them
module _ (p : ℕ → Bool) where
  none_last : (s : List ℕ) → before p s ≡ length s → last p s ≡ None
  unfolding before front last
  none_last [] e = refl
  none_last (b ∷ s) e = go (p b) e (none_last s)
    where
      go : (r : Bool) → elim (not r) [ true ↦ suc (before p s) | false ↦ 0 ] ≡ suc (length s) → (before p s ≡ length s → last p s ≡ None)
          → ◌≡◌ {A = Option ℕ} (elim (last p s) [ Some n ↦ Some (suc n) | None ↦ cond r (Some 0) None ]) None
      go true q f = absurd (omega arith)
      go false q f = rw (f (omega arith))

  none_trimmed : (s : List ℕ) → before p s ≡ length s → before p (trim s) ≡ length (trim s)
  unfolding trim before
  none_trimmed s e =
      let rest = past is_space s in
      let m = length (past_end is_space rest) in
      let none : before p rest ≡ length rest =
      omega (arith, e, front_drop (other p) (front is_space s) s (omega (arith, e, front_le is_space s)), length-drop (front is_space s) s) in
      rw (← end_take is_space rest) (before_take p m rest ∙ ap (min m) none ∙ sym (length-take m rest))

pub given_once : (s : List ℕ) → before (equals 42) s ≡ length s → Often 1 (escape_of s)
unfolding escape_of counted_name
given_once s e = rw (escape_of, counted_name, none_last (equals 42) (trim s) (none_trimmed (equals 42) s e)) (name_often 1 (trim s))
