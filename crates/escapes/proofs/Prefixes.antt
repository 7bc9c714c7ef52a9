-- The table of the prefixes that name a key, looked through from the front.
-- Assumes nothing.
use Prim.Native.Nat.{ℕ, zero, suc, ◌+◌, ◌≤◌, ◌<◌}
use mathlib.Core.Path.{◌≡◌, refl, sym, ap, ◌∙◌}
use mathlib.Core.Bool.{Bool, true, false}
use mathlib.Core.List.{List, [], ◌∷◌, map}
use native.Mathlib.Numerals.{add-one}
use native.Mathlib.Omega.{arith}
use lib.ListN.{length, get_or, drop, drop_of_length-le}
use Rattle.word_search.specs.Compare.{alike}
use Rattle.word_search.specs.Find.{Name, meaning}
use Rattle.std.specs.Prelude.{Some, None}
use Rattle.escape_bytes.specs.declared.Key.{Key}
use Rattle.escape_bytes.specs.Keys.{key_names}
use Rattle.escapes.specs.declared.keys.KeyName.{KeyName}

abbrev pub name_of : KeyName → Name Key
name_of x = record { name = x.prefix.now; means = x.key }

here : (xs : List KeyName) (i : ℕ) (d : KeyName) → i < length xs → drop i (map name_of xs) ≡ name_of (get_or xs i d) ∷ drop (suc i) (map name_of xs)
here [] i d h = absurd (omega arith)
here (x ∷ xs) zero d h = refl
here (x ∷ xs) (suc i) d h = here xs i d (omega arith)

long : (xs : List KeyName) → length (map name_of xs) ≡ length xs
long [] = refl
long (x ∷ xs) = ap suc (long xs)

-- i names of a table were passed, and none of them is the text
pub record Passed (xs : List KeyName) (t : List ℕ) (i : ℕ) : Type 0 where
  pub spelt : map name_of xs ≡ key_names
  pub gives : meaning (drop i key_names) t ≡ meaning key_names t

module _ {xs : List KeyName} {t : List ℕ} {i : ℕ} (k : Passed xs t i) where
  pub key_end : length xs ≤ i → None ≡ meaning key_names t
  unfolding meaning
  key_end h =
      let l : length key_names ≤ i = omega (arith, ap length (sym k.spelt), long xs) in
      sym (rw (drop_of_length-le key_names l)) ∙ k.gives

  module _ (d : KeyName) {r : Bool} (q : r ≡ alike (get_or xs i d).prefix.now t) (h : i < length xs) where
    asked : meaning (drop i key_names) t ≡ elim r [ true ↦ Some (get_or xs i d).key | false ↦ meaning (drop (suc i) key_names) t ]
    unfolding meaning
    asked =
        let e : drop i key_names ≡ name_of (get_or xs i d) ∷ drop (suc i) key_names =
        ap (drop i) (sym k.spelt) ∙ here xs i d h ∙ ap (λ (ns : List (Name Key)). name_of (get_or xs i d) ∷ drop (suc i) ns) k.spelt in
        rw (e, meaning, q)

    pub key_found : r ≡ true → Some (get_or xs i d).key ≡ meaning key_names t
    key_found e = sym (asked ∙ rw e) ∙ k.gives

    pub key_turn : r ≡ false → Passed xs t (i + 1)
    key_turn e = record { spelt = k.spelt; gives = rw add-one (sym (asked ∙ rw e) ∙ k.gives) }
