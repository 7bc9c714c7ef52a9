-- The token of a unit, case by case.
-- Assumes nothing.
use Prim.Native.Nat.{ℕ, ◌≤◌, ◌<◌}
use mathlib.Core.Path.{◌≡◌, refl, ap}
use mathlib.Core.Bool.{Bool, true, false, cond}
use mathlib.Core.Logic.{◌⊎◌, inl, inr}
use mathlib.Core.List.{List, [], ◌∷◌}
use native.Mathlib.Omega.{arith}
use lib.Dec.{ltb}
use lib.ListN.{length}
use borrow.Author.Tests.{lt-ltb, ltb-true, ltb-false}
use Rattle.word_tables.specs.Tsb.{tsb_id, tsb_text}
use Rattle.list_spelling.proofs.Spelling.{no_word}
use Rattle.image_units.specs.declared.Unit.{Unit}
use Rattle.image_units.specs.declared.Unit.TheVariants.{Char, Token, Token35, Pair, Lone, Remarked}
use Rattle.count_tokens.specs.Tokens.{if_word, counted_as}
use Rattle.count_tokens.specs.TokenHelpers.{only}

pub below_or_not : (a b : ℕ) → (a < b) ⊎ (b ≤ a)
below_or_not a b = go (ltb a b) refl
  where
    go : (t : Bool) → ltb a b ≡ t → (a < b) ⊎ (b ≤ a)
    go true e = inl (ltb-true a b e)
    go false e = inr (ltb-false a b e)

module _ {u : Unit} where
  pub char_none : {b : ℕ} → u ≡ Char b → only 0xFF ≡ counted_as u
  unfolding only counted_as
  char_none is = rw is

  pub token_itself : {b : ℕ} → u ≡ Token b → only b ≡ counted_as u
  unfolding only counted_as
  token_itself is = rw is

  pub token35_none : {b : ℕ} → u ≡ Token35 b → only 0xFF ≡ counted_as u
  unfolding only counted_as
  token35_none is = rw is

  pub lone_none : u ≡ Lone → only 0xFF ≡ counted_as u
  unfolding only counted_as
  lone_none is = rw is

  pub remarked_none : {b : ℕ} → u ≡ Remarked b → only 0xFF ≡ counted_as u
  unfolding only counted_as
  remarked_none is = rw is

  module _ {b : ℕ} {w : List ℕ} (is : u ≡ Pair b) (e : w ≡ tsb_text b) where
    pub pair_none : length w ≤ 0 → only 0xFF ≡ counted_as u
    unfolding only counted_as
    pair_none h = rw (is, ← e) (go w h)
      where
        go : (v : List ℕ) → length v ≤ 0 → [] ≡ if_word v (tsb_id b)
        go [] l = refl
        go (x ∷ v) l = absurd (omega arith)

    pub pair_token : {r : ℕ} → 0 < length w → r ≡ tsb_id b → only r ≡ counted_as u
    unfolding only counted_as
    pair_token {r} h i = rw (is, ← e, ← i) (go w h refl)
      where
        low : 0 < length w → r < 0xCC
        low l = go_low (below_or_not r 0x80)
          where
            go_low : (r < 0x80) ⊎ (0x80 ≤ r) → r < 0xCC
            go_low (inl s) = omega arith
            go_low (inr s) = absurd (omega (arith, ap length (no_word b s i), ap length e))

        go : (v : List ℕ) → 0 < length v → w ≡ v → cond (ltb r 0xCC) (r ∷ []) [] ≡ if_word v r
        go [] l q = absurd (omega arith)
        go (x ∷ v) l q = rw (lt-ltb r 0xCC (low h))
