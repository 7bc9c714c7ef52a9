-- Two rows added, place by place.
-- Assumes nothing.
use Prim.Native.Nat.{ℕ, ◌+◌, ◌≤◌, ◌<◌}
use mathlib.Core.Path.{◌≡◌, refl, sym, ◌∙◌}
use mathlib.Core.Logic.{◌⊎◌, inl, inr}
use mathlib.Core.List.{List}
use native.Mathlib.Omega.{arith}
use native.Mathlib.Numerals.{add-one}
use native.Mathlib.Nat.{eq-or-lt_of_le, le_of_suc-le-suc}
use lib.ListN.{length, get_or, set, length-set}
use lib.Seq.{ext_get_or, get_or-set_same, get_or-set_other}
use mir.Syntax.{w64}
use mir.Val.{Fits}
use Rattle.count_totals.specs.TotalsHelpers.{Small}
use Rattle.count_images.specs.Tallies.{added}
use Rattle.count_images.proofs.Tallying.{length_added, get_d_added}

-- the first k places are added
pub record AddedUpTo (t u : List ℕ) (now : List ℕ) (k : ℕ) : Type 0 where
  pub long : length now ≡ length t
  pub before : (i : ℕ) → i < k → get_or now i 0 ≡ get_or t i 0 + get_or u i 0
  pub behind : (i : ℕ) → k ≤ i → get_or now i 0 ≡ get_or t i 0

module _ {t u : List ℕ} where
  pub adding_start : AddedUpTo t u t 0
  adding_start = record { long = refl; before = λ i h. absurd (omega arith); behind = λ i h. refl }

  module _ {s : List ℕ} {k : ℕ} (a : AddedUpTo t u s k) where
    pub adding_fits : Small t → Small u → Fits w64 (get_or s k 0 + get_or u k 0)
    adding_fits p q = record { fits = omega (arith, a.behind k (omega arith), p.each k, q.each k) }

    pub adding_turn : k < length s → AddedUpTo t u (set s k (get_or s k 0 + get_or u k 0)) (k + 1)
    adding_turn h =
        record {
          long = length-set s k _ ∙ a.long;
          before = λ i l. sum i (eq-or-lt_of_le (le_of_suc-le-suc (rw add-one at l)));
          behind = λ i l. get_or-set_other s k i _ 0 (λ q. omega arith) ∙ a.behind i (omega arith);
        }
      where
        sum : (i : ℕ) → (i ≡ k) ⊎ (i < k) → get_or (set s k (get_or s k 0 + get_or u k 0)) i 0 ≡ get_or t i 0 + get_or u i 0
        sum i (inl e) = rw (e, get_or-set_same s k (get_or s k 0 + get_or u k 0) 0 h, a.behind k (omega arith))
        sum i (inr l) = get_or-set_other s k i _ 0 (λ q. omega arith) ∙ a.before i l

    pub adding_end : length s ≤ k → Small t → Small u → s ≡ added t u
    adding_end h p q =
        let both : length t ≡ length u = omega (arith, p.long, q.long) in
        ext_get_or 0 s (added t u) (a.long ∙ sym (length_added t u both)) (λ i l. a.before i (omega arith) ∙ sym (get_d_added t u i both))
