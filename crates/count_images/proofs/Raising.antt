-- Numbers raised: one mark, and a unit counted.
-- Assumes nothing.
use Prim.Native.Nat.{ℕ, ◌+◌, ◌≤◌, ◌<◌}
use mathlib.Core.Path.{◌≡◌, sym, ap, ◌∙◌}
use mathlib.Core.Logic.{◌⊎◌, inl, inr}
use mathlib.Core.List.{List, [], ◌∷◌}
use native.Mathlib.Omega.{arith}
use lib.ListN.{length, get_or, set, get_or-eq_default}
use mir.Syntax.{w64}
use mir.Val.{Fits}
use borrow.Author.Tests.{lt-ltb, le-ltb}
use Rattle.count_tokens.specs.TokenHelpers.{only}
use Rattle.count_tokens.proofs.UnitTokens.{below_or_not}
use Rattle.count_images.specs.Tallies.{tally, added}
use Rattle.count_images.specs.TallyHelpers.{Raisable}
use Rattle.count_images.proofs.Tallying.{occurrences_most, tally_none, tally_long, tally_on_at, tally_mark}

-- ---- how far

pub raisable_less : {n m : ℕ} {t : List ℕ} → Raisable n t → m ≤ n → Raisable m t
raisable_less r h = record { long = r.long; each = λ k. omega (arith, r.each k) }

-- fewer marks than a number can be raised
pub raised : {n m : ℕ} {t : List ℕ} (ms : List ℕ) → Raisable n t → m + length ms ≤ n → Raisable m (added t (tally ms))
raised {n} {m} {t} ms r h = record { long = tally_long t r.long ms; each = λ k. at_place k (below_or_not k 206) }
  where
    at_place : (k : ℕ) → (k < 206) ⊎ (206 ≤ k) → get_or (added t (tally ms)) k 0 + m ≤ 18446744073709551615
    at_place k (inl l) = omega (arith, tally_on_at t r.long ms k l, occurrences_most k ms, r.each k)
    at_place k (inr l) =
        let far : length (added t (tally ms)) ≤ k = omega (arith, tally_long t r.long ms) in
        omega (arith, get_or-eq_default (added t (tally ms)) 0 far, r.each k)

-- ---- one mark

module _ {t : List ℕ} (k : ℕ) (r : Raisable 1 t) where
  pub raise_fits : Fits w64 (get_or t k 0 + 1)
  raise_fits = record { fits = omega (arith, r.each k) }

  pub raise_tally : k < 206 → set t k (get_or t k 0 + 1) ≡ added t (tally (k ∷ []))
  raise_tally h = tally_mark t r.long k h

-- ---- a unit counted

module _ (t : List ℕ) (k : ℕ) {ms : List ℕ} (e : only k ≡ ms) where
  pub counted_one : {t' : List ℕ} → k < 0xCC → t' ≡ added t (tally (k ∷ [])) → t' ≡ added t (tally ms)
  unfolding only
  counted_one h s = s ∙ ap (λ (ns : List ℕ). added t (tally ns)) (sym (simp (lt-ltb k 0xCC h)) ∙ e)

  pub counted_none : 0xCC ≤ k → Raisable 1 t → t ≡ added t (tally ms)
  unfolding only
  counted_none h r = sym (tally_none t r.long) ∙ ap (λ (ns : List ℕ). added t (tally ns)) (sym (simp (le-ltb k 0xCC h)) ∙ e)
