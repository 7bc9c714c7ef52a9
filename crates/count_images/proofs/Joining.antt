-- Joining, and one image more: the code goes on where a test for totals did not fail.
-- Assumes nothing.
use Prim.Native.Nat.{ℕ, ◌+◌, ◌≤◌, ◌<◌}
use mathlib.Core.Path.{◌≡◌, sym, ◌∙◌}
use mathlib.Core.Bool.{Bool, true, false, not}
use mathlib.Core.List.{List}
use native.Mathlib.Omega.{arith}
use lib.ListN.{length, get_or}
use mir.Syntax.{w64}
use mir.Val.{Fits}
use borrow.Author.Tests.{le-leb, lt-leb, le-ltb, lt-ltb, not-true, not-false}
use Rattle.base_refusals.specs.Numbers.{too_many_images}
use Rattle.base_refusals.specs.Answer.{done, refused}
use Rattle.count_tokens.specs.Tokens.{tokens_in}
use Rattle.count_totals.specs.TokenTotals.{images_taken, is_totals}
use Rattle.count_totals.specs.TotalsHelpers.{Small}
use Rattle.count_totals.proofs.Bounds.{are_totals, totals_small}
use Rattle.count_images.specs.Tallies.{added}
use Rattle.count_images.specs.TallyHelpers.{Raisable}
use Rattle.count_images.specs.Carried.{Kept, counted, no_totals, with_marks, with_image, joined}

pub small_raisable : {t : List ℕ} → Small t → Raisable 1048577 t
small_raisable s = record { long = s.long; each = λ k. omega (arith, s.each k) }

module _ (t : List ℕ) {b : Bool} (e : b ≡ is_totals t) where
  passed : not b ≡ false → is_totals t ≡ true
  passed is = sym e ∙ not-false b is

  failed : not b ≡ true → is_totals t ≡ false
  failed is = sym e ∙ not-true b is

  pub passed_small : not b ≡ false → Small t
  passed_small is = totals_small (are_totals (passed is))

  pub taken_there : not b ≡ false → 0xCC < length t
  taken_there is = omega (arith, (passed_small is).long)

  pub image_room : not b ≡ false → Raisable 1048577 t
  image_room is = small_raisable (passed_small is)

  module _ (u : List ℕ) where
    pub join_no_totals : not b ≡ true → ◌≡◌ {A = Kept} (record { answer = done no_totals; totals = t }) (joined t u)
    unfolding joined
    join_no_totals is = rw (failed is)

    pub image_no_totals : not b ≡ true → ◌≡◌ {A = Kept} (record { answer = done no_totals; totals = t }) (with_image t u)
    unfolding with_image
    image_no_totals is = rw (failed is)

    pub image_too_many : not b ≡ false → 1000 ≤ get_or t 0xCC 0 → ◌≡◌ {A = Kept} (record { answer = refused too_many_images; totals = t }) (with_image t u)
    unfolding with_image
    image_too_many is h = rw (passed is, le-leb 1000 (images_taken t) h)

    pub image_taken : {r : Kept} → not b ≡ false → get_or t 0xCC 0 < 1000 → r ≡ with_marks t (tokens_in u) → r ≡ with_image t u
    unfolding with_image
    image_taken is h m = m ∙ rw (passed is, lt-leb 1000 (images_taken t) h)

module _ (t u : List ℕ) {b c : Bool} (e : b ≡ is_totals t) (is : not b ≡ false) (d : c ≡ is_totals u) where
  pub join_no_other : not c ≡ true → ◌≡◌ {A = Kept} (record { answer = done no_totals; totals = t }) (joined t u)
  unfolding joined
  join_no_other bad = rw (passed t e is, failed u d bad)

  pub images_fit : not c ≡ false → Fits w64 (get_or t 0xCC 0 + get_or u 0xCC 0)
  images_fit fine = record { fits = omega (arith, (are_totals (passed t e is)).few, (are_totals (passed u d fine)).few) }

  pub join_too_many : not c ≡ false → 1000 < get_or t 0xCC 0 + get_or u 0xCC 0 → ◌≡◌ {A = Kept} (record { answer = refused too_many_images; totals = t }) (joined t u)
  unfolding joined
  join_too_many fine h = rw (passed t e is, passed u d fine, lt-ltb 1000 (images_taken t + images_taken u) h)

  pub join_both : {r : List ℕ} → not c ≡ false → get_or t 0xCC 0 + get_or u 0xCC 0 ≤ 1000 → r ≡ added t u
      → ◌≡◌ {A = Kept} (record { answer = done counted; totals = r }) (joined t u)
  unfolding joined
  join_both fine h s = rw (passed t e is, passed u d fine, le-ltb 1000 (images_taken t + images_taken u) h, s)
