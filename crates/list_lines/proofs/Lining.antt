-- The listing of a line, part by part.
-- Assumes nothing.
use Prim.Native.Nat.{ℕ, ◌+◌, ◌*◌, ◌≤◌, ◌<◌}
use mathlib.Core.Path.{◌≡◌, refl, sym}
use mathlib.Core.List.{List, [], ◌∷◌, ◌++◌, append_assoc}
use native.Mathlib.Omega.{arith}
use lib.ListN.{length, set, length-append}
use mir.Syntax.{w16, w64}
use mir.Val.{Fits}
use Rattle.base_lent.specs.Stores.{Room, Put}
use Rattle.base_lent.proofs.Storing.{room_first, room_second, put_both}
use Rattle.image_units.specs.declared.Rules.{Rules}
use Rattle.list_lines.specs.Body.{body_listing, line_listing}
use Rattle.base_steps.specs.Decimal.{decimal}
use Rattle.list_lines.specs.LineHelpers.{head_listing, rest_listing, LineLength}
use Rattle.list_lines.proofs.Digits.{places_most}
use Rattle.list_lines.proofs.Progress.{body_short}

-- ---- how long

line_long : (rules : Rules) (number : ℕ) (body : List ℕ) → length (line_listing rules number body) ≡ length (decimal number) + length (body_listing rules body) + 2
unfolding line_listing
line_long rules number body =
    omega (arith, length-append (decimal number) (0x20 ∷ (body_listing rules body ++ (0x0A ∷ []))), length-append (body_listing rules body) (0x0A ∷ []))

pub line_short : (rules : Rules) (number : ℕ) (body : List ℕ) → number < 65536 → length (line_listing rules number body) ≤ 7 + 9 * length body
line_short rules number body small = omega (arith, line_long rules number body, places_most number small, body_short rules body)

module _ (rules : Rules) (number : ℕ) (body : List ℕ) {k m : ℕ} (small : Fits w16 number) (places : k ≡ length (decimal number)) (rest : m ≡ length (body_listing rules body)) where
  pub line_length_lem : LineLength rules number body (k + m + 2)
  line_length_lem =
      record {
        is = omega (arith, line_long rules number body);
        short = omega (arith, line_long rules number body, line_short rules number body (omega (arith, small.fits)));
      }

  pub line_fits : length body ≤ 1048576 → Fits w64 (k + m + 2)
  line_fits few = record { fits = omega (arith, line_length_lem.short) }

  pub line_fits_so_far : length body ≤ 1048576 → Fits w64 (k + m)
  line_fits_so_far few = record { fits = omega (arith, line_length_lem.short) }

-- ---- stored in two parts

pub line_parts : (rules : Rules) (number : ℕ) (body : List ℕ) → line_listing rules number body ≡ head_listing number ++ rest_listing rules body
unfolding line_listing head_listing rest_listing
line_parts rules number body = sym (append_assoc (decimal number) (0x20 ∷ []) (body_listing rules body ++ (0x0A ∷ [])))

module _ (number : ℕ) {buffer : List ℕ} {at : ℕ} where
  pub head_number : Room buffer at (head_listing number) → Room buffer at (decimal number)
  unfolding head_listing
  head_number r = room_first (decimal number) (0x20 ∷ []) r

  pub head_space : {space : ℕ} {half : List ℕ} → Room buffer at (head_listing number) → Put buffer at (decimal number) space half → space < length half
  unfolding head_listing
  head_space r p = omega (arith, (room_second (decimal number) (0x20 ∷ []) r p).room)

  pub head_put : {space : ℕ} {half : List ℕ} → Put buffer at (decimal number) space half → Put buffer at (head_listing number) (space + 1) (set half space 0x20)
  unfolding head_listing
  head_put p = put_both (decimal number) (0x20 ∷ []) p (record { ends = omega arith; stored = refl })

module _ (rules : Rules) (body : List ℕ) {buffer : List ℕ} {at : ℕ} where
  pub rest_body : Room buffer at (rest_listing rules body) → Room buffer at (body_listing rules body)
  unfolding rest_listing
  rest_body r = room_first (body_listing rules body) (0x0A ∷ []) r

  pub rest_end : {to : ℕ} {half : List ℕ} → Room buffer at (rest_listing rules body) → Put buffer at (body_listing rules body) to half → to < length half
  unfolding rest_listing
  rest_end r p = omega (arith, (room_second (body_listing rules body) (0x0A ∷ []) r p).room)

  pub rest_put : {to : ℕ} {half : List ℕ} → Put buffer at (body_listing rules body) to half → Put buffer at (rest_listing rules body) (to + 1) (set half to 0x0A)
  unfolding rest_listing
  rest_put p = put_both (body_listing rules body) (0x0A ∷ []) p (record { ends = omega arith; stored = refl })
