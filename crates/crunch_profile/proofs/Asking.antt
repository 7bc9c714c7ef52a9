-- What the profile says of a line, test by test; and that a length may be cut to 65,536 before it is asked.
-- Assumes nothing.
use Prim.Native.Nat.{ℕ, ◌≤◌, ◌<◌, min}
use mathlib.Core.Path.{◌≡◌, sym, ap, ◌∙◌}
use mathlib.Core.Bool.{Bool, true, false}
use native.Mathlib.Decide.{dec_lt}
use native.Mathlib.Omega.{arith}
use borrow.Author.Tests.{lt-ltb, le-ltb}
use Rattle.base_refusals.specs.Numbers.{line_number_too_high, not_ascending, zero_in_body, body_length}
use Rattle.base_refusals.specs.Answer.{done, refused}
use Rattle.image_limits.specs.declared.Limits.{Limits}
use Rattle.image_limits.specs.Limits.{c64, is_too_high, is_not_ascending, is_bad_length}
use Rattle.crunch_profile.specs.Profile.{profile_says}

module _ (k least number size : ℕ) (zero : Bool) {m : Limits} (is : m ≡ c64) {high : Bool} (a : high ≡ is_too_high m number) where
  high_is : is_too_high c64 number ≡ high
  high_is = ap (λ (x : Limits). is_too_high x number) (sym is) ∙ sym a

  pub says_high : high ≡ true → refused (line_number_too_high k) ≡ profile_says k least number zero size
  unfolding profile_says
  says_high h = rw (high_is, h)

  module _ (ok : high ≡ false) {low : Bool} (b : low ≡ is_not_ascending least number) where
    pub says_behind : low ≡ true → refused (not_ascending k) ≡ profile_says k least number zero size
    unfolding profile_says
    says_behind h = rw (high_is, ok, sym b, h)

    module _ (up : low ≡ false) where
      pub says_zero : zero ≡ true → refused (zero_in_body k) ≡ profile_says k least number zero size
      unfolding profile_says
      says_zero h = rw (high_is, ok, sym b, up, h)

      module _ (none : zero ≡ false) {bad : Bool} (c : bad ≡ is_bad_length m size) where
        bad_is : is_bad_length c64 size ≡ bad
        bad_is = ap (λ (x : Limits). is_bad_length x size) (sym is) ∙ sym c

        pub says_length : bad ≡ true → refused (body_length k) ≡ profile_says k least number zero size
        unfolding profile_says
        says_length h = rw (high_is, ok, sym b, up, none, bad_is, h)

        pub says_yes : bad ≡ false → done tt ≡ profile_says k least number zero size
        unfolding profile_says
        says_yes h = rw (high_is, ok, sym b, up, none, bad_is, h)

cut_length : (n : ℕ) → is_bad_length c64 (min n 65536) ≡ is_bad_length c64 n
cut_length n = go (dec_lt n 65536)
  where
    go : Dec (n < 65536) → is_bad_length c64 (min n 65536) ≡ is_bad_length c64 n
    go (yes h) = let e : min n 65536 ≡ n = omega arith in ap (is_bad_length c64) e
    go (no h) = let e : min n 65536 ≡ 65536 = omega arith in let f : 1 ≤ n = omega arith in let g : 250 < n = omega arith in rw e (simp (le-ltb _ _ f, lt-ltb _ _ g))

pub says_cut : (k least number : ℕ) (zero : Bool) (n : ℕ) → profile_says k least number zero (min n 65536) ≡ profile_says k least number zero n
unfolding profile_says
says_cut k least number zero n = rw (cut_length n)
