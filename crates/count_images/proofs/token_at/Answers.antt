-- `count_images::token_at` meets its contract: the constant is the definition's list.
-- Assumes nothing.
use mathlib.Core.Path.{◌≡◌, refl, sym}
use lib.ListN.{length, get_or, get_or-eq_default}
use native.Mathlib.Omega.{arith}
use Prim.Native.Nat.{ℕ, ◌≤◌}
use Rattle.count_tokens.specs.Tokens.{counted_tokens}
use Rattle.count_images.proofs.token_at.Goals as goal

tokens-197 : length counted_tokens ≡ 197
unfolding counted_tokens
tokens-197 = refl

behind : (place : ℕ) → 197 ≤ place → 0 ≡ get_or counted_tokens place 0
behind place h = sym (get_or-eq_default counted_tokens 0 (omega (arith, tokens-197)))

pub returns-then-place-lt197 : goal.returns-then-place-lt197
unfolding counted_tokens
returns-then-place-lt197 c = refl

pub returns : goal.returns
returns c = search behind
