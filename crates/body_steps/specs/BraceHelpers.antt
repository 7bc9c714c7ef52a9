-- For helpers of crunching alone: what the { in front of one } share.
-- Assumes nothing.
use Rattle.std.specs.Prelude.{ℕ, ◌+◌, ◌-◌, ◌≤◌, ◌<◌, ◌≡◌, List, get_or, take, drop}
use Rattle.base_ascii.specs.Search.{equals, before}
use Rattle.escapes.specs.TailHelpers.{TailOf}
use Rattle.body_steps.specs.declared.string.Span.{Span}

-- the span of a place: it begins no later than behind the place, and ends at the first } from there on, or with the text
pub record SpanOf (t : List ℕ) (at : ℕ) (w : Span) : Type 0 where
  pub begun : w.from ≤ at + 1
  pub ahead : at < w.close
  pub closed : w.close ≡ w.from + before (equals 0x7D) (drop w.from t)
  pub ends : TailOf (take (w.close - w.from) (drop w.from t)) w.tail

-- a span that is known at a place: that of each place from there on up to its end
pub record Spans (t : List ℕ) (at : ℕ) (w : Span) : Type 0 where
  pub spans : at < w.close → SpanOf t at w

-- the same, and at a { it is that of the {
pub record Reaches (t : List ℕ) (at : ℕ) (w : Span) : Type 0 where
  pub known : Spans t at w
  pub brace : get_or t at 0 ≡ 0x7B → SpanOf t at w
