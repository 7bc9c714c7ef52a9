-- The span of a place in a string: the { in front of one } share it, and each of them is resolved by it.
-- Assumes nothing.
use Prim.Native.Nat.{ℕ, ◌+◌, ◌-◌, ◌≤◌, ◌<◌}
use mathlib.Core.Path.{◌≡◌, sym, ap, ◌∙◌}
use mathlib.Core.Bool.{false}
use mathlib.Core.List.{List}
use native.Mathlib.Omega.{arith}
use lib.ListN.{length, get_or, take, drop, length-drop}
use lib.Seq.{drop-drop}
use borrow.Author.Tests.{eq-eqb, lt-ltb, le-ltb}
use mir.Syntax.{w64}
use mir.Val.{Fits}
use Rattle.base_ascii.specs.Search.{equals, other, before}
use Rattle.base_ascii.proofs.Searching.{tail, here, before_le, front_drop}
use Rattle.escape_bytes.specs.Escape.{escape_of}
use Rattle.escapes.specs.TailHelpers.{TailOf}
use Rattle.escape_bytes.specs.declared.Escape.{Escape}
use Rattle.escape_bytes.specs.Keys.{known}
use Rattle.std.specs.Prelude.{Option, None}
use Rattle.escapes.specs.declared.Tail.{Tail}
use Rattle.escapes.proofs.Tails.{drop_take}
use Rattle.body_steps.specs.BraceHelpers.{SpanOf, Spans, Reaches}
use Rattle.body_rules.specs.Steps.{one, escaped, braced, string_step}
use Rattle.body_rules.specs.declared.Mode.TheVariants.{String}
use Rattle.body_rules.specs.declared.Move.{Move}
use Rattle.body_rules.proofs.StringSteps.{escaped_known, escaped_unknown}
use Rattle.body_steps.specs.declared.string.Span.{Span}

-- ---- a span that is known

pub spans_none : (t : List ℕ) {w : Tail} → Spans t 0 (record { from = 0; close = 0; tail = w })
spans_none t = record { spans = λ l. absurd (omega arith) }

module _ {t : List ℕ} {at : ℕ} {w : Span} where
  -- further on it stays right
  pub spans_on : (n : ℕ) → Spans t at w → Spans t (at + n) w
  spans_on n f =
      record {
        spans = λ l. let s = f.spans (omega arith) in record { begun = omega (arith, s.begun); ahead = l; closed = s.closed; ends = s.ends };
      }

  pub reaches_on : (n : ℕ) → Reaches t at w → Spans t (at + n) w
  reaches_on n r = spans_on n r.known

  pub reaches_other : (get_or t at 0 ≡ 0x7B → ⊥) → Spans t at w → Reaches t at w
  reaches_other n f = record { known = f; brace = λ e. absurd (n e) }

  pub reaches_known : at < w.close → Spans t at w → Reaches t at w
  reaches_known l f = record { known = f; brace = λ e. f.spans l }

  pub reaches_brace : get_or t at 0 ≡ 0x7B → Reaches t at w → SpanOf t at w
  reaches_brace e r = r.brace e

-- ---- a span that is found

module _ (t : List ℕ) (at : ℕ) {n : ℕ} (q : n ≡ before (equals 0x7D) (take (length t - (at + 1)) (drop (at + 1) t))) where
  found : n ≡ before (equals 0x7D) (drop (at + 1) t)
  found = q ∙ ap (before (equals 0x7D)) (tail t (at + 1))

  pub found_within : at < length t → at + 1 + n ≤ length t
  found_within h = omega (arith, found, before_le (equals 0x7D) (drop (at + 1) t), length-drop (at + 1) t)

  pub found_fits : at < length t → Fits w64 (length t) → Fits w64 (at + 1 + n)
  found_fits h f = record { fits = omega (arith, found_within h, f.fits) }

  pub reaches_found : {w : Tail} → TailOf (take (at + 1 + n - (at + 1)) (drop (at + 1) t)) w → Reaches t at (record { from = at + 1; close = at + 1 + n; tail = w })
  reaches_found f =
      let s : SpanOf t at (record { from = at + 1; close = at + 1 + n; tail = _ }) =
      record { begun = omega arith; ahead = omega arith; closed = ap (λ (i : ℕ). at + 1 + i) found; ends = f } in
      record { known = record { spans = λ l. s }; brace = λ e. s }

-- ---- a { and its span

pub span_begun : {t : List ℕ} {at : ℕ} {w : Span} → SpanOf t at w → w.from ≤ w.close
span_begun s = omega (arith, s.begun, s.ahead)

pub span_from : {t : List ℕ} {at : ℕ} {w : Span} → SpanOf t at w → w.from ≤ at + 1
span_from s = s.begun

module _ (t : List ℕ) {at : ℕ} {w : Span} (s : SpanOf t at w) (e : get_or t at 0 ≡ 0x7B) (h : at < length t) where
  abbrev since : ℕ
  since = at + 1 - w.from

  behind : drop since (drop w.from t) ≡ drop (at + 1) t
  behind = let i : w.from + since ≡ at + 1 = omega (arith, s.begun) in drop-drop since w.from t ∙ ap (λ (n : ℕ). drop n t) i

  closing : before (equals 0x7D) (drop (at + 1) t) ≡ w.close - (at + 1)
  unfolding before
  closing =
      omega (
        arith,
        front_drop (other (equals 0x7D)) since (drop w.from t) (omega (arith, s.closed, s.ahead)),
        ap (before (equals 0x7D)) behind,
        s.closed,
        s.begun,
      )

  braced_here : string_step (drop at t) ≡ braced (drop (at + 1) t) (w.close - (at + 1))
  unfolding string_step
  braced_here = rw (here t at h, string_step, eq-eqb _ _ e) (ap (braced (drop (at + 1) t)) closing)

  pub brace_open : {r : Move} → r ≡ one 0x7B String → length t ≤ w.close → r ≡ string_step (drop at t)
  unfolding braced
  brace_open q l =
      let u : length (drop (at + 1) t) ≤ w.close - (at + 1) = omega (arith, length-drop (at + 1) t) in
      q ∙ sym (braced_here ∙ rw (braced, le-ltb _ _ u))

  module _ {x : Option Escape} (p : x ≡ escape_of (drop (at + 1 - w.from) (take (w.close - w.from) (drop w.from t)))) (l : w.close < length t) where
    escaped_here : escaped (w.close - (at + 1)) x ≡ string_step (drop at t)
    unfolding braced
    escaped_here =
        let i : w.close - w.from - since ≡ w.close - (at + 1) = omega (arith, s.begun) in
        let inside : drop since (take (w.close - w.from) (drop w.from t)) ≡ take (w.close - (at + 1)) (drop (at + 1) t) =
        drop_take since (w.close - w.from) (drop w.from t) ∙ rw (i, behind) in
        let u : w.close - (at + 1) < length (drop (at + 1) t) = omega (arith, length-drop (at + 1) t, s.ahead) in
        ap (escaped (w.close - (at + 1))) (p ∙ ap escape_of inside) ∙ sym (braced_here ∙ rw (braced, lt-ltb _ _ u))

    pub brace_known : {b count : ℕ} → x ≡ known b count
        → ◌≡◌ {A = Move} (record { prefixed = false; byte = b; count = count; mode = String; used = w.close + 1 - at }) (string_step (drop at t))
    brace_known {b} {count} g =
        let i : w.close + 1 - at ≡ w.close - (at + 1) + 2 = omega (arith, s.ahead) in
        ap {B = Move} (λ (n : ℕ). record { prefixed = false; byte = b; count = count; mode = String; used = n }) i
        ∙ escaped_known (w.close - (at + 1)) g ∙ escaped_here

    pub brace_unknown : {r : Move} → r ≡ one 0x7B String → x ≡ None → r ≡ string_step (drop at t)
    brace_unknown q g = escaped_unknown (w.close - (at + 1)) q g ∙ escaped_here
