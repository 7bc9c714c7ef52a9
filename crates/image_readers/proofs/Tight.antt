-- How tight the promises are (document 01): any two results that meet the promise of a reader's call are equal. Said once of any
-- step, so of both readers.
-- Assumes nothing.
use Prim.Native.Nat.{ℕ}
use mathlib.Core.Path.{◌≡◌, sym, ◌∙◌}
use mathlib.Core.List.{List}
use Rattle.base_refusals.specs.Answer.{answered}
use Rattle.base_refusals.proofs.Tight.{answered_tight}
use Rattle.image_readers.specs.Lines.{Reader, overview}
use Rattle.image_readers.specs.declared.Overview.{Overview}
use Rattle.image_readers.specs.Bodies.{body_at}
use Rattle.std.specs.Prelude.{Option, Result}
use Rattle.base_refusals.specs.declared.Refusal.{Refusal}
use Rattle.image_readers.specs.declared.Line.{Line}

module _ (step : Reader) (s : List ℕ) where
  -- `terminators::step` and `links::step`
  pub step_tight : (p : ℕ) (a b : Result (Option Line) Refusal) → answered a ≡ step s p → answered b ≡ step s p → a ≡ b
  step_tight p = answered_tight (step s p)

  -- `terminators::check` and `links::check`
  pub check_tight : (a b : Result Overview Refusal) → answered a ≡ overview step s → answered b ≡ overview step s → a ≡ b
  check_tight = answered_tight (overview step s)

  -- `terminators::body` and `links::body`
  pub body_tight : (p : ℕ) (a b : List ℕ) → a ≡ body_at step s p → b ≡ body_at step s p → a ≡ b
  body_tight p a b d e = d ∙ sym e
