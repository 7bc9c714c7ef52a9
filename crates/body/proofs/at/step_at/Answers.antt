-- `body::at::step_at` meets its contract: the law of the step, at a short byte and at a long one.
-- Assumes nothing.
use Prim.Native.Nat.{ℕ, ◌<◌}
use mathlib.Core.Path.{◌≡◌, ap, ◌∙◌}
use mathlib.Core.Bool.{Bool, true}
use mathlib.Core.List.{List}
use lib.ListN.{length, get_or, drop}
use Rattle.word_match.specs.declared.sets.Sets.{Sets}
use Rattle.body_rules.specs.Lexicon.{lexicon}
use Rattle.body_rules.specs.ShortHelpers.{is_short, short_byte, short_mode}
use Rattle.body_rules.specs.Steps.{one, crunch_step}
use Rattle.body_rules.specs.declared.Mode.{Mode}
use Rattle.body_rules.specs.declared.Move.{Move}
use Rattle.body_rules.proofs.ShortSteps.{short_known}
use Rattle.body.proofs.Writing.{short_here, long_byte, long_here}
use Rattle.body.proofs.at.step_at.Goals as goal

short-at : (s : Sets) (t : List ℕ) (at : ℕ) (m : Mode) {x : Bool} {r : Move} {b : ℕ} {n : Mode} → r ≡ one b n → b ≡ short_byte m (get_or t at 0) → n ≡ short_mode m (get_or t at 0)
    → x ≡ true → x ≡ is_short m (get_or t at 0) → at < length t → r ≡ crunch_step (lexicon s) m (drop at t)
short-at s t at m {n = n} q p k f e h =
    q ∙ ap (λ (c : ℕ). one c n) p ∙ ap (one (short_byte m (get_or t at 0))) k ∙ short_here t at m e h s f

pub short_byte-requires : goal.short_byte-requires
short_byte-requires c = search short_known

pub returns-then-is_short : goal.returns-then-is_short
returns-then-is_short c = search short-at

pub step-requires : goal.step-requires
step-requires c = search long_byte

pub returns : goal.returns
returns c = search long_here
