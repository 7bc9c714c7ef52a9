-- `editor_findings::sights::next_sight` meets its contract: a walk that begins at the spot tells what is told from there.
-- Assumes nothing.
use Prim.Native.Nat.{ℕ}
use mathlib.Core.Path.{◌≡◌, ap, subst, sym, ◌∙◌}
use mathlib.Core.List.{List}
use Rattle.body_steps.specs.BraceHelpers.{Spans}
use Rattle.body_rules.specs.Lexicon.{Lexicon}
use Rattle.body.specs.declared.at.Stand.{Stand}
use Rattle.body_rules.specs.declared.Mode.{Mode}
use Rattle.body_steps.specs.declared.string.Span.{Span}
use Rattle.editor_findings.specs.Sights.{first_sight}
use Rattle.editor_findings.specs.ToldHelpers.{Tells}
use Rattle.editor_findings.specs.declared.sights.Spot.{Spot}
use Rattle.editor_findings.specs.declared.sights.Told.{Told}
use Rattle.editor_findings.proofs.sights.next_sight.Goals as goal

known-there : {t : List ℕ} {w : Span} {a b : ℕ} → a ≡ b → Spans t b w → Spans t a w
known-there {t} {w} e f = subst (λ (n : ℕ). Spans t n w) (sym e) f

told-there : {l : Lexicon} {t : List ℕ} {s : Stand} {from : Spot} {r : Told} → Tells l t s r → s.at ≡ from.at → s.mode ≡ from.mode
    → r.sighting ≡ first_sight l t from
told-there {l} {t} {s} {from} f p q =
    f.told
    ∙ ap (λ (n : ℕ). first_sight l t (record { mode = s.mode; at = n })) p
    ∙ ap (λ (m : Mode). first_sight l t (record { mode = m; at = from.at })) q

pub sight_from-requires : goal.sight_from-requires
sight_from-requires c = search known-there

pub returns : goal.returns
returns c = search told-there
