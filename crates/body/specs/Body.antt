-- A body, crunched: the steps one after the other, in plain mode at the start (document 01, "Crunching one body"). Every step takes
-- text; proofs/Run.antt has the two equations that hide the count of `again`.
-- Assumes nothing.
use Rattle.std.specs.Prelude.{ℕ, suc, Bool, true, false, List, [], ◌∷◌, ◌++◌, length, drop, replicate}
use Rattle.base_steps.specs.Again.{again}
use Rattle.body_rules.specs.Lexicon.{Lexicon}
use Rattle.body_rules.specs.Steps.{crunch_step}
use Rattle.body_rules.specs.declared.Mode.{Mode}
use Rattle.body_rules.specs.declared.Mode.TheVariants.{Plain}
use Rattle.body_rules.specs.declared.Move.{Move}

-- the 64 in front of a TSB token
abbrev pub prefix_of : Bool → List ℕ
prefix_of true = 0x64 ∷ []
prefix_of false = []

-- what a step writes
unfoldable pub written : Move → List ℕ
written o = prefix_of o.prefixed ++ replicate o.count o.byte

-- a step, and then the rest of the text from behind it on
abbrev pub move_then : (Mode × List ℕ → List ℕ) → List ℕ → Move → List ℕ
move_then more t o = written o ++ more (o.mode, drop o.used t)

-- what the text left gives in a mode
unfoldable pub crunch_on : Lexicon → (Mode × List ℕ → List ℕ) → Mode × List ℕ → List ℕ
unfolding crunch_step written
crunch_on l more x = elim x.1 [ [] ↦ [] | b ∷ s ↦ move_then more x.1 (crunch_step l x.0 x.1) ]

unfoldable pub crunched_from : Lexicon → Mode → List ℕ → List ℕ
unfolding again crunch_on
crunched_from l m t = again [] (crunch_on l) (suc (length t)) (m, t)

-- a whole body
abbrev pub crunched_body : Lexicon → List ℕ → List ℕ
crunched_body l t = crunched_from l Plain t
