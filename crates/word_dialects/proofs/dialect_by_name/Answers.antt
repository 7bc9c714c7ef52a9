-- `word_dialects::dialect_by_name` meets its contract: the table's names are the definition's, and each way out is a case of it.
-- Assumes nothing.
use mathlib.Core.Path.{refl}
use Rattle.word_dialects.specs.Dialects.{dialect_names}
use Rattle.word_dialects.proofs.Naming.{named_long, named_high, named_known, named_unknown, sought_start, sought_turn, sought_found, sought_none}
use Rattle.word_dialects.proofs.dialect_by_name.Goals as goal
use Rattle.word_dialects.proofs.dialect_by_name.Goals.{then-word-gt64-via-then-word-gt64, then-word-gt64-via-else-word-gt64+then-not-is_ascii}

pub returns-then-word-gt64 : goal.returns-then-word-gt64
returns-then-word-gt64 c =
    elim c.then-word-gt64.branch [
      | then-word-gt64-via-then-word-gt64 w ↦ named_long _ w.if-word-gt64.true
      | then-word-gt64-via-else-word-gt64+then-not-is_ascii w ↦ named_high _ w.if-not-is_ascii.true w.is_ascii.ensures w.if-word-gt64.false
    ]

pub loop-known-init : goal.loop-known-init
unfolding dialect_names
loop-known-init c = sought_start _ refl

pub returns-then-alike : goal.returns-then-alike
returns-then-alike c = named_known _ c.trim-name.ensures c.is_ascii.ensures c.if-not-is_ascii.false c.if-word-gt64.false
    (sought_found c.loop-known.invariant _ c.alike.ensures c.loop-known-test.true c.if-alike.true)

pub loop-known-preserved : goal.loop-known-preserved
loop-known-preserved c = sought_turn c.loop-known.invariant _ c.alike.ensures c.loop-known-test.true c.if-alike.false

pub returns : goal.returns
returns c = named_unknown _ c.trim-name.ensures c.is_ascii.ensures c.if-not-is_ascii.false c.if-word-gt64.false (sought_none c.loop-known.invariant c.loop-known-test.false)
