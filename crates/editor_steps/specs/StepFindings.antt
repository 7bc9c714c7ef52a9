-- What a step of a body is to an editor, by what crunching makes of it (document 01, "Crunching one body").
-- Assumes nothing.
use Rattle.std.specs.Prelude.{ℕ, Bool, true, false, cond, ◌&&◌, ◌||◌, eqb, ltb}
use Rattle.body_rules.specs.declared.Mode.{Mode}
use Rattle.body_rules.specs.declared.Mode.TheVariants.{Plain, String, Remark, Data, DataQuote}
use Rattle.body_rules.specs.declared.Move.{Move}
use Rattle.editor_steps.specs.declared.Finding.{Finding}
use Rattle.editor_steps.specs.declared.Finding.TheVariants.{Usual, TsbWord, Zero, Brace, Control}

-- outside strings, quoted parts of DATA, and remarks
abbrev pub is_code : Mode → Bool
is_code Plain = true
is_code String = false
is_code Remark = false
is_code Data = true
is_code DataQuote = false

abbrev pub is_control : ℕ → Bool
is_control b = ltb b 0x20 || eqb b 0x7F

-- a byte is a { of a string, and its step takes no more than it: no escape begins there
abbrev pub is_kept : Mode → ℕ → ℕ → Bool
is_kept Plain b used = false
is_kept String b used = eqb b 0x7B && eqb used 1
is_kept Remark b used = false
is_kept Data b used = false
is_kept DataQuote b used = false

-- what a step in a mode, at a byte, is to an editor: a step that is prefixed takes a TSB word
unfoldable pub finding_of : Mode → ℕ → Move → Finding
finding_of m b o =
    cond o.prefixed TsbWord
    (cond (eqb o.byte 0) Zero
    (cond (is_kept m b o.used) Brace
    (cond (is_code m && is_control b) Control Usual)))

-- nothing is told of it
abbrev pub is_usual : Finding → Bool
is_usual Usual = true
is_usual TsbWord = false
is_usual Zero = false
is_usual Brace = false
is_usual Control = false
