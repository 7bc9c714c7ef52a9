-- `editor_strange_bytes::kind_of` meets its contract.
-- Assumes nothing.
use Rattle.editor_strange_bytes.proofs.Knowing.{kind_mark, kind_quote, kind_space, kind_dash, kind_character, kind_byte}
use Rattle.editor_strange_bytes.proofs.kind_of.Goals as goal

pub returns-then-begins : goal.returns-then-begins
returns-then-begins c = search kind_mark

pub returns-then-is_curly_quote : goal.returns-then-is_curly_quote
returns-then-is_curly_quote c = search kind_quote

pub returns-then-is_no_break_space : goal.returns-then-is_no_break_space
returns-then-is_no_break_space c = search kind_space

pub returns-then-is_long_dash : goal.returns-then-is_long_dash
returns-then-is_long_dash c = search kind_dash

pub returns-then-width-gt1 : goal.returns-then-width-gt1
returns-then-width-gt1 c =
    kind_character c.args.text.now c.if-width-gt1.true c.width.ensures c.if-is_long_dash.false c.is_long_dash.ensures c.if-is_no_break_space.false c.is_no_break_space.ensures
    c.if-is_curly_quote.false c.is_curly_quote.ensures c.if-begins.false c.begins.ensures

pub returns-else-width-gt1 : goal.returns-else-width-gt1
returns-else-width-gt1 c =
    kind_byte c.args.text.now c.if-width-gt1.false c.width.ensures c.if-is_long_dash.false c.is_long_dash.ensures c.if-is_no_break_space.false c.is_no_break_space.ensures
    c.if-is_curly_quote.false c.is_curly_quote.ensures c.if-begins.false c.begins.ensures
