-- `say_put::decimal` meets its contract.
-- Assumes nothing.
use mathlib.Core.Path.{◌∙◌}
use Rattle.say_put.proofs.Spelling.{spelling_start, spelling_turn, spelling_last, spelling_end}
use borrow.Author.Rules.{rules}
use Rattle.say_put.proofs.decimal.Goals as goal

pub loop-i-init : goal.loop-i-init
loop-i-init c = search spelling_start

pub returns-then-rest-lt10 : goal.returns-then-rest-lt10
returns-then-rest-lt10 c = search spelling_last

pub shape_of-digits-then-rest-lt10 : goal.shape_of-digits-then-rest-lt10
shape_of-digits-then-rest-lt10 c = (returns-then-rest-lt10 c).sized ∙ search rules

pub loop-i-preserved : goal.loop-i-preserved
loop-i-preserved c = search spelling_turn

pub returns : goal.returns
returns c = search spelling_end

pub shape_of-digits : goal.shape_of-digits
shape_of-digits c = (returns c).sized ∙ search rules
