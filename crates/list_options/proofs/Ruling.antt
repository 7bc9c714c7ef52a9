-- What a walk heeds, from the parts that are found one by one.
-- Assumes nothing.
use mathlib.Core.Path.{◌≡◌}
use mathlib.Core.Bool.{Bool, false}
use Rattle.word_dialects.specs.Dialects.{is_basic35}
use Rattle.image_units.specs.declared.Rules.{Rules}
use Rattle.list_options.specs.Modes.{heeds_prefix, rules_under}
use Rattle.list_options.specs.declared.ListOptions.{ListOptions}

pub rules_are : (o : ListOptions) {p own : Bool} → p ≡ heeds_prefix o.dialect o.remarks → own ≡ is_basic35 o.dialect
    → ◌≡◌ {A = Rules} (record { prefix = p; remarks = o.remarks; items = false; basic35 = own }) (rules_under o)
rules_are o e f = rw (e, f)
