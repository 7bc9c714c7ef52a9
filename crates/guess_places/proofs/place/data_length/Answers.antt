-- `guess_places::place::data_length` meets its contract.
-- Assumes nothing.
use Rattle.std.proofs.Common.{rules, tests, ◌∙◌}
use Rattle.std.proofs.lemmas.Iterator.{YieldsList-from_slice}
use Rattle.std.proofs.lemmas.Iterator.Consumers.{count_from_yields_List}
use Rattle.std.proofs.lemmas.Iterator.Search.{YieldsList-from_take_while}
use Rattle.std.proofs.lemmas.List.Folds.{length-prefix_len}
use Rattle.guess_places.specs.PlaceHelpers.{stays}
use Rattle.guess_places.specs.declared.place.Place.TheVariants.{Data}
use Rattle.base_ascii.proofs.Searching.{front_counted}
use Rattle.guess_places.proofs.place.data_length.Goals as goal

pub returns : goal.returns
unfolding stays
returns c =
    count_from_yields_List c.take_while.result _ c.count.ensures.ran
    (YieldsList-from_take_while _ (stays Data) (YieldsList-from_slice c.args.text.now (cc)) c.take_while.ensures.closure c.take_while.ensures.done (λ x b q k. search (rules, tests)))
    ∙ length-prefix_len (stays Data) c.args.text.now ∙ front_counted (stays Data) c.args.text.now
