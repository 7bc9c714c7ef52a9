-- `list_spelling::put_front` meets its contract.
-- Assumes nothing.
use mathlib.Core.Path.{◌∙◌}
use Rattle.std.proofs.lemmas.Option.{MatchOption-at_some}
use Rattle.list_spelling.proofs.Copying.{front_stored}
use Rattle.list_spelling.proofs.put_front.Goals as goal

pub returns : goal.returns
returns g c =
    let chunk = MatchOption-at_some _ _ _ c.unwrap.ensures c.first_chunk.ensures.cases in
    front_stored c.args.out.now c.args.text.now c.args.at g.row.N c.requires.0 c.requires.1 (c.copy_from_slice.ensures.after ∙ chunk.same)
