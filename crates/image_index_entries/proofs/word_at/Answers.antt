-- `image_index_entries::word_at` meets its contract.
-- Assumes nothing.
use Rattle.std.proofs.Common.{refl, ◌+◌, ◌≤◌, get_or, arith}
use Rattle.image_index_entries.proofs.Reading.{word_is}
use Rattle.image_index_entries.proofs.word_at.Goals as goal

pub returns : goal.returns
returns c =
    let first : get_or c.args.index.now c.args.at 0 ≤ 255 = omega (arith, (c.type_inv.index c.args.at).fits) in
    let second : get_or c.args.index.now (c.args.at + 1) 0 ≤ 255 = omega (arith, (c.type_inv.index (c.args.at + 1)).fits) in
    let field = word_is c.args.index.now c.args.at c.requires refl first refl second in
    (omega (arith, field), omega arith)
