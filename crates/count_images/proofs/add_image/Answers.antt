-- `count_images::add_image` meets its contract.
-- Assumes nothing.
use Rattle.count_images.proofs.Joining.{taken_there, image_room, image_no_totals, image_too_many, image_taken}
use Rattle.count_images.proofs.add_image.Goals as goal

pub returns-then-not-are_totals : goal.returns-then-not-are_totals
returns-then-not-are_totals c = search image_no_totals

pub bounds-totals-204 : goal.bounds-totals-204
bounds-totals-204 c = search taken_there

pub returns-then-totals-ge-MOST_IMAGES : goal.returns-then-totals-ge-MOST_IMAGES
returns-then-totals-ge-MOST_IMAGES c = search image_too_many

pub take_image-requires : goal.take_image-requires
take_image-requires c = search image_room

pub returns : goal.returns
returns c = search image_taken
