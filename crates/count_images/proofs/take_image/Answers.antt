-- `count_images::take_image` meets its contract.
-- Assumes nothing.
use Rattle.count_images.proofs.Taking.{once, room_left, once_more, image_counted, image_apart}
use borrow.Author.Rules.{rules}
use Rattle.count_images.proofs.take_image.Goals as goal

pub raise-requires : goal.raise-requires
raise-requires c = (search rules, search once)

pub count_image-requires : goal.count_image-requires
count_image-requires c = search room_left

pub raise-requires-in-Err : goal.raise-requires-in-Err
raise-requires-in-Err c = (search rules, search once_more)

pub returns-in-Ok : goal.returns-in-Ok
returns-in-Ok c = search image_counted

pub returns-in-Err : goal.returns-in-Err
returns-in-Err c = search image_apart
