-- The two readers by name.
-- Assumes nothing.
use Rattle.image_readers.specs.declared.By.{By}
use Rattle.image_readers.specs.declared.By.TheVariants.{Terminators, Links}
use Rattle.image_readers.specs.Lines.{Reader}
use Rattle.image_readers.specs.Links.{link_step}
use Rattle.image_readers.specs.Terminators.{terminator_step}

unfoldable pub step_by : By → Reader
unfolding terminator_step link_step
step_by Terminators = terminator_step
step_by Links = link_step
