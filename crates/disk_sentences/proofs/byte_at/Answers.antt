-- `disk_sentences::byte_at` meets its contract.
-- Assumes nothing.
use Rattle.disk_sentences.proofs.Saying.{no_byte}
use Rattle.disk_sentences.proofs.byte_at.Goals as goal

pub returns-then-p-disk : goal.returns-then-p-disk
returns-then-p-disk c = search no_byte
