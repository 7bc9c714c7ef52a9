-- `disk_sentences::put_broken` meets its contract.
-- Assumes nothing.
use Rattle.disk_sentences.proofs.Saying.{nothing_said, length_said, start_said, directory_said, open_said, twins_said, file_said, free_said, used_said, beyond_said}
use Rattle.disk_sentences.proofs.put_broken.Goals as goal

pub returns-in-Nothing : goal.returns-in-Nothing
returns-in-Nothing c = search nothing_said

pub returns-in-Length : goal.returns-in-Length
returns-in-Length c = search length_said

pub returns-in-Start : goal.returns-in-Start
returns-in-Start c = search start_said

pub returns-in-Directory : goal.returns-in-Directory
returns-in-Directory c = search directory_said

pub returns-in-NotClosed : goal.returns-in-NotClosed
returns-in-NotClosed c = search open_said

pub returns-in-SameName : goal.returns-in-SameName
returns-in-SameName c = search twins_said

pub returns-in-File : goal.returns-in-File
returns-in-File c = search file_said

pub returns-in-Free : goal.returns-in-Free
returns-in-Free c = search free_said

pub returns-in-Used : goal.returns-in-Used
returns-in-Used c = search used_said

pub returns-in-Beyond : goal.returns-in-Beyond
returns-in-Beyond c = search beyond_said
