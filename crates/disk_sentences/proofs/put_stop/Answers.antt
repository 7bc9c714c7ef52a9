-- `disk_sentences::put_stop` meets its contract.
-- Assumes nothing.
use Rattle.disk_sentences.proofs.Saying.{ended_put, astray_put, barred_put, again_put}
use Rattle.disk_sentences.proofs.put_stop.Goals as goal

pub returns-in-Ended : goal.returns-in-Ended
returns-in-Ended c = search ended_put

pub returns-in-Astray : goal.returns-in-Astray
returns-in-Astray c = search astray_put

pub returns-in-Barred : goal.returns-in-Barred
returns-in-Barred c = search barred_put

pub returns-in-Again : goal.returns-in-Again
returns-in-Again c = search again_put
