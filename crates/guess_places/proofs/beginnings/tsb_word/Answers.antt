-- `guess_places::beginnings::tsb_word` meets its contract.
-- Assumes nothing.
use Rattle.guess_places.proofs.Words.{no_letter, no_second, no_word_short}
use Rattle.word_match.proofs.Storage.{word_found_lem}
use Rattle.guess_places.proofs.beginnings.tsb_word.Goals as goal
use Rattle.guess_places.proofs.beginnings.tsb_word.Goals.{then-text-lt2-via-then-text-lt2, then-text-lt2-via-else-text-lt2+then-not-is_letter, then-text-lt2-via-else-text-lt2+else-not-is_letter+then-not-may_be_second}

pub returns-then-text-lt2 : goal.returns-then-text-lt2
returns-then-text-lt2 c =
    elim c.then-text-lt2.branch [
      | then-text-lt2-via-then-text-lt2 w ↦ no_word_short _ w.if-text-lt2.true
      | then-text-lt2-via-else-text-lt2+then-not-is_letter w ↦ no_letter _ w.if-not-is_letter.true w.is_letter.ensures
      | then-text-lt2-via-else-text-lt2+else-not-is_letter+then-not-may_be_second w ↦ no_second _ w.if-not-may_be_second.true w.may_be_second.ensures w.if-text-lt2.false
    ]

pub returns : goal.returns
returns c = search word_found_lem
