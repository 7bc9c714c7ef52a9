-- `image_sentences::lend_fault` meets its contract.
-- Assumes nothing.
use Rattle.image_sentences.specs.Sentences.{fault_sentence}
use Rattle.image_sentences.proofs.Telling.{tells_fault}
use Rattle.image_sentences.proofs.lend_fault.Goals as goal

pub returns-in-OutsideMemory : goal.returns-in-OutsideMemory
unfolding fault_sentence
returns-in-OutsideMemory c = search tells_fault

pub returns-in-NumberTooHigh : goal.returns-in-NumberTooHigh
unfolding fault_sentence
returns-in-NumberTooHigh c = search tells_fault

pub returns-in-NotAscending : goal.returns-in-NotAscending
unfolding fault_sentence
returns-in-NotAscending c = search tells_fault

pub returns-in-ZeroInBody : goal.returns-in-ZeroInBody
unfolding fault_sentence
returns-in-ZeroInBody c = search tells_fault

pub returns-in-BodyLength : goal.returns-in-BodyLength
unfolding fault_sentence
returns-in-BodyLength c = search tells_fault

pub returns-in-NoTarget : goal.returns-in-NoTarget
unfolding fault_sentence
returns-in-NoTarget c = search tells_fault

pub returns-in-LinkChanges : goal.returns-in-LinkChanges
unfolding fault_sentence
returns-in-LinkChanges c = search tells_fault

pub returns-in-LinksLeave : goal.returns-in-LinksLeave
unfolding fault_sentence
returns-in-LinksLeave c = search tells_fault

pub returns-in-LinksEndless : goal.returns-in-LinksEndless
unfolding fault_sentence
returns-in-LinksEndless c = search tells_fault
